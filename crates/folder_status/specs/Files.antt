-- What is asked of a host to look into a folder.
use Rattle.std.specs.Prelude.{◌≡◌, ℕ, List, ◌++◌, Result, codes}
use Rattle.std.specs.List.{AllByRecursion}
use Rattle.host.specs.Requests.{Request, Read}
use Rattle.host.specs.declared.fault.HostFault.{HostFault}
use Rattle.run_files.specs.Opening.{path_in}

-- the path of a folder's text of a network, and of that of its inputs
abbrev pub net_path : List ℕ → List ℕ
net_path folder = folder ++ codes "/net"

abbrev pub inputs_path : List ℕ → List ℕ
inputs_path folder = folder ++ codes "/inputs"

-- that of the file of an output of this name
abbrev pub items_path : List ℕ → List ℕ → List ℕ
items_path folder name = path_in folder (name ++ codes ".items")

-- a file that a folder has in which a run keeps what leaves, but for the one of its lock
pub data IsOwnFile (folder path : List ℕ) : Type 0 where
  net : path ≡ net_path folder → IsOwnFile folder path
  inputs : path ≡ inputs_path folder → IsOwnFile folder path
  items : (name : List ℕ) → path ≡ items_path folder name → IsOwnFile folder path

-- such a file was to be read, whatever was answered
abbrev pub IsReadOf : List ℕ → Request → Type 0
IsReadOf folder r = (path : List ℕ) × (answer : Result (List ℕ) HostFault) × (r ≡ Read path answer) × IsOwnFile folder path

-- Since then such files were read, and nothing else was asked. The newest request comes first.
pub record OnlyReads (folder : List ℕ) (old new : List Request) : Type 0 where
  pub reads : List Request
  pub grown : new ≡ reads ++ old
  pub each : AllByRecursion (IsReadOf folder) reads
