-- What was made and isn't used is taken away.
use Rattle.std.specs.Prelude.{ℕ, List, Ok}
use Rattle.std.specs.declared.alloc.Global.{Global}
use Rattle.std.specs.declared.string.String.{String}
use Rattle.host.specs.Answers.{Answer}
use Rattle.host.specs.Requests.{Request, MadeFolder, RemovedFile, RemovedFolder, Has}
use Rattle.run_files.specs.Opening.{OfEach, OfFirst, paths_in}

-- the host was asked to take this file away
abbrev pub IsFileRemoved : List ℕ → List Request → Type 0
IsFileRemoved path e = (answer : Answer) × Has (RemovedFile path answer) e

-- the host was asked to take this folder away
abbrev pub IsFolderRemoved : List ℕ → List Request → Type 0
IsFolderRemoved path e = (answer : Answer) × Has (RemovedFolder path answer) e

-- the host was asked to take the first ones of these files away
abbrev pub AreRemoved : ℕ → List (String Global) → List Request → Type 0
AreRemoved made paths e = OfFirst IsFileRemoved made paths e

-- A folder with files for these outputs was made under another name, and the host was asked to take all of it away.
pub record IsCleared (outputs : List (List ℕ)) (e : List Request) : Type 0 where
  pub making : List ℕ
  pub made : Has (MadeFolder making (Ok tt)) e
  pub files : OfEach IsFileRemoved (paths_in making outputs) e
  pub folder : IsFolderRemoved making e
