-- What the host that a program runs on was asked.
use Rattle.std.specs.Prelude.{List, ℕ, string_bytes}
use Rattle.host.specs.Asked.{requests_in}
use Rattle.host.specs.Requests.{Request}
use Rattle.host.specs.declared.std_host.HeldLock.{HeldLock}
use Rattle.host.specs.declared.std_host.MadeFile.{MadeFile}
use Rattle.host.specs.declared.std_host.StdHost.{StdHost}
use Rattle.host.specs.declared.std_host.StdSource.{StdSource}

abbrev pub requests_of : StdHost → List Request
requests_of host = requests_in host.asked

abbrev pub made_path : MadeFile → List ℕ
made_path file = string_bytes file.path

abbrev pub held_folder : HeldLock → List ℕ
held_folder lock = string_bytes lock.folder

abbrev pub number_of : StdSource → ℕ
number_of source = source.number
