-- The names that a command line gives, as bytes.
use Rattle.std.specs.Prelude.{ℕ, Bool, List, Option, string_bytes}
use Rattle.std.specs.Option.{option_map}
use Rattle.run_files.specs.declared.names.Names.{Names}

pub record Wanted : Type 0 where
  -- the texts
  pub net : List ℕ
  pub inputs : List ℕ
  pub script : Option (List ℕ)
  -- the file into which what happens is written, if it is
  pub history : Option (List ℕ)
  -- the folder in which what left outlasts the run, if there is one
  pub state : Option (List ℕ)
  -- what is kept waits for the disk
  pub sync : Bool

abbrev pub wanted_of : Names → Wanted
wanted_of names = record {
  net = string_bytes names.net;
  inputs = string_bytes names.inputs;
  script = option_map string_bytes names.script;
  history = option_map string_bytes names.history;
  state = option_map string_bytes names.state;
  sync = names.sync;
}
