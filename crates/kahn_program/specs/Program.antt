-- The whole program over its host: what it accepts, and what stands in the host's log where it is done.
use Rattle.std.specs.declared.alloc.Global.{Global}
use Rattle.std.specs.Prelude.{◌≡◌, Vec, ℕ, ℤ, Bool, Ok, false, List, Option, Some, None, string_bytes}
use Rattle.std.specs.Option.{option_map}
use Rattle.cobaltmidge.specs.Texts.{IsNetOf, AreInputsOf}
use Rattle.host.specs.Requests.{Request, Said, Each, Has, IsFree, Later}
use Rattle.kahn_program.specs.Runs.{IsReportOf}
use Rattle.kahn_program.specs.declared.asked.Options.{Options}
use Rattle.kahn_program.specs.declared.program.Texts.{Texts}
use Rattle.protocol.specs.Node.Common.{Net}
use Rattle.run_files.specs.Keeping.{IsWrittenTo}
use Rattle.run_files.specs.History.{IsOpenFor}
use Rattle.run_files.specs.Leftovers.{IsNamed, LeavesNothing}
use Rattle.run_files.specs.Rules.{Given, WereRead, rule}
use Rattle.run_files.specs.declared.happened.HistoryFile.{HistoryFile}
use Rattle.run_files.specs.Wanted.{Wanted}
pub use Rattle.cobaltmidge.specs.Accepting.{IsAccepted}
pub use Rattle.cobaltmidge.specs.FileNames.{file_names}
pub use Rattle.cobaltmidge.specs.KeptStreams.{AllHeld, AreKept, AreKeptIn}

-- What a command line asks of files. An approximation needs no script, and nothing outlasts it.
abbrev pub asked_by : Option ℕ → Options → Wanted
asked_by None options = record {
  net = string_bytes options.net;
  inputs = string_bytes options.inputs;
  script = option_map string_bytes options.script;
  history = option_map string_bytes options.history;
  state = option_map string_bytes options.state;
  sync = options.sync;
}
asked_by (Some n) options = record {
  net = string_bytes options.net;
  inputs = string_bytes options.inputs;
  script = None;
  history = None;
  state = None;
  sync = false;
}

abbrev pub asked_files : Options → Wanted
asked_files options = asked_by options.approx options

-- where a file for it is asked for, this is written there
abbrev pub IsWrittenIfAsked : Option (List ℕ) → List Request → List ℕ → Type 0
IsWrittenIfAsked None e bytes = Unit {0}
IsWrittenIfAsked (Some path) e bytes = IsWrittenTo path bytes e

-- where a folder is asked for, the files of the outputs held so many items each when they were opened
abbrev pub WereHeld : Bool → Option (List ℕ) → List (List ℕ) → List Request → Option (List ℕ) → Type 0
WereHeld sync None names e counts = counts ≡ None
WereHeld sync (Some folder) names e None = ⊥
WereHeld sync (Some folder) names e (Some counts) = AllHeld sync folder names e counts

-- the file for it is open, where it is asked for
abbrev pub IsOpenIfAsked : {F : Type 0} → (F → List ℕ) → Option (List ℕ) → Option (HistoryFile F) → List Request → Type 0
IsOpenIfAsked path_of None None e = Unit {0}
IsOpenIfAsked path_of None (Some history) e = ⊥
IsOpenIfAsked path_of (Some path) None e = ⊥
IsOpenIfAsked path_of (Some path) (Some history) e =
    IsOpenFor path (option_map string_bytes history.made) (path_of history.file) e

-- the file that was made for what happens, if one was
abbrev pub made_for : {F : Type 0} → Option (HistoryFile F) → List ℕ → Type 0
made_for None path = ⊥
made_for (Some history) path = IsNamed (option_map string_bytes history.made) path

-- What a call asks keeps the rules, and nothing is left of what it made. No lock is held behind it where none was before.
pub record Keeps (o : Wanted) (old new : List Request) : Type 0 where
  pub rules : Each (rule IsAccepted o) old → Each (rule IsAccepted o) new
  pub later : Later old new
  pub free : IsFree old → IsFree new
  pub cleared : LeavesNothing old new

-- the texts, as bytes
abbrev pub given_of : Texts → Given
given_of texts = record {
  net = texts.net.items;
  inputs = texts.inputs.items;
  script = option_map (λ (script : Vec ℕ Global). script.items) texts.script;
  kept = None;
}

-- What is to be said is the report of a run of the texts that were read, or of an approximation, and tells `complete` or not. Where a folder is
-- asked for the run went on behind what its files held. Each output's stream is kept, and what happened in that run is written, where that is asked for.
pub record HasReport (options : Options) (text : List ℕ) (complete : Bool) (e : List Request) : Type 0 where
  pub given : Given
  pub read : WereRead (asked_files options) given e
  pub net : Net
  pub inputs : List (List ℤ)
  pub of_net : IsNetOf given.net net
  pub of_inputs : AreInputsOf given.inputs net inputs
  pub report : IsReportOf
      (WereHeld (asked_files options).sync (asked_files options).state (file_names net.program.channels.items net.channel_names.items) e)
      (AreKept (asked_files options).sync (asked_files options).state (file_names net.program.channels.items net.channel_names.items) e)
      (IsWrittenIfAsked (asked_files options).history e) options net inputs given.script text complete

-- such a report was said
pub record IsDone (options : Options) (complete : Bool) (e : List Request) : Type 0 where
  pub text : List ℕ
  pub report : HasReport options text complete e
  pub said : Has (Said text (Ok tt)) e
