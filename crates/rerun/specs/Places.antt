-- What a table is good for: what its logs mean, and that a run may begin there.
use Rattle.std.specs.Prelude.{◌≡◌, ℕ, ℤ, List, take, Some, slice_get}
use Rattle.kahn_net.specs.Approximations.{approximation}
use Rattle.kahn_net.specs.Fits.{Fits}
use Rattle.kahn_net.specs.Streams.{history_of}
use Rattle.kahn_net.specs.Syntax.{Network}
use Rattle.kahn_net.specs.Valid.{IsValid}
use Rattle.kahn_net.specs.declared.program.Channel.{Channel}
use Rattle.kahn_net.specs.declared.program.Port.TheVariants.{Process}
use Rattle.retained.specs.LogState.{IsLogOf, log_end}
use Rattle.rerun.specs.Lines.{IsBeginning}
use Rattle.rerun.specs.Rerunning.{Stage}
use Rattle.rerun.specs.Soundness.{StandsSoundly}
use Rattle.rerun.specs.Tables.{TableView, HasRerun, IsAt, log_on}

-- what was put on each channel begins its history in this approximation, and the log is the log of that beginning
abbrev pub AreMeant : Network → List (List ℤ) → TableView → ℕ → Type 0
AreMeant net inputs t n = (c p : ℕ) (channel : Channel) → slice_get net.channels c ≡ Some channel
    → channel.producer ≡ Process p
    → IsLogOf (log_on t c) (take (log_end (log_on t c)) (history_of (approximation net inputs n) c))

-- A table is a place of the network: it is what is in memory of a stage that stands on one approximation, which has all
-- that was put by then, and a run may begin at that stage.
pub record IsPlace (net : Network) (inputs : List (List ℤ)) (t : TableView) : Type 0 where
  pub n : ℕ
  pub made : ℕ → ℕ
  pub stage : Stage
  pub is_at : IsAt net inputs t stage
  pub sound : StandsSoundly net inputs n made stage
  pub meant : AreMeant net inputs t n
  pub beginning : IsBeginning net stage

-- so is every table to which turns lead
abbrev pub TablesArePlaces : Type 0
TablesArePlaces = (net : Network) (inputs : List (List ℤ)) (t : TableView) → IsValid net → Fits net inputs
    → HasRerun net inputs t → IsPlace net inputs t
