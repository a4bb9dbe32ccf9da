-- A run in which the most different things happen: there is one of each network.
use Rattle.std.specs.Prelude.{◌≡◌, Bool, ℤ, List}
use Rattle.protocol.specs.Node.Common.{Fits, IsValid, Network, RecordView}
use Rattle.protocol.specs.World.Common.{ByNode, IsStep, records_of, WorldView}
use Rattle.protocol.specs.declared.event.Deed.TheVariants.{Crash}
use Rattle.protocol.specs.declared.reply.Reply.TheVariants.{Crashed}
use Rattle.starting_again.specs.WasLeft.{OpensOver, outputs_left}
use Rattle.whole_run.specs.Beginnings.{Begins}
use Rattle.whole_run.specs.Runs.{BeginsAgain}

-- The run begins, and node 0 crashes; the world is stopped, and opened again over what lies there; and the run begins
-- again from its outlets alone.
pub record IsShortRun (net : Network) (inputs : List (List ℤ)) (first crashed opened : WorldView) : Type 0 where
  pub of_net : first.net ≡ net
  pub of_inputs : first.inputs ≡ inputs
  pub begins : Begins first
  pub fits : List (RecordView → Bool)
  pub event : IsStep fits (ByNode 0 (Crash 0 0)) first Crashed crashed
  pub stop : OpensOver net inputs (records_of crashed.stations) (outputs_left crashed) opened
  pub again : BeginsAgain opened first

abbrev pub ShortRunIsThere : Type 0
ShortRunIsThere = (net : Network) (inputs : List (List ℤ)) → IsValid net → Fits net inputs
    → ∥ ((first : WorldView) × (crashed : WorldView) × (opened : WorldView)
    × IsShortRun net inputs first crashed opened) ∥₁
