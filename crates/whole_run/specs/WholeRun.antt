-- What is true of a run, whatever happens in it, at whatever moment one looks.
use Rattle.std.specs.Prelude.{◌≡◌, ◌⊎◌, ℕ, List, IsTrue}
use Rattle.kahn_net.specs.Streams.{ArePrefixes}
use Rattle.protocol.specs.Node.Common.{RecordView}
use Rattle.protocol.specs.World.Common.{are_quiet, net_seen, OutputView, records_of, records_seen, WorldInvariant}
use Rattle.protocol.specs.World.Common.{WorldView}
use Rattle.protocol.specs.World.Coordination.{AreCoordinated, IsAsked, last_of, WasReceived}
use Rattle.protocol.specs.World.Growing.{EachBegins}
use Rattle.protocol.specs.World.Headline.{AreWithin}
use Rattle.protocol.specs.World.InLine.{IsCoordinatedInside, nodes_seen}
use Rattle.protocol.specs.World.Quiet.{AreWhole}
use Rattle.recovery_line.specs.Line.{NotBehind}
use Rattle.starting_again.specs.WasLeft.{outputs_left, WasLeft}
use Rattle.whole_run.specs.Beginnings.{Begins}
use Rattle.whole_run.specs.Machine.{IsMachineStart, IsOneRun, IsSoundLine}
use Rattle.whole_run.specs.Moments.{MayBeFound, MayLie}
use Rattle.whole_run.specs.Runs.{EachNext, GoesOn, Happens}

-- What is true of the last of these worlds of a run, since an earlier one, at a moment at which these records are found
-- on the disks and these outputs have what has left: between two events, or inside the next one.
pub record IsRight (earlier : WorldView) (after : List WorldView) (records : List RecordView)
    (outputs : List OutputView) : Type 0 where
  -- All that is true of a world, whatever events came before, is true of the last one.
  pub sound : WorldInvariant (last_of earlier after)
  -- It has the same network.
  pub same_net : (last_of earlier after).net ≡ earlier.net
  -- Its inputs begin with those of the earlier one.
  pub longer : ArePrefixes earlier.inputs (last_of earlier after).inputs
  -- What has left begins, output by output, with what had left of the earlier world, over whatever stops.
  pub kept : EachBegins (outputs_left earlier) outputs
  -- Each stream that has left is a prefix of its channel's history, in one approximation on the inputs so far.
  pub one : ∥ ((n : ℕ) × AreWithin (last_of earlier after).net (last_of earlier after).inputs outputs n) ∥₁
  -- Where nothing is left to do, each of these streams is its channel's whole history, in the least solution.
  pub whole : IsTrue (are_quiet (last_of earlier after)) → AreWhole (last_of earlier after)
  -- Where nothing was left to do in the earlier world, nothing more has left, unless more has come on the inputs.
  pub over : IsTrue (are_quiet earlier) → (last_of earlier after).inputs ≡ earlier.inputs
      → outputs ≡ outputs_left earlier
  -- The recovery line, from which all nodes would restart now, is sound and covers what has left.
  pub line : IsSoundLine (last_of earlier after).net records outputs
  -- The line isn't behind that of the earlier world, unless the run began again since then.
  pub not_behind : EachNext GoesOn earlier after
      → NotBehind (records_seen (records_of earlier.stations)) (records_seen records)
  -- Where the run begins, a run of the machine of recovery lines begins, and nothing is in flight.
  pub begins : Begins earlier → IsMachineStart earlier
  -- Unless the run began again since the earlier world, steps of that machine lead from there to the last one.
  pub machine : EachNext GoesOn earlier after → ∥ IsOneRun earlier (last_of earlier after) ∥₁
  -- Unless it did, checkpoints that several nodes take together are coordinated in each thing that happened.
  pub coordinated : EachNext GoesOn earlier after → EachNext AreCoordinated earlier after
  -- They are coordinated by the records that are found now too, in any case.
  pub inside : ∥ IsCoordinatedInside (net_seen (last_of earlier after).net)
      (nodes_seen (last_of earlier after).stations) (records_seen records) ∥₁
  -- Whoever is asked to take part in a checkpoint had to be: what is asked for was asked for in the earlier world, or
  -- was received since then by an image of that checkpoint which was held.
  pub asked : (p x n c m : ℕ) → IsAsked (last_of earlier after).traffic p x n c m
      → ∥ IsAsked earlier.traffic p x n c m ⊎ WasReceived earlier.net earlier after x n c m ∥₁
  -- What may lie there some world of the network leaves, so that one may be opened over it.
  pub opens : MayLie (last_of earlier after) records outputs
      → WasLeft (last_of earlier after).net (last_of earlier after).inputs records outputs

-- From a beginning on, whatever happens, and from whichever of its worlds one looks.
abbrev pub WholeRun : Type 0
WholeRun = (first : WorldView) (before after : List WorldView) (records : List RecordView) (outputs : List OutputView)
    → Begins first → EachNext Happens first before → EachNext Happens (last_of first before) after
    → MayBeFound (last_of (last_of first before) after) records outputs
    → IsRight (last_of first before) after records outputs
