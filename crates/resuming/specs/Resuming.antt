-- That a run of a network goes on where its processes were run again.
use Rattle.std.specs.Prelude.{◌≡◌, ◌<◌, ℕ, ℤ, List, length, map, Some, slice_get}
use Rattle.kahn_net.specs.Fits.{Fits}
use Rattle.kahn_net.specs.Nodes.{node_count}
use Rattle.kahn_net.specs.Syntax.{Network}
use Rattle.kahn_net.specs.Valid.{IsValid}
use Rattle.protocol.specs.World.OutputView.{OutputView}
use Rattle.protocol.specs.World.Released.{IsStreamOf}
use Rattle.protocol.specs.World.Sound.{output_channels}
use Rattle.rerun.specs.Tables.{TableView, HasRerun, IsInOrder, log_on}
use Rattle.retained.specs.LogState.{IsInLog}
use Rattle.starting_again.specs.WasLeft.{WasLeft}
use Rattle.resuming.specs.Images.{image_of, KeepsShares, records_there}

-- What has left of an output agrees with what was put there: it is a prefix of the channel's history in some
-- approximation, and the log has what comes next.
pub record Agrees (net : Network) (inputs : List (List ℤ)) (t : TableView) (output : OutputView) : Type 0 where
  pub stream : IsStreamOf net inputs output.channel output.taken
  pub in_log : IsInLog (log_on t output.channel) (length output.taken)

-- A run may go on from where the processes stand: there is an output for each of the network's, by channel, each of
-- which agrees, and each log keeps to its share of a record.
pub record MayResume (net : Network) (inputs : List (List ℤ)) (t : TableView) (outputs : List OutputView) : Type 0 where
  pub listed : map (λ (output : OutputView). output.channel) outputs ≡ output_channels 0 net.channels
  pub agree : (j : ℕ) (output : OutputView) → slice_get outputs j ≡ Some output → Agrees net inputs t output
  pub shares : (home : ℕ) → home < node_count net → KeepsShares (image_of net t home)

-- Some world leaves what the nodes have there: so one may begin with it.
abbrev pub IsLeftThere : Type 0
IsLeftThere = (net : Network) (inputs : List (List ℤ)) (t : TableView) (outputs : List OutputView) → IsValid net
    → Fits net inputs → IsInOrder net inputs t → ∥ HasRerun net inputs t ∥₁ → MayResume net inputs t outputs
    → WasLeft net inputs (records_there net t) outputs
