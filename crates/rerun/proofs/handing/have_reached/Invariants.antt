use Rattle.std.proofs.Common.{◌≡◌, ◌<◌, ◌≤◌, ℕ, Some}
use Rattle.std.specs.Prelude.{slice_get, slice_index}
use Rattle.kahn_net.specs.declared.program.Channel.{Channel}
use Rattle.kahn_net.specs.declared.program.Port.TheVariants.{Outside}
use Rattle.retained.specs.LogState.{log_end}
use Rattle.rerun.specs.TableOf.{table_view}
use Rattle.rerun.specs.Tables.{log_on}
use Rattle.rerun.proofs.handing.have_reached.Given as goal

abbrev pub invariant-loop-number : goal.invariant-loop-number
invariant-loop-number l = (c : ℕ) (channel : Channel) → c < l.number → slice_get l.channels c ≡ Some channel
    → channel.consumer ≡ Outside → slice_index l.limits c ≤ log_end (log_on (table_view l.table) c)
