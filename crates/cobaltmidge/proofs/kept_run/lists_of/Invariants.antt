use Rattle.std.proofs.Common.{◌≡◌, length}
use Rattle.world.specs.WholeView.{world_of}
use Rattle.cobaltmidge.specs.Released.{AreReleased, lists_of}
use Rattle.cobaltmidge.proofs.kept_run.lists_of.Given as goal

-- what has left by the channels that were looked at
abbrev pub invariant-loop-channel : goal.invariant-loop-channel
invariant-loop-channel g l = (length l.lists.items ≡ l.channel) × AreReleased l.channel (world_of l.world) (lists_of l.lists.items)
