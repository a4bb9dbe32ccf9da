-- A world that starts again from what lay on the disks and in the outlets of an earlier one.
use Rattle.std.specs.Prelude.{◌≡◌, ℕ, []}
use Rattle.std.specs.List.{AllZip}
use Rattle.protocol.specs.Node.Common.{Down}
use Rattle.protocol.specs.World.Common.{flights_to, outputs_of, StationView, WorldView}

-- A station that starts again from an earlier one. Field by field:
--
-- - `number`: the same.
-- - `node.kept`, the record: the same, since it lay on the disk: epoch, numbers used, decisions, both images.
-- - `node.mode`: down. What was in memory is gone: the current image, the job that is out, inboxes, outboxes, and
--   the answers that are collected.
-- - `node.version`: any. A job of before isn't out at a node that is down, whatever its version.
-- - `node.restart`: any. It says from which round the node may be recovered, and nothing of what is true of it.
-- - `node.armed`, and `failures`: any. They are the device's, which may be another one.
-- - `outlets`: the same channels in the same order, and the same items of each. `failed` and `failures` are any.
-- - `turns`: any. What is remembered of a round bounds what is chosen, and not what may happen.
pub record StationStartsAgain (old new : StationView) : Type 0 where
  pub number : new.number ≡ old.number
  pub record_kept : new.node.kept ≡ old.node.kept
  pub down : new.node.mode ≡ Down
  pub outputs : outputs_of new.outlets ≡ outputs_of old.outlets

-- A world that does. Field by field:
--
-- - `net` and `inputs`: the same.
-- - `stations`: as many, and each starts again from the one of its place.
-- - `traffic`: nothing is in flight to any node. How many packets each node has sent to which is any, and so is which
--   rules are armed for packets still to be sent.
-- - `round` and `rooms`: any.
pub record WorldStartsAgain (old new : WorldView) : Type 0 where
  pub net : new.net ≡ old.net
  pub inputs : new.inputs ≡ old.inputs
  pub stations : AllZip StationStartsAgain old.stations new.stations
  pub nothing : (to : ℕ) → flights_to new.traffic to ≡ []
