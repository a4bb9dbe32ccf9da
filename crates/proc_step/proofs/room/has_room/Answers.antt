use Rattle.std.proofs.lemmas.Grind.{common_steps}
use Rattle.std.proofs.Common.{arith}
use Rattle.proc_step.proofs.room.has_room.Goals as goal

pub returns-else-channel-room : goal.returns-else-channel-room
returns-else-channel-room c = grind (arith, common_steps)
