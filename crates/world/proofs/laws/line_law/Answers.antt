use Rattle.protocol_laws.specs.World.LineLaws.{lines_follow}
use Rattle.world.proofs.laws.line_law.Goals as goal

pub returns : goal.returns
returns c = lines_follow
