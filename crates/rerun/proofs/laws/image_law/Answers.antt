use Rattle.rerun.proofs.Turning.{images}
use Rattle.rerun.proofs.laws.image_law.Goals as goal

pub returns : goal.returns
returns c = images
