use Rattle.ckpt_codec.proofs.Exactness.{begins_none}
use Rattle.ckpt_codec.proofs.laws.no_spelling_begins_another.Goals as goal

pub returns : goal.returns
returns c = begins_none
