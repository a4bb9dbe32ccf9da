use Rattle.ckpt_codec.proofs.Headers.{image_alone}
use Rattle.ckpt_codec.proofs.Joined.{image_text_beside}
use Rattle.ckpt_codec.proofs.laws.images_are_spelled.Goals as goal

pub returns-clause-alone : goal.returns-clause-alone
returns-clause-alone c = image_alone

pub returns-clause-same : goal.returns-clause-same
returns-clause-same c = image_text_beside
