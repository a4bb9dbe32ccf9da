use Rattle.std.proofs.Common.{arith}
use Rattle.std.proofs.lemmas.Grind.{elements}
use Rattle.ckpt_codec.proofs.putting.put_tentative.Goals as goal

pub put_image-requires : goal.put_image-requires
put_image-requires c = grind (arith, elements)
