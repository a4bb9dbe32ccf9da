use Rattle.std.proofs.Common.{refl}
use Rattle.ckpt_codec.specs.Spelling.{image_text}
use Rattle.ckpt_codec.proofs.Sizes.{length-image}
use Rattle.ckpt_codec.proofs.Spelled.{image_is_short, is_image_text}
use Rattle.ckpt_codec.proofs.apart.add_image.Goals as goal

pub put_image-requires : goal.put_image-requires
put_image-requires c = image_is_short c.args.image.now c.requires

pub returns : goal.returns
returns c = record {
  bytes = image_text c.args.image.now;
  behind = c.in_ok-put_image.ensures.put;
  text = λ like allowed. is_image_text like c.args.image.now (image_text c.args.image.now) c.in_ok-put_image.ensures.fit
      refl allowed;
  long = length-image c.args.image.now;
}
