use Rattle.ckpt_codec.proofs.Spelled.{image_is_short}
use Rattle.ckpt_codec.proofs.lengths.spelled_image_length.Goals as goal

pub length_of_image-requires : goal.length_of_image-requires
length_of_image-requires c = image_is_short c.args.image.now c.requires
