use Rattle.std.proofs.Common.{◌++◌, List, ℕ, length, ap, ◌∙◌}
use Rattle.ckpt_codec.specs.Spelling.{image_text}
use Rattle.ckpt_codec.proofs.Sizes.{length-image}
use Rattle.ckpt_codec.proofs.Spelled.{image_is_short, is_image_text}
use Rattle.ckpt_codec.proofs.apart.write_image.Goals as goal

pub put_image-requires : goal.put_image-requires
put_image-requires c = image_is_short c.args.image.now c.requires

pub returns-clause-text : goal.returns-clause-text
returns-clause-text c =
    λ like allowed. is_image_text like c.args.image.now c.put_image.new.out.items c.in_ok-put_image.ensures.fit
    (c.in_ok-put_image.ensures.put ∙ ap (λ (t : List ℕ). t ++ image_text c.args.image.now) c.in_ok-out.ensures.items)
    allowed

pub returns-clause-long : goal.returns-clause-long
returns-clause-long c =
    ap (length {A = ℕ})
    (c.in_ok-put_image.ensures.put ∙ ap (λ (t : List ℕ). t ++ image_text c.args.image.now) c.in_ok-out.ensures.items)
    ∙ length-image c.args.image.now
