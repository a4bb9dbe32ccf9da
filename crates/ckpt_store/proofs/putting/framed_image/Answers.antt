use Rattle.ckpt_store.proofs.Framed.{is_begun, is_image_framed}
use Rattle.ckpt_store.proofs.putting.framed_image.Goals as goal

pub end_frame-requires : goal.end_frame-requires
end_frame-requires c =
    is_begun c.args.image.now _ _ _ c.spelled_image_length.ensures c.in_ok-frame.ensures c.in_ok-add_image.ensures c.requires.short

pub returns : goal.returns
returns c =
    is_image_framed c.args.image.now _ _ _ c.spelled_image_length.ensures c.in_ok-frame.ensures c.in_ok-add_image.ensures _ c.in_ok-end_frame.ensures
