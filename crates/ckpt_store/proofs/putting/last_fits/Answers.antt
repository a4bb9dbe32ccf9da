use Rattle.std.proofs.Common.{sym, subst, ap, ◌∙◌}
use Rattle.ckpt_codec.specs.Common.{RecordView, IsImageSpelled}
use Rattle.ckpt_store.proofs.Puts.{permanent_spelled, held_spelled}
use Rattle.ckpt_store.proofs.putting.last_fits.Goals as goal

pub spelled_image_length-requires : goal.spelled_image_length-requires
spelled_image_length-requires c =
    subst (λ (r : RecordView). IsImageSpelled r.permanent) (sym c.kept.view_is)
    (permanent_spelled c.args.kept.now c.requires)

pub spelled_image_length-requires-in-Some : goal.spelled_image_length-requires-in-Some
spelled_image_length-requires-in-Some c =
    held_spelled c.args.kept.now c.requires _
    (ap (λ (r : RecordView). r.tentative) (sym c.kept.view_is) ∙ c.in-Some.is)
