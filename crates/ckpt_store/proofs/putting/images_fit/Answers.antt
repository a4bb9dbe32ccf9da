use Rattle.std.proofs.Common.{sym, subst}
use Rattle.std.specs.Option.{ForSome}
use Rattle.ckpt_codec.specs.Common.{RecordView, Tentative, IsImageSpelled}
use Rattle.ckpt_store.proofs.Puts.{permanent_spelled, held_spelled}
use Rattle.ckpt_store.proofs.putting.images_fit.Goals as goal

pub spelled_image_length-requires : goal.spelled_image_length-requires
spelled_image_length-requires c =
    subst (λ (r : RecordView). IsImageSpelled r.permanent) (sym c.kept.view_is)
    (permanent_spelled c.args.kept.now c.requires)

pub held_fits-requires : goal.held_fits-requires
held_fits-requires c =
    subst (λ (r : RecordView). ForSome r.tentative (λ (t : Tentative). IsImageSpelled t.image)) (sym c.kept.view_is)
    (held_spelled c.args.kept.now c.requires)
