use Rattle.std.proofs.Common.{sym, subst, ap, ◌∙◌}
use Rattle.ckpt_codec.specs.Common.{RecordView}
use Rattle.ckpt_codec.specs.Spelling.{AreShortDecisions}
use Rattle.ckpt_codec.proofs.Versions.{decisions_are_short}
use Rattle.ckpt_store.proofs.changing.confirmed_length.Goals as goal

pub confirmed_bytes-requires : goal.confirmed_bytes-requires
confirmed_bytes-requires c =
    subst AreShortDecisions
    (sym (c.as_slice.ensures.value ∙ ap (λ (r : RecordView). r.decisions) c.kept.view_is))
    (decisions_are_short c.args.kept.now c.requires)
