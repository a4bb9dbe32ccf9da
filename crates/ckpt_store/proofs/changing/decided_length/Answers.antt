use Rattle.std.proofs.Common.{sym, subst, ap, ◌∙◌}
use Rattle.ckpt_codec.specs.Common.{RecordView}
use Rattle.ckpt_codec.specs.Spelling.{AreShortDecisions}
use Rattle.ckpt_codec.proofs.Versions.{decisions_are_short}
use Rattle.ckpt_store.proofs.changing.decided_length.Goals as goal

pub decided_bytes-requires-clause-short : goal.decided_bytes-requires-clause-short
decided_bytes-requires-clause-short c =
    subst AreShortDecisions
    (sym (c.as_slice.ensures.value ∙ ap (λ (r : RecordView). r.decisions) c.kept.view_is))
    (decisions_are_short c.args.kept.now c.requires.record)
