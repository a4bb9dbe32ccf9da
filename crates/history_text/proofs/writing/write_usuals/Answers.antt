use Rattle.std.proofs.Common.{List, refl}
use Rattle.std.specs.List.{flat_map}
use Rattle.std.proofs.lemmas.List.{at_drop_all}
use Rattle.run_log.specs.Lines.{usually}
use Rattle.run_log.specs.declared.history.Usual.{Usual}
use Rattle.history_text.specs.Histories.{happenings_text}
use Rattle.history_text.proofs.Lines.{parts_at}
use Rattle.history_text.proofs.Writes.{all_written, nothing_yet, one_more}
use Rattle.history_text.proofs.writing.write_usuals.Goals as goal

pub loop-row-init : goal.loop-row-init
loop-row-init g c = nothing_yet _ _

pub loop-row-preserved : goal.loop-row-preserved
loop-row-preserved g c =
    one_more _ _ _ _ _ _ _ c.loop-row.invariant c.in_ok-write_usual.ensures
    (parts_at usually c.args.rows.now c.loop-row.row-index _ _ c.loop-row-test.true refl)

pub returns : goal.returns
returns g c =
    all_written _ _ _ _ c.loop-row.invariant
    (at_drop_all (λ (x : List Usual). happenings_text (flat_map usually x)) c.args.rows.now c.loop-row.row-index
    c.loop-row-test.false)
