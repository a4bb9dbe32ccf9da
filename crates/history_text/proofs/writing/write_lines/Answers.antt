use Rattle.std.proofs.Common.{List}
use Rattle.std.proofs.lemmas.List.{at_drop_all}
use Rattle.run_log.specs.Lines.{happenings, happenings_of}
use Rattle.run_log.specs.declared.history.Line.{Line}
use Rattle.history_text.specs.Histories.{happenings_text}
use Rattle.history_text.proofs.Lines.{parts_at}
use Rattle.history_text.proofs.Writes.{all_written, nothing_yet, one_more}
use Rattle.history_text.proofs.writing.write_lines.Goals as goal

pub loop-line-init : goal.loop-line-init
loop-line-init g c = nothing_yet _ _

pub loop-line-preserved : goal.loop-line-preserved
loop-line-preserved g c =
    one_more _ _ _ _ _ _ _ c.loop-line.invariant c.in_ok-write_line.ensures
    (parts_at happenings_of c.args.lines.now c.loop-line.line-index c.line-item.result _ c.loop-line-test.true c.line-item.is)

pub returns : goal.returns
returns g c =
    all_written _ _ _ _ c.loop-line.invariant
    (at_drop_all (λ (x : List Line). happenings_text (happenings x)) c.args.lines.now c.loop-line.line-index
    c.loop-line-test.false)
