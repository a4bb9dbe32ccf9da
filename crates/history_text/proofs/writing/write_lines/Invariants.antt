use Rattle.std.proofs.Common.{drop}
use Rattle.history_text.specs.Histories.{happenings_text}
use Rattle.run_log.specs.Lines.{happenings}
use Rattle.history_text.proofs.Writes.{WroteUpTo}
use Rattle.history_text.proofs.writing.write_lines.Given as goal

abbrev pub invariant-loop-line : goal.invariant-loop-line
invariant-loop-line g l =
    WroteUpTo (g.W.Write.contents l.fn.out) (g.W.Write.contents l.out)
    (happenings_text (happenings (drop l.line-index l.lines))) (happenings_text (happenings l.lines))
