use Rattle.std.proofs.Common.{drop}
use Rattle.std.specs.List.{flat_map}
use Rattle.history_text.specs.Histories.{happenings_text}
use Rattle.run_log.specs.Lines.{usually}
use Rattle.history_text.proofs.Writes.{WroteUpTo}
use Rattle.history_text.proofs.writing.write_usuals.Given as goal

abbrev pub invariant-loop-row : goal.invariant-loop-row
invariant-loop-row g l =
    WroteUpTo (g.W.Write.contents l.fn.out) (g.W.Write.contents l.out)
    (happenings_text (flat_map usually (drop l.row-index l.rows))) (happenings_text (flat_map usually l.rows))
