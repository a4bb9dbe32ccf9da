use Rattle.std.proofs.Common.{List, sym, subst}
use Rattle.journal.specs.Histories.{Begins, written}
use Rattle.run_log.specs.declared.history.Line.{Line}
use Rattle.runtime.proofs.locked.show.Goals as goal

-- what is written goes on by the lines of the log
pub show-requires-clause-grows : goal.show-requires-clause-grows
show-requires-clause-grows g c =
    subst (λ (all : List Line). Begins (written c.args.journal.now) all) (sym c.in-Some.ensures.lines)
    (c.requires.grows (sym c.in-Some.ensures.exact))
