use Rattle.std.proofs.Common.{List, sym, subst}
use Rattle.journal.specs.Histories.{Begins, written}
use Rattle.run_log.specs.declared.history.Line.{Line}
use Rattle.runtime.proofs.locked.write.Goals as goal

-- what is written goes on by the lines of the log
pub write-requires : goal.write-requires
write-requires g c = record {
  grows = subst (λ (all : List Line). Begins (written c.args.journal.now) all) (sym c.in-Some.ensures.lines)
      (c.requires.grows (sym c.in-Some.ensures.exact));
}
