use Rattle.std.proofs.Common.{◌∙◌, ap, sym}
use Rattle.std.specs.Box.{with_value}
use Rattle.run_log.specs.declared.history.LongLine.{LongLine}
use Rattle.run_log.specs.declared.history.Line.TheVariants.{Long}
use Rattle.std.proofs.Common.{arith}
use Rattle.std.proofs.lemmas.Grind.{elements}
use Rattle.run_log.proofs.appending.count_in.Goals as goal

pub returns-in-Long-clause-left : goal.returns-in-Long-clause-left
returns-in-Long-clause-left c = λ no.
    ap (λ (long : LongLine). Long (with_value c.in-Long.long long)) (c.count_in_long.ensures.left no ∙ c.deref_mut.ensures.value)
    ∙ sym c.in-Long.is

pub returns-else-left-first-2-clause-counted : goal.returns-else-left-first-2-clause-counted
returns-else-left-first-2-clause-counted c = grind (arith, elements)
