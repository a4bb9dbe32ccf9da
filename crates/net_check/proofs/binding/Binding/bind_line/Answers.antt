use Rattle.std.proofs.lemmas.Grind.{elements}
use Rattle.std.proofs.Common.{arith}
use Rattle.net_check.proofs.binding.Binding.bind_line.Goals as goal

pub returns-clause-err : goal.returns-clause-err
returns-clause-err c = grind (arith, elements)

pub returns-clause-ok : goal.returns-clause-ok
returns-clause-ok c = grind (arith, elements)

pub returns-in_default-clause-err : goal.returns-in_default-clause-err
returns-in_default-clause-err c = grind (arith, elements)

pub returns-in_default-clause-ok : goal.returns-in_default-clause-ok
returns-in_default-clause-ok c = grind (arith, elements)

pub returns-then-index-clause-err : goal.returns-then-index-clause-err
returns-then-index-clause-err c = grind (arith, elements)

pub returns-then-index-clause-ok : goal.returns-then-index-clause-ok
returns-then-index-clause-ok c = grind (arith, elements)

pub returns-then-len-gt-MAX_HISTORY_ITEMS-clause-err : goal.returns-then-len-gt-MAX_HISTORY_ITEMS-clause-err
returns-then-len-gt-MAX_HISTORY_ITEMS-clause-err c = grind (arith, elements)

pub returns-then-len-gt-MAX_HISTORY_ITEMS-clause-ok : goal.returns-then-len-gt-MAX_HISTORY_ITEMS-clause-ok
returns-then-len-gt-MAX_HISTORY_ITEMS-clause-ok c = grind (arith, elements)
