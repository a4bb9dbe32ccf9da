use Rattle.std.proofs.Common.{rules}
use Rattle.marks.proofs.Moves.{opens}
use Rattle.std.proofs.lemmas.Grind.{common_steps}
use Rattle.std.proofs.Common.{arith}
use Rattle.marks.proofs.marks.Opened.new.Goals as goal

pub of_words-requires : goal.of_words-requires
of_words-requires c = opens _ _ (search rules)

pub invariant_of-result : goal.invariant_of-result
invariant_of-result c = grind (arith, common_steps)
