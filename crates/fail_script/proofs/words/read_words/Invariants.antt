use Rattle.std.proofs.Common.{map}
use Rattle.fail_script.proofs.WordLaws.{IsReadTo}
use Rattle.fail_script.proofs.words.read_words.Given as goal

abbrev pub invariant-loop-at : goal.invariant-loop-at
invariant-loop-at l = IsReadTo l.line (map (λ w. w.now) l.words.items) l.start l.at
