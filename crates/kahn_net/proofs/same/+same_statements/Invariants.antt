use Rattle.kahn_net.proofs.Alike.{Decide}
use Rattle.kahn_net.proofs.same.+same_statements.Given as goal

abbrev pub invariant-is_same_statements-loop-i : goal.invariant-is_same_statements-loop-i
invariant-is_same_statements-loop-i l = Decide l.a l.b l.i
