use Rattle.kahn_net.proofs.Alike.{LinksDecide}
use Rattle.kahn_net.proofs.same.+same.Given as goal

abbrev pub invariant-is_same_links-loop-i : goal.invariant-is_same_links-loop-i
invariant-is_same_links-loop-i l = LinksDecide l.a l.b l.i
