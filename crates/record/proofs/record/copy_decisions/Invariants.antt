use Rattle.std.proofs.Common.{◌≡◌, take}
use Rattle.record.proofs.record.copy_decisions.Given as goal

abbrev pub invariant-loop-decision : goal.invariant-loop-decision
invariant-loop-decision l = l.copies.items ≡ take l.decision-index l.decisions
