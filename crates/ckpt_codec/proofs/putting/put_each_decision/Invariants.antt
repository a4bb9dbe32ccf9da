use Rattle.std.proofs.Common.{◌≡◌, ◌++◌, take}
use Rattle.std.specs.List.{flat_map}
use Rattle.ckpt_codec.specs.Spelling.{decision_text}
use Rattle.ckpt_codec.proofs.putting.put_each_decision.Given as goal

abbrev pub invariant-loop-decision : goal.invariant-loop-decision
invariant-loop-decision l = l.out.items ≡ l.fn.out.items ++ flat_map decision_text (take l.decision-index l.decisions)
