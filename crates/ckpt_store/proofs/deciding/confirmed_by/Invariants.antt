use Rattle.std.proofs.Common.{◌≡◌, take}
use Rattle.ckpt_codec.specs.Common.{confirmed}
use Rattle.ckpt_store.proofs.deciding.confirmed_by.Given as goal

abbrev pub invariant-loop-decision : goal.invariant-loop-decision
invariant-loop-decision l = l.left.items ≡ confirmed l.number l.node (take l.decision-index l.decisions)
