use Rattle.std.proofs.Common.{◌≡◌, take}
use Rattle.ckpt_codec.specs.Common.{decided_below}
use Rattle.ckpt_store.proofs.deciding.copies_below.Given as goal

abbrev pub invariant-loop-decision : goal.invariant-loop-decision
invariant-loop-decision l = l.all.items ≡ decided_below l.number (take l.decision-index l.decisions)
