use Rattle.std.proofs.Common.{◌≡◌, ◌++◌, take}
use Rattle.std.specs.List.{flat_map}
use Rattle.ckpt_codec.specs.Fields.{number_text}
use Rattle.ckpt_codec.proofs.numbers.put_participants.Given as goal

abbrev pub invariant-loop-node : goal.invariant-loop-node
invariant-loop-node l = (l.out.items ≡ l.fn.out.items ++ flat_map (number_text 1) (take l.node-index l.nodes))
