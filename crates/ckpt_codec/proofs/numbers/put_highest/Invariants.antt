use Rattle.std.proofs.Common.{◌≡◌, ◌++◌, take}
use Rattle.std.specs.List.{flat_map}
use Rattle.ckpt_codec.specs.Fields.{number_text}
use Rattle.ckpt_codec.proofs.numbers.put_highest.Given as goal

abbrev pub invariant-loop-entry : goal.invariant-loop-entry
invariant-loop-entry l = (l.out.items ≡ l.fn.out.items ++ flat_map (number_text 8) (take l.entry-index l.highest))
