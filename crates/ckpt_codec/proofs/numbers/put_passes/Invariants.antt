use Rattle.std.proofs.Common.{◌≡◌, ◌++◌, take}
use Rattle.std.specs.List.{flat_map}
use Rattle.ckpt_codec.specs.Fields.{number_text}
use Rattle.ckpt_codec.proofs.numbers.put_passes.Given as goal

abbrev pub invariant-loop-passes : goal.invariant-loop-passes
invariant-loop-passes l = (l.out.items ≡ l.fn.out.items ++ flat_map (number_text 2) (take l.passes-index l.left))
