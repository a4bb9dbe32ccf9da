use Rattle.std.proofs.Common.{◌≡◌, ◌*◌, ◌++◌, take}
use Rattle.ckpt_codec.specs.Spelling.{items_text}
use Rattle.ckpt_codec.specs.declared.numbers.TheConstants.{BLOCK_ITEMS}
use Rattle.ckpt_codec.proofs.numbers.put_blocks.Given as goal

abbrev pub invariant-loop-number : goal.invariant-loop-number
invariant-loop-number l = l.out.items ≡ l.fn.out.items ++ items_text (take (BLOCK_ITEMS * l.number) l.items)
