use Rattle.std.proofs.Common.{refl}
use Rattle.ckpt_codec.specs.declared.numbers.TheConstants.{BLOCK_ITEMS}
use Rattle.ckpt_codec.proofs.Bulk.{next_block}
use Rattle.ckpt_codec.proofs.numbers.put_blocks.Goals as goal

pub loop-number-preserved : goal.loop-number-preserved
loop-number-preserved c =
    next_block c.args.items.now BLOCK_ITEMS _ c.min-last.result c.loop-number.number c.args.out.now.items
    c.loop-number.out.items c.put_block.new.out.items _ c.loop-number.invariant refl c.min-last.ensures refl
    c.in_ok-put_block.ensures.put
