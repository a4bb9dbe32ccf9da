use Rattle.std.proofs.Common.{◌<◌, length, pos, arith}
use Rattle.std.specs.Prelude.{FitsSigned}
use Rattle.std.specs.Int.{w64}
use Rattle.ckpt_codec.proofs.Walking.{all_at}
use Rattle.std.proofs.lemmas.Grind.{elements}
use Rattle.ckpt_codec.proofs.numbers.note_items.Goals as goal

pub loop-item-preserved : goal.loop-item-preserved
loop-item-preserved c =
    let lt : c.loop-item.item-index < length c.args.items.now = omega arith in
    all_at (FitsSigned w64) c.args.items.now c.loop-item.item-index (pos 0) lt c.loop-item.invariant
    c.note_item.ensures

pub returns : goal.returns
returns c = grind (arith, elements)
