use Rattle.std.proofs.Common.{take}
use Rattle.std.specs.Prelude.{All, FitsSigned}
use Rattle.std.specs.Int.{w64}
use Rattle.ckpt_codec.proofs.numbers.note_items.Given as goal

abbrev pub invariant-loop-item : goal.invariant-loop-item
invariant-loop-item l = All (FitsSigned w64) (take l.item-index l.items)
