use Rattle.std.proofs.Common.{◌≡◌, ◌++◌, take}
use Rattle.std.specs.Prelude.{All}
use Rattle.std.specs.List.{flat_map}
use Rattle.ckpt_codec.specs.Spelling.{saved_end_text, EndHasItems}
use Rattle.ckpt_codec.proofs.putting.put_ends.Given as goal

abbrev pub invariant-loop-saved : goal.invariant-loop-saved
invariant-loop-saved l =
    (l.out.items ≡ l.fn.out.items ++ flat_map saved_end_text (take l.saved-index l.ends))
    × All EndHasItems (take l.saved-index l.ends)
