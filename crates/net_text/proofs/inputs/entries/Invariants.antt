use Rattle.std.proofs.Common.{◌≡◌, suc, drop, map}
use Rattle.std.specs.Str.Lines.{strip_carriage_return}
use Rattle.net_text.specs.Trees.{input_tree}
use Rattle.net_text.specs.InputReading.{lines_at}
use Rattle.net_text.proofs.Items.{after_entries}
use Rattle.net_text.proofs.inputs.entries.Given as goal

abbrev pub invariant-loop-i : goal.invariant-loop-i
invariant-loop-i l =
    after_entries (map input_tree l.lines.items)
    (lines_at (suc l.i) (map (λ part. strip_carriage_return part.now) (drop l.i l.parts)))
    ≡ lines_at 1 (map (λ part. strip_carriage_return part.now) l.parts)
