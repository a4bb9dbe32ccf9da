use Rattle.std.proofs.Common.{◌≡◌, map, take}
use Rattle.std.specs.Str.Lines.{strip_carriage_return}
use Rattle.fail_script.specs.Lines.{AreScriptLines, last_round}
use Rattle.fail_script.proofs.script.read_lines.Given as goal

abbrev pub invariant-loop-i : goal.invariant-loop-i
invariant-loop-i l =
    AreScriptLines l.fn.nodes 0 (map (λ part. strip_carriage_return part.now) (take l.i l.parts)) l.lines.items
    × (l.round ≡ last_round 0 l.lines.items)
