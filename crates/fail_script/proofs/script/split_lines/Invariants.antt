use Rattle.std.proofs.Common.{◌≡◌, ◌++◌, ◌==◌, length, map}
use Rattle.std.specs.List.{slice_split}
use Rattle.fail_script.proofs.script.split_lines.Given as goal

abbrev pub invariant-loop-line : goal.invariant-loop-line
invariant-loop-line l =
    map (λ part. part.now) l.parts.items ++ slice_split (λ b. b == 10) l.rest ≡ slice_split (λ b. b == 10) l.text

abbrev pub decreases-loop-line : goal.decreases-loop-line
decreases-loop-line l = length l.rest
