use Rattle.std.proofs.Common.{◌≡◌, length}
use Rattle.fail_script.specs.Reading.{without_zeros}
use Rattle.fail_script.proofs.numbers.without_zeros.Given as goal

abbrev pub invariant-loop-rest : goal.invariant-loop-rest
invariant-loop-rest l = without_zeros l.rest ≡ without_zeros l.fn.numeral

abbrev pub decreases-loop-rest : goal.decreases-loop-rest
decreases-loop-rest l = length l.rest
