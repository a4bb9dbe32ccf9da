use Rattle.std.proofs.Common.{take}
use Rattle.fail_script.proofs.Numerals.{AreDigitsOf}
use Rattle.fail_script.proofs.numbers.numeral.Given as goal

abbrev pub invariant-loop-digit : goal.invariant-loop-digit
invariant-loop-digit l = AreDigitsOf (take l.digit-index l.word) l.number
