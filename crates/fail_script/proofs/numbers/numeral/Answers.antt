use Rattle.std.proofs.Common.{ap, ◌∙◌, ◌+◌, ◌*◌, ◌^◌, min, rules, tests}
use Rattle.fail_script.proofs.Numerals.{one_digit_more}
use Rattle.std.proofs.lemmas.Grind.{common_steps}
use Rattle.std.proofs.Common.{arith}
use Rattle.fail_script.proofs.numbers.numeral.Goals as goal

pub loop-digit-preserved : goal.loop-digit-preserved
loop-digit-preserved c =
    one_digit_more c.args.word.now c.loop-digit.digit-index c.loop-digit.number c.min-number.result
    c.loop-digit-test.true (search (rules, tests)) c.loop-digit.invariant
    (c.min-number.ensures ∙ ap (λ d. min (c.loop-digit.number * 10 + d) (2 ^ 32)) c.from.ensures)

pub returns-then-not-is_ascii_digit : goal.returns-then-not-is_ascii_digit
returns-then-not-is_ascii_digit c = grind (arith, common_steps)
