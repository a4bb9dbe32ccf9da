use Rattle.std.proofs.Common.{refl, arith}
use Rattle.net_text.proofs.Numerals.{too_large}
use Rattle.net_text.proofs.Lexemes.{numeral_some}
use Rattle.net_text.proofs.lexer.numeral_kind.Goals as goal

pub returns-in_default-clause-err : goal.returns-in_default-clause-err
returns-in_default-clause-err c =
    let large =
    too_large c.args.numeral.now c.in_default.field-0 c.in_default.ensures.value.0 c.requires
    (numeral_some c.args.numeral.now c.requires) in
    (refl, c.requires, omega (arith, large))
