use Rattle.std.proofs.Common.{arith, false-eqb}
use Rattle.net_text.proofs.Symbols.{two_longest, one_longest}
use Rattle.std.proofs.lemmas.Grind.{elements}
use Rattle.net_text.proofs.lexer.symbol_at.Goals as goal

pub returns-in-Some : goal.returns-in-Some
returns-in-Some c = two_longest c.in-Some.symbol c.args.rest.now c.in-Some.ensures.0 c.in-Some.ensures.1

pub returns-in-Some-single_symbol : goal.returns-in-Some-single_symbol
returns-in-Some-single_symbol c =
    one_longest c.in-Some-single_symbol.symbol c.args.rest.now (omega (arith, false-eqb _ 0 c.if-is_empty.ensures))
    c.in-Some-single_symbol.ensures c.in_default.ensures

pub returns-in-None : goal.returns-in-None
returns-in-None c = grind (arith, elements)
