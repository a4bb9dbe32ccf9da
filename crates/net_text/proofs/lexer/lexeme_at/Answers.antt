use Rattle.std.proofs.Common.{sym, get_or, arith, false-eqb}
use Rattle.net_text.proofs.Lexemes.{longest_word, longest_numeral, longest_symbol, no_lexeme, starts_continues}
use Rattle.net_text.proofs.lexer.lexeme_at.Goals as goal

pub returns-then-starts_word-clause-some : goal.returns-then-starts_word-clause-some
returns-then-starts_word-clause-some c =
    let word = longest_word c.word_len.result c.args.rest.now (record {
      some = omega (arith, false-eqb _ 0 c.if-is_empty.ensures);
      first = starts_continues (get_or c.args.rest.now 0 0) (sym c.if-starts_word.ensures);
      within = c.word_len.ensures.within;
      all = c.word_len.ensures.all;
      stops = c.word_len.ensures.stops;
    }) (sym c.if-starts_word.ensures) in
    (c.word_len.ensures.within, word.0, word.1)

pub returns-then-is_ascii_digit-clause-some : goal.returns-then-is_ascii_digit-clause-some
returns-then-is_ascii_digit-clause-some c =
    let numeral = longest_numeral c.numeral_len.result c.args.rest.now (record {
      some = omega (arith, false-eqb _ 0 c.if-is_empty.ensures);
      first = sym c.if-is_ascii_digit.ensures.value;
      within = c.numeral_len.ensures.within;
      all = c.numeral_len.ensures.all;
      stops = c.numeral_len.ensures.stops;
    }) in
    (c.numeral_len.ensures.within, numeral.0, numeral.1)

pub returns-in-Some-clause-some : goal.returns-in-Some-clause-some
returns-in-Some-clause-some c =
    let found = c.in-Some.ensures in (
      found.within,
      longest_symbol c.in-Some.symbol c.in-Some.len c.args.rest.now found (sym c.if-starts_word.ensures)
          (sym c.if-is_ascii_digit.ensures.value),
      found.spelled,
    )

pub returns-in-None-clause-none : goal.returns-in-None-clause-none
returns-in-None-clause-none c =
    no_lexeme c.args.rest.now c.in-None.ensures (sym c.if-starts_word.ensures) (sym c.if-is_ascii_digit.ensures.value)
