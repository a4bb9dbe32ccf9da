use Rattle.std.proofs.lemmas.Grind.{elements}
use Rattle.std.proofs.Common.{arith}
use Rattle.net_text.specs.Tokens.{lexemes}
use Rattle.std.proofs.Common.{sym}
use Rattle.net_text.proofs.Texts.{tokens_read, no_bad_end}
use Rattle.net_text.proofs.text.tokens.Goals as goal

pub returns-in-Text-clause-only : goal.returns-in-Text-clause-only
returns-in-Text-clause-only c =
    λ ts small are. sym
    (tokens_read c.args.text.now ts (lexemes c.in_ok-reading.reading.tokens.items) c.in_ok-reading.reading.end are
    c.in_ok-reading.ensures).0

pub returns-clause-only : goal.returns-clause-only
returns-clause-only c =
    λ ts small are. absurd
    (no_bad_end c.in_ok-reading.reading.end c.in-Bad.fault _ c.in-Bad.is
    (tokens_read c.args.text.now ts (lexemes c.in_ok-reading.reading.tokens.items) c.in_ok-reading.reading.end are
    c.in_ok-reading.ensures).1)

pub returns-clause-err : goal.returns-clause-err
returns-clause-err c = grind (arith, elements)

pub returns-clause-ok : goal.returns-clause-ok
returns-clause-ok c = grind (arith, elements)

pub returns-in-Text-clause-err : goal.returns-in-Text-clause-err
returns-in-Text-clause-err c = grind (arith, elements)

pub returns-in-Text-clause-ok : goal.returns-in-Text-clause-ok
returns-in-Text-clause-ok c = grind (arith, elements)

pub returns-in_err-reading-clause-err : goal.returns-in_err-reading-clause-err
returns-in_err-reading-clause-err c = grind (arith, elements)

pub returns-in_err-reading-clause-ok : goal.returns-in_err-reading-clause-ok
returns-in_err-reading-clause-ok c = grind (arith, elements)

pub returns-in_err-reading-clause-only : goal.returns-in_err-reading-clause-only
returns-in_err-reading-clause-only c = grind (arith, elements)

pub returns-then-text-gt-MAX_TEXT_BYTES-clause-err : goal.returns-then-text-gt-MAX_TEXT_BYTES-clause-err
returns-then-text-gt-MAX_TEXT_BYTES-clause-err c = grind (arith, elements)

pub returns-then-text-gt-MAX_TEXT_BYTES-clause-ok : goal.returns-then-text-gt-MAX_TEXT_BYTES-clause-ok
returns-then-text-gt-MAX_TEXT_BYTES-clause-ok c = grind (arith, elements)

pub returns-then-text-gt-MAX_TEXT_BYTES-clause-only : goal.returns-then-text-gt-MAX_TEXT_BYTES-clause-only
returns-then-text-gt-MAX_TEXT_BYTES-clause-only c = grind (arith, elements)
