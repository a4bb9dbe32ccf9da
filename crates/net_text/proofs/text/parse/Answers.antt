use Rattle.std.proofs.lemmas.Grind.{elements}
use Rattle.std.proofs.Common.{◌≡◌, Ok, List, sym, ap, subst, ◌∙◌, arith}
use Rattle.net_text.specs.Trees.{net_tree}
use Rattle.net_text.specs.Tokens.{Lexeme, lexemes, IsReading}
use Rattle.net_text.specs.Editions.{Ranged}
use Rattle.net_text.specs.Reading.{whole_text}
use Rattle.net_text.specs.Texts.{IsParseFault}
use Rattle.net_text.specs.declared.limits.TheConstants.{MAX_NESTING}
use Rattle.net_text.proofs.Texts.{whole_took, tokens_of, tokens_fault, tree_read, one_tree, no_bad_end, refused}
use Rattle.net_text.proofs.OneFault.{one_parse_fault, tree_no_fault}
use Rattle.net_text.proofs.text.parse.Goals as goal

pub returns-in-Text-clause-ok : goal.returns-in-Text-clause-ok
returns-in-Text-clause-ok c =
    let reading = c.in_ok-reading.reading in
    let read : whole_text Ranged MAX_NESTING (lexemes reading.tokens.items) ≡ Ok (net_tree c.in-Ok.net) =
    ap (λ (ts : List Lexeme). whole_text Ranged MAX_NESTING ts) (sym (c.new.ensures ∙ ap lexemes c.deref.ensures.value))
    ∙ c.in-Ok.ensures in
    record {
      small = omega arith;
      tokens = lexemes reading.tokens.items;
      read = tokens_of c.args.text.now (lexemes reading.tokens.items) reading.end c.in-Text.line
          c.in_ok-reading.ensures c.in-Text.is;
      grammar = whole_took Ranged MAX_NESTING (lexemes reading.tokens.items) (net_tree c.in-Ok.net) read;
    }

pub returns-in-Text-clause-only : goal.returns-in-Text-clause-only
returns-in-Text-clause-only c =
    let reading = c.in_ok-reading.reading in
    let read : whole_text Ranged MAX_NESTING (lexemes reading.tokens.items) ≡ Ok (net_tree c.in-Ok.net) =
    ap (λ (ts : List Lexeme). whole_text Ranged MAX_NESTING ts) (sym (c.new.ensures ∙ ap lexemes c.deref.ensures.value))
    ∙ c.in-Ok.ensures in
    λ tree is. one_tree (lexemes reading.tokens.items) (net_tree c.in-Ok.net) tree read
    (tree_read c.args.text.now tree (lexemes reading.tokens.items) reading.end is c.in_ok-reading.ensures).0

pub returns-in-Ok-clause-only : goal.returns-in-Ok-clause-only
returns-in-Ok-clause-only c =
    let reading = c.in_ok-reading.reading in
    λ tree is. absurd
    (no_bad_end reading.end c.in-Bad.fault _ c.in-Bad.is
    (tree_read c.args.text.now tree (lexemes reading.tokens.items) reading.end is c.in_ok-reading.ensures).1)

pub returns-clause-err : goal.returns-clause-err
returns-clause-err c =
    let reading = c.in_ok-reading.reading in
    let why =
    refused c.args.text.now c.new.result (lexemes reading.tokens.items) reading.end c.in-Err-Stuck.field-0
    c.in-Err-Stuck.stuck (omega arith) c.in-Err-Stuck.field-0-is c.in-Err-Stuck.ensures
    (c.new.ensures ∙ ap lexemes c.deref.ensures.value) c.in_ok-reading.ensures in
    subst (IsParseFault c.args.text.now) (sym c.fault_at.ensures) why.0

pub returns-clause-only : goal.returns-clause-only
returns-clause-only c =
    let reading = c.in_ok-reading.reading in
    let why =
    refused c.args.text.now c.new.result (lexemes reading.tokens.items) reading.end c.in-Err-Stuck.field-0
    c.in-Err-Stuck.stuck (omega arith) c.in-Err-Stuck.field-0-is c.in-Err-Stuck.ensures
    (c.new.ensures ∙ ap lexemes c.deref.ensures.value) c.in_ok-reading.ensures in
    λ tree is. absurd (why.1 tree is)

pub returns-in-Ok-clause-err : goal.returns-in-Ok-clause-err
returns-in-Ok-clause-err c =
    let reading = c.in_ok-reading.reading in
    let read : whole_text Ranged MAX_NESTING (lexemes reading.tokens.items) ≡ Ok (net_tree c.in-Ok.net) =
    ap (λ (ts : List Lexeme). whole_text Ranged MAX_NESTING ts) (sym (c.new.ensures ∙ ap lexemes c.deref.ensures.value))
    ∙ c.in-Ok.ensures in
    tokens_fault c.args.text.now (lexemes reading.tokens.items) (net_tree c.in-Ok.net) c.in-Bad.fault (omega arith)
    (subst (IsReading c.args.text.now (lexemes reading.tokens.items)) c.in-Bad.is c.in_ok-reading.ensures) read

pub returns-in-Text-clause-each : goal.returns-in-Text-clause-each
returns-in-Text-clause-each c =
    λ fault h. tree_no_fault c.args.text.now (net_tree c.in-Ok.net) fault (returns-in-Text-clause-ok c) h

pub returns-in-Ok-clause-each : goal.returns-in-Ok-clause-each
returns-in-Ok-clause-each c =
    λ fault h. one_parse_fault c.args.text.now c.in-Bad.fault (returns-in-Ok-clause-err c) fault h

pub returns-clause-each : goal.returns-clause-each
returns-clause-each c = λ fault h. one_parse_fault c.args.text.now c.fault_at.result (returns-clause-err c) fault h

pub returns-clause-ok : goal.returns-clause-ok
returns-clause-ok c = grind (arith, elements)

pub returns-in-Err-NoMemory-clause-each : goal.returns-in-Err-NoMemory-clause-each
returns-in-Err-NoMemory-clause-each c = grind (arith, elements)

pub returns-in-Err-NoMemory-clause-err : goal.returns-in-Err-NoMemory-clause-err
returns-in-Err-NoMemory-clause-err c = grind (arith, elements)

pub returns-in-Err-NoMemory-clause-ok : goal.returns-in-Err-NoMemory-clause-ok
returns-in-Err-NoMemory-clause-ok c = grind (arith, elements)

pub returns-in-Err-NoMemory-clause-only : goal.returns-in-Err-NoMemory-clause-only
returns-in-Err-NoMemory-clause-only c = grind (arith, elements)

pub returns-in-Ok-clause-ok : goal.returns-in-Ok-clause-ok
returns-in-Ok-clause-ok c = grind (arith, elements)

pub returns-in-Text-clause-err : goal.returns-in-Text-clause-err
returns-in-Text-clause-err c = grind (arith, elements)

pub returns-in_err-reading-clause-each : goal.returns-in_err-reading-clause-each
returns-in_err-reading-clause-each c = grind (arith, elements)

pub returns-in_err-reading-clause-err : goal.returns-in_err-reading-clause-err
returns-in_err-reading-clause-err c = grind (arith, elements)

pub returns-in_err-reading-clause-ok : goal.returns-in_err-reading-clause-ok
returns-in_err-reading-clause-ok c = grind (arith, elements)

pub returns-in_err-reading-clause-only : goal.returns-in_err-reading-clause-only
returns-in_err-reading-clause-only c = grind (arith, elements)

pub returns-then-text-gt-MAX_TEXT_BYTES-clause-each : goal.returns-then-text-gt-MAX_TEXT_BYTES-clause-each
returns-then-text-gt-MAX_TEXT_BYTES-clause-each c = grind (arith, elements)

pub returns-then-text-gt-MAX_TEXT_BYTES-clause-err : goal.returns-then-text-gt-MAX_TEXT_BYTES-clause-err
returns-then-text-gt-MAX_TEXT_BYTES-clause-err c = grind (arith, elements)

pub returns-then-text-gt-MAX_TEXT_BYTES-clause-ok : goal.returns-then-text-gt-MAX_TEXT_BYTES-clause-ok
returns-then-text-gt-MAX_TEXT_BYTES-clause-ok c = grind (arith, elements)

pub returns-then-text-gt-MAX_TEXT_BYTES-clause-only : goal.returns-then-text-gt-MAX_TEXT_BYTES-clause-only
returns-then-text-gt-MAX_TEXT_BYTES-clause-only c = grind (arith, elements)
