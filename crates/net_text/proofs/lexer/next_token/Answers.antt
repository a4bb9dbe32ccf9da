use Rattle.std.proofs.lemmas.Grind.{elements}
use Rattle.std.proofs.Common.{◌≡◌, ◌≤◌, List, ℕ, ap, sym, ◌∙◌, subst, arith, length, take, drop, length-drop, false-eqb}
use Rattle.net_text.specs.Spellings.{IsShape, IsPastLimit}
use Rattle.net_text.proofs.Steps.{lexeme_begins, lexeme_ends, slice_is, past_limit}
use Rattle.std.proofs.lemmas.Grind.{common_steps}
use Rattle.net_text.proofs.lexer.next_token.Goals as goal

pub range-text-requires-clause-start_boundary : goal.range-text-requires-clause-start_boundary
range-text-requires-clause-start_boundary c =
    let rest : c.split_at.result.1.now ≡ drop c.after_gap-start.result.0 c.args.source.now =
    c.split_at.ensures.back ∙ ap (drop c.after_gap-start.result.0) c.as_bytes-bytes.ensures.value in
    let found = rw rest at c.in-Some.ensures.some in
    let within : c.after_gap-start.result.0 ≤ length c.args.source.now =
    rw c.as_bytes-bytes.ensures.value at c.after_gap-start.ensures.within in
    λ _. lexeme_begins c.args.source.now c.after_gap-start.result.0 c.in-Some.len within found.0 found.1.lexeme

pub range-text-requires-clause-end_boundary : goal.range-text-requires-clause-end_boundary
range-text-requires-clause-end_boundary c =
    let rest : c.split_at.result.1.now ≡ drop c.after_gap-start.result.0 c.args.source.now =
    c.split_at.ensures.back ∙ ap (drop c.after_gap-start.result.0) c.as_bytes-bytes.ensures.value in
    let found = rw rest at c.in-Some.ensures.some in
    let within : c.after_gap-start.result.0 ≤ length c.args.source.now =
    rw c.as_bytes-bytes.ensures.value at c.after_gap-start.ensures.within in
    lexeme_ends c.args.source.now c.after_gap-start.result.0 c.in-Some.len c.utf8.source within found.0 found.1.lexeme

pub kind_of-requires : goal.kind_of-requires
kind_of-requires c =
    let rest : c.split_at.result.1.now ≡ drop c.after_gap-start.result.0 c.args.source.now =
    c.split_at.ensures.back ∙ ap (drop c.after_gap-start.result.0) c.as_bytes-bytes.ensures.value in
    let text : take c.in-Some.len c.split_at.result.1.now ≡ c.range-text.result.now =
    ap (take c.in-Some.len) rest
    ∙ sym (c.range-text.ensures.value ∙ slice_is c.args.source.now c.after_gap-start.result.0 c.in-Some.len) in
    subst (IsShape c.in-Some.shape) text c.in-Some.ensures.some.2

pub returns-in-Err-clause-err : goal.returns-in-Err-clause-err
returns-in-Err-clause-err c =
    let rest : c.split_at.result.1.now ≡ drop c.after_gap-start.result.0 c.args.source.now =
    c.split_at.ensures.back ∙ ap (drop c.after_gap-start.result.0) c.as_bytes-bytes.ensures.value in
    let found = rw rest at c.in-Some.ensures.some in
    let text : c.range-text.result.now ≡ take c.in-Some.len (drop c.after_gap-start.result.0 c.args.source.now) =
    c.range-text.ensures.value ∙ slice_is c.args.source.now c.after_gap-start.result.0 c.in-Some.len in
    let some = false-eqb _ 0 c.if-is_empty.ensures in
    let len = length-drop c.after_gap-start.result.0 c.args.source.now in
    let same = ap length rest in
    let past : IsPastLimit (take c.in-Some.len (drop c.after_gap-start.result.0 c.args.source.now))
    c.after_gap-start.result.1 c.in-Err.fault =
    subst (λ (t : List ℕ). IsPastLimit t c.after_gap-start.result.1 c.in-Err.fault) text c.in-Err.ensures.err in
    past_limit c.args.source.now c.args.place c.after_gap-start.result.0 c.after_gap-start.result.1 c.in-Some.len
    c.in-Err.fault (rw c.as_bytes-bytes.ensures.value at c.after_gap-start.ensures) (omega arith) found.1 past

pub returns-in-Err-clause-ok : goal.returns-in-Err-clause-ok
returns-in-Err-clause-ok c = grind (arith, elements)

pub returns-in-Ok-clause-err : goal.returns-in-Ok-clause-err
returns-in-Ok-clause-err c = grind (arith, elements)

pub returns-in_default-clause-err : goal.returns-in_default-clause-err
returns-in_default-clause-err c = grind (arith, elements)

pub returns-in_default-clause-ok : goal.returns-in_default-clause-ok
returns-in_default-clause-ok c = grind (arith, elements)

pub returns-then-is_empty-clause-err : goal.returns-then-is_empty-clause-err
returns-then-is_empty-clause-err c = grind (arith, elements)

pub returns-then-is_empty-clause-ok : goal.returns-then-is_empty-clause-ok
returns-then-is_empty-clause-ok c = grind (arith, elements)

pub returns-in-Ok-clause-ok : goal.returns-in-Ok-clause-ok
returns-in-Ok-clause-ok c = grind (arith, common_steps)
