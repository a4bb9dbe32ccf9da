use Rattle.std.proofs.lemmas.Grind.{elements}
use Rattle.net_text.specs.InputReading.{after_name}
use Rattle.std.proofs.Common.{◌≡◌, ℕ, List, suc, length, take, drop, get_or, ap, sym, ◌∙◌, arith, add-one}
use Rattle.std.proofs.lemmas.Result.{err_from_is_err_and}
use Rattle.net_text.specs.Spellings.{continues_word}
use Rattle.net_text.proofs.Runs.{run_le, colon_cut}
use Rattle.net_text.specs.Names.{NameTree}
use Rattle.net_text.proofs.Items.{after_name_done, after_name_fails}
use Rattle.std.proofs.lemmas.Grind.{common_steps}
use Rattle.net_text.proofs.inputs.after_name.Goals as goal

pub bounds-bytes-len : goal.bounds-bytes-len
bounds-bytes-len c =
    let le = run_le continues_word c.args.text.now in
    let e = ap length c.as_bytes-bytes.ensures.value in
    let r = c.requires in
    let n = c.if-len-bytes.false in
    omega arith

pub split_at-requires-2 : goal.split_at-requires-2
split_at-requires-2 c =
    let le = run_le continues_word c.args.text.now in
    let e = ap length c.as_bytes-bytes.ensures.value in
    let r = c.requires in
    let n = c.if-len-bytes.false in
    let colon : get_or c.args.text.now c.args.len 0 ≡ 58 =
    ap (λ (bs : List ℕ). get_or bs c.args.len 0) (sym c.as_bytes-bytes.ensures.value) ∙ c.if-bytes-len-ne58.false in
    colon_cut c.args.text.now c.args.len c.utf8.text (omega arith) colon

pub returns-in_err-items : goal.returns-in_err-items
returns-in_err-items c =
    let p = err_from_is_err_and c.from_residual.result c.from_residual.ensures.1 in
    let colon : get_or c.args.text.now c.args.len 0 ≡ 58 =
    ap (λ (bs : List ℕ). get_or bs c.args.len 0) (sym c.as_bytes-bytes.ensures.value) ∙ c.if-bytes-len-ne58.false in
    let some =
    λ (e : c.args.len ≡ length c.args.text.now). c.if-len-bytes.false
    (e ∙ ap length (sym c.as_bytes-bytes.ensures.value)) in
    let rest : c.split_at-2.result.1.now ≡ drop (suc c.args.len) c.args.text.now =
    rw (← add-one) c.split_at-2.ensures.back in
    rw (p.1, p.2)
    (after_name_fails c.in_err-items.field-0.0 c.args.line c.args.len c.args.text.now c.split_at-2.result.1.now
    (let h = c.if-len-gt-MAX_NAME_BYTES.false in omega arith) some colon rest c.in_err-items.ensures)

pub returns : goal.returns
returns c =
    let colon : get_or c.args.text.now c.args.len 0 ≡ 58 =
    ap (λ (bs : List ℕ). get_or bs c.args.len 0) (sym c.as_bytes-bytes.ensures.value) ∙ c.if-bytes-len-ne58.false in
    let some =
    λ (e : c.args.len ≡ length c.args.text.now). c.if-len-bytes.false
    (e ∙ ap length (sym c.as_bytes-bytes.ensures.value)) in
    let rest : c.split_at-2.result.1.now ≡ drop (suc c.args.len) c.args.text.now =
    rw (← add-one) c.split_at-2.ensures.back in
    let text = c.in_ok-from_str.ensures.ok ∙ c.split_at.ensures.front in
    let name : c.new-name.result ≡ record { text = take c.args.len c.args.text.now; line = c.args.line } =
    c.new-name.ensures
    ∙ ap (λ (t : List ℕ). let n : NameTree = record { text = t; line = c.args.line } in n) text in
    after_name_done c.args.line c.args.len c.args.text.now c.split_at-2.result.1.now c.new-name.result
    c.in_ok-items.items.items (let h = c.if-len-gt-MAX_NAME_BYTES.false in omega arith) some colon rest
    c.in_ok-items.ensures name

pub returns-in_err-from_str : goal.returns-in_err-from_str
unfolding after_name
returns-in_err-from_str c = grind (arith, elements)

pub returns-then-len-bytes : goal.returns-then-len-bytes
unfolding after_name
returns-then-len-bytes c = grind (arith, elements)

pub split_at-requires : goal.split_at-requires
split_at-requires c = grind (arith, common_steps)
