use Rattle.std.proofs.Common.{arith, rules, w64, FitsSigned, Ok, Err, Result, ℤ, ℕ}
use Rattle.std.proofs.lemmas.Int.{to_z-of_z}
use Rattle.net_text.proofs.Runs.{item_cut, item_done, sign_le}
use Rattle.net_text.proofs.inputs.item.Goals as goal

pub split_at-requires-2 : goal.split_at-requires-2
split_at-requires-2 c =
    let n = c.numeral_len-digits.ensures in
    item_cut c.args.text.now c.as_bytes-bytes.result.now c.split_at.result.1.now c.sign_len-sign.result
    c.numeral_len-digits.result c.utf8.text c.as_bytes-bytes.ensures.value
    (sign_le c.as_bytes-bytes.result.now c.sign_len-sign.result c.sign_len-sign.ensures) c.split_at.ensures.back
    n.within (let h = c.if-digits-eq0.false in omega arith) n.all

pub returns-in-Ok-clause-gives : goal.returns-in-Ok-clause-gives
returns-in-Ok-clause-gives c =
    let n = c.numeral_len-digits.ensures in
    let r : Result ℤ ℕ = Ok c.in-Ok.item in
    let done =
    item_done c.args.text.now c.as_bytes-bytes.result.now c.split_at.result.1.now c.split_at-2.result.0.now
    c.split_at-2.result.1.now c.args.line c.sign_len-sign.result c.numeral_len-digits.result r
    c.as_bytes-bytes.ensures.value c.sign_len-sign.ensures c.split_at.ensures.back n.within n.all n.stops
    (let h = c.if-digits-eq0.false in omega arith) c.split_at-2.ensures.front c.split_at-2.ensures.back
    c.in-Ok.ensures.value.0 in
    let f : FitsSigned w64 c.in-Ok.item = search rules in
    rw (to_z-of_z w64 _ f) done

pub returns-in-Err-clause-gives : goal.returns-in-Err-clause-gives
returns-in-Err-clause-gives c =
    let n = c.numeral_len-digits.ensures in
    item_done c.args.text.now c.as_bytes-bytes.result.now c.split_at.result.1.now c.split_at-2.result.0.now
    c.split_at-2.result.1.now c.args.line c.sign_len-sign.result c.numeral_len-digits.result (Err c.in-Err.field-0)
    c.as_bytes-bytes.ensures.value c.sign_len-sign.ensures c.split_at.ensures.back n.within n.all n.stops
    (let h = c.if-digits-eq0.false in omega arith) c.split_at-2.ensures.front c.split_at-2.ensures.back
    c.in-Err.ensures.value.0
