use Rattle.std.proofs.Common.{ℤ, Result, Err, Ok, sym, ◌∙◌, ap, subst, w64, FitsSigned, rules}
use Rattle.std.specs.Fmt.{signed_decimal}
use Rattle.std.specs.Str.{IsUtf8}
use Rattle.std.specs.Cmp.Lexicographic.{other_text}
use Rattle.std.proofs.lemmas.Int.{to_z-of_z}
use Rattle.std.proofs.lemmas.Str.{IsUtf8-from_ascii}
use Rattle.std.proofs.lemmas.Fmt.{IsAscii-signed, parse-signed_decimal}
use Rattle.output_file.proofs.Lining.{ok_is}
use Rattle.output_file.proofs.reading.item_of.Goals as goal

pub returns-in_default-clause-none : goal.returns-in_default-clause-none
returns-in_default-clause-none c = λ item fits is.
    c.in_default.ensures.cases.0 (subst IsUtf8 (sym is) (IsUtf8-from_ascii _ (IsAscii-signed item fits.sfits)))

pub returns-in_default-parse-clause-none : goal.returns-in_default-parse-clause-none
returns-in_default-parse-clause-none c = λ item fits is.
    let read = parse-signed_decimal w64 item c.in-Ok.text.now (Err c.in_default-parse.field-0) fits fits.sfits
    (c.in-Ok.ensures.cases.0 ∙ is) c.in_default-parse.ensures.value.0 in
    absurd (cc)

pub returns-else-eq-clause-none : goal.returns-else-eq-clause-none
returns-else-eq-clause-none c = λ item fits is.
    let found : Result ℤ ℤ = Ok c.in-Ok-parse.item in
    let read = parse-signed_decimal w64 item c.in-Ok.text.now found fits fits.sfits
    (c.in-Ok.ensures.cases.0 ∙ is) c.in-Ok-parse.ensures.value.0 in
    let f : FitsSigned w64 c.in-Ok-parse.item = search rules in
    other_text c.as_bytes.result.now c.args.line.now c.if-eq.ensures
    (c.as_bytes.ensures.value ∙ c.format.ensures.text ∙ ap signed_decimal (to_z-of_z w64 _ f)
    ∙ ap signed_decimal (ok_is c.in-Ok-parse.item item read) ∙ sym is)
