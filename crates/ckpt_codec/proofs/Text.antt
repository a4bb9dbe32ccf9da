-- What fields make of bytes, said of the bytes that spell them.
use Rattle.std.proofs.Common.{◌≡◌, ℕ, ◌^◌, ◌<◌, ◌⊎◌, Bool, true, false, nat_eq, cond, List, [], ◌∷◌, ◌++◌, length, Ok}
use Rattle.std.proofs.Common.{Err, refl, sym, ap, ◌∙◌, append_assoc, inl, inr}
use Rattle.std.specs.List.{AllByRecursion}
use Rattle.std.proofs.lemmas.Bool.{eqb-true, eq-eqb}
use Rattle.std.proofs.lemmas.List.Concat.{flat_map-cons}
use Rattle.ckpt_codec.specs.Fields.{Field, IsAllowed, number_text, field_text, text_of}
use Rattle.ckpt_codec.specs.declared.fault.CodecFault.{CodecFault}
use Rattle.ckpt_codec.specs.declared.fault.CodecFault.TheVariants.{Truncated, Malformed}
use Rattle.ckpt_codec.specs.Reading.{Found, number_at}
use Rattle.ckpt_codec.proofs.Scan.{Outcome, behind_it, judged, scan_field, scan, scan-append, AreBytes}
use Rattle.ckpt_codec.proofs.Scan.Outcome.{Passed, Stuck, Differs}
use Rattle.ckpt_codec.proofs.Bytes.{number_took, number_again, number_short, number_stuck}

pub are_passed : (xs ys : List ℕ) → Passed xs ≡ Passed ys → xs ≡ ys
are_passed xs ys e = cc

pub are_stuck : (f g : CodecFault) → Stuck f ≡ Stuck g → f ≡ g
are_stuck f g e = cc

-- ---- one field

abbrev found_number : ℕ × List ℕ → Found ℕ
found_number x = Ok x

judged_passed : (field : Field) (found : Found ℕ) (rest : List ℕ) → judged field found ≡ Passed rest
    → (field.allows field.value ≡ true) × (found ≡ Ok (field.value, rest))
judged_passed field (Err fault) rest e = absurd cc
judged_passed field (Ok x) rest e =
    chosen x (field.allows x.0) (nat_eq x.0 field.value) refl (eqb-true x.0 field.value) e
  where
    chosen : (x : ℕ × List ℕ) (passes same : Bool) → field.allows x.0 ≡ passes → (same ≡ true → x.0 ≡ field.value)
        → cond passes (cond same (Passed x.1) Differs) (Stuck Malformed) ≡ Passed rest
        → (field.allows field.value ≡ true) × (found_number x ≡ Ok (field.value, rest))
    chosen x true true allowed is e =
        let value : x.0 ≡ field.value = is refl in
        let left : x.1 ≡ rest = are_passed x.1 rest e in (
          ap field.allows (sym value) ∙ allowed,
          ap (λ (n : ℕ). Ok (n, x.1)) value
              ∙ ap (λ (r : List ℕ). Ok (field.value, r)) left,
        )
    chosen x true false allowed is e = absurd cc
    chosen x false same allowed is e = absurd cc

pub field_passed : (field : Field) (bytes rest : List ℕ) → AreBytes bytes → scan_field field bytes ≡ Passed rest
    → IsAllowed field × (bytes ≡ field_text field ++ rest) × AreBytes rest
field_passed field bytes rest are e =
    let j = judged_passed field (number_at field.width bytes) rest e in
    let t = number_took field.width bytes (field.value, rest) are j.1 in
    ((t.1, j.0), t.0, t.2)

judged_again : (field : Field) (n : ℕ) (rest : List ℕ) → field.allows n ≡ true → n ≡ field.value
    → judged field (Ok (n, rest)) ≡ Passed rest
judged_again field n rest allowed is = rw (allowed, eq-eqb n field.value is) refl

field_again : (field : Field) (rest : List ℕ) → IsAllowed field
    → scan_field field (field_text field ++ rest) ≡ Passed rest
field_again field rest allowed =
    ap (judged field) (number_again field.width field.value rest allowed.0)
    ∙ judged_again field field.value rest allowed.1 refl

pub field_short : (field : Field) (bytes : List ℕ) → length bytes < field.width
    → scan_field field bytes ≡ Stuck Truncated
field_short field bytes lt = ap (judged field) (number_short field.width bytes lt)

pub field_ruled_out : (field : Field) (value : ℕ) (rest : List ℕ) → value < 256 ^ field.width
    → field.allows value ≡ false
    → scan_field field (number_text field.width value ++ rest) ≡ Stuck Malformed
field_ruled_out field value rest lt refused =
    ap (judged field) (number_again field.width value rest lt) ∙ out field value rest refused
  where
    out : (field : Field) (value : ℕ) (rest : List ℕ) → field.allows value ≡ false
        → judged field (Ok (value, rest)) ≡ Stuck Malformed
    out field value rest refused = rw refused refl

-- a number that can't stand there is at the front
pub record Refuses (field : Field) (bytes : List ℕ) : Type 0 where
  pub value : ℕ
  pub rest : List ℕ
  pub parts : bytes ≡ number_text field.width value ++ rest
  pub wide : value < 256 ^ field.width
  pub refused : field.allows value ≡ false

-- why a field is offended
abbrev pub Offended : Field → List ℕ → CodecFault → Type 0
Offended field bytes fault =
    ((fault ≡ Truncated) × (length bytes < field.width)) ⊎ ((fault ≡ Malformed) × Refuses field bytes)

chosen_stuck : (field : Field) (bytes : List ℕ) (fault : CodecFault) (x : ℕ × List ℕ)
    → bytes ≡ number_text field.width x.0 ++ x.1 → x.0 < 256 ^ field.width
    → (passes same : Bool) → field.allows x.0 ≡ passes
    → cond passes (cond same (Passed x.1) Differs) (Stuck Malformed) ≡ Stuck fault → Offended field bytes fault
chosen_stuck field bytes fault x parts wide true true allowed e = absurd cc
chosen_stuck field bytes fault x parts wide true false allowed e = absurd cc
chosen_stuck field bytes fault x parts wide false same allowed e =
    inr (
      sym (are_stuck Malformed fault e),
      record
          { value = x.0; rest = x.1; parts = parts; wide = wide; refused = allowed },
    )

found_stuck : (field : Field) (bytes : List ℕ) (fault : CodecFault) → AreBytes bytes → (found : Found ℕ)
    → number_at field.width bytes ≡ found → judged field found ≡ Stuck fault
    → Offended field bytes fault
found_stuck field bytes fault are (Err other) was e =
    let s = number_stuck field.width bytes other was in
    inl (sym (are_stuck other fault e) ∙ s.0, s.1)
found_stuck field bytes fault are (Ok x) was e =
    let t = number_took field.width bytes x are was in
    chosen_stuck field bytes fault x t.0 t.1 (field.allows x.0) (nat_eq x.0 field.value) refl e

pub field_stuck : (field : Field) (bytes : List ℕ) (fault : CodecFault) → AreBytes bytes
    → scan_field field bytes ≡ Stuck fault → Offended field bytes fault
field_stuck field bytes fault are e = found_stuck field bytes fault are (number_at field.width bytes) refl e

-- ---- all of them

abbrev pub AllAllowed : List Field → Type 0
AllAllowed fields = AllByRecursion IsAllowed fields

-- what a step of the walk led to
pub data Walk (o : Outcome) (next : List ℕ → Outcome) (whole : Outcome) : Type 0 where
  Passes : (rest : List ℕ) (was : o ≡ Passed rest) (is : next rest ≡ whole) → Walk o next whole
  Halts : (fault : CodecFault) (was : o ≡ Stuck fault) (is : whole ≡ Stuck fault) → Walk o next whole
  Parts : (is : whole ≡ Differs) → Walk o next whole

pub walk_of : (o : Outcome) (next : List ℕ → Outcome) (whole : Outcome) → behind_it o next ≡ whole → Walk o next whole
walk_of (Passed rest) next whole e = Walk.Passes rest refl e
walk_of (Stuck fault) next whole e = Walk.Halts fault refl (sym e)
walk_of Differs next whole e = Walk.Parts (sym e)

pub all_passed : (fields : List Field) (bytes rest : List ℕ) → AreBytes bytes → scan fields bytes ≡ Passed rest
    → AllAllowed fields × (bytes ≡ text_of fields ++ rest)
all_passed [] bytes rest are e = (tt, are_passed bytes rest e)
all_passed (field ∷ fields) bytes rest are e =
    by_walk (λ left left_are is. all_passed fields left rest left_are is)
    (walk_of (scan_field field bytes) (scan fields) (Passed rest) e)
  where
    by_walk : ((left : List ℕ) → AreBytes left → scan fields left ≡ Passed rest
        → AllAllowed fields × (left ≡ text_of fields ++ rest))
        → Walk (scan_field field bytes) (scan fields) (Passed rest)
        → AllAllowed (field ∷ fields) × (bytes ≡ text_of (field ∷ fields) ++ rest)
    by_walk others (Walk.Passes left was is) =
        let f = field_passed field bytes left are was in
        let a = others left f.2 is in (
          (f.0, a.0),
          f.1 ∙ (ap (λ (r : List ℕ). field_text field ++ r) a.1
              ∙ (sym (append_assoc (field_text field) (text_of fields) rest)
              ∙ ap (λ (r : List ℕ). r ++ rest) (sym (flat_map-cons field_text field fields)))),
        )
    by_walk others (Walk.Halts fault was is) = absurd cc
    by_walk others (Walk.Parts is) = absurd cc

-- the text of a field and of those behind it, with what follows
text_cons : (field : Field) (fields : List Field) (rest : List ℕ)
    → text_of (field ∷ fields) ++ rest ≡ field_text field ++ (text_of fields ++ rest)
text_cons field fields rest =
    ap (λ (t : List ℕ). t ++ rest) (flat_map-cons field_text field fields)
    ∙ append_assoc (field_text field) (text_of fields) rest

pub all_again : (fields : List Field) (rest : List ℕ) → AllAllowed fields
    → scan fields (text_of fields ++ rest) ≡ Passed rest
all_again [] rest allowed = refl
all_again (field ∷ fields) rest allowed =
    ap (scan (field ∷ fields)) (text_cons field fields rest)
    ∙ (ap (λ (o : Outcome). behind_it o (scan fields)) (field_again field (text_of fields ++ rest) allowed.0)
    ∙ all_again fields rest allowed.1)

-- the first offence from the left
pub record Stop (fields : List Field) (bytes : List ℕ) (fault : CodecFault) : Type 0 where
  pub before : List Field
  pub next : Field
  pub after : List Field
  pub is : fields ≡ before ++ next ∷ after
  pub allowed : AllAllowed before
  pub left : List ℕ
  pub parts : bytes ≡ text_of before ++ left
  pub are : AreBytes left
  pub stuck : scan_field next left ≡ Stuck fault

pub stop_of : (fields : List Field) (bytes : List ℕ) (fault : CodecFault) → AreBytes bytes
    → scan fields bytes ≡ Stuck fault → Stop fields bytes fault
stop_of [] bytes fault are e = absurd cc
stop_of (field ∷ fields) bytes fault are e =
    by_walk (λ rest rest_are is. stop_of fields rest fault rest_are is)
    (walk_of (scan_field field bytes) (scan fields) (Stuck fault) e)
  where
    by_walk : ((rest : List ℕ) → AreBytes rest → scan fields rest ≡ Stuck fault → Stop fields rest fault)
        → Walk (scan_field field bytes) (scan fields) (Stuck fault) → Stop (field ∷ fields) bytes fault
    by_walk others (Walk.Passes rest was is) =
        let f = field_passed field bytes rest are was in
        let s = others rest f.2 is in
        record {
          before = field ∷ s.before;
          next = s.next;
          after = s.after;
          is = ap (λ (fs : List Field). field ∷ fs) s.is;
          allowed = (f.0, s.allowed);
          left = s.left;
          parts = f.1 ∙ (ap (λ (r : List ℕ). field_text field ++ r) s.parts ∙ sym (text_cons field s.before s.left));
          are = s.are;
          stuck = s.stuck;
        }
    by_walk others (Walk.Halts other was is) =
        record {
          before = [];
          next = field;
          after = fields;
          is = refl;
          allowed = tt;
          left = bytes;
          parts = refl;
          are = are;
          stuck = was ∙ sym is;
        }
    by_walk others (Walk.Parts is) = absurd cc

-- the fields before it pass, and it is offended
pub stops_there : (fields before : List Field) (next : Field) (after : List Field) (bytes left : List ℕ)
    (fault : CodecFault) → fields ≡ before ++ next ∷ after → AllAllowed before
    → bytes ≡ text_of before ++ left → scan_field next left ≡ Stuck fault → scan fields bytes ≡ Stuck fault
stops_there fields before next after bytes left fault is allowed parts stuck =
    ap (λ (fs : List Field). scan fs bytes) is
    ∙ (ap (scan (before ++ next ∷ after)) parts
    ∙ (scan-append before (next ∷ after) (text_of before ++ left)
    ∙ (ap (λ (o : Outcome). behind_it o (scan (next ∷ after))) (all_again before left allowed)
    ∙ ap (λ (o : Outcome). behind_it o (scan after)) stuck)))
