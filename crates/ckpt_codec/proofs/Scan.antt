-- What fields make of bytes: they are passed, or the bytes offend them, or the bytes are those of another value.
use Rattle.std.proofs.Common.{◌≡◌, ℕ, ◌+◌, ◌^◌, ◌<◌, nat_lt, length, slice_index, drop, Bool, true, false, nat_eq, cond}
use Rattle.std.proofs.Common.{List, [], ◌∷◌, ◌++◌, Result, Ok, Err, refl, sym, ap, subst, ◌∙◌}
use Rattle.std.proofs.lemmas.Bool.{eqb-true, eq-eqb}
use Rattle.std.proofs.lemmas.List.{get_or-drop}
use Rattle.byteorder.specs.Endian.{big_number}
use Rattle.byteorder.specs.Numbers.{big_from-lt}
use Rattle.ckpt_codec.specs.Fields.{Field}
use Rattle.ckpt_codec.specs.declared.fault.CodecFault.{CodecFault}
use Rattle.ckpt_codec.specs.declared.fault.CodecFault.TheVariants.{Truncated, Malformed}
use Rattle.ckpt_codec.specs.Reading.{Found, Reader, number_at, if_passes, field_at}

pub data Outcome : Type 0 where
  Passed : (rest : List ℕ) → Outcome
  Stuck : (fault : CodecFault) → Outcome
  Differs : Outcome

abbrev pub behind_it : Outcome → (List ℕ → Outcome) → Outcome
behind_it (Passed rest) f = f rest
behind_it (Stuck fault) f = Stuck fault
behind_it Differs f = Differs

-- a field against the number that was read
abbrev pub judged : Field → Found ℕ → Outcome
judged field (Ok x) = cond (field.allows x.0) (cond (nat_eq x.0 field.value) (Passed x.1) Differs) (Stuck Malformed)
judged field (Err fault) = Stuck fault

abbrev pub scan_field : Field → List ℕ → Outcome
scan_field field bytes = judged field (number_at field.width bytes)

abbrev pub scan : List Field → List ℕ → Outcome
scan [] bytes = Passed bytes
scan (field ∷ fields) bytes = behind_it (scan_field field bytes) (scan fields)

pub scan-append : (fields others : List Field) (bytes : List ℕ)
    → scan (fields ++ others) bytes ≡ behind_it (scan fields bytes) (scan others)
scan-append [] others bytes = refl
scan-append (field ∷ fields) others bytes = carried (scan_field field bytes) (scan-append fields others)
  where
    carried : (o : Outcome)
        → ((rest : List ℕ) → scan (fields ++ others) rest ≡ behind_it (scan fields rest) (scan others))
        → behind_it o (scan (fields ++ others)) ≡ behind_it (behind_it o (scan fields)) (scan others)
    carried (Passed rest) h = h rest
    carried (Stuck fault) h = refl
    carried Differs h = refl

-- what was found is this, where the fields are passed, and nothing, where the bytes offend them
abbrev pub Agrees : {A : Type 0} → A → Found A → Outcome → Type 0
Agrees a found (Passed rest) = found ≡ Ok (a, rest)
Agrees a found (Stuck fault) = found ≡ Err fault
Agrees a found Differs = Unit {0}

-- each of them is a byte
abbrev pub AreBytes : List ℕ → Type 0
AreBytes bytes = (place : ℕ) → slice_index bytes place < 256

-- the reader reads what has these fields, of the values that are so
pub record Lawful {A : Type 0} (Is : A → Type 0) (fields : A → List Field) (read : Reader A) : Type 0 where
  pub reads : (a : A) → Is a → (bytes : List ℕ) → Agrees a (read bytes) (scan (fields a) bytes)
  pub took : (bytes : List ℕ) (x : A × List ℕ) → AreBytes bytes → read bytes ≡ Ok x
      → Is x.0 × (scan (fields x.0) bytes ≡ Passed x.1) × AreBytes x.1
  pub stuck : (bytes : List ℕ) (fault : CodecFault) → AreBytes bytes → read bytes ≡ Err fault
      → (a : A) × Is a × (scan (fields a) bytes ≡ Stuck fault)

-- every value
abbrev pub Each : {A : Type 0} → A → Type 0
Each a = Unit {0}

-- ---- constructors are apart

abbrev ok : {A : Type 0} → A → Result A CodecFault
ok a = Ok a

abbrev err : {A : Type 0} → CodecFault → Result A CodecFault
err fault = Err fault

pub is_found : {A : Type 0} (x y : A) → ok x ≡ ok y → x ≡ y
is_found x y e = cc

pub is_fault : {A : Type 0} (f g : CodecFault) → err {A = A} f ≡ err g → f ≡ g
is_fault f g e = cc

-- ---- one field

one_reads : (allows : ℕ → Bool) (width a : ℕ) (found : Found ℕ)
    → Agrees a (if_passes allows found)
    (behind_it (judged (record { width = width; allows = allows; value = a }) found) (scan []))
one_reads allows width a (Err fault) = refl
one_reads allows width a (Ok x) = chosen x a (allows x.0) (nat_eq x.0 a) (eqb-true x.0 a)
  where
    chosen : (x : ℕ × List ℕ) (a : ℕ) (passes same : Bool) → (same ≡ true → x.0 ≡ a)
        → Agrees a (cond passes (ok x) (Err Malformed))
        (behind_it (cond passes (cond same (Passed x.1) Differs) (Stuck Malformed)) (scan []))
    chosen x a true true is = ap (λ (n : ℕ). ok (n, x.1)) (is refl)
    chosen x a true false is = tt
    chosen x a false same is = refl

pub one_took : (allows : ℕ → Bool) (width : ℕ) (found : Found ℕ) (x : ℕ × List ℕ) → if_passes allows found ≡ Ok x
    → (allows x.0 ≡ true)
    × (behind_it (judged (record { width = width; allows = allows; value = x.0 }) found) (scan []) ≡ Passed x.1)
    × (found ≡ Ok x)
one_took allows width (Err fault) x e = absurd cc
one_took allows width (Ok y) x e =
    let c = chosen y (allows y.0) e in
    let same : y ≡ x = is_found y x c.1 in
    let passes : allows x.0 ≡ true = sym (ap (λ (z : ℕ × List ℕ). allows z.0) same) ∙ c.0 in (
      passes,
      ap (λ (z : ℕ × List ℕ). behind_it (judged (record { width = width; allows = allows; value = x.0 }) (Ok z))
          (scan [])) same
          ∙ both_true x (allows x.0) (nat_eq x.0 x.0) passes (eq-eqb x.0 x.0 refl),
      c.1,
    )
  where
    chosen : (y : ℕ × List ℕ) (passes : Bool) → cond passes (ok y) (Err Malformed) ≡ Ok x
        → (passes ≡ true) × (ok y ≡ ok x)
    chosen y true e = (refl, e)
    chosen y false e = absurd cc

    both_true : (x : ℕ × List ℕ) (passes same : Bool) → passes ≡ true → same ≡ true
        → behind_it (cond passes (cond same (Passed x.1) Differs) (Stuck Malformed)) (scan []) ≡ Passed x.1
    both_true x true true p s = refl
    both_true x true false p s = absurd cc
    both_true x false same p s = absurd cc

one_stuck : (allows : ℕ → Bool) (width a : ℕ) (found : Found ℕ) (fault : CodecFault)
    → if_passes allows found ≡ Err fault
    → behind_it (judged (record { width = width; allows = allows; value = a }) found) (scan []) ≡ Stuck fault
one_stuck allows width a (Err other) fault e =
    ap (λ (f : CodecFault). Stuck f) (is_fault {A = ℕ × List ℕ} other fault e)
one_stuck allows width a (Ok x) fault e = chosen (allows x.0) (cond (nat_eq x.0 a) (Passed x.1) Differs) e
  where
    chosen : (passes : Bool) (o : Outcome) → cond passes (ok x) (Err Malformed) ≡ Err fault
        → behind_it (cond passes o (Stuck Malformed)) (scan []) ≡ Stuck fault
    chosen true o e = absurd cc
    chosen false o e = ap (λ (f : CodecFault). Stuck f) (is_fault {A = ℕ × List ℕ} Malformed fault e)

pub rest_bytes : (n : ℕ) (bytes : List ℕ) → AreBytes bytes → AreBytes (drop n bytes)
rest_bytes n bytes are place = rw get_or-drop (are (n + place))

-- what was read of bytes is a number of so many of them, and bytes are left
number_bytes : (width : ℕ) (bytes : List ℕ) (x : ℕ × List ℕ) → AreBytes bytes → number_at width bytes ≡ Ok x
    → (x.0 < 256 ^ width) × AreBytes x.1
unfolding number_at
number_bytes width bytes x are e = chosen (nat_lt (length bytes) width) e
  where
    chosen : (short : Bool) → cond short (Err Truncated) (ok (big_number width bytes, drop width bytes)) ≡ Ok x
        → (x.0 < 256 ^ width) × AreBytes x.1
    chosen true e = absurd cc
    chosen false e =
        let same : (big_number width bytes, drop width bytes) ≡ x =
        is_found {A = ℕ × List ℕ} (big_number width bytes, drop width bytes) x e in
        subst (λ (z : ℕ × List ℕ). (z.0 < 256 ^ width) × AreBytes z.1) same
        (big_from-lt 0 width bytes are, rest_bytes width bytes are)

-- a field of this width with this test, whose numbers are so
pub field_lawful : (Is : ℕ → Type 0) (field : ℕ → Field) (width : ℕ) (allows : ℕ → Bool)
    → ((n : ℕ) → record { width = width; allows = allows; value = n } ≡ field n)
    → ((n : ℕ) → n < 256 ^ width → allows n ≡ true → Is n) → (some : ℕ) → Is some
    → Lawful Is (λ n. field n ∷ []) (field_at width allows)
field_lawful Is field width allows same is some is_some = record {
  reads = λ a fits bytes. subst_field (λ (f : Field). Agrees a (field_at width allows bytes) (scan (f ∷ []) bytes)) a
      (one_reads allows width a (number_at width bytes));
  took = λ bytes x are e.
      let t = one_took allows width (number_at width bytes) x e in
      let b = number_bytes width bytes x are t.2 in
      (is x.0 b.0 t.0, subst_field (λ (f : Field). scan (f ∷ []) bytes ≡ Passed x.1) x.0 t.1, b.1);
  stuck = λ bytes fault are e. (
    some,
    is_some,
    subst_field (λ (f : Field). scan (f ∷ []) bytes ≡ Stuck fault) some
        (one_stuck allows width some (number_at width bytes) fault e),
  );
}
  where
    subst_field : (P : Field → Type 0) (n : ℕ) → P (record { width = width; allows = allows; value = n }) → P (field n)
    subst_field P n p = subst P (same n) p
