-- What begins with a version is read as it is spelled, what is spelled is read, and the first offence decides.
use Rattle.std.proofs.Common.{◌≡◌, ◌≢◌, ℕ, suc, ◌^◌, ◌<◌, ◌≤◌, ◌⊎◌, Bool, true, false, nat_eq, nat_le, nat_lt, cond, List}
use Rattle.std.proofs.Common.{[], ◌∷◌, ◌++◌, length, Result, Ok, Err, refl, sym, ap, subst, ◌∙◌, arith, inl, inr}
use Rattle.std.specs.Prelude.{IfOk, IfErr}
use Rattle.std.proofs.lemmas.Bool.{and_parts, eqb-true, eqb-false, leb-true, ltb-true}
use Rattle.std.proofs.lemmas.List.{nil_from_length}
use Rattle.std.proofs.lemmas.List.Elements.{All-from_recursion, recursion_from_All}
use Rattle.std.proofs.lemmas.List.Concat.{flat_map-cons}
use Rattle.ckpt_codec.specs.Fields.{Field, IsAllowed, AreAllowed, number_text, field_text, text_of}
use Rattle.ckpt_codec.specs.RecordText.{version_field, version_of}
use Rattle.ckpt_codec.specs.declared.version.TheConstants.{FIRST_VERSION, VERSION}
use Rattle.ckpt_codec.specs.Faults.{Place, EndsEarly, GoesOn, in_version, HasRuledOutBehind}
use Rattle.ckpt_codec.specs.Faults.{IsOfAnotherVersion, IsVersionedFault, IsReadUnlessMemory, IsRefusedUnlessMemory}
use Rattle.ckpt_codec.specs.declared.fault.CodecFault.{CodecFault}
use Rattle.ckpt_codec.specs.declared.fault.CodecFault.TheVariants.{NoMemory, Truncated, Version, Malformed}
use Rattle.ckpt_codec.specs.Reading.{◌>>=◌, Found, Reader, if_all, version_at, versioned, Reads}
use Rattle.ckpt_codec.proofs.Scan.{AreBytes, is_fault}
use Rattle.ckpt_codec.proofs.Wholes.{Spelt, Format, front_again, whole_again, alone, front_taken, whole_taken, Why, why}
use Rattle.ckpt_codec.proofs.Wholes.{none_left, ends_early, no_version, rules_out, ends_so, out_so, read_so, refused_so}

-- ---- the version

-- the number is that of a version
abbrev pub is_version : ℕ → Bool
is_version v = (version_field v).allows v

-- the bytes begin with a version, or with another number
pub data Begins (bytes : List ℕ) : Type 0 where
  Nothing : (is : bytes ≡ []) → Begins bytes
  Other : (version : ℕ) (rest : List ℕ) (is : bytes ≡ version ∷ rest) (other : is_version version ≡ false)
      → Begins bytes
  Own : (version : ℕ) (rest : List ℕ) (is : bytes ≡ version ∷ rest) (own : is_version version ≡ true) → Begins bytes

pub begins : (bytes : List ℕ) → Begins bytes
begins [] = Begins.Nothing refl
begins (v ∷ rest) = by_test (is_version v) refl
  where
    by_test : (b : Bool) → is_version v ≡ b → Begins (v ∷ rest)
    by_test true is = Begins.Own v rest refl is
    by_test false is = Begins.Other v rest refl is

abbrev found_version : ℕ × List ℕ → Found ℕ
found_version x = Ok x

version_none : version_at [] ≡ Err Truncated
unfolding version_at
version_none = refl

version_other : (v : ℕ) (rest : List ℕ) → is_version v ≡ false → version_at (v ∷ rest) ≡ Err Version
unfolding version_at
version_other v rest other = ap (λ (b : Bool). cond b (found_version (v, rest)) (Err Version)) other

version_own : (v : ℕ) (rest : List ℕ) → is_version v ≡ true → version_at (v ∷ rest) ≡ Ok (v, rest)
unfolding version_at
version_own v rest own = ap (λ (b : Bool). cond b (found_version (v, rest)) (Err Version)) own

version_allowed : (v : ℕ) → is_version v ≡ true → IsAllowed (version_field v)
version_allowed v own =
    let parts = and_parts (nat_le FIRST_VERSION v) (nat_lt v (suc VERSION)) own in
    let small : v < suc VERSION = ltb-true v (suc VERSION) parts.1 in
    (omega (arith, small), own)

-- a version is its own byte
version_byte : (v : ℕ) → is_version v ≡ true → number_text 1 v ≡ v ∷ []
unfolding number_text
version_byte v own = by_test (nat_eq v FIRST_VERSION) (eqb-true v FIRST_VERSION) (eqb-false v FIRST_VERSION)
  where
    by_test : (b : Bool) → (b ≡ true → v ≡ FIRST_VERSION) → (b ≡ false → v ≢ FIRST_VERSION)
        → number_text 1 v ≡ v ∷ []
    by_test true is other = subst (λ (n : ℕ). number_text 1 n ≡ n ∷ []) (sym (is refl)) refl
    by_test false is other =
        let parts = and_parts (nat_le FIRST_VERSION v) (nat_lt v (suc VERSION)) own in
        let least : FIRST_VERSION ≤ v = leb-true FIRST_VERSION v parts.0 in
        let small : v < suc VERSION = ltb-true v (suc VERSION) parts.1 in
        let apart = other refl in
        let last : v ≡ VERSION = omega (arith, least, small, apart) in
        subst (λ (n : ℕ). number_text 1 n ≡ n ∷ []) (sym last) refl

version_text : (v : ℕ) (fields : List Field) → is_version v ≡ true
    → text_of (version_field v ∷ fields) ≡ v ∷ text_of fields
version_text v fields own =
    flat_map-cons field_text (version_field v) fields
    ∙ ap (λ (t : List ℕ). t ++ text_of fields) (version_byte v own)

pub own_bytes : (bytes : List ℕ) (v : ℕ) (rest : List ℕ) → AreBytes bytes → bytes ≡ v ∷ rest → AreBytes rest
own_bytes bytes v rest are e place = (subst (λ (b : List ℕ). AreBytes b) e are) (suc place)

parts_behind : (bytes : List ℕ) (v : ℕ) (rest : List ℕ) (before : List Field) (left : List ℕ) → is_version v ≡ true
    → bytes ≡ v ∷ rest → rest ≡ text_of before ++ left → bytes ≡ text_of (version_field v ∷ before) ++ left
parts_behind bytes v rest before left own begin parts =
    begin ∙ (ap (λ (r : List ℕ). v ∷ r) parts ∙ ap (λ (t : List ℕ). t ++ left) (sym (version_text v before own)))

abbrev first_or : Field → List Field → Field
first_or default [] = default
first_or default (field ∷ fields) = field

abbrev behind_first : List Field → List Field
behind_first [] = []
behind_first (field ∷ fields) = fields

-- ---- a format in versions

-- in each version the fields are those of a format behind the version; some value; and what it is to spell one
pub record Versions {X : Type 0} (Is : X → Type 0) (fields body : ℕ → X → List Field) (read : ℕ → Reader X)
    (Spells : X → List ℕ → Type 0) : Type 0 where
  pub format : (v : ℕ) → Format Is (body v) (read v)
  pub shape : (v : ℕ) (x : X) → fields v x ≡ version_field v ∷ body v x
  pub some : X
  pub spelt : (x : X) (bytes : List ℕ) → Spells x bytes → Spelt Is (fields (version_of bytes)) x bytes
  pub spells : (x : X) (bytes : List ℕ) → Spelt Is (fields (version_of bytes)) x bytes → Spells x bytes

module _ {X : Type 0} {Is : X → Type 0} {fields body : ℕ → X → List Field} {read : ℕ → Reader X}
    {Spells : X → List ℕ → Type 0} (versions : Versions Is fields body read Spells) where
  -- what is read of bytes
  whole_none : versioned read [] ≡ Err Truncated
  whole_none = ap (λ (r : Found ℕ). r >>= λ v. if_all (read v.0 v.1)) version_none

  whole_other : (v : ℕ) (rest : List ℕ) → is_version v ≡ false → versioned read (v ∷ rest) ≡ Err Version
  whole_other v rest other = ap (λ (r : Found ℕ). r >>= λ w. if_all (read w.0 w.1)) (version_other v rest other)

  whole_own : (v : ℕ) (rest : List ℕ) → is_version v ≡ true → versioned read (v ∷ rest) ≡ if_all (read v rest)
  whole_own v rest own = ap (λ (r : Found ℕ). r >>= λ w. if_all (read w.0 w.1)) (version_own v rest own)

  -- ---- a spelling

  own_of : (v : ℕ) (x : X) (bytes : List ℕ) → Spelt Is (fields v) x bytes → is_version v ≡ true
  own_of v x bytes s =
      ((recursion_from_All IsAllowed (version_field v ∷ body v x)
      (subst AreAllowed (versions.shape v x) s.allowed)).0).1

  bytes_of : (v : ℕ) (x : X) (bytes : List ℕ) → Spelt Is (fields v) x bytes → bytes ≡ v ∷ text_of (body v x)
  bytes_of v x bytes s =
      s.spelled ∙ (ap text_of (versions.shape v x) ∙ version_text v (body v x) (own_of v x bytes s))

  body_of : (v : ℕ) (x : X) (bytes : List ℕ) → Spelt Is (fields v) x bytes → Spelt Is (body v) x (text_of (body v x))
  body_of v x bytes s = record {
    is = s.is;
    allowed = All-from_recursion IsAllowed (body v x)
        (recursion_from_All IsAllowed (version_field v ∷ body v x)
        (subst AreAllowed (versions.shape v x) s.allowed)).1;
    spelled = refl;
  }

  -- what spells a value behind its version
  whole_of : (v : ℕ) (x : X) (bytes rest : List ℕ) → is_version v ≡ true → bytes ≡ v ∷ rest → Spelt Is (body v) x rest
      → Spelt Is (fields v) x bytes
  whole_of v x bytes rest own begin s = record {
    is = s.is;
    allowed = subst AreAllowed (sym (versions.shape v x))
        (All-from_recursion IsAllowed (version_field v ∷ body v x)
        (version_allowed v own, recursion_from_All IsAllowed (body v x) s.allowed));
    spelled = begin ∙ (ap (λ (r : List ℕ). v ∷ r) s.spelled
        ∙ (sym (version_text v (body v x) own) ∙ ap text_of (sym (versions.shape v x))));
  }

  -- a spelling in a version tells that version
  pub told : (v : ℕ) (x : X) (bytes : List ℕ) → Spelt Is (fields v) x bytes → Spells x bytes
  told v x bytes s =
      versions.spells x bytes
      (subst (λ (w : ℕ). Spelt Is (fields w) x bytes) (sym (ap version_of (bytes_of v x bytes s))) s)

  pub again : (x : X) (bytes : List ℕ) → Spells x bytes → versioned read bytes ≡ Ok x
  again x bytes text =
      let v = version_of bytes in
      let s = versions.spelt x bytes text in
      ap (versioned read) (bytes_of v x bytes s)
      ∙ (whole_own v (text_of (body v x)) (own_of v x bytes s)
      ∙ whole_again (versions.format v) x (text_of (body v x)) (body_of v x bytes s))

  -- no spelling begins another
  pub begins_none : (x y : X) (front rest : List ℕ) → Spells x front → Spells y (front ++ rest)
      → (rest ≡ []) × (y ≡ x)
  begins_none x y front rest one two =
      let v = version_of front in
      let w = version_of (front ++ rest) in
      let s = versions.spelt x front one in
      let t = versions.spelt y (front ++ rest) two in
      let same : v ∷ (text_of (body v x) ++ rest) ≡ w ∷ text_of (body w y) =
      ap (λ (b : List ℕ). b ++ rest) (sym (bytes_of v x front s)) ∙ bytes_of w y (front ++ rest) t in
      let one_version : w ≡ v = cc in
      let rests : text_of (body w y) ≡ text_of (body v x) ++ rest = cc in
      let other : Spelt Is (body w) y (text_of (body v x) ++ rest) =
      subst (Spelt Is (body w) y) rests (body_of w y (front ++ rest) t) in
      alone (versions.format v) x y (text_of (body v x)) rest (body_of v x front s)
      (subst (λ (u : ℕ). Spelt Is (body u) y (text_of (body v x) ++ rest)) one_version other)

  -- ---- what is read

  takes : (bytes : List ℕ) (x : X) → AreBytes bytes → Begins bytes → versioned read bytes ≡ Ok x → Spells x bytes
  takes bytes x are (Begins.Nothing none) e =
      let bad : Err Truncated ≡ Ok x = sym whole_none ∙ (ap (versioned read) (sym none) ∙ e) in
      absurd cc
  takes bytes x are (Begins.Other v rest begin other) e =
      let bad : Err Version ≡ Ok x = sym (whole_other v rest other) ∙ (ap (versioned read) (sym begin) ∙ e) in
      absurd cc
  takes bytes x are (Begins.Own v rest begin own) e =
      told v x bytes
      (whole_of v x bytes rest own begin
      (whole_taken (versions.format v) rest x (own_bytes bytes v rest are begin)
      (sym (whole_own v rest own) ∙ (ap (versioned read) (sym begin) ∙ e))))

  -- ---- the first offence

  -- a place behind the version
  abbrev behind_version : (v : ℕ) → is_version v ≡ true → Place (body v) → Place (in_version fields)
  behind_version v own at = record {
    value = record { version = v; kept = at.value };
    before = version_field v ∷ at.before;
    next = at.next;
    after = at.after;
    fields = versions.shape v at.value ∙ ap (λ (fs : List Field). version_field v ∷ fs) at.fields;
    allowed = All-from_recursion IsAllowed (version_field v ∷ at.before)
        (version_allowed v own, recursion_from_All IsAllowed at.before at.allowed);
  }

  abbrev first_place : Place (in_version fields)
  first_place = record {
    value = record { version = VERSION; kept = versions.some };
    before = [];
    next = version_field VERSION;
    after = body VERSION versions.some;
    fields = versions.shape VERSION versions.some;
    allowed = All-from_recursion IsAllowed [] tt;
  }

  -- what is read behind the version
  read_behind : (bytes : List ℕ) (v : ℕ) (rest : List ℕ) (fault : CodecFault) → bytes ≡ v ∷ rest
      → is_version v ≡ true → versioned read bytes ≡ Err fault → Why (read v rest) fault
  read_behind bytes v rest fault begin own e =
      why (read v rest) fault (sym (whole_own v rest own) ∙ (ap (versioned read) (sym begin) ∙ e))

  fault_none : (bytes : List ℕ) (fault : CodecFault) → bytes ≡ [] → versioned read bytes ≡ Err fault
      → fault ≡ Truncated
  fault_none bytes fault none e =
      sym (is_fault {A = X} Truncated fault (sym whole_none ∙ (ap (versioned read) (sym none) ∙ e)))

  fault_other : (bytes : List ℕ) (v : ℕ) (rest : List ℕ) (fault : CodecFault) → bytes ≡ v ∷ rest
      → is_version v ≡ false → versioned read bytes ≡ Err fault → fault ≡ Version
  fault_other bytes v rest fault begin other e =
      sym (is_fault {A = X} Version fault (sym (whole_other v rest other) ∙ (ap (versioned read) (sym begin) ∙ e)))

  truncated_of : (bytes : List ℕ) → AreBytes bytes → Begins bytes → versioned read bytes ≡ Err Truncated
      → EndsEarly (in_version fields) bytes
  truncated_of bytes are (Begins.Nothing none) e =
      record { at = first_place; left = []; parts = none; short = omega arith }
  truncated_of bytes are (Begins.Other v rest begin other) e =
      let apart : Truncated ≡ Version = fault_other bytes v rest Truncated begin other e in absurd cc
  truncated_of bytes are (Begins.Own v rest begin own) e = by_why (read_behind bytes v rest Truncated begin own e)
    where
      by_why : Why (read v rest) Truncated → EndsEarly (in_version fields) bytes
      by_why (Why.Behind x left was more is) = absurd cc
      by_why (Why.Inside was) =
          let s = ends_early (versions.format v) rest (own_bytes bytes v rest are begin) was in
          record {
            at = behind_version v own s.at;
            left = s.left;
            parts = parts_behind bytes v rest s.at.before s.left own begin s.parts;
            short = s.short;
          }

  other_version : (bytes : List ℕ) → AreBytes bytes → Begins bytes → versioned read bytes ≡ Err Version
      → IsOfAnotherVersion bytes
  other_version bytes are (Begins.Nothing none) e =
      let apart : Version ≡ Truncated = fault_none bytes Version none e in absurd cc
  other_version bytes are (Begins.Other v rest begin other) e =
      record { version = v; rest = rest; parts = begin; other = other }
  other_version bytes are (Begins.Own v rest begin own) e = by_why (read_behind bytes v rest Version begin own e)
    where
      by_why : Why (read v rest) Version → IsOfAnotherVersion bytes
      by_why (Why.Behind x left was more is) = absurd cc
      by_why (Why.Inside was) =
          absurd (no_version (versions.format v) rest (own_bytes bytes v rest are begin) was)

  malformed_of : (bytes : List ℕ) → AreBytes bytes → Begins bytes → versioned read bytes ≡ Err Malformed
      → HasRuledOutBehind fields bytes ⊎ GoesOn Spells bytes
  malformed_of bytes are (Begins.Nothing none) e =
      let apart : Malformed ≡ Truncated = fault_none bytes Malformed none e in absurd cc
  malformed_of bytes are (Begins.Other v rest begin other) e =
      let apart : Malformed ≡ Version = fault_other bytes v rest Malformed begin other e in absurd cc
  malformed_of bytes are (Begins.Own v rest begin own) e = by_why (read_behind bytes v rest Malformed begin own e)
    where
      by_why : Why (read v rest) Malformed → HasRuledOutBehind fields bytes ⊎ GoesOn Spells bytes
      by_why (Why.Behind x left was more is) =
          let t = front_taken (versions.format v) rest left x (own_bytes bytes v rest are begin) was in
          inr (record {
            kept = x;
            front = v ∷ text_of (body v x);
            rest = left;
            is = told v x (v ∷ text_of (body v x))
                (whole_of v x (v ∷ text_of (body v x)) (text_of (body v x)) own refl t.0);
            parts = begin ∙ ap (λ (r : List ℕ). v ∷ r) t.1;
            more = more;
          })
      by_why (Why.Inside was) =
          let s = rules_out (versions.format v) rest (own_bytes bytes v rest are begin) was in
          inl (record {
            out = record {
              at = behind_version v own s.at;
              value = s.value;
              rest = s.rest;
              parts = parts_behind bytes v rest s.at.before (number_text s.at.next.width s.value ++ s.rest) own begin
                  s.parts;
              wide = s.wide;
              refused = s.refused;
            };
            behind = λ none. absurd cc;
          })

  pub is_caused : (bytes : List ℕ) (r : Result X CodecFault) → AreBytes bytes
      → Reads (λ (x : X). x) r (versioned read bytes) → IfErr r (IsVersionedFault fields Spells bytes)
  is_caused bytes (Ok x) are e = tt
  is_caused bytes (Err NoMemory) are e = tt
  is_caused bytes (Err Truncated) are e = truncated_of bytes are (begins bytes) e
  is_caused bytes (Err Version) are e = other_version bytes are (begins bytes) e
  is_caused bytes (Err Malformed) are e = malformed_of bytes are (begins bytes) e

  -- ---- what is refused

  -- where nothing is read behind the version, nothing is of the whole
  err_behind : (bytes : List ℕ) (v : ℕ) (rest : List ℕ) (fault : CodecFault) → bytes ≡ v ∷ rest
      → is_version v ≡ true → read v rest ≡ Err fault → versioned read bytes ≡ Err fault
  err_behind bytes v rest fault begin own was =
      ap (versioned read) begin ∙ (whole_own v rest own ∙ ap if_all was)

  -- a place that has some field before it, seen behind the version
  record Lower (v : ℕ) (x : X) (field : Field) (before : List Field) (next : Field) (after : List Field) : Type 0 where
    pub first : field ≡ version_field v
    pub own : is_version v ≡ true
    pub parts : body v x ≡ before ++ next ∷ after
    pub allowed : AreAllowed before

  lower : (v : ℕ) (x : X) (field : Field) (before : List Field) (next : Field) (after : List Field)
      → fields v x ≡ (field ∷ before) ++ next ∷ after → AreAllowed (field ∷ before)
      → Lower v x field before next after
  lower v x field before next after is allowed =
      let all = recursion_from_All IsAllowed (field ∷ before) allowed in
      let whole : version_field v ∷ body v x ≡ field ∷ (before ++ next ∷ after) = sym (versions.shape v x) ∙ is in
      let same : version_field v ≡ field = ap (first_or field) whole in
      record {
        first = sym same;
        own = (subst IsAllowed (sym same) all.0).1;
        parts = ap behind_first whole;
        allowed = All-from_recursion IsAllowed before all.1;
      }

  behind_bytes : (v : ℕ) (field : Field) (before : List Field) (bytes left : List ℕ) → field ≡ version_field v
      → is_version v ≡ true → bytes ≡ text_of (field ∷ before) ++ left → bytes ≡ v ∷ (text_of before ++ left)
  behind_bytes v field before bytes left first own parts =
      parts ∙ (ap (λ (f : Field). text_of (f ∷ before) ++ left) first
      ∙ ap (λ (t : List ℕ). t ++ left) (version_text v before own))

  ends_by : (v : ℕ) (x : X) (before : List Field) (next : Field) (after : List Field) (bytes left : List ℕ)
      → AreBytes bytes → fields v x ≡ before ++ next ∷ after → AreAllowed before → bytes ≡ text_of before ++ left
      → length left < next.width → versioned read bytes ≡ Err Truncated
  ends_by v x [] next after bytes left are is allowed parts short =
      let first : version_field v ≡ next = ap (first_or next) (sym (versions.shape v x) ∙ is) in
      let few : length left < 1 = subst (λ (f : Field). length left < f.width) (sym first) short in
      ap (versioned read) (parts ∙ nil_from_length left (omega (arith, few))) ∙ whole_none
  ends_by v x (field ∷ before) next after bytes left are is allowed parts short =
      let l = lower v x field before next after is allowed in
      let begin = behind_bytes v field before bytes left l.first l.own parts in
      err_behind bytes v (text_of before ++ left) Truncated begin l.own
      (ends_so (versions.format v) (text_of before ++ left) (own_bytes bytes v (text_of before ++ left) are begin)
      (record {
        at = record {
          value = x;
          before = before;
          next = next;
          after = after;
          fields = l.parts;
          allowed = l.allowed;
        };
        left = left;
        parts = refl;
        short = short;
      }))

  out_by : (v : ℕ) (x : X) (before : List Field) (next : Field) (after : List Field) (bytes : List ℕ) (value : ℕ)
      (rest : List ℕ) → AreBytes bytes → before ≢ [] → fields v x ≡ before ++ next ∷ after → AreAllowed before
      → bytes ≡ text_of before ++ (number_text next.width value ++ rest) → value < 256 ^ next.width
      → next.allows value ≡ false → versioned read bytes ≡ Err Malformed
  out_by v x [] next after bytes value rest are behind is allowed parts wide refused = absurd (behind refl)
  out_by v x (field ∷ before) next after bytes value rest are behind is allowed parts wide refused =
      let left = number_text next.width value ++ rest in
      let l = lower v x field before next after is allowed in
      let begin = behind_bytes v field before bytes left l.first l.own parts in
      err_behind bytes v (text_of before ++ left) Malformed begin l.own
      (out_so (versions.format v) (text_of before ++ left) (own_bytes bytes v (text_of before ++ left) are begin)
      (record {
        at = record {
          value = x;
          before = before;
          next = next;
          after = after;
          fields = l.parts;
          allowed = l.allowed;
        };
        value = value;
        rest = rest;
        parts = refl;
        wide = wide;
        refused = refused;
      }))

  too_much : (x : X) (bytes front rest : List ℕ) → Spells x front → bytes ≡ front ++ rest → rest ≢ []
      → versioned read bytes ≡ Err Malformed
  too_much x bytes front rest text parts more =
      let v = version_of front in
      let s = versions.spelt x front text in
      ap (versioned read) (parts ∙ ap (λ (b : List ℕ). b ++ rest) (bytes_of v x front s))
      ∙ (whole_own v (text_of (body v x) ++ rest) (own_of v x front s)
      ∙ (ap if_all (front_again (versions.format v) x (text_of (body v x)) rest (body_of v x front s))
      ∙ none_left x rest more))

  refusal_of : (bytes : List ℕ) (fault : CodecFault) → AreBytes bytes → IsVersionedFault fields Spells bytes fault
      → (fault ≡ NoMemory) ⊎ (versioned read bytes ≡ Err fault)
  refusal_of bytes NoMemory are cause = inl refl
  refusal_of bytes Truncated are cause =
      inr (ends_by cause.at.value.version cause.at.value.kept cause.at.before cause.at.next cause.at.after bytes
      cause.left are cause.at.fields cause.at.allowed cause.parts cause.short)
  refusal_of bytes Version are cause =
      inr (ap (versioned read) cause.parts ∙ whole_other cause.version cause.rest cause.other)
  refusal_of bytes Malformed are (inl cause) =
      let at = cause.out.at in
      inr (out_by at.value.version at.value.kept at.before at.next at.after bytes cause.out.value cause.out.rest are
      cause.behind at.fields at.allowed cause.out.parts cause.out.wide cause.out.refused)
  refusal_of bytes Malformed are (inr cause) =
      inr (too_much cause.kept bytes cause.front cause.rest cause.is cause.parts cause.more)

  pub is_refused : (bytes : List ℕ) (r : Result X CodecFault) (fault : CodecFault) → AreBytes bytes
      → Reads (λ (x : X). x) r (versioned read bytes) → IsVersionedFault fields Spells bytes fault
      → IsRefusedUnlessMemory fault r
  is_refused bytes r fault are e cause =
      refused_so r (versioned read bytes) fault e (refusal_of bytes fault are cause)

  pub is_spelled : (bytes : List ℕ) (r : Result X CodecFault) → AreBytes bytes
      → Reads (λ (x : X). x) r (versioned read bytes) → IfOk r (λ x. Spells x bytes)
  is_spelled bytes (Ok x) are e = takes bytes x are (begins bytes) e
  is_spelled bytes (Err fault) are e = tt

  pub is_read : (bytes : List ℕ) (r : Result X CodecFault) (x : X) → Reads (λ (y : X). y) r (versioned read bytes)
      → Spells x bytes → IsReadUnlessMemory x r
  is_read bytes r x e text = read_so r (versioned read bytes) x e (again x bytes text)
