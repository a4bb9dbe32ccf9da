-- What a lawful reader makes of bytes, said of the bytes that spell a value: exactly what has its fields is read, and the
-- first offence decides.
use Rattle.std.proofs.Common.{◌≡◌, ◌≢◌, ℕ, suc, ◌<◌, ◌⊎◌, Bool, true, false, nat_eq, cond, List, [], ◌∷◌, ◌++◌, length}
use Rattle.std.proofs.Common.{Result, Ok, Err, refl, sym, ap, ◌∙◌, arith, inl, inr}
use Rattle.std.proofs.lemmas.Bool.{eqb-true, eqb-false, ne_eqb}
use Rattle.std.proofs.lemmas.List.{append-nil, nil_from_length}
use Rattle.std.proofs.lemmas.List.Elements.{All-from_recursion, recursion_from_All}
use Rattle.ckpt_codec.specs.Fields.{Field, IsAllowed, AreAllowed, number_text, text_of}
use Rattle.ckpt_codec.specs.Faults.{Place, EndsEarly, HasRuledOut, IsReadUnlessMemory, IsRefusedUnlessMemory}
use Rattle.ckpt_codec.specs.declared.fault.CodecFault.{CodecFault}
use Rattle.ckpt_codec.specs.declared.fault.CodecFault.TheVariants.{NoMemory, Truncated, Version, Malformed}
use Rattle.ckpt_codec.specs.Reading.{Found, Reader, if_all, Reads}
use Rattle.ckpt_codec.proofs.Scan.{Outcome, scan_field, scan, Agrees, AreBytes, Lawful, is_found, is_fault}
use Rattle.ckpt_codec.proofs.Scan.Outcome.{Passed, Stuck, Differs}
use Rattle.ckpt_codec.proofs.Text.{are_passed, are_stuck, field_short, field_ruled_out, Refuses, Offended}
use Rattle.ckpt_codec.proofs.Text.{field_stuck, all_passed, all_again, Stop, stop_of, stops_there}
use Rattle.ckpt_codec.proofs.Fitting.{AllAlike, stuck_alike}

-- ---- what was found

agreed : {X : Type 0} (x : X) (found : Found X) (o : Outcome) (left : List ℕ) → Agrees x found o → o ≡ Passed left
    → found ≡ Ok (x, left)
agreed x found (Passed rest) left agrees e = agrees ∙ ap (λ (r : List ℕ). Ok (x, r)) (are_passed rest left e)
agreed x found (Stuck fault) left agrees e = absurd cc
agreed x found Differs left agrees e = absurd cc

refused : {X : Type 0} (x : X) (found : Found X) (o : Outcome) (fault : CodecFault) → Agrees x found o
    → o ≡ Stuck fault → found ≡ Err fault
refused x found (Passed rest) fault agrees e = absurd cc
refused x found (Stuck other) fault agrees e = agrees ∙ ap (λ (f : CodecFault). Err f) (are_stuck other fault e)
refused x found Differs fault agrees e = absurd cc

abbrev found_value : {X : Type 0} → X × List ℕ → Found X
found_value x = Ok x

abbrev ok_of : {X : Type 0} → X → Result X CodecFault
ok_of x = Ok x

abbrev err_of : {X : Type 0} → CodecFault → Result X CodecFault
err_of fault = Err fault

all_taken : {X : Type 0} (found : Found X) (x : X) → if_all found ≡ Ok x → found ≡ Ok (x, [])
all_taken (Err fault) x e = absurd cc
all_taken {X = X} (Ok y) x e = chosen (nat_eq (length y.1) 0) (eqb-true (length y.1) 0) e
  where
    chosen : (none : Bool) → (none ≡ true → length y.1 ≡ 0) → cond none (ok_of y.0) (Err Malformed) ≡ Ok x
        → found_value y ≡ Ok (x, [])
    chosen true is e =
        let same : y.0 ≡ x = is_found {A = X} y.0 x e in
        let none : y.1 ≡ [] = nil_from_length y.1 (is refl) in
        ap (λ (r : X). found_value (r, y.1)) same ∙ ap (λ (left : List ℕ). found_value (x, left)) none
    chosen false is e = absurd cc

-- something is left
pub none_left : {X : Type 0} (x : X) (left : List ℕ) → left ≢ [] → if_all (found_value (x, left)) ≡ Err Malformed
none_left x [] more = absurd (more refl)
none_left x (b ∷ bs) more = let apart : suc (length bs) ≢ 0 = λ e. omega arith in
    rw (ne_eqb (suc (length bs)) 0 apart) refl

-- why what has to take all the bytes is refused
pub data Why {X : Type 0} (found : Found X) (fault : CodecFault) : Type 0 where
  Inside : (read : found ≡ Err fault) → Why found fault
  Behind : (x : X) (left : List ℕ) (read : found ≡ Ok (x, left)) (more : left ≢ []) (is : fault ≡ Malformed)
      → Why found fault

pub why : {X : Type 0} (found : Found X) (fault : CodecFault) → if_all found ≡ Err fault → Why found fault
why {X = X} (Err other) fault e =
    Why.Inside (ap (λ (f : CodecFault). Err f) (is_fault {A = X} other fault e))
why {X = X} (Ok x) fault e = chosen (nat_eq (length x.1) 0) (eqb-false (length x.1) 0) e
  where
    chosen : (none : Bool) → (none ≡ false → length x.1 ≢ 0) → cond none (ok_of x.0) (Err Malformed) ≡ err_of fault
        → Why (found_value x) fault
    chosen true is e = absurd cc
    chosen false is e =
        Why.Behind x.0 x.1 refl (λ none. is refl (ap (λ (l : List ℕ). length l) none))
        (sym (is_fault {A = X} Malformed fault e))

-- ---- a format

-- the bytes spell the value
pub record Spelt {X : Type 0} (Is : X → Type 0) (fields : X → List Field) (x : X) (bytes : List ℕ) : Type 0 where
  pub is : Is x
  pub allowed : AreAllowed (fields x)
  pub spelled : bytes ≡ text_of (fields x)

-- a lawful reader of values each of which has the fields of one that is so, as far as bytes can tell
pub record Format {X : Type 0} (Is : X → Type 0) (fields : X → List Field) (read : Reader X) : Type 0 where
  pub lawful : Lawful Is fields read
  pub fit : X → X
  pub fit_is : (x : X) → Is (fit x)
  pub alike : (x : X) → AllAlike (fields x) (fields (fit x))

module _ {X : Type 0} {Is : X → Type 0} {fields : X → List Field} {read : Reader X} (format : Format Is fields read)
  where
    -- a spelling with something behind it
    pub front_again : (x : X) (front rest : List ℕ) → Spelt Is fields x front → read (front ++ rest) ≡ Ok (x, rest)
    front_again x front rest s =
        agreed x (read (front ++ rest)) (scan (fields x) (front ++ rest)) rest
        (format.lawful.reads x s.is (front ++ rest))
        (ap (λ (t : List ℕ). scan (fields x) (t ++ rest)) s.spelled
        ∙ all_again (fields x) rest (recursion_from_All IsAllowed (fields x) s.allowed))

    pub whole_again : (x : X) (bytes : List ℕ) → Spelt Is fields x bytes → if_all (read bytes) ≡ Ok x
    whole_again x bytes s =
        ap (λ (b : List ℕ). if_all (read b)) (sym (append-nil bytes)) ∙ ap if_all (front_again x bytes [] s)

    -- no spelling begins another
    pub alone : (x y : X) (front rest : List ℕ) → Spelt Is fields x front → Spelt Is fields y (front ++ rest)
        → (rest ≡ []) × (y ≡ x)
    alone x y front rest one two =
        let both : (x, rest) ≡ (y, []) =
        is_found {A = X × List ℕ} (x, rest) (y, [])
        (sym (front_again x front rest one) ∙ (ap read (sym (append-nil (front ++ rest)))
        ∙ front_again y (front ++ rest) [] two)) in
        (ap (λ (z : X × List ℕ). z.1) both, sym (ap (λ (z : X × List ℕ). z.0) both))

    -- what is read is spelled
    pub front_taken : (bytes left : List ℕ) (x : X) → AreBytes bytes → read bytes ≡ Ok (x, left)
        → Spelt Is fields x (text_of (fields x)) × (bytes ≡ text_of (fields x) ++ left)
    front_taken bytes left x are e =
        let t = format.lawful.took bytes (x, left) are e in
        let p = all_passed (fields x) bytes left are t.1 in
        (record { is = t.0; allowed = All-from_recursion IsAllowed (fields x) p.0; spelled = refl }, p.1)

    pub whole_taken : (bytes : List ℕ) (x : X) → AreBytes bytes → if_all (read bytes) ≡ Ok x → Spelt Is fields x bytes
    whole_taken bytes x are e =
        let t = front_taken bytes [] x are (all_taken (read bytes) x e) in
        record { is = t.0.is; allowed = t.0.allowed; spelled = t.1 ∙ append-nil (text_of (fields x)) }

    -- why nothing is read
    stopped : (bytes : List ℕ) (fault : CodecFault) → AreBytes bytes → read bytes ≡ Err fault
        → (x : X) × Stop (fields x) bytes fault
    stopped bytes fault are e =
        let s = format.lawful.stuck bytes fault are e in
        (s.0, stop_of (fields s.0) bytes fault are s.2)

    abbrev place_of : (bytes : List ℕ) (fault : CodecFault) (x : X) → Stop (fields x) bytes fault → Place fields
    place_of bytes fault x stop = record {
      value = x;
      before = stop.before;
      next = stop.next;
      after = stop.after;
      fields = stop.is;
      allowed = All-from_recursion IsAllowed stop.before stop.allowed;
    }

    pub ends_early : (bytes : List ℕ) → AreBytes bytes → read bytes ≡ Err Truncated → EndsEarly fields bytes
    ends_early bytes are e =
        let s = stopped bytes Truncated are e in
        record {
          at = place_of bytes Truncated s.0 s.1;
          left = s.1.left;
          parts = s.1.parts;
          short = is_short s.1.next s.1.left (field_stuck s.1.next s.1.left Truncated s.1.are s.1.stuck);
        }
      where
        is_short : (field : Field) (left : List ℕ) → Offended field left Truncated → length left < field.width
        is_short field left (inl h) = h.1
        is_short field left (inr h) = let apart : Truncated ≡ Malformed = h.0 in absurd cc

    pub no_version : (bytes : List ℕ) → AreBytes bytes → read bytes ≡ Err Version → ⊥
    no_version bytes are e =
        let s = stopped bytes Version are e in
        never s.1.next s.1.left (field_stuck s.1.next s.1.left Version s.1.are s.1.stuck)
      where
        never : (field : Field) (left : List ℕ) → Offended field left Version → ⊥
        never field left (inl h) = let apart : Version ≡ Truncated = h.0 in absurd cc
        never field left (inr h) = let apart : Version ≡ Malformed = h.0 in absurd cc

    pub rules_out : (bytes : List ℕ) → AreBytes bytes → read bytes ≡ Err Malformed → HasRuledOut fields bytes
    rules_out bytes are e =
        let s = stopped bytes Malformed are e in
        let r = refusal s.1.next s.1.left (field_stuck s.1.next s.1.left Malformed s.1.are s.1.stuck) in
        record {
          at = place_of bytes Malformed s.0 s.1;
          value = r.value;
          rest = r.rest;
          parts = s.1.parts ∙ ap (λ (l : List ℕ). text_of s.1.before ++ l) r.parts;
          wide = r.wide;
          refused = r.refused;
        }
      where
        refusal : (field : Field) (left : List ℕ) → Offended field left Malformed → Refuses field left
        refusal field left (inl h) = let apart : Malformed ≡ Truncated = h.0 in absurd cc
        refusal field left (inr h) = h.1

    -- where the fields of a value are offended nothing is read
    offended_at : (bytes : List ℕ) (fault : CodecFault) → AreBytes bytes → (at : Place fields) (left : List ℕ)
        → bytes ≡ text_of at.before ++ left → scan_field at.next left ≡ Stuck fault → read bytes ≡ Err fault
    offended_at bytes fault are at left parts stuck =
        refused (format.fit at.value) (read bytes) (scan (fields (format.fit at.value)) bytes) fault
        (format.lawful.reads (format.fit at.value) (format.fit_is at.value) bytes)
        (stuck_alike (fields at.value) (fields (format.fit at.value)) bytes fault (format.alike at.value) are
        (stops_there (fields at.value) at.before at.next at.after bytes left fault at.fields
        (recursion_from_All IsAllowed at.before at.allowed) parts stuck))

    pub ends_so : (bytes : List ℕ) → AreBytes bytes → EndsEarly fields bytes → read bytes ≡ Err Truncated
    ends_so bytes are cause =
        offended_at bytes Truncated are cause.at cause.left cause.parts (field_short cause.at.next cause.left cause.short)

    pub out_so : (bytes : List ℕ) → AreBytes bytes → HasRuledOut fields bytes → read bytes ≡ Err Malformed
    out_so bytes are cause =
        offended_at bytes Malformed are cause.at (number_text cause.at.next.width cause.value ++ cause.rest) cause.parts
        (field_ruled_out cause.at.next cause.value cause.rest cause.wide cause.refused)

-- ---- what is answered

pub read_so : {X : Type 0} (r whole : Result X CodecFault) (x : X) → Reads (λ (y : X). y) r whole → whole ≡ Ok x
    → IsReadUnlessMemory x r
read_so {X = X} (Ok found) whole x read is = is_found {A = X} found x (sym read ∙ is)
read_so (Err NoMemory) whole x read is = refl
read_so (Err Truncated) whole x read is = let apart : err_of Truncated ≡ Ok x = sym read ∙ is in absurd cc
read_so (Err Version) whole x read is = let apart : err_of Version ≡ Ok x = sym read ∙ is in absurd cc
read_so (Err Malformed) whole x read is = let apart : err_of Malformed ≡ Ok x = sym read ∙ is in absurd cc

pub refused_so : {X : Type 0} (r whole : Result X CodecFault) (fault : CodecFault) → Reads (λ (y : X). y) r whole
    → (fault ≡ NoMemory) ⊎ (whole ≡ Err fault) → IsRefusedUnlessMemory fault r
refused_so {X = X} r whole fault read cause = by_result r cause read
  where
    by_fault : (other : CodecFault) → (fault ≡ NoMemory) ⊎ (whole ≡ Err fault) → whole ≡ Err other
        → (fault ≡ NoMemory) ⊎ ((other ≡ NoMemory) ⊎ (other ≡ fault))
    by_fault other (inl none) read = inl none
    by_fault other (inr e) read = inr (inr (is_fault {A = X} other fault (sym read ∙ e)))

    by_result : (r : Result X CodecFault) → (fault ≡ NoMemory) ⊎ (whole ≡ Err fault) → Reads (λ (y : X). y) r whole
        → IsRefusedUnlessMemory fault r
    by_result (Ok found) (inl none) read = none
    by_result (Ok found) (inr e) read = let apart : ok_of found ≡ Err fault = sym read ∙ e in absurd cc
    by_result (Err NoMemory) h read = inr (inl refl)
    by_result (Err Truncated) h read = by_fault Truncated h read
    by_result (Err Version) h read = by_fault Version h read
    by_result (Err Malformed) h read = by_fault Malformed h read
