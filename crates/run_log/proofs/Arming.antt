-- The first crash that is armed for a delivery, where one more is armed.
use Rattle.std.proofs.Common.{◌≡◌, ◌∙◌, ℕ, Bool, true, false, cond, if◌then◌else◌, List, [], ◌∷◌, ◌++◌, Option, Some, None, is_some, refl, sym, ap}
use Rattle.std.specs.HashMap.{HashMap, get}
use Rattle.std.proofs.lemmas.Bool.{and_parts, eqb-true}
use Rattle.replay.specs.Armed.{first_crash, is_for}
use Rattle.replay.specs.declared.kept.ArmedCrash.{ArmedCrash}
use Rattle.run_log.specs.declared.armed_crashes.Delivery.{Delivery}
use Rattle.run_log.specs.Firsts.{HasFirsts, delivery_of, is_same}

-- what was found, or else this one if it is for the delivery
abbrev or_this : Option ArmedCrash → Bool → ArmedCrash → Option ArmedCrash
or_this (Some found) is crash = Some found
or_this None is crash = if is then Some crash else None

first_more : (crashes : List ArmedCrash) (crash : ArmedCrash) (node number : ℕ)
    → first_crash node number (crashes ++ crash ∷ [])
    ≡ or_this (first_crash node number crashes) (is_for node number crash) crash
first_more [] crash node number = refl
first_more (one ∷ crashes) crash node number = at (is_for node number one) (first_more crashes crash node number)
  where
    at : (is : Bool)
        → first_crash node number (crashes ++ crash ∷ [])
        ≡ or_this (first_crash node number crashes) (is_for node number crash) crash
        → (if is then Some one else first_crash node number (crashes ++ crash ∷ []))
        ≡ or_this (if is then Some one else first_crash node number crashes) (is_for node number crash) crash
    at true more = refl
    at false more = more

not_this : (found : Option ArmedCrash) (crash : ArmedCrash) → found ≡ or_this found false crash
not_this (Some found) crash = refl
not_this None crash = refl

found_before : (found : Option ArmedCrash) (crash : ArmedCrash) → is_some found ≡ true → found ≡ or_this found true crash
found_before (Some found) crash is = refl
found_before None crash is = absurd (cc)

this_one : (found : Option ArmedCrash) (crash : ArmedCrash) → is_some found ≡ false → Some crash ≡ or_this found true crash
this_one (Some found) crash is = absurd (cc)
this_one None crash is = refl

-- of a delivery for which one is armed already
pub still_first : {S : Type 0} (crashes : List ArmedCrash) (firsts : HashMap Delivery ArmedCrash S) (crash : ArmedCrash)
    → is_some (get is_same firsts (delivery_of crash.node crash.delivery)) ≡ true
    → HasFirsts crashes firsts → HasFirsts (crashes ++ crash ∷ []) firsts
still_first crashes firsts crash there has node number =
    has node number
    ∙ (by (is_for node number crash) refl ∙ sym (first_more crashes crash node number))
  where
    by : (is : Bool) → is_for node number crash ≡ is
        → first_crash node number crashes ≡ or_this (first_crash node number crashes) is crash
    by true same =
        let parts = and_parts _ _ same in
        found_before (first_crash node number crashes) crash
        (ap (λ (found : Option ArmedCrash). is_some found)
        (sym (has node number)
        ∙ (ap (λ (k : ℕ). get is_same firsts (delivery_of k number)) (sym (eqb-true crash.node node parts.0))
        ∙ ap (λ (k : ℕ). get is_same firsts (delivery_of crash.node k)) (sym (eqb-true crash.delivery number parts.1))))
        ∙ there)
    by false other = not_this (first_crash node number crashes) crash

-- of one for which none is
pub now_first : {S : Type 0} (crashes : List ArmedCrash) (before later : HashMap Delivery ArmedCrash S) (crash : ArmedCrash)
    → is_some (get is_same before (delivery_of crash.node crash.delivery)) ≡ false
    → ((q : Delivery) → get is_same later q
    ≡ cond (is_same (delivery_of crash.node crash.delivery) q) (Some crash) (get is_same before q))
    → HasFirsts crashes before → HasFirsts (crashes ++ crash ∷ []) later
now_first crashes before later crash none updates has node number =
    updates (delivery_of node number)
    ∙ (by (is_same (delivery_of crash.node crash.delivery) (delivery_of node number)) refl
    ∙ sym (first_more crashes crash node number))
  where
    by : (is : Bool) → is_for node number crash ≡ is
        → cond is (Some crash) (get is_same before (delivery_of node number))
        ≡ or_this (first_crash node number crashes) is crash
    by true same =
        let parts = and_parts _ _ same in
        this_one (first_crash node number crashes) crash
        (ap (λ (found : Option ArmedCrash). is_some found)
        (sym (has node number)
        ∙ (ap (λ (k : ℕ). get is_same before (delivery_of k number)) (sym (eqb-true crash.node node parts.0))
        ∙ ap (λ (k : ℕ). get is_same before (delivery_of crash.node k)) (sym (eqb-true crash.delivery number parts.1))))
        ∙ none)
    by false other = has node number ∙ not_this (first_crash node number crashes) crash
