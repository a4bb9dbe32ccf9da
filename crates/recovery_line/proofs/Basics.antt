-- Small facts of images, records and modes.
use Rattle.std.proofs.Common.{◌≡◌, ◌⊎◌, inl, inr, ℕ, ◌<◌, ◌≤◌, Bool, true, false, Option, Some, None, refl, sym, ap}
use Rattle.std.proofs.Common.{◌∙◌, arith}
use Rattle.std.specs.Prelude.{◌≢◌}
use Rattle.std.proofs.lemmas.Bool.Decides.{eqb_tells}
use Rattle.recovery_line.specs.Images.{Image, AtMost}
use Rattle.recovery_line.specs.Records.{Tentative, Record, Holds, effective}
use Rattle.recovery_line.specs.Nodes.{Live, Mode, In_doubt, Running, current_of, live_of}

pub false_true : false ≡ true → ⊥
false_true e = cc e

pub either : (b : Bool) → (b ≡ true) ⊎ (b ≡ false)
either true = inl refl
either false = inr refl

pub same_or_other : (k a : ℕ) → (k ≡ a) ⊎ (k ≢ a)
same_or_other k a = elim (eqb_tells k a) [ inl is ↦ inl is.1 | inr differs ↦ inr differs.1 ]

pub above_or : (a b : ℕ) → (a < b) ⊎ (b ≤ a)
above_or a b = grind arith

pub at_most_itself : (i : Image) → AtMost i i
at_most_itself i = λ c. (omega arith, omega arith, omega arith)

pub at_most_next : (i j k : Image) → AtMost i j → AtMost j k → AtMost i k
at_most_next i j k first second = λ c. let one = first c in let two = second c in
    (omega arith, omega arith, omega arith)

-- options told apart, and what they contain

abbrev pub is_there : {A : Type 0} → Option A → Bool
is_there None = false
is_there (Some x) = true

abbrev pub inside : {A : Type 0} → A → Option A → A
inside other None = other
inside other (Some x) = x

pub some_not_none : {A : Type 0} {x : A} {o : Option A} → o ≡ None → o ≡ Some x → ⊥
some_not_none none some = false_true (ap is_there (sym none ∙ some))

pub one_inside : {A : Type 0} {x y : A} {o : Option A} → o ≡ Some x → o ≡ Some y → x ≡ y
one_inside {x = x} one two = ap (inside x) (sym one ∙ two)

-- an instance and its image are held once

pub same_initiator : (r : Record) (x n y m : ℕ) (i j : Image) → Holds r x n i → Holds r y m j → x ≡ y
same_initiator r x n y m i j one two = ap (λ (t : Tentative). t.initiator) (one_inside one two)

pub same_number : (r : Record) (x n y m : ℕ) (i j : Image) → Holds r x n i → Holds r y m j → n ≡ m
same_number r x n y m i j one two = ap (λ (t : Tentative). t.number) (one_inside one two)

pub same_image : (r : Record) (x n y m : ℕ) (i j : Image) → Holds r x n i → Holds r y m j → i ≡ j
same_image r x n y m i j one two = ap (λ (t : Tentative). t.image) (one_inside one two)

-- modes

pub current_is : (m : Mode) (i j : Image) (live : Option Live) → m ≡ Running i live → current_of m ≡ Some j → j ≡ i
current_is m i j live running now = one_inside now (ap current_of running)

pub live_is : (m : Mode) (i : Image) (o : Option Live) (live : Live) → m ≡ Running i o → live_of m ≡ Some live
    → o ≡ Some live
live_is m i o live running now = sym (ap live_of running) ∙ now

pub not_in_doubt : (m : Mode) (i : Image) (live : Option Live) → m ≡ Running i live → m ≢ In_doubt
not_in_doubt m i live running doubt = some_not_none (ap current_of doubt) (ap current_of running)

-- the effective image

pub effective_free : (records : ℕ → Record) (k : ℕ) → (records k).tentative ≡ None
    → effective records k ≡ (records k).permanent
effective_free records k free = rw free refl

pub effective_committed : (records : ℕ → Record) (k x n : ℕ) (i : Image) → Holds (records k) x n i
    → (records x).decided n ≡ true → effective records k ≡ i
effective_committed records k x n i held decided = rw (held, decided) refl

pub effective_open : (records : ℕ → Record) (k x n : ℕ) (i : Image) → Holds (records k) x n i
    → (records x).decided n ≡ false → effective records k ≡ (records k).permanent
effective_open records k x n i held open_yet = rw (held, open_yet) refl

-- where a node's images stay, and its instance is as decided as before, so does its effective image
pub effective_stays : (records later : ℕ → Record) (k : ℕ) → (later k).tentative ≡ (records k).tentative
    → (later k).permanent ≡ (records k).permanent
    → ((x n : ℕ) (i : Image) → Holds (records k) x n i → (later x).decided n ≡ (records x).decided n)
    → effective later k ≡ effective records k
effective_stays records later k tentative permanent decided = go (records k).tentative refl
  where
    go : (o : Option Tentative) → (records k).tentative ≡ o → effective later k ≡ effective records k
    go None free = effective_free later k (tentative ∙ free) ∙ permanent ∙ sym (effective_free records k free)
    go (Some t) held = elim (either ((records t.initiator).decided t.number)) [
      | inl now ↦ effective_committed later k t.initiator t.number t.image (tentative ∙ held)
          (decided t.initiator t.number t.image held ∙ now)
          ∙ sym (effective_committed records k t.initiator t.number t.image held now)
      | inr never ↦ effective_open later k t.initiator t.number t.image (tentative ∙ held)
          (decided t.initiator t.number t.image held ∙ never) ∙ permanent
          ∙ sym (effective_open records k t.initiator t.number t.image held never)
    ]
