-- What an image needs is what the abstract machine asks for it.
use Rattle.std.proofs.Common.{◌≡◌, inl, inr, ℕ, zero, suc, ◌+◌, ◌<◌, ◌≤◌, Bool, true, false, List, [], ◌∷◌}
use Rattle.std.proofs.Common.{length, map, Option, Some, None, refl, sym, ap, ◌∙◌, arith}
use Rattle.std.specs.Prelude.{nat_lt, slice_get}
use Rattle.std.proofs.lemmas.Bool.{ltb-true, lt-ltb}
use Rattle.protocol.specs.Node.Common.{Network, IsValid, received_of, ImageView, is_needed, need_on, question_on}
use Rattle.protocol.specs.Node.Common.{is_incoming, numbers_where}
use Rattle.recovery_line.proofs.Basics.{above_or, same_or_other, some_not_none}
use Rattle.protocol.specs.World.Common.{IsCross, Answer, Awaited, has_node, image_seen, need_of, question_seen}
use Rattle.protocol.specs.World.Common.{questions_seen, net_seen}
use Rattle.recovery_line.specs.Nodes.{AsksNeeds}
use Rattle.recovery_line.specs.Packets.{AreNeeds}
use Rattle.protocol.specs.Node.Needs.{needs_of, each_from, questions_of}
use Rattle.protocol_laws.specs.Join.Crossings.{both_true, true_both, comes_cross, cross_comes, cross_within}

-- ---- numbers that pass a test, and what stands at their places

-- a number below all that are gone through isn't among them
none_below : (test : ℕ → Bool) (p first count : ℕ) → p < first → has_node p (numbers_where test first count) ≡ false
none_below test p first zero past = refl
none_below test p first (suc count) past =
    let rest = none_below test p (suc first) count (omega arith) in
    grind arith

-- a number stands among those that pass exactly where it passes and was gone through
pub has_where : (test : ℕ → Bool) (p first count : ℕ) → first ≤ p → p < first + count
    → has_node p (numbers_where test first count) ≡ test p
has_where test p first zero low high = absurd (omega (arith, low, high))
has_where test p first (suc count) low high = elim (same_or_other first p) [
  | inl same ↦ let none = none_below test p (suc first) count (omega arith) in grind arith
  | inr apart ↦ let rest = has_where test p (suc first) count (omega arith) (omega arith) in grind arith
]

pub has_where_below : (test : ℕ → Bool) (p first count : ℕ) → has_node p (numbers_where test first count) ≡ true
    → (test p ≡ true) × (first ≤ p) × (p < first + count)
has_where_below test p first zero is = absurd (cc)
has_where_below test p first (suc count) is = grind (arith, has_where_below test p (suc first) count)

pub each_there : {A : Type 0} (value : ℕ → A) (first count j : ℕ) → j < count
    → slice_get (each_from value first count) j ≡ Some (value (first + j))
each_there value first zero j within = absurd (omega (arith, within))
each_there value first (suc count) zero within = cc (let e : first ≡ first + 0 = omega arith in e)
each_there value first (suc count) (suc j) within =
    let same : suc first + j ≡ first + suc j = omega arith in
    rw (each_there value (suc first) count j (omega arith), same) refl

pub each_past : {A : Type 0} (value : ℕ → A) (first count j : ℕ) → count ≤ j
    → slice_get (each_from value first count) j ≡ None
each_past value first zero j past = refl
each_past value first (suc count) zero past = absurd (omega (arith, past))
each_past value first (suc count) (suc j) past = each_past value (suc first) count j (omega (arith, past))

pub each_length : {A : Type 0} (value : ℕ → A) (first count : ℕ) → length (each_from value first count) ≡ count
each_length value first zero = refl
each_length value first (suc count) = ap suc (each_length value (suc first) count)

-- of needs by channel, how many items of one are needed
abbrev on_if : Bool → ℕ → Option ℕ
on_if false count = None
on_if true count = Some count

on_so : (b : Bool) (count m : ℕ) → on_if b count ≡ Some m → (b ≡ true) × (m ≡ count)
on_so true count m is = (refl, cc)
on_so false count m is = absurd (cc)

need_is : (image : ImageView) (c : ℕ) (numbers : List ℕ)
    → need_of (map (need_on image) numbers) c ≡ on_if (has_node c numbers) (received_of image c)
need_is image c [] = refl
need_is image c (first ∷ numbers) = grind (arith, need_is image c numbers)

-- ---- the needs of an image

module _ (net : Network) (home : ℕ) (valid : IsValid net) (permanent image : ImageView) where
  needed_where : (c p : ℕ) → IsCross (net_seen net) c p home → received_of permanent c < received_of image c
      → is_needed net home permanent image c ≡ true
  needed_where c p cross above =
      true_both (is_incoming net home c) (nat_lt (received_of permanent c) (received_of image c))
      (cross_comes net home c p cross) (lt-ltb (received_of permanent c) (received_of image c) above)

  pub needed_cross : (c : ℕ) → is_needed net home permanent image c ≡ true → (p : ℕ) × IsCross (net_seen net) c p home
  needed_cross c is =
      comes_cross net home c valid
      (both_true (is_incoming net home c) (nat_lt (received_of permanent c) (received_of image c)) is).0

  pub needed_above : (c : ℕ) → is_needed net home permanent image c ≡ true
      → received_of permanent c < received_of image c
  needed_above c is =
      ltb-true (received_of permanent c) (received_of image c)
      (both_true (is_incoming net home c) (nat_lt (received_of permanent c) (received_of image c)) is).1

  need_at : (c : ℕ) → need_of (needs_of net home permanent image) c
      ≡ on_if (has_node c (numbers_where (is_needed net home permanent image) 0 (length net.channels)))
      (received_of image c)
  need_at c = need_is image c (numbers_where (is_needed net home permanent image) 0 (length net.channels))

  pub are_needs : AreNeeds (net_seen net) home (image_seen permanent) (image_seen image)
      (need_of (needs_of net home permanent image))
  are_needs = record { each = each; only = only }
    where
      each : (c r : ℕ) → IsCross (net_seen net) c r home → received_of permanent c < received_of image c
          → need_of (needs_of net home permanent image) c ≡ Some (received_of image c)
      each c r cross above =
          let within = cross_within net c r home cross in
          let has = has_where (is_needed net home permanent image) c 0 (length net.channels) (omega arith) (omega arith) in
          rw (need_at c, has, needed_where c r cross above) refl

      only : (c m : ℕ) → need_of (needs_of net home permanent image) c ≡ Some m
          → (r : ℕ) × IsCross (net_seen net) c r home × (m ≡ received_of image c)
      only c m is =
          let found = on_so (has_node c (numbers_where (is_needed net home permanent image) 0 (length net.channels)))
          (received_of image c) m (sym (need_at c) ∙ is) in
          let there = has_where_below (is_needed net home permanent image) c 0 (length net.channels) found.0 in
          let cross = needed_cross c there.0 in
          (cross.0, cross.1, found.1)

  -- ---- the questions that they make

  abbrev asked_if : Bool → ℕ → Option (ℕ × Answer)
  asked_if false count = None
  asked_if true count = Some (count, Awaited)

  asked_at : (c : ℕ) → c < length net.channels
      → questions_seen (questions_of net home permanent image) c
      ≡ asked_if (is_needed net home permanent image c) (received_of image c)
  asked_at c within =
      let at = each_there (question_on net home permanent image) 0 (length net.channels) c within in
      let same : 0 + c ≡ c = omega arith in
      rw (at, same) (grind arith)

  asked_past : (c : ℕ) → length net.channels ≤ c → questions_seen (questions_of net home permanent image) c ≡ None
  asked_past c past = ap question_seen (each_past (question_on net home permanent image) 0 (length net.channels) c past)

  -- what is asked is needed
  pub asked_only : (c m : ℕ) (answer : Answer)
      → questions_seen (questions_of net home permanent image) c ≡ Some (m, answer)
      → (is_needed net home permanent image c ≡ true) × (m ≡ received_of image c) × (answer ≡ Awaited)
  asked_only c m answer is = elim (above_or c (length net.channels)) [
    | inl within ↦ let at = asked_at c within in grind arith
    | inr past ↦ absurd (some_not_none (asked_past c past) is)
  ]

  pub asks_needs : AsksNeeds (net_seen net) home (image_seen permanent) (image_seen image)
      (questions_seen (questions_of net home permanent image))
  asks_needs = record { each = each; only = only }
    where
      each : (c p : ℕ) → IsCross (net_seen net) c p home → received_of permanent c < received_of image c
          → questions_seen (questions_of net home permanent image) c ≡ Some (received_of image c, Awaited)
      each c p cross above = rw (asked_at c (cross_within net c p home cross), needed_where c p cross above) refl

      only : (c m : ℕ) (answer : Answer)
          → questions_seen (questions_of net home permanent image) c ≡ Some (m, answer)
          → (p : ℕ) × IsCross (net_seen net) c p home × (m ≡ received_of image c) × (answer ≡ Awaited)
      only c m answer is =
          let asked = asked_only c m answer is in
          let cross = needed_cross c asked.0 in
          (cross.0, cross.1, asked.1, asked.2)
