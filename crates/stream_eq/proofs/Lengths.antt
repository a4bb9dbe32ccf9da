-- Limits of 1,048,576 items, and limits that are the lengths of given histories.
use Rattle.std.proofs.Common.{◌≡◌, ◌⊎◌, inl, inr, ℕ, zero, suc, ◌+◌, ◌<◌, ◌≤◌, List, ℤ, [], ◌∷◌, length}
use Rattle.std.proofs.Common.{map, replicate, refl, sym, ap, subst, ◌∙◌, arith}
use Rattle.std.specs.Prelude.{slice_index}
use Rattle.std.proofs.lemmas.Bool.{cases_lt}
use Rattle.std.proofs.lemmas.List.{get_or-replicate, get_or_past, length-replicate}
use Rattle.kahn_net.specs.Common.{history_of, Fits, Network, IsValid, approximation}
use Rattle.kahn_net.specs.Approximations.{next_histories, IsSolution}
use Rattle.kahn_net.specs.Laws.Prefixes.{prefix_length}
use Rattle.kahn_net.specs.Laws.Approximations.{approximations_grow, agreement, length-next_from, solution_is_next}
use Rattle.stream_eq.specs.Limits.{AreShort, HasLongHistory, HasLongList, IsWithin, GoesPast}
use Rattle.kahn_net.specs.declared.limits.TheConstants.{MAX_HISTORY_ITEMS}

limit_most : (k c : ℕ) → slice_index (replicate k MAX_HISTORY_ITEMS) c ≤ MAX_HISTORY_ITEMS
limit_most k c = at (cases_lt c k)
  where
    at : (c < k) ⊎ (k ≤ c) → slice_index (replicate k MAX_HISTORY_ITEMS) c ≤ MAX_HISTORY_ITEMS
    at (inl l) = let e : slice_index (replicate k MAX_HISTORY_ITEMS) c ≡ MAX_HISTORY_ITEMS =
        get_or-replicate k c MAX_HISTORY_ITEMS 0 l in omega arith
    at (inr l) =
        let n : length {A = ℕ} (replicate k MAX_HISTORY_ITEMS) ≡ k = length-replicate k MAX_HISTORY_ITEMS in
        let past : length {A = ℕ} (replicate k MAX_HISTORY_ITEMS) ≤ c = omega arith in
        let e : slice_index (replicate k MAX_HISTORY_ITEMS) c ≡ 0 =
        get_or_past (replicate k MAX_HISTORY_ITEMS) c 0 past in
        omega arith

-- short inputs are within the limit
pub inputs_within : (inputs all : List (List ℤ)) (limits : List ℕ) → AreShort inputs
    → limits ≡ replicate (length inputs) MAX_HISTORY_ITEMS → all ≡ inputs → IsWithin limits all
inputs_within inputs all limits short e same =
    subst (IsWithin limits) (sym same)
    (subst (λ (l : List ℕ). IsWithin l inputs) (sym e) (record { at = λ c. at c (cases_lt c (length inputs)) }))
  where
    at : (c : ℕ) → (c < length inputs) ⊎ (length inputs ≤ c)
        → length (history_of inputs c) ≤ slice_index (replicate (length inputs) MAX_HISTORY_ITEMS) c
    at c (inl here) =
        let few = short c in
        let limit : slice_index (replicate (length inputs) MAX_HISTORY_ITEMS) c ≡ MAX_HISTORY_ITEMS =
        get_or-replicate (length inputs) c MAX_HISTORY_ITEMS 0 here in
        omega arith
    at c (inr past) = omega (arith, ap (length {A = ℤ}) (get_or_past inputs c [] past))

-- inputs of which one is too long are an approximation that is
pub long_at_once : (net : Network) (inputs : List (List ℤ)) (n : ℕ) → HasLongList inputs → HasLongHistory net inputs n
long_at_once net inputs n list =
    record { round = 0; up_to = omega arith; channel = list.channel; long = list.long }

-- where an approximation is within the limit, none up to it is too long
pub not_long : (net : Network) → IsValid net → (inputs all : List (List ℤ)) (limits : List ℕ) (n : ℕ) → Fits net inputs
    → limits ≡ replicate (length inputs) MAX_HISTORY_ITEMS → all ≡ approximation net inputs n → IsWithin limits all
    → HasLongHistory net inputs n → ⊥
not_long net valid inputs all limits n fits e same w h =
    let grown = prefix_length _ _ ((approximations_grow net valid inputs fits h.round n h.up_to).at h.channel) in
    let most = limit_most (length inputs) h.channel in
    let long = h.long in
    let few = w.at h.channel in
    absurd (omega (
      arith,
      ap (λ (l : List ℕ). slice_index l h.channel) e,
      ap
          (λ (x : List (List ℤ)). length (history_of x h.channel)) same,
    ))

-- a round that goes past the limit shows an approximation that is too long
pub long_at : (net : Network) (inputs all : List (List ℤ)) (limits : List ℕ) (round n : ℕ) → Fits net inputs
    → limits ≡ replicate (length inputs) MAX_HISTORY_ITEMS → all ≡ approximation net inputs round → round < n
    → GoesPast limits (next_histories net inputs all) → HasLongHistory net inputs n
long_at net inputs all limits round n fits e same lt past = record {
  round = suc round;
  up_to = omega arith;
  channel = past.channel;
  long = subst
      (λ (x : List (List ℤ)). MAX_HISTORY_ITEMS < length (history_of (next_histories net inputs x) past.channel)) same
      (at (cases_lt past.channel (length inputs)));
}
  where
    at : (past.channel < length inputs) ⊎ (length inputs ≤ past.channel)
        → MAX_HISTORY_ITEMS < length (history_of (next_histories net inputs all) past.channel)
    at (inl l) =
        let limit : slice_index (replicate (length inputs) MAX_HISTORY_ITEMS) past.channel ≡ MAX_HISTORY_ITEMS =
        get_or-replicate (length inputs) past.channel MAX_HISTORY_ITEMS 0 l in
        let more = past.past in
        omega (arith, ap (λ (x : List ℕ). slice_index x past.channel) e)
    at (inr l) =
        let n = length-next_from net.codes inputs all 0 net.channels in
        let k = fits.count in
        let none = get_or_past (next_histories net inputs all) past.channel [] (omega arith) in
        let more = past.past in
        absurd (omega (arith, ap (length {A = ℤ}) none))

-- one more round
pub next_round : (net : Network) (inputs all after : List (List ℤ)) (round : ℕ) → all ≡ approximation net inputs round
    → after ≡ next_histories net inputs all → after ≡ approximation net inputs (round + 1)
next_round net inputs all after round same e =
    let one : suc round ≡ round + 1 = omega arith in
    e ∙ (ap (next_histories net inputs) same ∙ ap (approximation net inputs) one)

-- where a round changes nothing, no later one does
pub at_rest : (net : Network) (inputs all after : List (List ℤ)) (round n : ℕ) → all ≡ approximation net inputs round
    → after ≡ next_histories net inputs all → all ≡ after → round < n → all ≡ approximation net inputs n
at_rest net inputs all after round n same e agree lt =
    same ∙ sym
    (agreement net inputs round n (sym same ∙ (agree ∙ (e ∙ ap (next_histories net inputs) same))) (omega arith))

length_at : (histories : List (List ℤ)) (c : ℕ)
    → slice_index (map (length {A = ℤ}) histories) c ≡ length (history_of histories c)
length_at [] c = refl
length_at (x ∷ histories) zero = refl
length_at (x ∷ histories) (suc c) = length_at histories c

-- a solution stays within its own lengths
pub solution_within : (net : Network) → IsValid net → (inputs histories : List (List ℤ)) (limits : List ℕ)
    → limits ≡ map (length {A = ℤ}) histories → GoesPast limits (next_histories net inputs histories)
    → IsSolution net inputs histories → ⊥
solution_within net valid inputs histories limits e past s =
    let same = solution_is_next net valid inputs histories s in
    let more = past.past in
    let limit = length_at histories past.channel in
    absurd (omega (
      arith,
      ap (λ (x : List ℕ). slice_index x past.channel) e,
      ap
          (λ (x : List (List ℤ)). length (history_of x past.channel)) same,
    ))
