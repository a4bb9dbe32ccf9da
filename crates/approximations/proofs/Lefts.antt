-- What is left to a process gets less with each item that it gets.
use Rattle.std.proofs.Common.{◌≡◌, ◌⊎◌, inl, inr, ℕ, zero, suc, ◌+◌, ◌<◌, ◌≤◌, ℤ, List, [], ◌∷◌, length, sym, subst, arith}
use Rattle.std.specs.Prelude.{slice_index}
use Rattle.std.proofs.lemmas.Bool.{cases_lt}
use Rattle.kahn_net.specs.Common.{history_of}
use Rattle.approximations.specs.AtHand.{left_from}

-- with more got, no more is left
fewer_left : (k : ℕ) (here : List (List ℤ)) (got got' : List ℕ) → ((c : ℕ) → slice_index got c ≤ slice_index got' c)
    → left_from k here got' ≤ left_from k here got
fewer_left k [] got got' more = omega arith
fewer_left k (h ∷ here) got got' more =
    let rest = fewer_left (suc k) here got got' more in
    let first = more k in
    omega (arith, rest, first)

-- where as much is left as before, nothing was got
none_got : (k : ℕ) (here : List (List ℤ)) (got got' : List ℕ) → ((c : ℕ) → slice_index got c ≤ slice_index got' c)
    → ((c : ℕ) → slice_index got' (k + c) ≤ length (history_of here c))
    → left_from k here got ≤ left_from k here got' → (c : ℕ) → c < length here
    → slice_index got' (k + c) ≡ slice_index got (k + c)
none_got k [] got got' more few same c lt = absurd (omega (arith, lt))
none_got k (h ∷ here) got got' more few same zero lt =
    let rest = fewer_left (suc k) here got got' more in
    let first = more k in
    let this : k ≡ k + 0 = omega arith in
    let most : slice_index got' k ≤ length h = subst (λ (n : ℕ). slice_index got' n ≤ length h) (sym this) (few 0) in
    subst (λ (n : ℕ). slice_index got' n ≡ slice_index got n) this (omega (arith, same, rest, first, most))
none_got k (h ∷ here) got got' more few same (suc c) lt =
    let rest = fewer_left (suc k) here got got' more in
    let first = more k in
    let next : suc k + c ≡ k + suc c = omega arith in
    subst (λ (n : ℕ). slice_index got' n ≡ slice_index got n) next
    (none_got (suc k) here got got' more
    (λ d. let at : suc k + d ≡ k + suc d = omega arith in
    subst (λ (n : ℕ). slice_index got' n ≤ length (history_of here d)) (sym at) (few (suc d)))
    (omega (arith, same, rest, first)) c (omega (arith, lt)))

-- so where something was got, less is left
pub less_left : (here : List (List ℤ)) (got got' : List ℕ) → ((c : ℕ) → slice_index got c ≤ slice_index got' c)
    → ((c : ℕ) → slice_index got' c ≤ length (history_of here c))
    → (((c : ℕ) → c < length here → slice_index got' c ≡ slice_index got c) → ⊥)
    → left_from 0 here got' < left_from 0 here got
less_left here got got' more few some = at (cases_lt (left_from 0 here got') (left_from 0 here got))
  where
    at : (left_from 0 here got' < left_from 0 here got) ⊎ (left_from 0 here got ≤ left_from 0 here got')
        → left_from 0 here got' < left_from 0 here got
    at (inl less) = less
    at (inr same) = absurd (some (λ c lt.
        let this : 0 + c ≡ c = omega arith in
        subst (λ (n : ℕ). slice_index got' n ≡ slice_index got n) this
        (none_got 0 here got got' more
        (λ d. let at' : 0 + d ≡ d = omega arith in
        subst (λ (n : ℕ). slice_index got' n ≤ length (history_of here d)) (sym at') (few d)) same c lt)))
