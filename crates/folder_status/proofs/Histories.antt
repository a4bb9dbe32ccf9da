-- Histories of approximations, where nothing is left to be put.
use Rattle.std.proofs.Common.{◌<◌, ◌∷◌, take, ◌≡◌, ◌⊎◌, inl, inr, ℕ, zero, suc, ◌≤◌, ℤ, List, [], length, Some, refl, sym, ap, ◌∙◌, arith}
use Rattle.std.specs.Prelude.{slice_get}
use Rattle.std.proofs.lemmas.Bool.{cases_lt}
use Rattle.std.proofs.lemmas.List.{ext_get_or, get_or_past}
use Rattle.std.proofs.lemmas.Option.{slice_get_cases}
use Rattle.kahn_net.specs.Approximations.{approximation, IsReached, next_history}
use Rattle.kahn_net.specs.Fits.{Fits}
use Rattle.kahn_net.specs.Laws.Approximations.{approximations_grow, length-next_from, next_histories-at}
use Rattle.kahn_net.specs.Laws.Fixpoints.{prefix_whole}
use Rattle.kahn_net.specs.Laws.Prefixes.{prefix_length, prefix_trans}
use Rattle.kahn_net.specs.Streams.{history_of, IsPrefix}
use Rattle.kahn_net.specs.Syntax.{Network}
use Rattle.kahn_net.specs.Valid.{IsValid}
use Rattle.kahn_net.specs.declared.program.Channel.{Channel}
use Rattle.kahn_net.specs.declared.program.Port.{Port}
use Rattle.kahn_net.specs.declared.program.Port.TheVariants.{Outside, Process}

-- a beginning of a beginning
take_take : (k m : ℕ) (xs : List ℤ) → k ≤ m → take k (take m xs) ≡ take k xs
take_take zero m xs few = refl
take_take (suc k) zero xs few = absurd (omega (arith, few))
take_take (suc k) (suc m) [] few = refl
take_take (suc k) (suc m) (x ∷ xs) few = ap (λ (rest : List ℤ). x ∷ rest) (take_take k m xs (omega (arith, few)))

module _ (net : Network) (valid : IsValid net) (inputs : List (List ℤ)) (fits : Fits net inputs) where
  -- so many lists as there are channels
  count_is : (n : ℕ) → length (approximation net inputs n) ≡ length net.channels
  count_is zero = fits.count
  count_is (suc n) = length-next_from net.codes inputs (approximation net inputs n) 0 net.channels

  -- of two histories of a channel one begins the other
  pub one_begins : (m n c : ℕ) → IsPrefix (history_of (approximation net inputs m) c) (history_of (approximation net inputs n) c)
      ⊎ IsPrefix (history_of (approximation net inputs n) c) (history_of (approximation net inputs m) c)
  one_begins m n c = elim (cases_lt n m) [
    | inl below ↦ inr ((approximations_grow net valid inputs fits n m (omega arith)).at c)
    | inr above ↦ inl ((approximations_grow net valid inputs fits m n above).at c)
  ]

  -- where they are as long as one another they are the same
  pub as_long : (m n c : ℕ)
      → length (history_of (approximation net inputs m) c) ≡ length (history_of (approximation net inputs n) c)
      → history_of (approximation net inputs m) c ≡ history_of (approximation net inputs n) c
  as_long m n c same = elim (one_begins m n c) [
    | inl front ↦ prefix_whole _ _ front (omega (arith, same))
    | inr front ↦ sym (prefix_whole _ _ front (omega (arith, same)))
  ]

  -- where the next approximation has no more on any channel on which a process puts, they have come to rest
  pub at_rest : (n : ℕ)
      → ((c p : ℕ) (channel : Channel) → slice_get net.channels c ≡ Some channel → channel.producer ≡ Process p
      → length (history_of (approximation net inputs (suc n)) c) ≤ length (history_of (approximation net inputs n) c))
      → IsReached net inputs n
  at_rest n few = ext_get_or [] (approximation net inputs n) (approximation net inputs (suc n)) (count_is n ∙ sym (count_is (suc n)))
      (λ c lt. elim (slice_get_cases net.channels c).1 [
        | inl here ↦ by_port c here.0 here.0.producer here.2 refl
        | inr past ↦ let one = count_is n in let two = count_is (suc n) in let far = past.0 in
            get_or_past (approximation net inputs n) c [] (omega arith)
            ∙ sym (get_or_past (approximation net inputs (suc n)) c [] (omega arith))
      ])
    where
      input_yet : (k c : ℕ) (channel : Channel) → slice_get net.channels c ≡ Some channel → channel.producer ≡ Outside
          → history_of (approximation net inputs k) c ≡ history_of inputs c
      input_yet zero c channel is from = refl
      input_yet (suc k) c channel is from = next_histories-at net inputs (approximation net inputs k) c channel is
          ∙ ap (next_history net.codes inputs (approximation net inputs k) c) from

      by_port : (c : ℕ) (channel : Channel) (port : Port) → slice_get net.channels c ≡ Some channel → channel.producer ≡ port
          → history_of (approximation net inputs n) c ≡ history_of (approximation net inputs (suc n)) c
      by_port c channel Outside is from = input_yet n c channel is from ∙ sym (input_yet (suc n) c channel is from)
      by_port c channel (Process p) is from =
          prefix_whole _ _ ((approximations_grow net valid inputs fits n (suc n) (omega arith)).at c) (few c p channel is from)

  -- so many items were put on each channel, as many as any approximation has there
  module _ (ends : ℕ → ℕ)
      (all : (n c p : ℕ) (channel : Channel) → slice_get net.channels c ≡ Some channel → channel.producer ≡ Process p
      → length (history_of (approximation net inputs n) c) ≤ ends c) where
    -- the approximation that has them all has the next one's
    pub rests_there : (n : ℕ)
        → ((c p : ℕ) (channel : Channel) → slice_get net.channels c ≡ Some channel → channel.producer ≡ Process p
        → ends c ≤ length (history_of (approximation net inputs n) c))
        → IsReached net inputs n
    rests_there n most = at_rest n (λ c p channel is from.
        let next = all (suc n) c p channel is from in let here = most c p channel is from in omega (arith, next, here))

    -- a stream with all items is the whole history
    pub whole_there : (m n c p : ℕ) (channel : Channel) (xs : List ℤ) → slice_get net.channels c ≡ Some channel → channel.producer ≡ Process p
        → ends c ≤ length (history_of (approximation net inputs n) c) → IsPrefix xs (history_of (approximation net inputs m) c)
        → length xs ≡ ends c → xs ≡ history_of (approximation net inputs n) c
    whole_there m n c p channel xs is from most front count =
        let few = all m c p channel is from in
        let here = all n c p channel is from in
        let same = prefix_whole xs _ front (omega (arith, few, count)) in
        let long = ap (length {A = ℤ}) same in
        same ∙ as_long m n c (omega (arith, long, count, here, most))

    -- and there is no longer one
    pub none_longer : (m c p : ℕ) (channel : Channel) (xs : List ℤ) → slice_get net.channels c ≡ Some channel → channel.producer ≡ Process p
        → IsPrefix xs (history_of (approximation net inputs m) c) → ends c < length xs → ⊥
    none_longer m c p channel xs is from front more =
        let few = all m c p channel is from in
        let short = prefix_length xs _ front in
        omega (arith, few, short, more)

  -- two streams of one channel are the same as far as both go
  pub begin_alike : (a b c k : ℕ) (xs ys : List ℤ) → IsPrefix xs (history_of (approximation net inputs a) c)
      → IsPrefix ys (history_of (approximation net inputs b) c) → k ≤ length xs → k ≤ length ys → take k xs ≡ take k ys
  begin_alike a b c k xs ys one two few less = elim (one_begins a b c) [
    | inl front ↦ first_of xs ys (history_of (approximation net inputs b) c) k (prefix_trans _ _ _ one front) two few less
    | inr front ↦ first_of xs ys (history_of (approximation net inputs a) c) k one (prefix_trans _ _ _ two front) few less
  ]
    where
      begun : (zs whole : List ℤ) (k : ℕ) → IsPrefix zs whole → k ≤ length zs → take k zs ≡ take k whole
      begun zs whole k front few = ap (take k) front ∙ take_take k (length zs) whole few

      first_of : (xs ys whole : List ℤ) (k : ℕ) → IsPrefix xs whole → IsPrefix ys whole → k ≤ length xs → k ≤ length ys
          → take k xs ≡ take k ys
      first_of xs ys whole k one two few less = begun xs whole k one few ∙ sym (begun ys whole k two less)
