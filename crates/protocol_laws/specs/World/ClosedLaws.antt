-- The outputs of all stations, put in ascending order of their channels, are those of the network.
use Rattle.std.proofs.Common.{◌≡◌, ◌≢◌, ◌⊎◌, inl, inr, ℕ, zero, suc, ◌+◌, ◌<◌, ◌≤◌, Bool, true, false, eqb, cond, List}
use Rattle.std.proofs.Common.{[], ◌∷◌, ◌++◌, length, map, Option, Some, None, refl, sym, ◌∙◌, arith}
use Rattle.std.specs.Prelude.{slice_get, IsPermutation}
use Rattle.std.specs.List.{sum_by}
use Rattle.std.specs.List.Sorted.{IsNonDecreasingBy}
use Rattle.std.proofs.lemmas.Bool.{eq-eqb, ne_eqb}
use Rattle.std.proofs.lemmas.List.Sorted.{IsPermutation-map, sum_by-IsPermutation}
use Rattle.std.proofs.lemmas.List.Recursion.{is_sum_by}
use Rattle.std.proofs.lemmas.Option.{slice_get_cases, slice_get_within}
use Rattle.protocol.specs.Node.Common.{Network, Channel, Port, Outside, Process, numbers_where}
use Rattle.protocol.specs.World.Common.{WorldInvariant, goes_outside, is_output, output_channels, outputs_on, WorldView}
use Rattle.protocol_laws.specs.World.OutputLaws.{output_once}
use Rattle.protocol_laws.specs.World.ShownLaws.{output_shown}

-- how often a number stands in a list
abbrev pub tally : ℕ → List ℕ → ℕ
tally c [] = 0
tally c (x ∷ xs) = cond (eqb x c) 1 0 + tally c xs

as_sum : (c : ℕ) (xs : List ℕ) → tally c xs ≡ sum_by (λ (x : ℕ). cond (eqb x c) 1 0) xs
as_sum c xs = is_sum_by (tally c) (λ (x : ℕ). cond (eqb x c) 1 0) refl (λ x rest. refl) xs

tally_moved : (c : ℕ) (xs ys : List ℕ) → IsPermutation xs ys → tally c ys ≡ tally c xs
tally_moved c xs ys moved =
    as_sum c ys ∙ (sum_by-IsPermutation (λ (x : ℕ). cond (eqb x c) 1 0) xs ys moved ∙ sym (as_sum c xs))

tally_append : (c : ℕ) (xs ys : List ℕ) → tally c (xs ++ ys) ≡ tally c xs + tally c ys
tally_append c [] ys = omega arith
tally_append c (x ∷ xs) ys = (let rest = tally_append c xs ys in omega arith)

one_or_none : (x c : ℕ) (rest : List ℕ) → x ≢ c → tally c (x ∷ rest) ≡ tally c rest
one_or_none x c rest other = grind (arith, ne_eqb)

one_more : (x c : ℕ) (rest : List ℕ) → x ≡ c → tally c (x ∷ rest) ≡ suc (tally c rest)
one_more x c rest same = grind (arith, eq-eqb)

-- the first number is this one, or it is less
place : (a b : ℕ) → a ≤ b → (a ≡ b) ⊎ (suc a ≤ b)
place a b le = grind arith

-- ---- ascending lists

-- the numbers never fall, and none is below the first one given
abbrev pub Rises : ℕ → List ℕ → Type 0
Rises low [] = Unit {0}
Rises low (x ∷ xs) = (low ≤ x) × Rises x xs

rises_from : (low least : ℕ) (xs : List ℕ) → least ≤ low → Rises low xs → Rises least xs
rises_from low least [] below rises = tt
rises_from low least (x ∷ xs) below rises = (omega arith, rises.1)

none_below : (c low : ℕ) (xs : List ℕ) → c < low → Rises low xs → tally c xs ≡ 0
none_below c low [] below rises = refl
none_below c low (x ∷ xs) below rises =
    grind (arith, one_or_none x c xs, none_below c x xs (omega arith) rises.1)

numbers_rise : (test : ℕ → Bool) (first count : ℕ) → Rises first (numbers_where test first count)
numbers_rise test first zero = tt
numbers_rise test first (suc count) =
    let rest = rises_from (suc first) first (numbers_where test (suc first) count) (omega arith)
    (numbers_rise test (suc first) count) in
    grind (arith, rest)

rise_behind : {X : Type 0} (n : X → ℕ) (y : X) (ys : List X) → IsNonDecreasingBy n (y ∷ ys) → Rises (n y) (map n ys)
rise_behind n y [] sorted = tt
rise_behind n y (z ∷ zs) sorted = (
  sorted 0 1 y (omega arith) (omega arith),
  rise_behind n z zs (λ i j d up within. sorted (suc i) (suc j) d (omega (arith, up)) (omega (arith, within))),
)

pub sorted_rise : {X : Type 0} (n : X → ℕ) (xs : List X) → IsNonDecreasingBy n xs → Rises 0 (map n xs)
sorted_rise n [] sorted = tt
sorted_rise n (x ∷ xs) sorted = (omega arith, rise_behind n x xs sorted)

order : (a b : ℕ) → (a ≡ b) ⊎ ((a < b) ⊎ (b < a))
order a b = grind arith

-- two of them with the same numbers, each as often, are the same list
pub same_rising : (xs ys : List ℕ) (low : ℕ) → Rises low xs → Rises low ys → ((c : ℕ) → tally c xs ≡ tally c ys)
    → xs ≡ ys
same_rising [] [] low one other same = refl
same_rising [] (y ∷ ys) low one other same = absurd (let none = same y in grind (arith, one_more y y ys refl))
same_rising (x ∷ xs) [] low one other same = absurd (let none = same x in grind (arith, one_more x x xs refl))
same_rising (x ∷ xs) (y ∷ ys) low one other same = elim (order x y) [
  | inl e ↦ rw (
    e,
    same_rising xs ys 0 (rises_from x 0 xs (omega arith) one.1) (rises_from y 0 ys (omega arith) other.1)
        (λ c. tails c e (same c)),
  ) refl
  | inr (inl less) ↦
      let none = none_below x y (y ∷ ys) less (omega arith, other.1) in
      absurd (omega (arith, one_more x x xs refl, same x, none))
  | inr (inr less) ↦
      let none = none_below y x (x ∷ xs) less (omega arith, one.1) in
      absurd (omega (arith, one_more y y ys refl, same y, none))
]
  where
    tails : (c : ℕ) → x ≡ y → tally c (x ∷ xs) ≡ tally c (y ∷ ys) → tally c xs ≡ tally c ys
    tails c e whole = grind arith

-- ---- numbers that pass a test

numbers_behind : (test : ℕ → Bool) (first count c : ℕ) → first + count ≤ c
    → tally c (numbers_where test first count) ≡ 0
numbers_behind test first zero c behind = refl
numbers_behind test first (suc count) c behind =
    grind (arith, one_or_none first c, numbers_behind test (suc first) count c)

numbers_at : (test : ℕ → Bool) (first count c : ℕ) → first ≤ c → c < first + count
    → tally c (numbers_where test first count) ≡ cond (test c) 1 0
numbers_at test first zero c from below = absurd (omega (arith, from, below))
numbers_at test first (suc count) c from below = elim (place first c from) [
  | inl same ↦
      let none = none_below c (suc first) (numbers_where test (suc first) count) (omega arith)
      (numbers_rise test (suc first) count) in
      grind (arith, none, one_more first c (numbers_where test (suc first) count) same)
  | inr gone ↦
      let rest = numbers_at test (suc first) count c gone (omega arith) in
      grind (arith, rest, one_or_none first c (numbers_where test (suc first) count))
]

-- the channels whose items go outside are such numbers
abbrev outside_at : Option Channel → Bool
outside_at None = false
outside_at (Some channel) = goes_outside channel.consumer

channels_are : (test : ℕ → Bool) (number : ℕ) (channels : List Channel)
    → ((k : ℕ) (channel : Channel) → slice_get channels k ≡ Some channel
    → test (number + k) ≡ goes_outside channel.consumer)
    → output_channels number channels ≡ numbers_where test number (length channels)
channels_are test number [] each = refl
channels_are test number (x ∷ channels) each =
    let none : number + 0 ≡ number = omega arith in
    let here = rw none at (each 0 x refl) in
    let rest = channels_are test (suc number) channels (λ k channel is.
    let sum : suc number + k ≡ number + suc k = omega arith in rw sum (each (suc k) channel is)) in
    rw (here, rest) refl

abbrev is_outside : List Channel → ℕ → Bool
is_outside channels k = outside_at (slice_get channels k)

all_are : (channels : List Channel)
    → output_channels 0 channels ≡ numbers_where (is_outside channels) 0 (length channels)
all_are channels =
    channels_are (is_outside channels) 0 channels
    (λ k channel is. (let sum : 0 + k ≡ k = omega arith in rw (sum, is) refl))

-- ---- the outputs of stations

-- these lists are, one after another, the outputs of the nodes from this number on
abbrev pub AreOutputsFrom : Network → ℕ → List (List ℕ) → Type 0
AreOutputsFrom net first [] = Unit {0}
AreOutputsFrom net first (list ∷ lists) = (list ≡ outputs_on net first) × AreOutputsFrom net (suc first) lists

abbrev pub joined : List (List ℕ) → List ℕ
joined [] = []
joined (list ∷ lists) = list ++ joined lists

module _ (net : Network) (c : ℕ) where
  none_of : (first : ℕ) (lists : List (List ℕ)) → AreOutputsFrom net first lists
      → ((home : ℕ) → first ≤ home → tally c (outputs_on net home) ≡ 0) → tally c (joined lists) ≡ 0
  none_of first [] are none = refl
  none_of first (list ∷ lists) are none =
      let sum = tally_append c list (joined lists) in
      let here : tally c list ≡ 0 = rw are.0 (none first (omega arith)) in
      let rest = none_of (suc first) lists are.1 (λ home behind. none home (omega arith)) in
      omega arith

  one_of : (first : ℕ) (lists : List (List ℕ)) → AreOutputsFrom net first lists → (home : ℕ) → first ≤ home
      → home < first + length lists
      → tally c (outputs_on net home) ≡ 1 → ((other : ℕ) → other ≢ home → tally c (outputs_on net other) ≡ 0)
      → tally c (joined lists) ≡ 1
  one_of first [] are home from below one others = absurd (omega arith)
  one_of first (list ∷ lists) are home from below one others =
      let whole = tally_append c list (joined lists) in
      elim (place first home from) [
        | inl same ↦
            let here : tally c list ≡ 1 = rw (are.0, same) one in
            let none = none_of (suc first) lists are.1 (λ other behind. others other (λ e. omega arith)) in
            omega arith
        | inr gone ↦
            let here : tally c list ≡ 0 = rw are.0 (others first (λ e. omega arith)) in
            let rest = one_of (suc first) lists are.1 home gone (omega arith) one others in
            omega arith
      ]

module _ (world : WorldView) (inv : WorldInvariant world) where
  -- each channel stands as often among the outputs of all stations as among those of the network
  counted : (lists : List (List ℕ)) → AreOutputsFrom world.net 0 lists → length lists ≡ length world.stations → (c : ℕ)
      → tally c (joined lists) ≡ tally c (output_channels 0 world.net.channels)
  counted lists are count c = rw (all_are world.net.channels) (elim (slice_get_cases world.net.channels c).1 [
    | inl there ↦
        let within = there.1 in
        rw (numbers_at (is_outside world.net.channels) 0 (length world.net.channels) c (omega arith) (omega arith), there.2)
        (inside there.0 there.2 there.0.consumer refl)
    | inr past ↦
        let behind = past.0 in
        rw (numbers_behind (is_outside world.net.channels) 0 (length world.net.channels) c (omega arith))
        (none_of world.net c 0 lists are (λ home from.
        numbers_behind (is_output world.net home) 0 (length world.net.channels) c (omega arith)))
  ])
    where
      no_output : (home : ℕ) → is_output world.net home c ≡ false → c < length world.net.channels
          → tally c (outputs_on world.net home) ≡ 0
      no_output home none within =
          rw none at (numbers_at (is_output world.net home) 0 (length world.net.channels) c (omega arith) (omega arith))

      never : (b : Bool) → (b ≡ true → ⊥) → b ≡ false
      never b none = grind arith

      inside : (channel : Channel) → slice_get world.net.channels c ≡ Some channel → (port : Port)
          → channel.consumer ≡ port
          → tally c (joined lists) ≡ cond (goes_outside port) 1 0
      inside channel is (Process p) to =
          none_of world.net c 0 lists are (λ home behind.
          no_output home (rw (is, to) refl) (slice_get_within world.net.channels c channel is))
      inside channel is Outside to =
          let within = slice_get_within world.net.channels c channel is in
          let shown = output_shown world inv c channel is to in
          let below = slice_get_within world.stations shown.home shown.at.station shown.at.here in
          one_of world.net c 0 lists are shown.home (omega arith) (omega (arith, below, count))
          (rw shown.output at
          (numbers_at (is_output world.net shown.home) 0 (length world.net.channels) c (omega arith) (omega arith)))
          (λ other apart. no_output other (never (is_output world.net other c) (λ is_it.
          apart (output_once world.net other shown.home c is_it shown.output))) within)

  -- so the outputs of all stations, sorted by their channels, are of those of the network, in order
  pub closed_channels : {X : Type 0} (channel : X → ℕ) (all sorted : List X) (lists : List (List ℕ))
      → AreOutputsFrom world.net 0 lists
      → length lists ≡ length world.stations → map channel all ≡ joined lists → IsPermutation all sorted
      → IsNonDecreasingBy channel sorted
      → map channel sorted ≡ output_channels 0 world.net.channels
  closed_channels channel all sorted lists are count same moved rising =
      same_rising (map channel sorted) (output_channels 0 world.net.channels) 0 (sorted_rise channel sorted rising)
      whole
      (λ c. tally_moved c (map channel all) (map channel sorted) (IsPermutation-map channel all sorted moved)
      ∙ rw same (counted lists are count c))
    where
      whole : Rises 0 (output_channels 0 world.net.channels)
      whole = rw (all_are world.net.channels) (numbers_rise (is_outside world.net.channels) 0 (length world.net.channels))
