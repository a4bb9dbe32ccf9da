-- Laws of approximations: they only grow, they come to rest, and where they do they are the least solution.
use Rattle.std.proofs.Common.{◌≡◌, ℕ, zero, suc, ◌+◌, ◌≤◌, List, ℤ, [], ◌∷◌, refl, sym, ap, ◌∙◌, arith}
use Rattle.std.proofs.Common.{length, Some, None, inl, inr}
use Rattle.std.specs.Prelude.{slice_get}
use Rattle.std.proofs.lemmas.Bool.{cases_lt}
use Rattle.std.proofs.lemmas.List.{ext_get_or, get_or_past}
use Rattle.std.proofs.lemmas.Option.{slice_get_cases, get_or_from_slice_get}
use Rattle.kahn_net.specs.Streams.{history_of, IsPrefix, ArePrefixes}
use Rattle.kahn_net.specs.Fits.{Fits}
use Rattle.kahn_net.specs.Syntax.{Code, Network}
use Rattle.kahn_net.specs.Valid.{IsValid}
use Rattle.kahn_net.specs.Approximations.{output_at, next_history, next_from, next_histories, approximation, Belongs}
use Rattle.kahn_net.specs.Approximations.{IsReached, IsSolution}
use Rattle.kahn_net.specs.Laws.Prefixes.{prefix_refl, prefix_nil, prefix_along, prefix_item, prefixes_refl}
use Rattle.kahn_net.specs.Laws.Prefixes.{prefixes_trans}
use Rattle.kahn_net.specs.Laws.Streams.{monotone}
use Rattle.kahn_net.specs.declared.program.Channel.{Channel}
use Rattle.kahn_net.specs.declared.program.Port.{Port}
use Rattle.kahn_net.specs.declared.program.Port.TheVariants.{Outside, Process}

-- What the producers make

pub length-next_from : (codes : List Code) (inputs histories : List (List ℤ)) (k : ℕ) (channels : List Channel)
    → length (next_from codes inputs histories k channels) ≡ length channels
length-next_from codes inputs histories k [] = refl
length-next_from codes inputs histories k (x ∷ channels) =
    ap suc (length-next_from codes inputs histories (suc k) channels)

next_from-at : (codes : List Code) (inputs histories : List (List ℤ)) (k : ℕ) (channels : List Channel) (c : ℕ)
    (channel : Channel) → slice_get channels c ≡ Some channel
    → history_of (next_from codes inputs histories k channels) c
    ≡ next_history codes inputs histories (k + c) channel.producer
next_from-at codes inputs histories k [] c channel h = absurd cc
next_from-at codes inputs histories k (x ∷ channels) zero channel h = let here : k ≡ k + 0 = omega arith in cc
next_from-at codes inputs histories k (x ∷ channels) (suc c) channel h =
    let there : suc k + c ≡ k + suc c = omega arith in
    rw there at (next_from-at codes inputs histories (suc k) channels c channel h)

-- a channel's next history is what its producer makes
pub next_histories-at : (net : Network) (inputs histories : List (List ℤ)) (c : ℕ) (channel : Channel)
    → slice_get net.channels c ≡ Some channel
    → history_of (next_histories net inputs histories) c ≡ next_history net.codes inputs histories c channel.producer
next_histories-at net inputs histories c channel h =
    let here : 0 + c ≡ c = omega arith in
    rw here at (next_from-at net.codes inputs histories 0 net.channels c channel h)

pub next_histories_past : (net : Network) (inputs histories : List (List ℤ)) (c : ℕ) → length net.channels ≤ c
    → history_of (next_histories net inputs histories) c ≡ []
next_histories_past net inputs histories c h = let n = length-next_from net.codes inputs histories 0 net.channels in
    get_or_past (next_histories net inputs histories) c [] (omega arith)

-- once two approximations in a row agree, all later ones do
pub agreement : (net : Network) (inputs : List (List ℤ)) (n m : ℕ) → IsReached net inputs n → n ≤ m
    → approximation net inputs m ≡ approximation net inputs n
agreement net inputs n zero reached h = let e : 0 ≡ n = omega arith in ap (approximation net inputs) e
agreement net inputs n (suc m) reached h = elim (cases_lt m n) [
  | inl below ↦ let e : suc m ≡ n = omega arith in ap (approximation net inputs) e
  | inr above ↦ ap (next_histories net inputs) (agreement net inputs n m reached above) ∙ sym reached
]

module _ (net : Network) (valid : IsValid net) where
  -- a producer makes the same of more, and then more
  next_grows : (inputs small big : List (List ℤ)) (c : ℕ) (port : Port) → ArePrefixes small big
      → IsPrefix (next_history net.codes inputs small c port) (next_history net.codes inputs big c port)
  next_grows inputs small big c Outside m = prefix_refl (history_of inputs c)
  next_grows inputs small big c (Process p) m =
      (elim (slice_get net.codes p) as (λ o. slice_get net.codes p ≡ o → IsPrefix (output_at o small c) (output_at o big c)) [
        | None ↦ λ is. prefix_refl []
        | Some code ↦ λ is. monotone code small big c (valid.codes p code is).passes m
      ]) refl

  -- the equations are monotone
  pub next_histories_grow : (inputs small big : List (List ℤ)) → ArePrefixes small big
      → ArePrefixes (next_histories net inputs small) (next_histories net inputs big)
  next_histories_grow inputs small big m = record {
    at = λ c. elim (slice_get_cases net.channels c).1 [
      | inl here ↦ prefix_along _ _ _ _ (next_histories-at net inputs small c here.0 here.2)
          (next_histories-at net inputs big c here.0 here.2) (next_grows inputs small big c here.0.producer m)
      | inr past ↦ prefix_nil _ _ (next_histories_past net inputs small c past.0)
    ];
  }

  -- nothing comes from outside where a process puts
  pub inner_empty : (inputs : List (List ℤ)) → Fits net inputs → (c p : ℕ) (channel : Channel)
      → slice_get net.channels c ≡ Some channel → channel.producer ≡ Process p → history_of inputs c ≡ []
  inner_empty inputs fits c p channel is from = elim (slice_get_cases inputs c).1 [
    | inl here ↦ get_or_from_slice_get inputs c here.0 [] here.2 ∙ fits.inside c channel here.0 is here.2 p from
    | inr past ↦ get_or_past inputs c [] past.0
  ]

  module _ (inputs : List (List ℤ)) (fits : Fits net inputs) where
    -- the first approximation is below whatever keeps the inputs
    first_below : (histories : List (List ℤ))
        → ((c : ℕ) (channel : Channel) → slice_get net.channels c ≡ Some channel → channel.producer ≡ Outside
        → history_of histories c ≡ history_of inputs c) → ArePrefixes inputs histories
    first_below histories keeps = record {
      at = λ c. elim (slice_get_cases net.channels c).1 [
        | inl here ↦ by_port c here.0 here.0.producer here.2 refl
        | inr past ↦ let n = fits.count in let m = past.0 in prefix_nil _ _ (get_or_past inputs c [] (omega arith))
      ];
    }
      where
        by_port : (c : ℕ) (channel : Channel) (port : Port) → slice_get net.channels c ≡ Some channel
            → channel.producer ≡ port → IsPrefix (history_of inputs c) (history_of histories c)
        by_port c channel Outside is from = rw (keeps c channel is from) (prefix_refl (history_of inputs c))
        by_port c channel (Process p) is from = prefix_nil _ _ (inner_empty inputs fits c p channel is from)

    next_keeps : (histories : List (List ℤ)) (c : ℕ) (channel : Channel) → slice_get net.channels c ≡ Some channel
        → channel.producer ≡ Outside → history_of (next_histories net inputs histories) c ≡ history_of inputs c
    next_keeps histories c channel is from = rw (next_histories-at net inputs histories c channel is, from) refl

    -- each approximation is a prefix of the next
    pub approximation_grows : (n : ℕ) → ArePrefixes (approximation net inputs n) (approximation net inputs (suc n))
    approximation_grows zero = first_below (next_histories net inputs inputs) (next_keeps inputs)
    approximation_grows (suc n) =
        next_histories_grow inputs (approximation net inputs n) (approximation net inputs (suc n))
        (approximation_grows n)

    -- and so of every later one
    pub approximations_grow : (m n : ℕ) → m ≤ n → ArePrefixes (approximation net inputs m) (approximation net inputs n)
    approximations_grow m zero h = let e : 0 ≡ m = omega arith in rw (← e) (prefixes_refl inputs)
    approximations_grow m (suc n) h = elim (cases_lt n m) [
      | inl past ↦ let e : suc n ≡ m = omega arith in rw (← e) (prefixes_refl (approximation net inputs (suc n)))
      | inr within ↦ prefixes_trans _ _ _ (approximations_grow m n within) (approximation_grows n)
    ]

    same_item : (c k : ℕ) (v w : ℤ) (m n : ℕ) → m ≤ n
        → slice_get (history_of (approximation net inputs m) c) k ≡ Some v
        → slice_get (history_of (approximation net inputs n) c) k ≡ Some w → v ≡ w
    same_item c k v w m n l a b =
        let later = prefix_item _ _ k v ((approximations_grow m n l).at c) a in cc

    -- two items that belong at one position of one channel are equal
    pub one_item : (c k : ℕ) (v w : ℤ) → Belongs net inputs c k v → Belongs net inputs c k w → v ≡ w
    one_item c k v w a b = elim (cases_lt b.n a.n) [
      | inl below ↦ sym (same_item c k w v b.n a.n (omega arith) b.is a.is)
      | inr above ↦ same_item c k v w a.n b.n above a.is b.is
    ]

  -- Solutions

  code_there : (c p : ℕ) (channel : Channel) → slice_get net.channels c ≡ Some channel → channel.producer ≡ Process p
      → (code : Code) × (slice_get net.codes p ≡ Some code)
  code_there c p channel is from = elim (slice_get_cases net.codes p).1 [
    | inl here ↦ (here.0, here.2)
    | inr past ↦ let l = valid.producer_is_here c p channel is from in let m = past.0 in absurd (omega arith)
  ]

  -- a solution is what the producers make of it
  pub solution_is_next : (inputs histories : List (List ℤ)) → IsSolution net inputs histories
      → histories ≡ next_histories net inputs histories
  solution_is_next inputs histories s =
      let n = length-next_from net.codes inputs histories 0 net.channels in
      ext_get_or [] histories (next_histories net inputs histories) (s.count ∙ sym n)
      (λ c lt. elim (slice_get_cases net.channels c).1 [
        | inl here ↦ by_port c here.0 here.0.producer here.2 refl ∙ sym (next_histories-at net inputs histories c here.0 here.2)
        | inr past ↦ let m = s.count in let far = past.0 in
            get_or_past histories c [] (omega arith) ∙ sym (next_histories_past net inputs histories c far)
      ])
    where
      by_port : (c : ℕ) (channel : Channel) (port : Port) → slice_get net.channels c ≡ Some channel
          → channel.producer ≡ port → history_of histories c ≡ next_history net.codes inputs histories c port
      by_port c channel Outside is from = s.inputs_agree c channel is from
      by_port c channel (Process p) is from =
          let code = code_there c p channel is from in rw code.1 (s.equations c p channel code.0 is code.1 from)

  -- and the other way round
  pub next_is_solution : (inputs histories : List (List ℤ)) → histories ≡ next_histories net inputs histories
      → IsSolution net inputs histories
  next_is_solution inputs histories e = record {
    count = ap (length {A = List ℤ}) e ∙ length-next_from net.codes inputs histories 0 net.channels;
    inputs_agree = λ c channel is from. rw (e, next_histories-at net inputs histories c channel is, from) refl;
    equations = λ c p channel code is there from. ap (λ (h : List (List ℤ)). history_of h c) e
        ∙ rw (next_histories-at net inputs histories c channel is, from, there) refl;
  }

  -- where the approximations have come to rest they are a solution
  pub reached_is_solution : (inputs : List (List ℤ)) (n : ℕ) → IsReached net inputs n
      → IsSolution net inputs (approximation net inputs n)
  reached_is_solution inputs n reached = next_is_solution inputs (approximation net inputs n) reached

  -- and every approximation is below every solution
  pub below_solutions : (inputs : List (List ℤ)) → Fits net inputs → (n : ℕ) (histories : List (List ℤ))
      → IsSolution net inputs histories → ArePrefixes (approximation net inputs n) histories
  below_solutions inputs fits zero histories s = first_below inputs fits histories s.inputs_agree
  below_solutions inputs fits (suc n) histories s =
      rw (solution_is_next inputs histories s) (next_histories_grow inputs (approximation net inputs n) histories
      (below_solutions inputs fits n histories s))
