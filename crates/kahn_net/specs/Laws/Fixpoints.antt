-- Laws of networks at rest: where no process does more on what all have put, that is the least solution.
use Rattle.std.proofs.Common.{◌≡◌, ℕ, zero, suc, ◌+◌, ◌≤◌, List, ℤ, [], ◌∷◌, ◌++◌, length, Some, refl, sym, ap, ◌∙◌}
use Rattle.std.proofs.Common.{arith, append-nil}
use Rattle.std.specs.Prelude.{slice_get}
use Rattle.std.proofs.lemmas.List.{ext_get_or, get_or_past, length-append}
use Rattle.kahn_net.specs.Streams.{history_of, IsPrefix, ArePrefixes}
use Rattle.kahn_net.specs.Fits.{Fits}
use Rattle.kahn_net.specs.Syntax.{Code, Network}
use Rattle.kahn_net.specs.Valid.{IsValid}
use Rattle.kahn_net.specs.Statements.{Step}
use Rattle.kahn_net.specs.Processes.{process_trace, sent_on}
use Rattle.kahn_net.specs.Approximations.{approximation, IsReached, IsSolution}
use Rattle.kahn_net.specs.Laws.Approximations.{length-next_from, solution_is_next, below_solutions}
use Rattle.kahn_net.specs.declared.program.Channel.{Channel}
use Rattle.kahn_net.specs.declared.program.Port.{Port}
use Rattle.kahn_net.specs.declared.program.Port.TheVariants.{Outside, Process}
use Rattle.kahn_net.specs.Laws.Prefixes.{followed}

-- what is on a channel by now: of an input all that there is, of any other what its process put by these acts
abbrev pub put_so_far : List (List ℤ) → (ℕ → List Step) → ℕ → Port → List ℤ
put_so_far inputs acts channel Outside = history_of inputs channel
put_so_far inputs acts channel (Process p) = sent_on channel (acts p)

-- the same of each channel, the first one of this number
abbrev pub put_so_far_from : List (List ℤ) → (ℕ → List Step) → ℕ → List Channel → List (List ℤ)
put_so_far_from inputs acts number [] = []
put_so_far_from inputs acts number (channel ∷ channels) =
    put_so_far inputs acts number channel.producer ∷ put_so_far_from inputs acts (suc number) channels

-- what is on each channel of a network once its processes made these acts
abbrev pub put_by_now : Network → List (List ℤ) → (ℕ → List Step) → List (List ℤ)
put_by_now net inputs acts = put_so_far_from inputs acts 0 net.channels

length-put_so_far_from : (inputs : List (List ℤ)) (acts : ℕ → List Step) (number : ℕ) (channels : List Channel)
    → length (put_so_far_from inputs acts number channels) ≡ length channels
length-put_so_far_from inputs acts number [] = refl
length-put_so_far_from inputs acts number (x ∷ channels) =
    ap suc (length-put_so_far_from inputs acts (suc number) channels)

put_so_far_from-at : (inputs : List (List ℤ)) (acts : ℕ → List Step) (number : ℕ) (channels : List Channel) (c : ℕ)
    (channel : Channel) → slice_get channels c ≡ Some channel
    → history_of (put_so_far_from inputs acts number channels) c ≡ put_so_far inputs acts (number + c) channel.producer
put_so_far_from-at inputs acts number [] c channel is = absurd cc
put_so_far_from-at inputs acts number (x ∷ channels) zero channel is = let here : number ≡ number + 0 = omega arith in cc
put_so_far_from-at inputs acts number (x ∷ channels) (suc c) channel is =
    let there : suc number + c ≡ number + suc c = omega arith in
    rw there at (put_so_far_from-at inputs acts (suc number) channels c channel is)

pub put_by_now-at : (net : Network) (inputs : List (List ℤ)) (acts : ℕ → List Step) (c : ℕ) (channel : Channel)
    → slice_get net.channels c ≡ Some channel
    → history_of (put_by_now net inputs acts) c ≡ put_so_far inputs acts c channel.producer
put_by_now-at net inputs acts c channel is =
    let here : 0 + c ≡ c = omega arith in
    rw here at (put_so_far_from-at inputs acts 0 net.channels c channel is)

pub put_by_now_past : (net : Network) (inputs : List (List ℤ)) (acts : ℕ → List Step) (c : ℕ) → length net.channels ≤ c
    → history_of (put_by_now net inputs acts) c ≡ []
put_by_now_past net inputs acts c past =
    get_or_past (put_by_now net inputs acts) c [] (omega (arith, length-put_so_far_from inputs acts 0 net.channels))

-- a prefix that is as long as the whole is the whole
pub prefix_whole : (part whole : List ℤ) → IsPrefix part whole → length whole ≤ length part → part ≡ whole
prefix_whole part whole p few = at (followed part whole p).rest (followed part whole p).is
  where
    at : (rest : List ℤ) → whole ≡ part ++ rest → part ≡ whole
    at [] is = sym (is ∙ append-nil part)
    at (x ∷ rest) is = absurd (omega (arith, few, simp length-append at (ap (length {A = ℤ}) is)))

-- two that are prefixes of one another are the same
pub prefix_both : (xs ys : List ℤ) → IsPrefix xs ys → IsPrefix ys xs → xs ≡ ys
prefix_both xs ys p front =
    prefix_whole xs ys p (omega (arith, simp length-append at (ap (length {A = ℤ}) (followed ys xs front).is)))

module _ (net : Network) (inputs : List (List ℤ)) (acts : ℕ → List Step) (valid : IsValid net) (fits : Fits net inputs)
    (all : (p : ℕ) (code : Code) → slice_get net.codes p ≡ Some code
    → (process_trace code (put_by_now net inputs acts)).steps ≡ acts p) where
  -- what was put solves the equations, where each process makes just these acts on it
  settled_is_solution : IsSolution net inputs (put_by_now net inputs acts)
  settled_is_solution = record {
    count = length-put_so_far_from inputs acts 0 net.channels;
    inputs_agree = λ c channel is from. rw (put_by_now-at net inputs acts c channel is, from) refl;
    equations = λ c p channel code is there from. rw (put_by_now-at net inputs acts c channel is, from, ← all p code there) refl;
  }

  -- and it is the approximation of which it is a beginning, since every approximation is below every solution
  pub settled_is_reached : (n : ℕ) → ArePrefixes (put_by_now net inputs acts) (approximation net inputs (suc n))
      → approximation net inputs (suc n) ≡ put_by_now net inputs acts
  settled_is_reached n below =
      let count = length-next_from net.codes inputs (approximation net inputs n) 0 net.channels in
      let above = below_solutions net valid inputs fits (suc n) (put_by_now net inputs acts) settled_is_solution in
      ext_get_or [] _ _ (count ∙ sym (length-put_so_far_from inputs acts 0 net.channels))
      (λ c lt. prefix_both _ _ (above.at c) (below.at c))

  -- so the approximations come to rest there
  pub settled_rests : (n : ℕ) → ArePrefixes (put_by_now net inputs acts) (approximation net inputs (suc n))
      → IsReached net inputs (suc n)
  settled_rests n below =
      solution_is_next net valid inputs (approximation net inputs (suc n)) (rw (settled_is_reached n below) settled_is_solution)
