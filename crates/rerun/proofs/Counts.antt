-- No turn gets more of a channel than was put there before it.
use Rattle.std.proofs.Common.{◌≡◌, ◌≢◌, ◌⊎◌, inl, inr, ℕ, suc, ◌+◌, ◌≤◌, true, false, eqb, ℤ, List, [], ◌∷◌}
use Rattle.std.proofs.Common.{length, drop, refl, ap, subst, ◌∙◌, arith}
use Rattle.std.specs.Prelude.{slice_index}
use Rattle.std.proofs.lemmas.Bool.Decides.{eqb_tells}
use Rattle.std.proofs.lemmas.List.{length-append, length-drop}
use Rattle.kahn_net.specs.Fits.{Fits}
use Rattle.kahn_net.specs.Laws.Prefixes.{prefix_length}
use Rattle.kahn_net.specs.Streams.{history_of}
use Rattle.kahn_net.specs.Syntax.{Network}
use Rattle.kahn_net.specs.Valid.{IsValid}
use Rattle.kahn_net.specs.declared.program.Port.{Port}
use Rattle.kahn_net.specs.declared.program.Port.TheVariants.{Outside, Process}
use Rattle.proc_step.specs.TurnLaws.{taken_fits}
use Rattle.rerun.specs.Rerunning.{Stage, IsGiven, Goes, Reruns, CountsFit}
use Rattle.rerun.specs.Soundness.{StandsSoundly, KeepsCounts}
use Rattle.rerun.proofs.Turning.{turn, sound_then, whole, before, then}

module _ (net : Network) (inputs : List (List ℤ)) (valid : IsValid net) (fits : Fits net inputs) where
  one : (n : ℕ) (made : ℕ → ℕ) (s t : Stage) → StandsSoundly net inputs n made s → Goes net s t → CountsFit net s
      → CountsFit net t
  one n made s t sound goes fit c q channel is to = got (eqb_tells q goes.process)
    where
      grows : (port : Port) → channel.producer ≡ port → length (s.put c) ≤ length (t.put c)
      grows Outside from = let e = ap (length {A = ℤ}) (goes.put_inputs c channel is from) in omega (arith, e)
      grows (Process p) from = at (eqb_tells p goes.process)
        where
          at : ((eqb p goes.process ≡ true) × (p ≡ goes.process)) ⊎ ((eqb p goes.process ≡ false) × (p ≢ goes.process))
              → length (s.put c) ≤ length (t.put c)
          at (inl same) =
              let e = ap (length {A = ℤ}) (goes.put_own c channel is (from ∙ ap Process same.1)) in
              let sum = length-append (s.put c) (history_of goes.sent c) in
              omega (arith, e, sum)
          at (inr other) =
              let e = ap (length {A = ℤ}) (goes.put_others c p channel is from other.1) in omega (arith, e)

      few : slice_index goes.taken c ≤ length (history_of goes.items c)
      few =
          taken_fits goes.code (whole net inputs valid fits n made s t sound goes)
          (before net inputs valid fits n made s t sound goes goes.process) goes.items goes.room goes.after goes.taken
          goes.sent (turn net inputs valid fits n made s t sound goes) c

      at_hand : IsGiven net s goes.process goes.items c → s.got c + length (history_of goes.items c) ≤ length (s.put c)
      at_hand (inl nothing) =
          let none : length (history_of goes.items c) ≡ 0 = ap (length {A = ℤ}) nothing in
          let before_it = fit c q channel is to in
          omega (arith, none, before_it)
      at_hand (inr it) =
          let front = prefix_length (history_of goes.items c) (drop (s.got c) (s.put c)) it.3 in
          let left = length-drop (s.got c) (s.put c) in
          let before_it = fit c q channel is to in
          omega (arith, front, left, before_it)

      got : ((eqb q goes.process ≡ true) × (q ≡ goes.process)) ⊎ ((eqb q goes.process ≡ false) × (q ≢ goes.process))
          → t.got c ≤ length (t.put c)
      got (inl same) =
          let e = goes.got_own c channel is (to ∙ ap Process same.1) in
          let more = grows channel.producer refl in
          let room = at_hand (goes.given c) in
          omega (arith, e, more, room, few)
      got (inr other) =
          let e = goes.got_others c q channel is to other.1 in
          let more = grows channel.producer refl in
          let before_it = fit c q channel is to in
          omega (arith, e, more, before_it)

  all : (n : ℕ) (made : ℕ → ℕ) (s : Stage) (stages : List Stage) (t : Stage) → StandsSoundly net inputs n made s
      → Reruns net s stages t → CountsFit net s → CountsFit net t
  all n made s [] t sound same fit = subst (CountsFit net) same fit
  all n made s (u ∷ stages) t sound runs fit =
      all (suc n) (then net inputs valid fits n made s u sound runs.0) u stages t
      (sound_then net inputs valid fits n made s u sound runs.0) runs.1 (one n made s u sound runs.0 fit)

pub counts : KeepsCounts
counts net inputs n made s stages t valid fits sound runs fit =
    all net inputs valid fits n made s stages t sound runs fit
