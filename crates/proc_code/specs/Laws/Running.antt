-- Laws of the machine: what stands where in code, and how runs are put together.
use Rattle.std.proofs.Common.{◌≡◌, ℕ, zero, suc, ◌+◌, ◌≤◌, List, ℤ, [], ◌∷◌, ◌++◌, length, Option, Some, refl, sym, ap}
use Rattle.std.proofs.Common.{◌∙◌, subst, arith}
use Rattle.std.specs.Prelude.{slice_get}
use Rattle.kahn_net.specs.Common.{Trace, End, Ended, Waits, Stopped, then_do}
use Rattle.kahn_net.specs.Laws.Traces.{then_do_same}
use Rattle.proc_code.specs.declared.instruction.Instruction.{Instruction}
use Rattle.proc_code.specs.Machine.{Continuation, perform, step, run, Runs}

-- these instructions stand in the code at this place
abbrev pub IsCodeAt : List Instruction → ℕ → List Instruction → Type 0
IsCodeAt code at [] = Unit {0}
IsCodeAt code at (i ∷ is) = (slice_get code at ≡ Some i) × IsCodeAt code (at + 1) is

-- of two lists, one behind the other, both stand there
pub first_part : (code : List Instruction) (at : ℕ) (a b : List Instruction) → IsCodeAt code at (a ++ b)
    → IsCodeAt code at a
first_part code at [] b h = tt
first_part code at (i ∷ a) b h = (h.0, first_part code (at + 1) a b h.1)

part_behind : (code : List Instruction) (at place : ℕ) (a b : List Instruction) → at + length a ≡ place
    → IsCodeAt code at (a ++ b) → IsCodeAt code place b
part_behind code at place [] b e h =
    subst (λ (n : ℕ). IsCodeAt code n b) (let same : at ≡ place = omega (arith, e) in same) h
part_behind code at place (i ∷ a) b e h =
    part_behind code (at + 1) place a b (let same : at + 1 + length a ≡ place = omega (arith, e) in same) h.1

pub later_part : (code : List Instruction) (at : ℕ) (a b : List Instruction) → IsCodeAt code at (a ++ b)
    → IsCodeAt code (at + length a) b
later_part code at a b h = part_behind code at (at + length a) a b refl h

-- one more instruction before them
one_before : (x : Instruction) (code : List Instruction) (at : ℕ) (is : List Instruction) → IsCodeAt code at is
    → IsCodeAt (x ∷ code) (suc at) is
one_before x code at [] h = tt
one_before x code at (i ∷ is) h = (
  h.0,
  subst (λ (n : ℕ). IsCodeAt (x ∷ code) n is) (let e : suc (at + 1) ≡ suc at + 1 = omega arith in e)
      (one_before x code (at + 1) is h.1),
)

whole_code : (is : List Instruction) → IsCodeAt is 0 is
whole_code [] = tt
whole_code (i ∷ is) = (refl, one_before i is 0 is (whole_code is))

pub last_part : (is front : List Instruction) → IsCodeAt (front ++ is) (length front) is
last_part is [] = whole_code is
last_part is (x ∷ front) = one_before x (front ++ is) (length front) is (last_part is front)

-- some steps and then others
pub run_on : (code : List Instruction) (n m : ℕ) (go : Continuation) → run code (n + m) go ≡ run code n (run code m go)
run_on code zero m go = ap (λ (k : ℕ). run code k go) (let e : 0 + m ≡ m = omega arith in e)
run_on code (suc n) m go =
    ap (λ (k : ℕ). run code k go) (let e : suc n + m ≡ suc (n + m) = omega arith in e)
    ∙ ap (step code) (run_on code n m go)

module _ (code : List Instruction) where
  -- the same, rephrased otherwise
  pub rephrased : {m : ℕ} (at : ℕ) (stack : List ℤ) (left : List ℕ) (v : List ℤ) (u : List (List ℤ))
      (f g : Continuation → Trace) → ((go : Continuation) → f go ≡ g go) → Runs code m at stack left v u f
      → Runs code m at stack left v u g
  rephrased at stack left v u f g h d = record { steps = d.steps; within = d.within; gives = λ go. d.gives go ∙ h go }

  -- or in more steps
  pub in_more_steps : (m m' at : ℕ) (stack : List ℤ) (left : List ℕ) (v : List ℤ) (u : List (List ℤ))
      (f : Continuation → Trace) → m ≤ m' → Runs code m at stack left v u f → Runs code m' at stack left v u f
  in_more_steps m m' at stack left v u f h d =
      record { steps = d.steps; within = omega (arith, h, d.within); gives = d.gives }

  -- one instruction
  pub single_step : (at : ℕ) (stack : List ℤ) (left : List ℕ) (v : List ℤ) (u : List (List ℤ)) (i : Instruction)
      → slice_get code at ≡ Some i → Runs code 1 at stack left v u (λ go. perform (Some i) go at stack left v u)
  single_step at stack left v u i h =
      record {
        steps = 1;
        within = omega arith;
        gives =
            λ go. ap (λ (o : Option Instruction). perform o go at stack left v u) h;
      }

  -- nothing
  pub not_moved : (at : ℕ) (stack : List ℤ) (left : List ℕ) (v : List ℤ) (u : List (List ℤ))
      → Runs code 0 at stack left v u (λ go. go at stack left v u)
  not_moved at stack left v u = record { steps = 0; within = omega arith; gives = λ go. refl }

  -- first to another state, perhaps with an act on the way, and then on from there
  pub first_moves : {m n : ℕ} (k : Trace → Trace) (at at' : ℕ) (stack stack' : List ℤ) (left left' : List ℕ)
      (v v' : List ℤ) (u u' : List (List ℤ)) (f : Continuation → Trace)
      → Runs code m at stack left v u (λ go. k (go at' stack' left' v' u')) → Runs code n at' stack' left' v' u' f
      → Runs code (m + n) at stack left v u (λ go. k (f go))
  first_moves k at at' stack stack' left left' v v' u u' f a b = record {
    steps = a.steps + b.steps;
    within = omega (arith, a.within, b.within);
    gives = λ go. ap (λ (g : Continuation). g at stack left v u) (run_on code a.steps b.steps go)
        ∙ (a.gives (run code b.steps go) ∙ ap k (b.gives go));
  }

  -- what has a trace, and then what follows where it ended
  pub first_makes : {m n : ℕ} (t : Trace) (at at' : ℕ) (stack stack' : List ℤ) (left left' : List ℕ) (v : List ℤ)
      (u : List (List ℤ)) (f : List ℤ → List (List ℤ) → Continuation → Trace)
      → Runs code m at stack left v u (λ go. then_do t (λ v' u'. go at' stack' left' v' u'))
      → ((v' : List ℤ) (u' : List (List ℤ)) → t.end ≡ Ended v' u' → Runs code n at' stack' left' v' u' (f v' u'))
      → Runs code (m + n) at stack left v u (λ go. then_do t (λ v' u'. f v' u' go))
  first_makes {m = m} {n = n} t at at' stack stack' left left' v u f a b = by t.end refl
    where
      by : (e : End) → t.end ≡ e → Runs code (m + n) at stack left v u (λ go. then_do t (λ v' u'. f v' u' go))
      by (Ended w x) is =
          let d = b w x is in
          record {
            steps = a.steps + d.steps;
            within = omega (arith, a.within, d.within);
            gives = λ go. ap (λ (g : Continuation). g at stack left v u) (run_on code a.steps d.steps go)
                ∙ (a.gives (run code d.steps go)
                ∙ then_do_same t (λ v' u'. run code d.steps go at' stack' left' v' u') (λ v' u'. f v' u' go)
                (λ v' u' e. there go w x is d v' u' e));
          }
        where
          there : (go : Continuation) (w : List ℤ) (x : List (List ℤ)) → t.end ≡ Ended w x
              → (d : Runs code n at' stack' left' w x (f w x)) → (v' : List ℤ) (u' : List (List ℤ))
              → t.end ≡ Ended v' u' → run code d.steps go at' stack' left' v' u' ≡ f v' u' go
          there go w x is d v' u' e =
              let both : Ended w x ≡ Ended v' u' = sym is ∙ e in
              let vs : w ≡ v' = cc in
              let us : x ≡ u' = cc in
              subst (λ (y : List ℤ). run code d.steps go at' stack' left' y u' ≡ f y u' go) vs
              (subst (λ (y : List (List ℤ)). run code d.steps go at' stack' left' w y ≡ f w y go) us (d.gives go))
      by (Waits p y c) is =
          in_more_steps m (m + n) at stack left v u _ (omega arith)
          (rephrased at stack left v u
          _ _ (λ go. then_do_same t (λ v' u'. go at' stack' left' v' u') (λ v' u'. f v' u' go)
          (λ v' u' e. absurd (cc))) a)
      by (Stopped y) is =
          in_more_steps m (m + n) at stack left v u _ (omega arith)
          (rephrased at stack left v u
          _ _ (λ go. then_do_same t (λ v' u'. go at' stack' left' v' u') (λ v' u'. f v' u' go)
          (λ v' u' e. absurd (cc))) a)

  -- to another place, which is the same one, perhaps with other repetitions round it
  pub ends_at_from : (m m' at at1 at2 : ℕ) (stack stack' : List ℤ) (from left : List ℕ) (v : List ℤ)
      (u : List (List ℤ)) (t : Trace) → at1 ≡ at2 → m ≤ m'
      → Runs code m at stack from v u (λ go. then_do t (λ v' u'. go at1 stack' left v' u'))
      → Runs code m' at stack from v u (λ go. then_do t (λ v' u'. go at2 stack' left v' u'))
  ends_at_from m m' at at1 at2 stack stack' from left v u t e h d =
      in_more_steps m m' at stack from v u (λ go. then_do t (λ v' u'. go at2 stack' left v' u')) h
      (subst (λ (n : ℕ). Runs code m at stack from v u (λ go. then_do t (λ v' u'. go n stack' left v' u'))) e d)

  pub ends_at : (m m' at at1 at2 : ℕ) (stack stack' : List ℤ) (left : List ℕ) (v : List ℤ) (u : List (List ℤ))
      (t : Trace) → at1 ≡ at2 → m ≤ m'
      → Runs code m at stack left v u (λ go. then_do t (λ v' u'. go at1 stack' left v' u'))
      → Runs code m' at stack left v u (λ go. then_do t (λ v' u'. go at2 stack' left v' u'))
  ends_at m m' at at1 at2 stack stack' left v u t e h d =
      ends_at_from m m' at at1 at2 stack stack' left left v u t e h d
