-- Laws of traces, one after the other, and of a choice between two.
use Rattle.std.proofs.Common.{◌≡◌, ℕ, ◌+◌, Bool, true, false, cond, List, ℤ, [], ◌∷◌, ◌++◌, set, refl, sym, ap, ◌∙◌}
use Rattle.std.proofs.Common.{append_assoc, append-nil, add-zero, pos, arith, Vec, Global}
use Rattle.std.specs.Ordering.{int_eq}
use Rattle.kahn_net.specs.Streams.{history_of}
use Rattle.kahn_net.specs.Syntax.{Block, Nothing, then_of, row_block, block_of, tree_of}
use Rattle.kahn_net.specs.Laws.Syntax.{if_of}
use Rattle.kahn_net.specs.declared.program.Expr.{Expr}
use Rattle.kahn_net.specs.declared.program.Statement.TheViews as view
use Rattle.kahn_net.specs.Statements.{point_at, Step, Trace, End, Ended, Waits, Stopped, no_steps, on_get, trace_of}
use Rattle.kahn_net.specs.Statements.{value_of, choose, sites_of, from_end, then_do, rounds}
use Rattle.kahn_net.specs.declared.program.Statement.{Statement, Get, Assign, Put, Stop, If', Repeat'}

-- what is true of both is true of the one that a test chooses
pub one_of : (P : Trace → Type 0) (test : Bool) (a b : Trace) → P a → P b → P (cond test a b)
one_of P true a b p q = p
one_of P false a b p q = q

-- the same of two by two
pub both_of : (R : Trace → Trace → Type 0) (test : Bool) (a b c d : Trace) → R a c → R b d
    → R (cond test a b) (cond test c d)
both_of R true a b c d p q = p
both_of R false a b c d p q = q

pub same_trace : (t : Trace) (steps : List Step) (end : End) → t.steps ≡ steps → t.end ≡ end
    → t ≡ record { steps = steps; end = end }
same_trace t steps end e f = rw (← e, ← f) refl

from_end_same : (e : End) (f g : List ℤ → List (List ℤ) → Trace)
    → ((v : List ℤ) (u : List (List ℤ)) → e ≡ Ended v u → f v u ≡ g v u) → from_end e f ≡ from_end e g
from_end_same (Ended v u) f g h = h v u refl
from_end_same (Waits p v c) f g h = refl
from_end_same (Stopped v) f g h = refl

-- what comes after an end depends on that end alone
pub then_do_same : (t : Trace) (f g : List ℤ → List (List ℤ) → Trace)
    → ((v : List ℤ) (u : List (List ℤ)) → t.end ≡ Ended v u → f v u ≡ g v u) → then_do t f ≡ then_do t g
then_do_same t f g h = rw (from_end_same t.end f g h) refl

-- where the other ended, the one ended before it
pub ended_then : (t : Trace) (go : List ℤ → List (List ℤ) → Trace) (v : List ℤ) (u : List (List ℤ))
    → (then_do t go).end ≡ Ended v u
    → (v1 : List ℤ) × (w : List (List ℤ)) × (t.end ≡ Ended v1 w) × ((go v1 w).end ≡ Ended v u)
ended_then t go v u h = (elim t.end as (λ e. t.end ≡ e → (from_end e go).end ≡ Ended v u
    → (v1 : List ℤ) × (w : List (List ℤ)) × (t.end ≡ Ended v1 w) × ((go v1 w).end ≡ Ended v u)) [
      | Ended v1 w ↦ λ is f. (v1, w, is, f)
      | Waits p y c ↦ λ is f. absurd cc
      | Stopped y ↦ λ is f. absurd cc
    ]) refl h

-- one after another, three of them
pub then_do_then : (t : Trace) (f g : List ℤ → List (List ℤ) → Trace)
    → then_do (then_do t f) g ≡ then_do t (λ v u. then_do (f v u) g)
then_do_then t f g = at t.end
  where
    at : (e : End) → then_do (let first = from_end e f in record { steps = t.steps ++ first.steps; end = first.end }) g
        ≡ (let more = from_end e (λ v u. then_do (f v u) g) in record { steps = t.steps ++ more.steps; end = more.end })
    at (Ended v u) = rw append_assoc refl
    at (Waits p v c) = rw append_assoc refl
    at (Stopped v) = rw append_assoc refl

-- what statements do is what the first does, and then what the others do
pub first_then_rest : (site : ℕ) (left : List ℕ) (s : Statement) (rest : Block) (v : List ℤ) (u : List (List ℤ))
    → trace_of site left (then_of s rest) v u
    ≡ then_do (trace_of site left (then_of s Nothing) v u)
    (trace_of (site + sites_of (then_of s Nothing)) left rest)
first_then_rest site left (Assign x e) rest v u = rw add-zero refl
first_then_rest site left (Put e c) rest v u = refl
first_then_rest site left Stop rest v u = refl
first_then_rest site left (Get x c) rest v u = elim (history_of u c) as (λ h.
    on_get h (point_at site left) c v (λ item later. trace_of (site + 1) left rest (set v x item) (set u c later))
    ≡ then_do (on_get h (point_at site left) c v (λ item later. no_steps (Ended (set v x item) (set u c later))))
    (trace_of (site + 1) left rest)) [ [] ↦ refl | item ∷ later ↦ refl ]
first_then_rest site left (If' e p first q second) rest v u =
    let a = row_block first in
    let b = row_block second in
    let chosen = choose (value_of (tree_of e) v) (trace_of site left a v u) (trace_of (site + sites_of a) left b v u) in
    let same : site + (sites_of a + (sites_of b + 0)) ≡ site + sites_of a + sites_of b = omega arith in
    rw same (sym (then_do_then chosen (trace_of site left Nothing) (trace_of (site + sites_of a + sites_of b) left rest)))
first_then_rest site left (Repeat' times p body) rest v u =
    let b = row_block body in
    let made = rounds times (λ (k : ℕ). trace_of site (left ++ k ∷ []) b) v u in
    rw add-zero (sym (then_do_then made (trace_of site left Nothing) (trace_of (site + sites_of b) left rest)))

from_end_nothing : (e : End) (site : ℕ) (left : List ℕ) → from_end e (trace_of site left Nothing) ≡ no_steps e
from_end_nothing (Ended v u) site left = refl
from_end_nothing (Waits p v c) site left = refl
from_end_nothing (Stopped v) site left = refl

-- with nothing behind it
pub then_nothing : (t : Trace) (site : ℕ) (left : List ℕ) → then_do t (trace_of site left Nothing) ≡ t
then_nothing t site left = rw (from_end_nothing t.end site left, append-nil) refl

-- what an if does, as code finds it, with nothing behind it: its first block where the value isn't 0, and else its
-- second
module _ (s : Statement) (test : Expr) (first second : Vec Statement Global) (is : s ≡ view.If test first second)
    (site : ℕ) (left : List ℕ) (v : List ℤ) (u : List (List ℤ)) where
  chosen : trace_of site left (then_of s Nothing) v u
      ≡ choose (value_of (tree_of test) v) (trace_of site left (block_of first.items) v u)
      (trace_of (site + sites_of (block_of first.items)) left (block_of second.items) v u)
  chosen =
      let a = block_of first.items in
      let b = block_of second.items in
      rw (ap (λ (x : Statement). then_of x Nothing) is ∙ if_of test first second Nothing) (then_nothing
      (choose (value_of (tree_of test) v) (trace_of site left a v u) (trace_of (site + sites_of a) left b v u))
      (site + sites_of a + sites_of b) left)

  pub takes_first : false ≡ int_eq (value_of (tree_of test) v) (pos 0)
      → trace_of site left (then_of s Nothing) v u ≡ trace_of site left (block_of first.items) v u
  takes_first zero = rw (chosen, ← zero) refl

  pub takes_second : true ≡ int_eq (value_of (tree_of test) v) (pos 0)
      → trace_of site left (then_of s Nothing) v u
      ≡ trace_of (site + sites_of (block_of first.items)) left (block_of second.items) v u
  takes_second zero = rw (chosen, ← zero) refl
