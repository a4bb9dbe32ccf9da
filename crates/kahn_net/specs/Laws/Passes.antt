-- Laws of passes: each whole pass of a body that passes takes an item, so one pass more than there are items is always
-- enough.
use Rattle.std.proofs.Common.{◌≡◌, ℕ, zero, suc, ◌+◌, ◌≤◌, Bool, true, false, ◌&&◌, ◌||◌, pos, List, ℤ, [], ◌∷◌, ◌++◌}
use Rattle.std.proofs.Common.{length, set, refl, sym, ap, subst, ◌∙◌, arith}
use Rattle.std.specs.Prelude.{IsTrue, nat_lt}
use Rattle.std.proofs.lemmas.Bool.{lt-ltb}
use Rattle.std.specs.Ordering.{int_eq}
use Rattle.kahn_net.specs.Streams.{history_of, total}
use Rattle.kahn_net.specs.Syntax.{Block, Nothing, GetThen, AssignThen, PutThen, StopThen, IfThen, RepeatThen}
use Rattle.kahn_net.specs.Valid.{is_passing}
use Rattle.kahn_net.specs.Statements.{Trace, End, Ended, trace_of, point_at, choose, on_get, from_end, value_of, rounds}
use Rattle.kahn_net.specs.Statements.{sites_of}
use Rattle.kahn_net.specs.Processes.{passes}
use Rattle.kahn_net.specs.Laws.Traces.{one_of, then_do_same, ended_then}

-- an item less
pub total-set : (all : List (List ℤ)) (c : ℕ) (item : ℤ) (left : List ℤ) → history_of all c ≡ item ∷ left
    → suc (total (set all c left)) ≡ total all
total-set [] c item left h = absurd (cc)
total-set (x ∷ all) zero item left h = omega (arith, ap length h)
total-set (x ∷ all) (suc c) item left h = let fewer = total-set all c item left h in omega arith

-- how many items a whole pass takes at least
abbrev pub one_if : Bool → ℕ
one_if true = 1
one_if false = 0

-- an if passes where both its blocks do, or what comes behind it does
of_first : (a b r : Bool) → one_if ((a && b) || r) ≤ one_if a + one_if r
of_first true true r = omega arith
of_first true false r = omega arith
of_first false b r = omega arith

of_second : (a b r : Bool) → one_if ((a && b) || r) ≤ one_if b + one_if r
of_second true true r = omega arith
of_second true false r = omega arith
of_second false true r = omega arith
of_second false false r = omega arith

-- a repetition passes where it is made and its block does, or what comes behind it does
of_rounds : (a r : Bool) → one_if (a || r) ≤ one_if a + one_if r
of_rounds true r = omega arith
of_rounds false r = omega arith

-- a repetition takes what one of its passes takes, where it is made at all
pub rounds_take : (n : ℕ) (pass : ℕ → List ℤ → List (List ℤ) → Trace) (b : Bool)
    → ((k : ℕ) (v : List ℤ) (u : List (List ℤ)) (v' : List ℤ) (u' : List (List ℤ)) → (pass k v u).end ≡ Ended v' u'
    → total u' + one_if b ≤ total u)
    → (v : List ℤ) (u : List (List ℤ)) (v' : List ℤ) (u' : List (List ℤ)) → (rounds n pass v u).end ≡ Ended v' u'
    → total u' + one_if (nat_lt 0 n && b) ≤ total u
rounds_take zero pass b takes v u v' u' e = let same : u ≡ u' = cc in omega (arith, ap total same)
rounds_take (suc n) pass b takes v u v' u' e =
    let parts = ended_then (pass (suc n) v u) (rounds n pass) v' u' e in
    let first = takes (suc n) v u parts.0 parts.1 parts.2 in
    let later = rounds_take n pass b takes parts.0 parts.1 v' u' parts.3 in
    let made : true ≡ nat_lt 0 (suc n) = sym (lt-ltb 0 (suc n) (omega arith)) in
    let both : total u' + one_if b ≤ total u = omega (arith, first, later) in
    subst (λ (t : Bool). total u' + one_if (t && b) ≤ total u) made both

pub pass_takes : (site : ℕ) (left : List ℕ) (b : Block) (vars : List ℤ) (unread : List (List ℤ)) (vars' : List ℤ)
    (unread' : List (List ℤ))
    → (trace_of site left b vars unread).end ≡ Ended vars' unread'
    → total unread' + one_if (is_passing b) ≤ total unread
pass_takes site left Nothing vars unread vars' unread' e = let same : unread ≡ unread' = cc in
    omega (arith, ap total same)
pass_takes site left (AssignThen x v rest) vars unread vars' unread' e =
    pass_takes site left rest (set vars x (value_of v vars)) unread vars' unread' e
pass_takes site left (PutThen v channel rest) vars unread vars' unread' e =
    pass_takes (site + 1) left rest vars unread vars' unread' e
pass_takes site left (StopThen rest) vars unread vars' unread' e = absurd (cc)
pass_takes site left (IfThen test first second rest) vars unread vars' unread' e =
    let one = trace_of site left first vars unread in
    let other = trace_of (site + sites_of first) left second vars unread in
    let go = trace_of (site + sites_of first + sites_of second) left rest in
    let parts = ended_then (choose (value_of test vars) one other) go vars' unread' e in
    let later = pass_takes (site + sites_of first + sites_of second) left rest parts.0 parts.1 vars' unread' parts.3 in
    let chosen =
    one_of (λ (t : Trace). (v : List ℤ) (u : List (List ℤ)) → t.end ≡ Ended v u
    → total u + one_if ((is_passing first && is_passing second) || is_passing rest)
    ≤ total unread + one_if (is_passing rest)) (int_eq (value_of test vars) (pos 0)) other one
    (λ v u f. let part = pass_takes (site + sites_of first) left second vars unread v u f in
    omega (arith, part, of_second (is_passing first) (is_passing second) (is_passing rest)))
    (λ v u f. let part = pass_takes site left first vars unread v u f in
    omega (arith, part, of_first (is_passing first) (is_passing second) (is_passing rest)))
    parts.0 parts.1 parts.2 in
    omega (arith, later, chosen)
pass_takes site left (RepeatThen times body rest) vars unread vars' unread' e =
    let go = trace_of (site + sites_of body) left rest in
    let pass = λ (k : ℕ). trace_of site (left ++ k ∷ []) body in
    let parts = ended_then (rounds times pass vars unread) go vars' unread' e in
    let later = pass_takes (site + sites_of body) left rest parts.0 parts.1 vars' unread' parts.3 in
    let made =
    rounds_take times pass (is_passing body)
    (λ k v u v' u' f. pass_takes site (left ++ k ∷ []) body v u v' u' f) vars unread parts.0 parts.1 parts.2 in
    omega (arith, later, made, of_rounds (nat_lt 0 times && is_passing body) (is_passing rest))
pass_takes site left (GetThen x channel rest) vars unread vars' unread' e =
    at_get (history_of unread channel) refl
    (λ item later f. pass_takes (site + 1) left rest (set vars x item) (set unread channel later) vars' unread' f) e
  where
    at_get : (history : List ℤ) → history_of unread channel ≡ history
        → ((item : ℤ) (later : List ℤ)
        → (trace_of (site + 1) left rest (set vars x item) (set unread channel later)).end ≡ Ended vars' unread'
        → total unread' + one_if (is_passing rest) ≤ total (set unread channel later))
        → (on_get history (point_at site left) channel vars
        (λ item later. trace_of (site + 1) left rest (set vars x item) (set unread channel later))).end
        ≡ Ended vars' unread' → total unread' + 1 ≤ total unread
    at_get [] is rest_takes f = absurd (cc)
    at_get (item ∷ later) is rest_takes f =
        let fewer = total-set unread channel item later is in
        let after = rest_takes item later f in
        omega arith

pub fewer_left : (site : ℕ) (left : List ℕ) (b : Block) (vars : List ℤ) (unread : List (List ℤ)) (v : List ℤ)
    (u : List (List ℤ)) → IsTrue (is_passing b) → (trace_of site left b vars unread).end ≡ Ended v u
    → total u + 1 ≤ total unread
fewer_left site left b vars unread v u passing e = rw passing at (pass_takes site left b vars unread v u e)

-- more passes than there are items change nothing: a process's acts are well founded
pub enough_passes : (n m site : ℕ) (b : Block) (vars : List ℤ) (unread : List (List ℤ)) → IsTrue (is_passing b)
    → total unread ≤ n → total unread ≤ m → passes (suc n) site b vars unread ≡ passes (suc m) site b vars unread
enough_passes zero m site b vars unread passing h k =
    then_do_same (trace_of site [] b vars unread) (passes zero site b) (passes m site b)
    (λ v u e. let fewer = fewer_left site [] b vars unread v u passing e in absurd (omega arith))
enough_passes (suc n) zero site b vars unread passing h k =
    then_do_same (trace_of site [] b vars unread) (passes (suc n) site b) (passes zero site b)
    (λ v u e. let fewer = fewer_left site [] b vars unread v u passing e in absurd (omega arith))
enough_passes (suc n) (suc m) site b vars unread passing h k =
    then_do_same (trace_of site [] b vars unread) (passes (suc n) site b) (passes (suc m) site b)
    (λ v u e. let fewer = fewer_left site [] b vars unread v u passing e in
    enough_passes n m site b v u passing (omega arith) (omega arith))

fueled : (n site : ℕ) (b : Block) (v : List ℤ) (u : List (List ℤ)) → IsTrue (is_passing b) → total u + 1 ≤ n
    → passes n site b v u ≡ passes (suc (total u)) site b v u
fueled zero site b v u passing h = absurd (omega arith)
fueled (suc n) site b v u passing h = enough_passes n (total u) site b v u passing (omega arith) (omega arith)

-- the first pass, and those after it
pub one_pass : (site : ℕ) (b : Block) (vars : List ℤ) (unread : List (List ℤ)) (v : List ℤ) (u : List (List ℤ))
    → IsTrue (is_passing b) → (trace_of site [] b vars unread).end ≡ Ended v u
    → passes (suc (total unread)) site b vars unread
    ≡ record {
      steps = (trace_of site [] b vars unread).steps ++ (passes (suc (total u)) site b v u).steps;
      end =
          (passes (suc (total u)) site b v u).end;
    }
one_pass site b vars unread v u passing e =
    ap (λ (w : Trace). let r : Trace =
    record { steps = (trace_of site [] b vars unread).steps ++ w.steps; end = w.end } in r)
    (ap (λ (d : End). from_end d (passes (total unread) site b)) e
    ∙ fueled (total unread) site b v u passing (fewer_left site [] b vars unread v u passing e))
