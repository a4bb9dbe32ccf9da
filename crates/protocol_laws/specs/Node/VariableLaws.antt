-- Laws of variables: a process has as many wherever it stands.
use Rattle.std.proofs.Common.{◌≡◌, ℕ, zero, suc, ◌+◌, Bool, true, false, cond, ℤ, pos, List, [], ◌∷◌, ◌++◌, length}
use Rattle.std.proofs.Common.{drop, Option, Some, None, refl, sym, ap, subst, ◌∙◌, append-nil}
use Rattle.std.specs.Prelude.{slice_set}
use Rattle.std.specs.Ordering.{int_eq}
use Rattle.std.proofs.lemmas.List.{length-set}
use Rattle.protocol.specs.Node.Common.{history_of, Code, Step, process_trace, Standing, StandsAt, At, variables_of}
use Rattle.kahn_net.specs.Common.{total, Block, Nothing, GetThen, AssignThen, PutThen, StopThen, IfThen, RepeatThen}
use Rattle.kahn_net.specs.Common.{End, Ended, Waits, Stopped, Trace, point_at, on_get, then_do, rounds, sites_of}
use Rattle.kahn_net.specs.Common.{value_of, trace_of, passes, loop_trace, standing_at}
use Rattle.kahn_net.specs.Statements.{from_end}
use Rattle.kahn_net.specs.Statements.{choose}
use Rattle.record.specs.Common.{NotBegun, Done}

-- the variables with which statements end
abbrev pub vars_at : End → List ℤ
vars_at (Ended vars unread) = vars
vars_at (Waits point vars channel) = vars
vars_at (Stopped vars) = vars

-- so many variables before each act
abbrev pub EachHas : ℕ → List Step → Type 0
EachHas n [] = Unit {0}
EachHas n (step ∷ steps) = (length step.vars ≡ n) × EachHas n steps

-- and at the end
pub record HasVariables (n : ℕ) (t : Trace) : Type 0 where
  pub steps : EachHas n t.steps
  pub end : length (vars_at t.end) ≡ n

each-append : (n : ℕ) (xs ys : List Step) → EachHas n xs → EachHas n ys → EachHas n (xs ++ ys)
each-append n [] ys h k = k
each-append n (x ∷ xs) ys h k = (h.0, each-append n xs ys h.1 k)

each-drop : (n m : ℕ) (xs : List Step) → EachHas n xs → EachHas n (drop m xs)
each-drop n zero xs h = h
each-drop n (suc m) [] h = tt
each-drop n (suc m) (x ∷ xs) h = each-drop n m xs h.1

-- what one does after the other
variables_then : (n : ℕ) (t : Trace) (go : List ℤ → List (List ℤ) → Trace) → HasVariables n t
    → ((v : List ℤ) (u : List (List ℤ)) → length v ≡ n → HasVariables n (go v u)) → HasVariables n (then_do t go)
variables_then n t go h next = at_end t.end h.end
  where
    at_end : (e : End) → length (vars_at e) ≡ n
        → HasVariables n (record { steps = t.steps ++ (from_end e go).steps; end = (from_end e go).end })
    at_end (Waits s y c) k = record { steps = subst (EachHas n) (sym (append-nil t.steps)) h.steps; end = k }
    at_end (Stopped y) k = record { steps = subst (EachHas n) (sym (append-nil t.steps)) h.steps; end = k }
    at_end (Ended v u) k = let m = next v u k in
        record { steps = each-append n t.steps (go v u).steps h.steps m.steps; end = m.end }

one_of : (P : Trace → Type 0) (b : Bool) (x y : Trace) → P x → P y → P (cond b x y)
one_of P true x y p q = p
one_of P false x y p q = q

-- so many passes
variables_rounds : (n times : ℕ) (pass : ℕ → List ℤ → List (List ℤ) → Trace)
    → ((k : ℕ) (v : List ℤ) (u : List (List ℤ)) → length v ≡ n → HasVariables n (pass k v u)) → (v : List ℤ)
    (u : List (List ℤ)) → length v ≡ n → HasVariables n (rounds times pass v u)
variables_rounds n zero pass each v u same = record { steps = tt; end = same }
variables_rounds n (suc times) pass each v u same =
    variables_then n (pass (suc times) v u) (rounds times pass) (each (suc times) v u same)
    (λ v' u' e. variables_rounds n times pass each v' u' e)

-- what statements do
variables_block : (n site : ℕ) (left : List ℕ) (b : Block) (vars : List ℤ) (unread : List (List ℤ)) → length vars ≡ n
    → HasVariables n (trace_of site left b vars unread)
variables_block n site left Nothing vars unread k = record { steps = tt; end = k }
variables_block n site left (AssignThen x e rest) vars unread k =
    let r = variables_block n site left rest (slice_set vars x (value_of e vars)) unread
    (length-set vars x (value_of e vars) ∙ k) in record { steps = r.steps; end = r.end }
variables_block n site left (PutThen e c rest) vars unread k =
    let r = variables_block n (site + 1) left rest vars unread k in record { steps = (k, r.steps); end = r.end }
variables_block n site left (StopThen rest) vars unread k = record { steps = tt; end = k }
variables_block n site left (IfThen test first second rest) vars unread k =
    let one = trace_of site left first vars unread in
    let other = trace_of (site + sites_of first) left second vars unread in
    variables_then n (choose (value_of test vars) one other)
    (trace_of (site + sites_of first + sites_of second) left rest)
    (one_of (HasVariables n) (int_eq (value_of test vars) (pos 0)) other one
    (variables_block n (site + sites_of first) left second vars unread k)
    (variables_block n site left first vars unread k))
    (λ v u e. variables_block n (site + sites_of first + sites_of second) left rest v u e)
variables_block n site left (GetThen x c rest) vars unread k =
    at_get (history_of unread c)
    (λ item later. variables_block n (site + 1) left rest (slice_set vars x item) (slice_set unread c later)
    (length-set vars x item ∙ k))
  where
    at_get : (history : List ℤ)
        → ((item : ℤ) (later : List ℤ)
        → HasVariables n (trace_of (site + 1) left rest (slice_set vars x item) (slice_set unread c later)))
        → HasVariables n
        (on_get history (point_at site left) c vars
        (λ item later. trace_of (site + 1) left rest (slice_set vars x item) (slice_set unread c later)))
    at_get [] more = record { steps = tt; end = k }
    at_get (item ∷ later) more = let r = more item later in record { steps = (k, r.steps); end = r.end }
variables_block n site left (RepeatThen times body rest) vars unread k =
    let pass : ℕ → List ℤ → List (List ℤ) → Trace = λ j. trace_of site (left ++ j ∷ []) body in
    variables_then n (rounds times pass vars unread) (trace_of (site + sites_of body) left rest)
    (variables_rounds n times pass (λ j v u e. variables_block n site (left ++ j ∷ []) body v u e) vars unread k)
    (λ v u e. variables_block n (site + sites_of body) left rest v u e)

-- whole passes
variables_passes : (n fuel site : ℕ) (b : Block) (vars : List ℤ) (unread : List (List ℤ)) → length vars ≡ n
    → HasVariables n (passes fuel site b vars unread)
variables_passes n zero site b vars unread k = record { steps = tt; end = k }
variables_passes n (suc fuel) site b vars unread k =
    variables_then n (trace_of site [] b vars unread) (passes fuel site b) (variables_block n site [] b vars unread k)
    (λ v u e. variables_passes n fuel site b v u e)

variables_loop : (n site : ℕ) (body : Option Block) (vars : List ℤ) (unread : List (List ℤ)) → length vars ≡ n
    → HasVariables n (loop_trace site body vars unread)
variables_loop n site None vars unread k = record { steps = tt; end = k }
variables_loop n site (Some b) vars unread k = variables_passes n (suc (total unread)) site b vars unread k

-- what a process does
pub variables_process : (code : Code) (inputs : List (List ℤ))
    → HasVariables (length code.vars) (process_trace code inputs)
variables_process code inputs =
    variables_then (length code.vars) (trace_of 0 [] code.prelude code.vars inputs)
    (loop_trace (sites_of code.prelude) code.body)
    (variables_block (length code.vars) 0 [] code.prelude code.vars inputs refl)
    (λ v u e. variables_loop (length code.vars) (sites_of code.prelude) code.body v u e)

variables_standing : (n : ℕ) (steps : List Step) (end : End) → EachHas n steps → length (vars_at end) ≡ n
    → length (variables_of (standing_at steps end)) ≡ n
variables_standing n (step ∷ steps) end h k = h.0
variables_standing n [] (Waits point vars channel) h k = k
variables_standing n [] (Ended vars unread) h k = k
variables_standing n [] (Stopped vars) h k = k

variables_after : (code : Code) (inputs : List (List ℤ)) (m : ℕ)
    → length (variables_of (standing_at (drop m (process_trace code inputs).steps) (process_trace code inputs).end))
    ≡ length code.vars
variables_after code inputs m =
    let all = variables_process code inputs in
    variables_standing (length code.vars) (drop m (process_trace code inputs).steps) (process_trace code inputs).end
    (each-drop (length code.vars) m (process_trace code inputs).steps all.steps) all.end

-- wherever it stands, a process has as many variables as at first
pub variables_stay : (code : Code) (inputs : List (List ℤ)) (m : ℕ) (standing : Standing)
    → StandsAt code inputs m standing → length (variables_of standing) ≡ length code.vars
variables_stay code inputs m (NotBegun vars) stands = ap (length {A = ℤ}) stands.here.1
variables_stay code inputs m (At point vars) stands =
    ap (λ (s : Standing). length (variables_of s)) stands.here ∙ variables_after code inputs m
variables_stay code inputs m (Done vars) stands =
    ap (λ (s : Standing). length (variables_of s)) stands.here ∙ variables_after code inputs m
