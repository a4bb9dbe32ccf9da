-- Laws of sites: where a process stands at a point, that is a site of its statements.
use Rattle.std.proofs.Common.{◌≡◌, ℕ, zero, suc, ◌+◌, ◌^◌, ◌<◌, ◌≤◌, Bool, true, false, cond, ℤ, pos, List, [], ◌∷◌}
use Rattle.std.proofs.Common.{◌++◌, drop, Option, Some, None, sym, subst, append-nil, arith}
use Rattle.std.specs.Prelude.{slice_get, slice_set}
use Rattle.std.specs.Ordering.{int_eq}
use Rattle.protocol.specs.Node.Common.{history_of, Code, Network, Step, process_trace, Standing, StandsAt, At, IsValid}
use Rattle.kahn_net.specs.Common.{total, Block, Nothing, GetThen, AssignThen, PutThen, StopThen, IfThen, RepeatThen}
use Rattle.kahn_net.specs.Common.{Point, End, Ended, Waits, Stopped, Trace, point_at, on_get, then_do, rounds}
use Rattle.kahn_net.specs.Common.{sites_of, value_of, trace_of, passes, loop_trace, standing_at}
use Rattle.kahn_net.specs.Statements.{from_end}
use Rattle.record.specs.Common.{NotBegun, Done}
use Rattle.kahn_net.specs.Valid.{body_units}
use Rattle.kahn_net.specs.Laws.Valid.{units_few}
use Rattle.kahn_net.specs.declared.limits.TheConstants.{MAX_UNITS}
use Rattle.proc_step.proofs.Units.{sites_within}

-- a point below this site
abbrev pub IsSiteBelow : ℕ → Point → Type 0
IsSiteBelow n point = point.site < n

-- so is each point of these acts, and the one at which they end
abbrev pub EachBelow : ℕ → List Step → Type 0
EachBelow n [] = Unit {0}
EachBelow n (step ∷ steps) = IsSiteBelow n step.point × EachBelow n steps

abbrev pub EndBelow : ℕ → End → Type 0
EndBelow n (Ended vars unread) = Unit {0}
EndBelow n (Waits point vars channel) = IsSiteBelow n point
EndBelow n (Stopped vars) = Unit {0}

pub record HasSites (n : ℕ) (t : Trace) : Type 0 where
  pub steps : EachBelow n t.steps
  pub end : EndBelow n t.end

-- and the point at which a process stands, if it stands at one
abbrev pub StandsBelow : ℕ → Standing → Type 0
StandsBelow n (NotBegun vars) = Unit {0}
StandsBelow n (At point vars) = IsSiteBelow n point
StandsBelow n (Done vars) = Unit {0}

each-append : (n : ℕ) (xs ys : List Step) → EachBelow n xs → EachBelow n ys → EachBelow n (xs ++ ys)
each-append n [] ys h k = k
each-append n (x ∷ xs) ys h k = (h.0, each-append n xs ys h.1 k)

each-drop : (n m : ℕ) (xs : List Step) → EachBelow n xs → EachBelow n (drop m xs)
each-drop n zero xs h = h
each-drop n (suc m) [] h = tt
each-drop n (suc m) (x ∷ xs) h = each-drop n m xs h.1

-- what one does after the other
sites_then : (n : ℕ) (t : Trace) (go : List ℤ → List (List ℤ) → Trace) → HasSites n t
    → ((v : List ℤ) (u : List (List ℤ)) → HasSites n (go v u)) → HasSites n (then_do t go)
sites_then n t go h next = at_end t.end h.end
  where
    at_end : (e : End) → EndBelow n e
        → HasSites n (record { steps = t.steps ++ (from_end e go).steps; end = (from_end e go).end })
    at_end (Ended v u) k = let m = next v u in
        record { steps = each-append n t.steps (go v u).steps h.steps m.steps; end = m.end }
    at_end (Waits s y c) k = record { steps = rw append-nil h.steps; end = k }
    at_end (Stopped y) k = record { steps = rw append-nil h.steps; end = k }

one_of : (P : Trace → Type 0) (b : Bool) (x y : Trace) → P x → P y → P (cond b x y)
one_of P true x y p q = p
one_of P false x y p q = q

-- so many passes
sites_rounds : (n times : ℕ) (pass : ℕ → List ℤ → List (List ℤ) → Trace)
    → ((k : ℕ) (v : List ℤ) (u : List (List ℤ)) → HasSites n (pass k v u)) → (v : List ℤ) (u : List (List ℤ))
    → HasSites n (rounds times pass v u)
sites_rounds n zero pass each v u = record { steps = tt; end = tt }
sites_rounds n (suc times) pass each v u =
    sites_then n _ _ (each (suc times) v u) (λ v' u'. sites_rounds n times pass each v' u')

-- what statements do
sites_block : (n site : ℕ) (left : List ℕ) (b : Block) (vars : List ℤ) (unread : List (List ℤ)) → site + sites_of b ≤ n
    → HasSites n (trace_of site left b vars unread)
sites_block n site left Nothing vars unread within = record { steps = tt; end = tt }
sites_block n site left (AssignThen x e rest) vars unread within =
    search (sites_block n site left rest (slice_set vars x (value_of e vars)) unread within)
sites_block n site left (PutThen e c rest) vars unread within =
    let r = sites_block n (site + 1) left rest vars unread (omega arith) in
    record { steps = (omega arith, r.steps); end = r.end }
sites_block n site left (StopThen rest) vars unread within = record { steps = tt; end = tt }
sites_block n site left (IfThen test first second rest) vars unread within =
    sites_then n _ (trace_of (site + sites_of first + sites_of second) left rest)
    (one_of (HasSites n) (int_eq (value_of test vars) (pos 0)) _ _
    (sites_block n (site + sites_of first) left second vars unread (omega arith))
    (sites_block n site left first vars unread (omega arith)))
    (λ v u. sites_block n (site + sites_of first + sites_of second) left rest v u (omega arith))
sites_block n site left (GetThen x c rest) vars unread within =
    at_get (history_of unread c) (λ item later.
    sites_block n (site + 1) left rest (slice_set vars x item) (slice_set unread c later) (omega arith))
  where
    at_get : (history : List ℤ)
        → ((item : ℤ) (later : List ℤ)
        → HasSites n (trace_of (site + 1) left rest (slice_set vars x item) (slice_set unread c later)))
        → HasSites n
        (on_get history (point_at site left) c vars
        (λ item later. trace_of (site + 1) left rest (slice_set vars x item) (slice_set unread c later)))
    at_get [] more = record { steps = tt; end = omega arith }
    at_get (item ∷ later) more = let r = more item later in record { steps = (omega arith, r.steps); end = r.end }
sites_block n site left (RepeatThen times body rest) vars unread within =
    let pass : ℕ → List ℤ → List (List ℤ) → Trace = λ k. trace_of site (left ++ k ∷ []) body in
    sites_then n _ (trace_of (site + sites_of body) left rest)
    (sites_rounds n times pass (λ k v u. sites_block n site (left ++ k ∷ []) body v u (omega arith)) vars unread)
    (λ v u. sites_block n (site + sites_of body) left rest v u (omega arith))

-- whole passes
sites_passes : (n fuel site : ℕ) (b : Block) (vars : List ℤ) (unread : List (List ℤ)) → site + sites_of b ≤ n
    → HasSites n (passes fuel site b vars unread)
sites_passes n zero site b vars unread within = record { steps = tt; end = tt }
sites_passes n (suc fuel) site b vars unread within =
    sites_then n _ _ (sites_block n site [] b vars unread within) (λ v u. sites_passes n fuel site b v u within)

-- how many sites a process has
abbrev pub body_sites : Option Block → ℕ
body_sites None = 0
body_sites (Some body) = sites_of body

abbrev pub code_sites : Code → ℕ
code_sites code = sites_of code.prelude + body_sites code.body

sites_loop : (n site : ℕ) (body : Option Block) (vars : List ℤ) (unread : List (List ℤ)) → site + body_sites body ≤ n
    → HasSites n (loop_trace site body vars unread)
sites_loop n site None vars unread within = record { steps = tt; end = tt }
sites_loop n site (Some b) vars unread within = sites_passes n (suc (total unread)) site b vars unread within

-- what a process does
pub sites_process : (code : Code) (inputs : List (List ℤ)) → HasSites (code_sites code) (process_trace code inputs)
sites_process code inputs =
    sites_then (code_sites code) _ (loop_trace (sites_of code.prelude) code.body)
    (sites_block (code_sites code) 0 [] code.prelude code.vars inputs (omega arith))
    (λ v u. sites_loop (code_sites code) (sites_of code.prelude) code.body v u (omega arith))

sites_standing : (n : ℕ) (steps : List Step) (end : End) → EachBelow n steps → EndBelow n end
    → StandsBelow n (standing_at steps end)
sites_standing n (step ∷ steps) end h k = h.0
sites_standing n [] (Waits point vars channel) h k = k
sites_standing n [] end h k = tt

-- wherever a process stands, the site is one of its own
pub site_of_standing : (code : Code) (inputs : List (List ℤ)) (m : ℕ) (standing : Standing)
    → StandsAt code inputs m standing → StandsBelow (code_sites code) standing
site_of_standing code inputs m (At point vars) stands =
    let all = sites_process code inputs in
    subst (StandsBelow (code_sites code)) (sym stands.here)
    (sites_standing (code_sites code) (drop m (process_trace code inputs).steps) (process_trace code inputs).end
    (each-drop (code_sites code) m (process_trace code inputs).steps all.steps) all.end)
site_of_standing code inputs m standing stands = tt

-- a process of a valid network has few sites
body_few : (body : Option Block) → body_sites body ≤ body_units body
body_few None = omega arith
body_few (Some b) = sites_within b

pub sites_few : (net : Network) (p : ℕ) (code : Code) → IsValid net → slice_get net.codes p ≡ Some code
    → code_sites code ≤ MAX_UNITS
sites_few net p code valid here =
    omega (arith, sites_within code.prelude, body_few code.body, units_few net p code valid here)

-- so that a site takes 4 bytes
pub site_short : (net : Network) (p : ℕ) (code : Code) (point : Point) → IsValid net
    → slice_get net.codes p ≡ Some code → IsSiteBelow (code_sites code) point → point.site < 256 ^ 4
site_short net p code point valid here below = omega (arith, sites_few net p code valid here)
