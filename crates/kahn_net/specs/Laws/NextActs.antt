-- Laws of what comes next: each act that a process makes is the get or put of its site, and so is the get at which it
-- waits; and as many passes of each repetition round that site remain as can.
use Rattle.std.proofs.Common.{◌≡◌, ◌==◌, ℕ, zero, suc, ◌+◌, ◌<◌, ◌≤◌, true, false, pos, List, ℤ, [], ◌∷◌}
use Rattle.std.proofs.Common.{◌++◌, Option, Some, None, refl, sym, ◌∙◌, arith, drop, set, append-nil, append_assoc}
use Rattle.std.proofs.Math.Seq.{drop-nil}
use Rattle.std.specs.List.{AllZip}
use Rattle.std.proofs.lemmas.Bool.{lt-ltb, le-ltb}
use Rattle.std.proofs.lemmas.Bool.Decides.{nat_tests}
use Rattle.std.specs.Prelude.{slice_get}
use Rattle.std.specs.Ordering.{int_eq}
use Rattle.kahn_net.specs.Streams.{history_of, total}
use Rattle.kahn_net.specs.Syntax.{Block, Nothing, GetThen, AssignThen, PutThen, StopThen, IfThen, RepeatThen, Code}
use Rattle.kahn_net.specs.Statements.{Act, Got, Sent, Point, Step, Trace, End, Ended, Waits, Stopped, trace_of}
use Rattle.kahn_net.specs.Statements.{point_at, choose, on_get, from_end, then_do, rounds, value_of, sites_of}
use Rattle.kahn_net.specs.Processes.{Standing, NotBegun, At, Done, standing_at, StandsAt, HasPassingLoop, passes}
use Rattle.kahn_net.specs.Processes.{loop_trace, process_trace}
use Rattle.kahn_net.specs.Laws.Traces.{one_of}
use Rattle.kahn_net.specs.NextActs.{Next, Gets, Puts, next_on, next_at, next_of, IsNextAct}
use Rattle.kahn_net.specs.Repeats.{repeats_on, CanRemain, FitsRepeats}

-- what foretells this act
abbrev pub foretold_by : Act → Next
foretold_by (Got c item) = Gets c
foretold_by (Sent c item) = Puts c

-- each of these steps
abbrev pub AreAll : (Step → Type 0) → List Step → Type 0
AreAll P [] = Unit {0}
AreAll P (step ∷ steps) = P step × AreAll P steps

all_for : (P Q : Step → Type 0) (steps : List Step) → ((step : Step) → P step → Q step) → AreAll P steps
    → AreAll Q steps
all_for P Q [] h all = tt
all_for P Q (step ∷ steps) h all = (h step all.0, all_for P Q steps h all.1)

all-append : (P : Step → Type 0) (xs ys : List Step) → AreAll P xs → AreAll P ys → AreAll P (xs ++ ys)
all-append P [] ys h k = k
all-append P (x ∷ xs) ys h k = (h.0, all-append P xs ys h.1 k)

all_at : (P : Step → Type 0) (steps : List Step) (m : ℕ) (step : Step) → AreAll P steps → slice_get steps m ≡ Some step
    → P step
all_at P [] m step all e = absurd cc
all_at P (x ∷ xs) zero step all e = let same : x ≡ step = cc in rw (← same) all.0
all_at P (x ∷ xs) (suc m) step all e = all_at P xs m step all.1 e

-- at the point of each act, and of the get at which it waits, this is true of what comes next there
pub record Foretells (place : Point → Next → Type 0) (t : Trace) : Type 0 where
  pub acts : AreAll (λ step. place step.point (foretold_by step.act)) t.steps
  pub waits : (point : Point) (vars : List ℤ) (c : ℕ) → t.end ≡ Waits point vars c → place point (Gets c)

foretells_for : (P Q : Point → Next → Type 0) (t : Trace)
    → ((point : Point) (next : Next) → P point next → Q point next)
    → Foretells P t → Foretells Q t
foretells_for P Q t h f = record {
  acts = all_for _ _ t.steps (λ step p. h step.point (foretold_by step.act) p) f.acts;
  waits = λ point vars c e. h point (Gets c) (f.waits point vars c e);
}

foretells_none : (P : Point → Next → Type 0) (v : List ℤ) (u : List (List ℤ))
    → Foretells P (record { steps = []; end = Ended v u })
foretells_none P v u = record { acts = tt; waits = λ point vars c e. absurd cc }

-- what comes after an end
foretells_end : (P : Point → Next → Type 0) (e : End) (go : List ℤ → List (List ℤ) → Trace)
    → ((point : Point) (vars : List ℤ) (c : ℕ) → e ≡ Waits point vars c → P point (Gets c))
    → ((v : List ℤ) (u : List (List ℤ)) → Foretells P (go v u)) → Foretells P (from_end e go)
foretells_end P (Waits s y c) go waits next = record { acts = tt; waits = waits }
foretells_end P (Stopped y) go waits next = record { acts = tt; waits = waits }
foretells_end P (Ended v u) go waits next = next v u

-- what one does after the other
foretells_then : (P : Point → Next → Type 0) (t : Trace) (go : List ℤ → List (List ℤ) → Trace) → Foretells P t
    → ((v : List ℤ) (u : List (List ℤ)) → Foretells P (go v u)) → Foretells P (then_do t go)
foretells_then P t go f next =
    let more = foretells_end P t.end go f.waits next in
    record { acts = all-append _ t.steps (from_end t.end go).steps f.acts more.acts; waits = more.waits }

-- so many passes
foretells_rounds : (P : Point → Next → Type 0) (n : ℕ) (pass : ℕ → List ℤ → List (List ℤ) → Trace)
    → ((k : ℕ) → 1 ≤ k → k ≤ n → (v : List ℤ) (u : List (List ℤ)) → Foretells P (pass k v u))
    → (v : List ℤ) (u : List (List ℤ)) → Foretells P (rounds n pass v u)
foretells_rounds P zero pass h v u = foretells_none P v u
foretells_rounds P (suc n) pass h v u =
    foretells_then P (pass (suc n) v u) (rounds n pass) (h (suc n) (omega arith) (omega arith) v u)
    (λ v' u'. foretells_rounds P n pass (λ k some few. h k some (omega arith)) v' u')

-- A point of this block, whose first get or put has this number, where so many passes of the repetitions round the
-- block remain, and what comes next there. Inside the block as many passes remain as can.
pub record IsPlaced (number : ℕ) (left : List ℕ) (b : Block) (point : Point) (next : Next) : Type 0 where
  pub above : number ≤ point.site
  pub below : point.site < number + sites_of b
  pub is : next_on number b point.site ≡ next
  pub inner : List ℕ
  pub stands : point.left ≡ left ++ inner
  pub fits : AllZip CanRemain inner (repeats_on number b point.site)

same_number : (number : ℕ) → (number == number) ≡ true
same_number number = grind (arith, nat_tests)

other_number : (number site : ℕ) → suc number ≤ site → (number == site) ≡ false
other_number number site h = grind (arith, nat_tests)

-- the first get or put of a block is where it stands
placed_here : (number : ℕ) (left : List ℕ) (b : Block) (next : Next) → 0 < sites_of b → next_on number b number ≡ next
    → repeats_on number b number ≡ [] → IsPlaced number left b (point_at number left) next
placed_here number left b next some is none = record {
  above = omega arith;
  below = omega arith;
  is = is;
  inner = [];
  stands = sym (append-nil left);
  fits = rw none tt;
}

-- What is foretold of a part of a block is foretold of the block, where both say the same of the sites of the part.
foretells_part : (number m : ℕ) (left : List ℕ) (part b : Block) (t : Trace) → number ≤ m
    → m + sites_of part ≤ number + sites_of b
    → ((site : ℕ) → m ≤ site → site < m + sites_of part
    → (next_on number b site ≡ next_on m part site) × (repeats_on number b site ≡ repeats_on m part site))
    → Foretells (IsPlaced m left part) t → Foretells (IsPlaced number left b) t
foretells_part number m left part b t low high alike f =
    foretells_for (IsPlaced m left part) (IsPlaced number left b) t
    (λ point next p.
    let above = p.above in
    let below = p.below in
    let same = alike point.site above below in record {
      above = omega arith;
      below = omega arith;
      is = same.0 ∙ p.is;
      inner = p.inner;
      stands = p.stands;
      fits = rw same.1 p.fits;
    }) f

-- what statements do
foretells_block : (number : ℕ) (left : List ℕ) (b : Block) (v : List ℤ) (u : List (List ℤ))
    → Foretells (IsPlaced number left b) (trace_of number left b v u)
foretells_block number left Nothing v u = foretells_none (IsPlaced number left Nothing) v u
foretells_block number left (StopThen b) v u = record { acts = tt; waits = λ point vars c e. absurd cc }
foretells_block number left (AssignThen x e b) v u =
    foretells_part number number left b (AssignThen x e b) _ (omega arith) (omega arith) (λ site low high. (refl, refl))
    (foretells_block number left b (set v x (value_of e v)) u)
foretells_block number left (IfThen test first second b) v u =
    let whole = IfThen test first second b in
    let m = number + sites_of first in
    let n = number + sites_of first + sites_of second in
    foretells_then (IsPlaced number left whole) (choose (value_of test v) _ _) (trace_of n left b)
    (one_of (Foretells (IsPlaced number left whole)) (int_eq (value_of test v) (pos 0)) _ _
    (foretells_part number m left second whole _ (omega arith) (omega arith)
    (λ site low high. rw (le-ltb site m low, lt-ltb site n high) (refl, refl))
    (foretells_block m left second v u))
    (foretells_part number number left first whole _ (omega arith) (omega arith)
    (λ site low high. rw (lt-ltb site m high) (refl {a = next_on number first site}, refl {a = repeats_on number first site}))
    (foretells_block number left first v u)))
    (λ v' u'. foretells_part number n left b whole _ (omega arith) (omega arith)
    (λ site low high. let past : m ≤ site = omega arith in
    rw (le-ltb site m past, le-ltb site n low) (refl, refl))
    (foretells_block n left b v' u'))
foretells_block number left (RepeatThen times body b) v u =
    let whole = RepeatThen times body b in
    let n = number + sites_of body in
    let pass = λ (k : ℕ). trace_of number (left ++ k ∷ []) body in
    foretells_then (IsPlaced number left whole) (rounds times pass v u) (trace_of n left b)
    (foretells_rounds (IsPlaced number left whole) times pass
    (λ k some few v' u'. foretells_for (IsPlaced number (left ++ k ∷ []) body) (IsPlaced number left whole) (pass k v' u')
    (λ point next p. let below = p.below in record {
      above = p.above;
      below = omega arith;
      is = rw (lt-ltb point.site n below) p.is;
      inner = k ∷ p.inner;
      stands = p.stands ∙ append_assoc left (k ∷ []) p.inner;
      fits = rw (lt-ltb point.site n below) ((some, few), p.fits);
    })
    (foretells_block number (left ++ k ∷ []) body v' u')) v u)
    (λ v' u'. foretells_part number n left b whole _ (omega arith) (omega arith)
    (λ site low high. rw (le-ltb site n low) (refl, refl)) (foretells_block n left b v' u'))
foretells_block number left (PutThen e c b) v u =
    let r = foretells_part number (number + 1) left b (PutThen e c b) _ (omega arith) (omega arith)
    (λ site low high. let other = other_number number site (omega arith) in rw other (refl, refl))
    (foretells_block (number + 1) left b v u) in
    record {
      acts = (placed_here number left (PutThen e c b) (Puts c) (omega arith) (rw same_number refl) (rw same_number refl), r.acts);
      waits = r.waits;
    }
foretells_block number left (GetThen x c b) v u =
    let whole = GetThen x c b in
    let here = placed_here number left whole (Gets c) (omega arith) (rw same_number refl) (rw same_number refl) in
    elim (history_of u c) as (λ history. Foretells (IsPlaced number left whole) (on_get history (point_at number left) c v
    (λ item later. trace_of (number + 1) left b (set v x item) (set u c later)))) [
      | [] ↦ record {
        acts = tt;
        waits = λ point vars d e.
            let same : point_at number left ≡ point = cc in
            let channel : c ≡ d = cc in
            rw (← same, ← channel) here;
      }
      | item ∷ later ↦
          let r = foretells_part number (number + 1) left b whole _ (omega arith) (omega arith)
          (λ site low high. let other = other_number number site (omega arith) in rw other (refl, refl))
          (foretells_block (number + 1) left b (set v x item) (set u c later)) in
          record { acts = (here, r.acts); waits = r.waits }
    ]

-- whole passes
foretells_passes : (P : Point → Next → Type 0) (n site : ℕ) (b : Block)
    → ((v : List ℤ) (u : List (List ℤ)) → Foretells P (trace_of site [] b v u)) → (v : List ℤ) (u : List (List ℤ))
    → Foretells P (passes n site b v u)
foretells_passes P zero site b h v u = foretells_none P v u
foretells_passes P (suc n) site b h v u =
    foretells_then P (trace_of site [] b v u) (passes n site b) (h v u) (λ v' u'. foretells_passes P n site b h v' u')

-- what comes next at a point of a process, where as many passes remain as can
pub record ComesNext (code : Code) (point : Point) (next : Next) : Type 0 where
  pub is : next_at code point.site ≡ next
  pub fits : FitsRepeats code point

in_prelude : (code : Code) (point : Point) (next : Next) → IsPlaced 0 [] code.prelude point next
    → ComesNext code point next
in_prelude code point next p =
    let below = p.below in
    let here = lt-ltb point.site (sites_of code.prelude) (omega arith) in
    record { is = rw here p.is; fits = rw (p.stands, here) p.fits }

in_body : (code : Code) (b : Block) → code.body ≡ Some b → (point : Point) (next : Next)
    → IsPlaced (sites_of code.prelude) [] b point next → ComesNext code point next
in_body code b is point next p =
    let past = le-ltb point.site (sites_of code.prelude) p.above in
    record { is = rw (past, is) p.is; fits = rw (p.stands, past, is) p.fits }

-- the loop
foretells_loop : (code : Code) (body : Option Block) → code.body ≡ body → (v : List ℤ) (u : List (List ℤ))
    → Foretells (ComesNext code) (loop_trace (sites_of code.prelude) body v u)
foretells_loop code None is v u = foretells_none (ComesNext code) v u
foretells_loop code (Some b) is v u =
    foretells_passes (ComesNext code) (suc (total u)) (sites_of code.prelude) b
    (λ v' u'. foretells_for _ (ComesNext code) _ (in_body code b is) (foretells_block (sites_of code.prelude) [] b v' u'))
    v u

-- a process: each of its acts is the get or put of its site, and so is the get at which it waits
pub foretells_process : (code : Code) (inputs : List (List ℤ)) → Foretells (ComesNext code) (process_trace code inputs)
foretells_process code inputs =
    foretells_then (ComesNext code) (trace_of 0 [] code.prelude code.vars inputs)
    (loop_trace (sites_of code.prelude) code.body)
    (foretells_for _ (ComesNext code) _ (in_prelude code) (foretells_block 0 [] code.prelude code.vars inputs))
    (λ v u. foretells_loop code code.body refl v u)

-- before an act it stands at the act's site
stands_before : (steps : List Step) (m : ℕ) (step : Step) (e : End) → slice_get steps m ≡ Some step
    → standing_at (drop m steps) e ≡ At step.point step.vars
stands_before [] m step e h = absurd cc
stands_before (x ∷ xs) zero step e h = let same : x ≡ step = cc in rw same refl
stands_before (x ∷ xs) (suc m) step e h = stands_before xs m step e h

foretold : (next : Next) (act : Act) → next ≡ foretold_by act → IsNextAct next act
foretold next (Got c item) e = rw e refl
foretold next (Sent c item) e = rw e refl

-- the next act is the one foretold by where the process stands
pub next_acts : (code : Code) (inputs : List (List ℤ)) (m : ℕ) (standing : Standing) → StandsAt code inputs m standing
    → HasPassingLoop code
    → (step : Step) → slice_get (process_trace code inputs).steps m ≡ Some step
    → IsNextAct (next_of code standing) step.act
next_acts code inputs m (NotBegun vars) s passing step h = tt
next_acts code inputs m (Done vars) s passing step h =
    let t = process_trace code inputs in
    let before : Done vars ≡ At step.point step.vars = s.here ∙ stands_before t.steps m step t.end h in
    absurd cc
next_acts code inputs m (At point vars) s passing step h =
    let t = process_trace code inputs in
    let before : At point vars ≡ At step.point step.vars = s.here ∙ stands_before t.steps m step t.end h in
    let same : point ≡ step.point = cc in
    foretold (next_at code point.site) step.act
    (rw same (all_at _ t.steps m step (foretells_process code inputs).acts h).is)

-- what is true of each point of a trace, of its acts and of its end, is true of one at which it stands
at_standing : (Q : Point → Type 0) (steps : List Step) (m : ℕ) (e : End) (point : Point) (vars : List ℤ)
    → AreAll (λ step. Q step.point) steps → ((p : Point) (v : List ℤ) (c : ℕ) → e ≡ Waits p v c → Q p)
    → At point vars ≡ standing_at (drop m steps) e → Q point
at_standing Q (x ∷ xs) zero e point vars all last h = let same : x.point ≡ point = cc in rw (← same) all.0
at_standing Q (x ∷ xs) (suc m) e point vars all last h = at_standing Q xs m e point vars all.1 last h
at_standing Q [] m e point vars all last h = at_end e last (rw drop-nil at h)
  where
    at_end : (d : End) → ((p : Point) (v : List ℤ) (c : ℕ) → d ≡ Waits p v c → Q p) → At point vars ≡ standing_at [] d
        → Q point
    at_end (Waits p v c) last h = let same : p ≡ point = cc in rw (← same) (last p v c refl)
    at_end (Ended v u) last h = absurd cc
    at_end (Stopped v) last h = absurd cc

-- where a process stands as many passes remain as can, of each repetition round its site
pub repeats_fit : (code : Code) (inputs : List (List ℤ)) (m : ℕ) (point : Point) (vars : List ℤ)
    → StandsAt code inputs m (At point vars) → FitsRepeats code point
repeats_fit code inputs m point vars s =
    let t = process_trace code inputs in
    let f = foretells_process code inputs in
    at_standing (FitsRepeats code) t.steps m t.end point vars
    (all_for _ (λ step. FitsRepeats code step.point) t.steps (λ step p. p.fits) f.acts) (λ p v c e. (f.waits p v c e).fits) s.here
