-- Laws of what is got: what a trace got from a channel is a front of what was unread there, and what is left is the
-- rest. Where it waits, nothing is left on the channel at which it waits.
use Rattle.std.proofs.Common.{true, false, cond, pos, ◌≡◌, ℕ, zero, suc, ◌+◌, ◌≤◌, List, ℤ, []}
use Rattle.std.proofs.Common.{◌∷◌, ◌++◌, ◌-◌, refl, sym, ap, ◌∙◌, set, drop, append_assoc, append-nil, arith}
use Rattle.std.proofs.Common.{length, Option, Some, None, inl, inr, ◌==◌}
use Rattle.std.proofs.lemmas.List.{get_or-set_same, get_or-set_other, take-append-drop, append_cancel_left}
use Rattle.std.proofs.lemmas.List.{length-append}
use Rattle.std.proofs.lemmas.Bool.Decides.{eqb_tells, nat_tests}
use Rattle.std.specs.Prelude.{take, nat_lt, IsTrue}
use Rattle.std.specs.Ordering.{int_eq}
use Rattle.kahn_net.specs.Streams.{history_of, total, ArePrefixes}
use Rattle.kahn_net.specs.Syntax.{Block, Nothing, GetThen, AssignThen, PutThen, StopThen, IfThen, RepeatThen, Code}
use Rattle.kahn_net.specs.Valid.{is_passing}
use Rattle.kahn_net.specs.Statements.{Act, Got, Sent, Point, Step, Trace, End, Ended, Waits, Stopped, trace_of}
use Rattle.kahn_net.specs.Statements.{point_at, choose, on_get, no_steps, from_end, then_do, rounds, value_of, sites_of}
use Rattle.kahn_net.specs.Processes.{Standing, NotBegun, At, Done, standing_at, HasPassingLoop, passes, loop_trace}
use Rattle.kahn_net.specs.Processes.{process_trace, got_by, got_on}
use Rattle.kahn_net.specs.Resuming.{passes_left, trace_on, body_on, trace_from, left_by, left_after}
use Rattle.kahn_net.specs.Laws.Traces.{one_of, both_of}
use Rattle.kahn_net.specs.Laws.Passes.{fewer_left}
use Rattle.kahn_net.specs.Laws.Streams.{IsLonger, within, prefixes_set, longer, longer_then, longer_rounds}
use Rattle.kahn_net.specs.Laws.Streams.{longer_loop, longer_process}
use Rattle.kahn_net.specs.Laws.Prefixes.{IsFollowed, followed, prefix_of}

-- What is true of two traces of each block on related items, and passes to what comes behind them, is true of the two from
-- where a process stands.
module _ (S : List (List ℤ) → List (List ℤ) → Type 0) (R : List (List ℤ) → List (List ℤ) → Trace → Trace → Type 0)
    (by_then : (u w : List (List ℤ)) (t t' : Trace) (go : List ℤ → List (List ℤ) → Trace) → R u w t t'
    → ((v : List ℤ) (u' w' : List (List ℤ)) → t.end ≡ Ended v u' → t'.end ≡ Ended v w' → S u' w'
    → R u' w' (go v u') (go v w')) → R u w (then_do t go) (then_do t' go))
    (block : (number : ℕ) (left : List ℕ) (b : Block) (v : List ℤ) (u w : List (List ℤ)) → S u w
    → R u w (trace_of number left b v u) (trace_of number left b v w)) where
  walk_rounds : (n number : ℕ) (left : List ℕ) (body : Block) (v : List ℤ) (u w : List (List ℤ)) → S u w
      → R u w (rounds n (λ k. trace_of number (left ++ k ∷ []) body) v u) (rounds n (λ k. trace_of number (left ++ k ∷ []) body) v w)
  walk_rounds zero number left body v u w s = block 0 [] Nothing v u w s
  walk_rounds (suc n) number left body v u w s =
      by_then u w _ _ (rounds n (λ k. trace_of number (left ++ k ∷ []) body)) (block number (left ++ suc n ∷ []) body v u w s)
      (λ v' u' w' e e' s'. walk_rounds n number left body v' u' w' s')

  walk_on : (number : ℕ) (left : List ℕ) (b : Block) (site : ℕ) (inner : List ℕ) (v : List ℤ) (u w : List (List ℤ)) → S u w
      → R u w (trace_on number left b site inner v u) (trace_on number left b site inner v w)
  walk_on number left Nothing site inner v u w s = block 0 [] Nothing v u w s
  walk_on number left (AssignThen x e b) site inner v u w s = walk_on number left b site inner v u w s
  walk_on number left (StopThen b) site inner v u w s = walk_on number left b site inner v u w s
  walk_on number left (PutThen e c b) site inner v u w s =
      both_of (R u w) (number == site) _ _ _ _ (block number left (PutThen e c b) v u w s)
      (walk_on (number + 1) left b site inner v u w s)
  walk_on number left (GetThen x c b) site inner v u w s =
      both_of (R u w) (number == site) _ _ _ _ (block number left (GetThen x c b) v u w s)
      (walk_on (number + 1) left b site inner v u w s)
  walk_on number left (IfThen test first second b) site inner v u w s =
      let m = number + sites_of first in
      let n = number + sites_of first + sites_of second in
      both_of (R u w) (nat_lt site m) _ _ _ _
      (by_then u w _ _ (trace_of n left b) (walk_on number left first site inner v u w s) (λ v' u' w' e e'. block n left b v' u' w'))
      (both_of (R u w) (nat_lt site n) _ _ _ _
      (by_then u w _ _ (trace_of n left b) (walk_on m left second site inner v u w s) (λ v' u' w' e e'. block n left b v' u' w'))
      (walk_on n left b site inner v u w s))
  walk_on number left (RepeatThen times body b) site inner v u w s =
      let k = passes_left inner in
      let n = number + sites_of body in
      both_of (R u w) (nat_lt site n) _ _ _ _
      (by_then u w _ _ (trace_of n left b)
      (by_then u w _ _ (rounds (k - 1) (λ j. trace_of number (left ++ j ∷ []) body))
      (walk_on number (left ++ k ∷ []) body site (drop 1 inner) v u w s)
      (λ v' u' w' e e'. walk_rounds (k - 1) number left body v' u' w'))
      (λ v' u' w' e e'. block n left b v' u' w'))
      (walk_on n left b site inner v u w s)

  walk_body_on : (number : ℕ) (body : Option Block) (point : Point) (v : List ℤ) (u w : List (List ℤ)) → S u w
      → R u w (body_on number body point v u) (body_on number body point v w)
  walk_body_on number None point v u w s = block 0 [] Nothing v u w s
  walk_body_on number (Some b) point v u w s = walk_on number [] b point.site point.left v u w s

  walk_from : (code : Code) (standing : Standing) (u w : List (List ℤ))
      → ((v : List ℤ) (u w : List (List ℤ)) → S u w → R u w (loop_trace (sites_of code.prelude) code.body v u)
      (loop_trace (sites_of code.prelude) code.body v w))
      → S u w → R u w (trace_from code standing u) (trace_from code standing w)
  walk_from code (NotBegun vars) u w loop s =
      by_then u w _ _ (loop_trace (sites_of code.prelude) code.body) (block 0 [] code.prelude vars u w s)
      (λ v u' w' e e'. loop v u' w')
  walk_from code (At point vars) u w loop s =
      by_then u w _ _ (loop_trace (sites_of code.prelude) code.body)
      (both_of (R u w) (nat_lt point.site (sites_of code.prelude)) _ _ _ _
      (walk_on 0 [] code.prelude point.site point.left vars u w s)
      (walk_body_on (sites_of code.prelude) code.body point vars u w s)) (λ v u' w' e e'. loop v u' w')
  walk_from code (Done vars) u w loop s = block 0 [] Nothing vars u w s

-- where more is unread, a process does from where it stands what it did, and then more
pub longer_from : (code : Code) (standing : Standing) (small big : List (List ℤ)) → HasPassingLoop code
    → ArePrefixes small big → IsLonger (trace_from code standing small) (trace_from code standing big)
longer_from code standing small big passing p =
    walk_from ArePrefixes (λ u w. IsLonger) (λ u w t t' go. longer_then t t' go go) longer code standing small big
    (λ v u w. longer_loop (sites_of code.prelude) code.body v u w passing) p

-- what an act gets stands before what is got later
got_by-append : (channel : ℕ) (a : Act) (xs ys : List ℤ) → got_by channel a (xs ++ ys) ≡ got_by channel a xs ++ ys
got_by-append channel (Sent c v) xs ys = refl
got_by-append channel (Got c v) xs ys =
    elim (c == channel) as (λ b. cond b (v ∷ (xs ++ ys)) (xs ++ ys) ≡ cond b (v ∷ xs) xs ++ ys) [ true ↦ refl | false ↦ refl ]

-- After steps and then others
pub got_on-append : (channel : ℕ) (xs ys : List Step)
    → got_on channel (xs ++ ys) ≡ got_on channel xs ++ got_on channel ys
got_on-append channel [] ys = refl
got_on-append channel (s ∷ xs) ys =
    rw (got_on-append channel xs ys) (got_by-append channel s.act (got_on channel xs) (got_on channel ys))

pub left_after-append : (xs ys : List Step) (unread : List (List ℤ))
    → left_after (xs ++ ys) unread ≡ left_after ys (left_after xs unread)
left_after-append [] ys unread = refl
left_after-append (x ∷ xs) ys unread = left_after-append xs ys (left_by x.act unread)

-- the next item of a channel is the one that an act gets there
abbrev pub IsNextItem : Act → List (List ℤ) → Type 0
IsNextItem (Got channel item) unread = (left : List ℤ) × (history_of unread channel ≡ item ∷ left)
IsNextItem (Sent channel item) unread = Unit {0}

-- each of these steps gets the next item of its channel
abbrev pub IsReading : List Step → List (List ℤ) → Type 0
IsReading [] unread = Unit {0}
IsReading (step ∷ steps) unread = IsNextItem step.act unread × IsReading steps (left_by step.act unread)

-- What a trace reads: each get gets the next item; what is unread where it ended is what its steps left; where it waits
-- nothing is left on that channel.
pub record Reads (t : Trace) (unread : List (List ℤ)) : Type 0 where
  pub reading : IsReading t.steps unread
  pub left : (v : List ℤ) (u : List (List ℤ)) → t.end ≡ Ended v u → left_after t.steps unread ≡ u
  pub empty : (point : Point) (v : List ℤ) (c : ℕ) → t.end ≡ Waits point v c
      → history_of (left_after t.steps unread) c ≡ []

pub reading-append : (xs ys : List Step) (unread : List (List ℤ)) → IsReading xs unread
    → IsReading ys (left_after xs unread) → IsReading (xs ++ ys) unread
reading-append [] ys unread h k = k
reading-append (x ∷ xs) ys unread h k = (h.0, reading-append xs ys (left_by x.act unread) h.1 k)

pub reading_first : (xs ys : List Step) (unread : List (List ℤ)) → IsReading (xs ++ ys) unread → IsReading xs unread
reading_first [] ys unread h = tt
reading_first (x ∷ xs) ys unread h = (h.0, reading_first xs ys (left_by x.act unread) h.1)

same_number : (n : ℕ) → (n == n) ≡ true
same_number n = grind (arith, nat_tests)

-- the item that an act gets stood before what is then left
got_one : (a : Act) (unread : List (List ℤ)) (c : ℕ) → IsNextItem a unread
    → history_of unread c ≡ got_by c a (history_of (left_by a unread) c)
got_one (Sent d item) unread c next = refl
got_one (Got d item) unread c next =
    let here = within unread d item next.0 next.1 in
    elim (eqb_tells d c) [
      | inl same ↦ rw (← same.1, next.1, same_number d, get_or-set_same unread d next.0 [] here) refl
      | inr other ↦ rw (next.1, other.0) (sym (get_or-set_other unread d c next.0 [] (λ e. other.1 (sym e))))
    ]

-- what was got is a front, and what is left the rest
pub got_and_left : (steps : List Step) (unread : List (List ℤ)) (c : ℕ) → IsReading steps unread
    → history_of unread c ≡ got_on c steps ++ history_of (left_after steps unread) c
got_and_left [] unread c h = refl
got_and_left (s ∷ steps) unread c h =
    got_one s.act unread c h.0 ∙ (ap (got_by c s.act) (got_and_left steps (left_by s.act unread) c h.1)
    ∙ got_by-append c s.act (got_on c steps) _)

-- what one does after the other
pub reads_then : (t : Trace) (go : List ℤ → List (List ℤ) → Trace) (unread : List (List ℤ)) → Reads t unread
    → ((v : List ℤ) (u : List (List ℤ)) → t.end ≡ Ended v u → Reads (go v u) u) → Reads (then_do t go) unread
reads_then t go unread r next = at_end t.end refl
  where
    at_end : (e : End) → t.end ≡ e
        → Reads (record { steps = t.steps ++ (from_end e go).steps; end = (from_end e go).end }) unread
    at_end (Waits s y c) is = record {
      reading = rw append-nil r.reading;
      left = λ v u e. absurd cc;
      empty = λ s' v d e. rw append-nil (r.empty s' v d (is ∙ e));
    }
    at_end (Stopped y) is =
        record { reading = rw append-nil r.reading; left = λ v u e. absurd cc; empty = λ s' v d e. absurd cc }
    at_end (Ended v u) is =
        let n = next v u is in
        let after : left_after (t.steps ++ (go v u).steps) unread ≡ left_after (go v u).steps u =
        left_after-append t.steps (go v u).steps unread ∙ ap (left_after (go v u).steps) (r.left v u is) in
        record {
          reading = reading-append t.steps (go v u).steps unread r.reading (rw (r.left v u is) n.reading);
          left = λ v' u' e. after ∙ n.left v' u' e;
          empty = λ s' v' d e. rw after (n.empty s' v' d e);
        }

-- with nothing to do
reads_none : (vars : List ℤ) (unread : List (List ℤ)) → Reads (no_steps (Ended vars unread)) unread
reads_none vars unread = record { reading = tt; left = λ v u e. cc; empty = λ s v c e. absurd cc }

-- so many passes
pub reads_rounds : (n : ℕ) (pass : ℕ → List ℤ → List (List ℤ) → Trace)
    → ((k : ℕ) (v : List ℤ) (u : List (List ℤ)) → Reads (pass k v u) u) → (v : List ℤ) (u : List (List ℤ))
    → Reads (rounds n pass v u) u
reads_rounds zero pass h v u = reads_none v u
reads_rounds (suc n) pass h v u =
    reads_then (pass (suc n) v u) (rounds n pass) u (h (suc n) v u) (λ v' u' e. reads_rounds n pass h v' u')

-- what statements do
pub reads_block : (site : ℕ) (left : List ℕ) (b : Block) (vars : List ℤ) (unread : List (List ℤ))
    → Reads (trace_of site left b vars unread) unread
reads_block site left Nothing vars unread = reads_none vars unread
reads_block site left (AssignThen x e rest) vars unread =
    let r = reads_block site left rest (set vars x (value_of e vars)) unread in
    record { reading = r.reading; left = r.left; empty = r.empty }
reads_block site left (PutThen e c rest) vars unread =
    let r = reads_block (site + 1) left rest vars unread in
    record { reading = (tt, r.reading); left = r.left; empty = r.empty }
reads_block site left (StopThen rest) vars unread =
    record { reading = tt; left = λ v u e. absurd cc; empty = λ s v c e. absurd cc }
reads_block site left (IfThen test first second rest) vars unread =
    let one = trace_of site left first vars unread in
    let other = trace_of (site + sites_of first) left second vars unread in
    reads_then (choose (value_of test vars) one other) (trace_of (site + sites_of first + sites_of second) left rest)
    unread
    (one_of (λ (t : Trace). Reads t unread) (int_eq (value_of test vars) (pos 0)) other one
    (reads_block (site + sites_of first) left second vars unread) (reads_block site left first vars unread))
    (λ v u e. reads_block (site + sites_of first + sites_of second) left rest v u)
reads_block site left (RepeatThen times body rest) vars unread =
    let pass = λ (k : ℕ). trace_of site (left ++ k ∷ []) body in
    reads_then (rounds times pass vars unread) (trace_of (site + sites_of body) left rest) unread
    (reads_rounds times pass (λ k v u. reads_block site (left ++ k ∷ []) body v u) vars unread)
    (λ v u e. reads_block (site + sites_of body) left rest v u)
reads_block site left (GetThen x c rest) vars unread =
    let go = λ (item : ℤ) (later : List ℤ). trace_of (site + 1) left rest (set vars x item) (set unread c later) in
    (elim (history_of unread c) as (λ history. history_of unread c ≡ history
    → Reads (on_get history (point_at site left) c vars go) unread) [
      | [] ↦ λ is. record {
        reading = tt;
        left = λ v u e. absurd cc;
        empty = λ s v d e. let same : c ≡ d = cc in rw (← same) is;
      }
      | item ∷ later ↦ λ is.
          let r : Reads (go item later) (set unread c (drop 1 (history_of unread c))) =
          rw is (reads_block (site + 1) left rest (set vars x item) (set unread c later)) in
          record { reading = ((later, is), r.reading); left = r.left; empty = r.empty }
    ]) refl

-- whole passes
pub reads_passes : (n site : ℕ) (b : Block) (vars : List ℤ) (unread : List (List ℤ))
    → Reads (passes n site b vars unread) unread
reads_passes zero site b vars unread = reads_block 0 [] Nothing vars unread
reads_passes (suc n) site b vars unread =
    reads_then (trace_of site [] b vars unread) (passes n site b) unread (reads_block site [] b vars unread)
    (λ v u e. reads_passes n site b v u)

-- the loop
pub reads_loop : (site : ℕ) (body : Option Block) (vars : List ℤ) (unread : List (List ℤ))
    → Reads (loop_trace site body vars unread) unread
reads_loop site None vars unread = reads_block 0 [] Nothing vars unread
reads_loop site (Some b) vars unread = reads_passes (suc (total unread)) site b vars unread

-- a process from where it stands
pub reads_from : (code : Code) (standing : Standing) (unread : List (List ℤ))
    → Reads (trace_from code standing unread) unread
reads_from code standing unread =
    (walk_from (λ u w. u ≡ w) (λ u w t t'. (t ≡ t') × Reads t u)
    (λ u w t t' go r next. (
      ap (λ (x : Trace). then_do x go) r.0,
      reads_then t go u r.1 (λ v u' e. (next v u' u' e (rw r.0 at e) refl).1),
    ))
    (λ number left b v u w same. (ap (trace_of number left b v) same, reads_block number left b v u)) code standing unread unread
    (λ v u w same. (
      ap (loop_trace (sites_of code.prelude) code.body v) same,
      reads_loop (sites_of code.prelude) code.body v u,
    )) refl).1

-- a process
pub reads_process : (code : Code) (inputs : List (List ℤ)) → Reads (process_trace code inputs) inputs
reads_process code inputs = reads_from code (NotBegun code.vars) inputs

-- any first steps of a trace
pub reads_steps : (t : Trace) (unread : List (List ℤ)) (m c : ℕ) → Reads t unread
    → history_of unread c ≡ got_on c (take m t.steps) ++ history_of (left_after (take m t.steps) unread) c
reads_steps t unread m c r =
    got_and_left (take m t.steps) unread c
    (reading_first (take m t.steps) (drop m t.steps) unread
    (rw (take-append-drop m t.steps) r.reading))

-- what a process got is a front of its inputs, and what is left is the rest
pub reads : (code : Code) (inputs : List (List ℤ)) (m c : ℕ)
    → history_of inputs c
    ≡ got_on c (take m (process_trace code inputs).steps)
    ++ history_of (left_after (take m (process_trace code inputs).steps) inputs) c
reads code inputs m c = reads_steps (process_trace code inputs) inputs m c (reads_process code inputs)

-- where it waits at a get, nothing is left on its channel
pub waits_empty : (code : Code) (standing : Standing) (unread : List (List ℤ)) (point : Point) (v : List ℤ) (c : ℕ)
    → (trace_from code standing unread).end ≡ Waits point v c
    → history_of (left_after (trace_from code standing unread).steps unread) c ≡ []
waits_empty code standing unread point v c e = (reads_from code standing unread).empty point v c e

-- the same of a process from its beginning
pub process_waits_empty : (code : Code) (inputs : List (List ℤ)) (point : Point) (v : List ℤ) (c : ℕ)
    → (process_trace code inputs).end ≡ Waits point v c
    → history_of (left_after (process_trace code inputs).steps inputs) c ≡ []
process_waits_empty code inputs point v c e = (reads_process code inputs).empty point v c e

-- the act gets from this channel
abbrev pub IsGetFrom : ℕ → Act → Type 0
IsGetFrom channel (Got c item) = c ≡ channel
IsGetFrom channel (Sent c item) = ⊥

-- the next act, if there is one, gets from this channel
abbrev pub GetsNext : ℕ → List Step → Type 0
GetsNext channel [] = Unit {0}
GetsNext channel (step ∷ steps) = IsGetFrom channel step.act

-- what a longer trace does beyond one that waits begins with the get at which that one waits
pub record NextIsGet (t long : Trace) : Type 0 where
  pub next : (point : Point) (v : List ℤ) (c : ℕ) → t.end ≡ Waits point v c → (more : List Step)
      → long.steps ≡ t.steps ++ more → GetsNext c more

-- what begins the first part begins the whole
gets_first : (c : ℕ) (xs ys more : List Step) → GetsNext c xs → (xs ≡ [] → ys ≡ []) → xs ++ ys ≡ more → GetsNext c more
gets_first c [] ys more g h e = rw (← e, h refl) tt
gets_first c (x ∷ xs) ys more g h e = rw (← e) g

-- what one does after the other
pub next_then : (t long : Trace) (go go' : List ℤ → List (List ℤ) → Trace) → IsLonger t long → NextIsGet t long
    → ((v : List ℤ) (u w : List (List ℤ)) → t.end ≡ Ended v u → long.end ≡ Ended v w → ArePrefixes u w
    → NextIsGet (go v u) (go' v w)) → NextIsGet (then_do t go) (then_do long go')
next_then t long go go' l g next = at_end t.end refl
  where
    nothing_after : (e : End) (s : Point) (y : List ℤ) → standing_at [] e ≡ At s y → (from_end e go').steps ≡ []
    nothing_after (Waits s' y' c') s y h = refl
    nothing_after (Ended y' z) s y h = absurd cc
    nothing_after (Stopped y') s y h = absurd cc

    at_end : (e : End) → t.end ≡ e
        → NextIsGet (record { steps = t.steps ++ (from_end e go).steps; end = (from_end e go).end }) (then_do long go')
    at_end (Waits s y c) is = record {
      next = λ s' y' d e more h. let stands = l.stands s y (rw is refl) in
          gets_first d l.more (from_end long.end go').steps more (g.next s' y' d (is ∙ e) l.more l.steps)
          (λ n. nothing_after long.end s y (rw n at stands)) (append_cancel_left t.steps _ more
          (sym (append_assoc t.steps l.more _) ∙ rw (l.steps, append-nil) at h));
    }
    at_end (Stopped y) is = record { next = λ s' y' d e more h. absurd cc }
    at_end (Ended v u) is =
        let e = l.ends v u is in
        let n = next v u e.1.0 is e.1.1 e.1.2 in
        record {
          next = λ s' y' d is' more h. n.next s' y' d is' more (append_cancel_left t.steps _ _
              (rw (l.steps, e.0, e.1.1, append-nil, append_assoc) at h));
        }

-- so many passes
pub next_rounds : (n : ℕ) (pass : ℕ → List ℤ → List (List ℤ) → Trace)
    → ((k : ℕ) (v : List ℤ) (u w : List (List ℤ)) → ArePrefixes u w → IsLonger (pass k v u) (pass k v w))
    → ((k : ℕ) (v : List ℤ) (u w : List (List ℤ)) → ArePrefixes u w → NextIsGet (pass k v u) (pass k v w))
    → (v : List ℤ) (u w : List (List ℤ)) → ArePrefixes u w → NextIsGet (rounds n pass v u) (rounds n pass v w)
next_rounds zero pass l h v u w p = record { next = λ s v' d e more h. absurd cc }
next_rounds (suc n) pass l h v u w p =
    next_then (pass (suc n) v u) (pass (suc n) v w) (rounds n pass) (rounds n pass) (l (suc n) v u w p)
    (h (suc n) v u w p) (λ v' u' w' e e' p'. next_rounds n pass l h v' u' w' p')

-- what a get does, and what comes behind it
next_get : (point : Point) (c : ℕ) (v : List ℤ) (go go' : ℤ → List ℤ → Trace) (h h' : List ℤ) → IsFollowed h h'
    → ((item : ℤ) (l l' rest : List ℤ) → h ≡ item ∷ l → h' ≡ item ∷ l' → l' ≡ l ++ rest → NextIsGet (go item l) (go' item l'))
    → NextIsGet (on_get h point c v go) (on_get h' point c v go')
next_get point c v go go' [] h' m later = record { next = λ s' v' d is more e. first h' d s' v' more is e }
  where
    first : (h' : List ℤ) (d : ℕ) (s' : Point) (v' : List ℤ) (more : List Step) → Waits point v c ≡ Waits s' v' d
        → (on_get h' point c v go').steps ≡ more → GetsNext d more
    first [] d s' v' more is e = rw (← e) tt
    first (y ∷ ys) d s' v' more is e = rw (← e) (cc)
next_get point c v go go' (z ∷ zs) [] m later = let bad = m.is in absurd cc
next_get point c v go go' (z ∷ zs) (y ∷ ys) m later =
    let both = m.is in
    let same : y ≡ z = cc in
    let tail : ys ≡ zs ++ m.rest = cc in
    let r = later z zs ys m.rest refl (cc) tail in
    record { next = λ s' v' d is more e. r.next s' v' d is more (cc) }

-- what statements do
pub next_block : (site : ℕ) (left : List ℕ) (b : Block) (v : List ℤ) (u w : List (List ℤ)) → ArePrefixes u w
    → NextIsGet (trace_of site left b v u) (trace_of site left b v w)
next_block site left Nothing v u w p = record { next = λ s v' d e more h. absurd cc }
next_block site left (AssignThen x e b) v u w p =
    let r = next_block site left b (set v x (value_of e v)) u w p in record { next = r.next }
next_block site left (PutThen e c b) v u w p =
    let r = next_block (site + 1) left b v u w p in
    record { next = λ s v' d is more h. r.next s v' d is more (cc) }
next_block site left (StopThen b) v u w p = record { next = λ s v' d e more h. absurd cc }
next_block site left (IfThen test first second b) v u w p =
    let one = trace_of site left first v in
    let other = trace_of (site + sites_of first) left second v in
    let go = trace_of (site + sites_of first + sites_of second) left b in
    let zero = int_eq (value_of test v) (pos 0) in
    next_then (choose (value_of test v) (one u) (other u)) (choose (value_of test v) (one w) (other w)) go go
    (both_of IsLonger zero (other u) (one u) (other w) (one w) (longer (site + sites_of first) left second v u w p)
    (longer site left first v u w p))
    (both_of NextIsGet zero (other u) (one u) (other w) (one w)
    (next_block (site + sites_of first) left second v u w p) (next_block site left first v u w p))
    (λ v' u' w' e e' p'. next_block (site + sites_of first + sites_of second) left b v' u' w' p')
next_block site left (RepeatThen times body b) v u w p =
    let pass = λ (k : ℕ). trace_of site (left ++ k ∷ []) body in
    let go = trace_of (site + sites_of body) left b in
    let further = λ (k : ℕ) (x : List ℤ) (y z : List (List ℤ)) (q : ArePrefixes y z).
    longer site (left ++ k ∷ []) body x y z q in
    next_then (rounds times pass v u) (rounds times pass v w) go go (longer_rounds times pass further v u w p)
    (next_rounds times pass further (λ k x y z q. next_block site (left ++ k ∷ []) body x y z q) v u w p)
    (λ v' u' w' e e' p'. next_block (site + sites_of body) left b v' u' w' p')
next_block site left (GetThen x c b) v u w p =
    next_get (point_at site left) c v _ _ (history_of u c) (history_of w c) (followed _ _ (p.at c))
    (λ item l l' rest here there more. next_block (site + 1) left b (set v x item) (set u c l) (set w c l')
    (prefixes_set u w c item item l rest l' p here there more))

-- whole passes
pub next_passes : (n m site : ℕ) (b : Block) (v : List ℤ) (u w : List (List ℤ)) → IsTrue (is_passing b) → total u ≤ n
    → total w ≤ m → ArePrefixes u w → NextIsGet (passes (suc n) site b v u) (passes (suc m) site b v w)
next_passes zero m site b v u w passing h h' p =
    next_then (trace_of site [] b v u) (trace_of site [] b v w) (passes zero site b) (passes m site b)
    (longer site [] b v u w p) (next_block site [] b v u w p)
    (λ v' u' w' e e' p'. let fewer = fewer_left site [] b v u v' u' passing e in absurd (omega arith))
next_passes (suc n) zero site b v u w passing h h' p =
    next_then (trace_of site [] b v u) (trace_of site [] b v w) (passes (suc n) site b) (passes zero site b)
    (longer site [] b v u w p) (next_block site [] b v u w p)
    (λ v' u' w' e e' p'. let fewer = fewer_left site [] b v w v' w' passing e' in absurd (omega arith))
next_passes (suc n) (suc m) site b v u w passing h h' p =
    next_then (trace_of site [] b v u) (trace_of site [] b v w) (passes (suc n) site b) (passes (suc m) site b)
    (longer site [] b v u w p) (next_block site [] b v u w p)
    (λ v' u' w' e e' p'. let fewer = fewer_left site [] b v u v' u' passing e in let fewer' =
    fewer_left site [] b v w v' w' passing e' in
    next_passes n m site b v' u' w' passing (omega arith) (omega arith) p')

-- the loop
pub next_loop : (site : ℕ) (body : Option Block) (v : List ℤ) (u w : List (List ℤ))
    → ((b : Block) → body ≡ Some b → IsTrue (is_passing b)) → ArePrefixes u w
    → NextIsGet (loop_trace site body v u) (loop_trace site body v w)
next_loop site None v u w passing p = next_block 0 [] Nothing v u w p
next_loop site (Some b) v u w passing p =
    next_passes (total u) (total w) site b v u w (passing b refl) (omega arith) (omega arith) p

-- a process from where it stands
pub next_is_get : (code : Code) (standing : Standing) (small big : List (List ℤ)) → HasPassingLoop code
    → ArePrefixes small big → NextIsGet (trace_from code standing small) (trace_from code standing big)
next_is_get code standing small big passing p =
    (walk_from ArePrefixes (λ u w t t'. IsLonger t t' × NextIsGet t t')
    (λ u w t t' go r next. (
      longer_then t t' go go r.0 (λ v u' w' e e' p'. (next v u' w' e e' p').0),
      next_then t t' go go r.0 r.1 (λ v u' w' e e' p'. (next v u' w' e e' p').1),
    ))
    (λ number left b v u w p. (longer number left b v u w p, next_block number left b v u w p)) code standing small big
    (λ v u w p. (
      longer_loop (sites_of code.prelude) code.body v u w passing p,
      next_loop (sites_of code.prelude) code.body v u w passing p,
    )) p).1

-- where it waited, the next act on more, if there is one, gets from the channel at which it waited
pub next_from : (code : Code) (standing : Standing) (small big : List (List ℤ)) → (passing : HasPassingLoop code)
    → (p : ArePrefixes small big) → (point : Point) (v : List ℤ) (c : ℕ)
    → (trace_from code standing small).end ≡ Waits point v c → (more : List Step)
    → (trace_from code standing big).steps ≡ (trace_from code standing small).steps ++ more → GetsNext c more
next_from code standing small big passing p point v c e more h =
    (next_is_get code standing small big passing p).next point v c e more h

-- two parts of the same steps: the first ends inside these, or past them
pub data Split (xs ys done rest : List Step) : Type 0 where
  Within : (x : Step) (mid : List Step) → xs ≡ done ++ x ∷ mid → rest ≡ (x ∷ mid) ++ ys → Split xs ys done rest
  Beyond : (past : List Step) → done ≡ xs ++ past → ys ≡ past ++ rest → Split xs ys done rest

pub split : (xs ys done rest : List Step) → xs ++ ys ≡ done ++ rest → Split xs ys done rest
split [] ys done rest h = Beyond done refl h
split (x ∷ xs) ys [] rest h = Within x xs refl (sym h)
split (x ∷ xs) ys (y ∷ done) rest h =
    let same : x ≡ y = cc in
    elim (split xs ys done rest (cc)) [
      | Within z mid e f ↦ Within z mid (cc) f
      | Beyond past e f ↦ Beyond past (cc) f
    ]

-- the act is a get
abbrev pub IsGet : Act → Type 0
IsGet (Got channel item) = Unit {0}
IsGet (Sent channel item) = ⊥

-- the next act is no put
abbrev pub NoPutNext : List Step → Type 0
NoPutNext [] = Unit {0}
NoPutNext (step ∷ steps) = IsGet step.act

-- a get from a channel gets one more item there
one_got : (c : ℕ) (a : Act) (later : List ℤ) → IsGetFrom c a → (item : ℤ) × (got_by c a later ≡ item ∷ later)
one_got c (Got d item) later h = (item, rw (h, same_number c) refl)
one_got c (Sent d item) later h = absurd h

channel_of : (a : Act) → IsGet a → (c : ℕ) × IsGetFrom c a
channel_of (Got c item) h = (c, refl)
channel_of (Sent c item) h = absurd h

no_more : (xs ys left : List ℤ) (item : ℤ) → xs ≡ (xs ++ item ∷ ys) ++ left → ⊥
no_more xs ys left item e =
    let n = ap length e in
    let a = length-append (xs ++ item ∷ ys) left in
    let b = length-append xs (item ∷ ys) in
    omega arith

-- a process whose next act is no put has put exactly its function of what it got
pub function_of_got : (code : Code) (inputs gots : List (List ℤ)) (m : ℕ) → HasPassingLoop code
    → m ≤ length (process_trace code inputs).steps → NoPutNext (drop m (process_trace code inputs).steps)
    → ((c : ℕ) → history_of gots c ≡ got_on c (take m (process_trace code inputs).steps))
    → (process_trace code gots).steps ≡ take m (process_trace code inputs).steps
function_of_got code inputs gots m passing few no_put got =
    elim (split (process_trace code gots).steps l.more done rest
    (sym l.steps ∙ sym (take-append-drop m (process_trace code inputs).steps))) [
      | Within x mid e f ↦
          let c = channel_of x.act (rw f at no_put) in
          let one = one_got c.0 x.act (got_on c.0 mid) c.1 in
          let all = rw (e, got_on-append c.0 done (x ∷ mid), one.1) at (sym (got c.0) ∙ of_gots c.0) in
          absurd (no_more (got_on c.0 done) (got_on c.0 mid) _ one.0 all)
      | Beyond [] e f ↦ sym (e ∙ append-nil (process_trace code gots).steps)
      | Beyond (y ∷ past) e f ↦ absurd (no_less y past e f (process_trace code gots).end refl)
    ]
  where
    done : List Step
    done = take m (process_trace code inputs).steps

    rest : List Step
    rest = drop m (process_trace code inputs).steps

    p : ArePrefixes gots inputs
    p = record {
      at = λ c. prefix_of (record { rest = history_of (left_after done inputs) c; is = rw (got c) (reads code inputs m c) });
    }

    l : IsLonger (process_trace code gots) (process_trace code inputs)
    l = longer_process code gots inputs passing p

    -- what the process got of what there is
    of_gots : (c : ℕ)
        → history_of gots c
        ≡ got_on c (process_trace code gots).steps ++ history_of (left_after (process_trace code gots).steps gots) c
    of_gots c = got_and_left (process_trace code gots).steps gots c (reads_process code gots).reading

    -- and it doesn't stop before: the item for which it would wait is one that it got
    no_less : (y : Step) (past : List Step) → done ≡ (process_trace code gots).steps ++ y ∷ past
        → l.more ≡ y ∷ (past ++ rest) → (d : End) → (process_trace code gots).end ≡ d → ⊥
    no_less y past e f (Ended v u) is = let none : [] ≡ y ∷ (past ++ rest) = sym (l.ends v u is).0 ∙ f in cc
    no_less y past e f (Stopped v) is = let none : [] ≡ y ∷ (past ++ rest) = sym (l.stops v is).0 ∙ f in cc
    no_less y past e f (Waits s v c) is =
        let first : GetsNext c (y ∷ (past ++ rest)) =
        rw f at (next_from code (NotBegun code.vars) gots inputs passing p s v c is l.more l.steps) in
        let one = one_got c y.act (got_on c past) first in
        let read = got_on c (process_trace code gots).steps in
        let all : read ≡ read ++ one.0 ∷ got_on c past =
        rw (process_waits_empty code gots s v c is, append-nil, got c, e, got_on-append c _ (y ∷ past), one.1) at
        (sym (of_gots c)) in
        no_more read (got_on c past) [] one.0 (rw append-nil all)
