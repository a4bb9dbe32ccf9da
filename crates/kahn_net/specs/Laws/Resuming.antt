-- Resumption: what a process does from where it stands, on what is then unread, is what is left of what it did.
use Rattle.std.proofs.Common.{◌≡◌, ◌==◌, ℕ, zero, suc, ◌+◌, ◌-◌, ◌<◌, ◌≤◌, true, false, cond, pos, List, ℤ, []}
use Rattle.std.proofs.Common.{◌∷◌, ◌++◌, Option, Some, None, refl, sym, ap, ◌∙◌, arith, drop, take, set}
use Rattle.std.proofs.Common.{append-nil, append_assoc}
use Rattle.std.proofs.lemmas.List.{take-append-drop}
use Rattle.std.proofs.lemmas.Bool.{lt-ltb, le-ltb}
use Rattle.std.proofs.lemmas.Bool.Decides.{nat_tests}
use Rattle.std.specs.Prelude.{IsTrue}
use Rattle.std.specs.Ordering.{int_eq}
use Rattle.kahn_net.specs.Streams.{history_of, total}
use Rattle.kahn_net.specs.Syntax.{Tree, Block, Nothing, GetThen, AssignThen, PutThen, StopThen, IfThen, RepeatThen}
use Rattle.kahn_net.specs.Syntax.{Code}
use Rattle.kahn_net.specs.Valid.{is_passing}
use Rattle.kahn_net.specs.Statements.{Got, Sent, Point, Step, Trace, End, Ended, Waits, Stopped, trace_of, point_at}
use Rattle.kahn_net.specs.Statements.{no_steps, on_get, from_end, then_do, rounds, value_of, sites_of}
use Rattle.kahn_net.specs.Processes.{Standing, NotBegun, At, Done, standing_at, StandsAt, HasPassingLoop, passes}
use Rattle.kahn_net.specs.Processes.{loop_trace, process_trace}
use Rattle.kahn_net.specs.Resuming.{trace_on, body_on, trace_from, left_by, left_after}
use Rattle.kahn_net.specs.Laws.Traces.{one_of, same_trace, then_do_same}
use Rattle.kahn_net.specs.Laws.Passes.{fewer_left, enough_passes}
use Rattle.kahn_net.specs.Laws.Got.{Reads, reads_block, reads_rounds, left_after-append, Within, Beyond, split}

-- What is left of a block, from a point on: the point is among its statements, the passes that remain there begin with
-- those round the block, and the others are those that remain inside.
pub record Resumed (number : ℕ) (left : List ℕ) (point : Point) (b : Block) (v' : List ℤ) (u' : List (List ℤ))
    (rest : List Step) (end : End) : Type 0 where
  pub above : number ≤ point.site
  pub below : point.site < number + sites_of b
  pub inner : List ℕ
  pub stands : point.left ≡ left ++ inner
  pub same : trace_on number left b point.site inner v' u' ≡ record { steps = rest; end = end }

same_number : (number : ℕ) → (number == number) ≡ true
same_number number = grind (arith, nat_tests)

other_number : (number site : ℕ) → suc number ≤ site → (number == site) ≡ false
other_number number site h = grind (arith, nat_tests)

-- the first get or put of a block is where it stands
resumed_here : (number : ℕ) (left : List ℕ) (point : Point) (b : Block) (v v' : List ℤ) (u : List (List ℤ)) (rest : List Step)
    → At (point_at number left) v ≡ At point v' → 0 < sites_of b
    → trace_on number left b number [] v u ≡ trace_of number left b v u → (trace_of number left b v u).steps ≡ rest
    → Resumed number left point b v' u rest (trace_of number left b v u).end
resumed_here number left point b v v' u rest stands some same h =
    let s : point_at number left ≡ point = cc in
    let w : v ≡ v' = cc in
    rw (← s, ← w) (record {
      above = omega arith;
      below = omega arith;
      inner = [];
      stands = sym (append-nil left);
      same = same ∙ same_trace (trace_of number left b v u) rest (trace_of number left b v u).end h refl;
    })

-- what is left of a part of a block is left of the block, which does the same from there on
resumed_in : (number m : ℕ) (left : List ℕ) (point : Point) (part b : Block) (v' : List ℤ) (u' : List (List ℤ))
    (mid rest : List Step) (end last : End) (r : Resumed m left point part v' u' mid end) → number ≤ m
    → point.site < number + sites_of b
    → trace_on number left b point.site r.inner v' u' ≡ record { steps = rest; end = last }
    → Resumed number left point b v' u' rest last
resumed_in number m left point part b v' u' mid rest end last r low high same =
    let above = r.above in
    record { above = omega arith; below = high; inner = r.inner; stands = r.stands; same = same }

-- what is left of a block behind its first act is left of the whole block
resumed_later : (number : ℕ) (left : List ℕ) (point : Point) (whole b : Block) (v' : List ℤ) (u u1 : List (List ℤ))
    (y step : Step) (done rest : List Step) (end : End) → step ≡ y → left_by step.act u ≡ u1
    → sites_of whole ≡ sites_of b + 1
    → ((inner : List ℕ) (w : List (List ℤ)) → (number == point.site) ≡ false
    → trace_on number left whole point.site inner v' w ≡ trace_on (number + 1) left b point.site inner v' w)
    → Resumed (number + 1) left point b v' (left_after done u1) rest end
    → Resumed number left point whole v' (left_after (y ∷ done) u) rest end
resumed_later number left point whole b v' u u1 y step done rest end same is size skip r =
    let above = r.above in
    let below = r.below in
    rw (← same, is) (resumed_in number (number + 1) left point b whole v' (left_after done u1) rest rest end end r
    (omega arith) (omega arith)
    (skip r.inner (left_after done u1) (other_number number point.site (omega arith)) ∙ r.same))

-- a part in what one does and the other after it: in the first, or in the other
pub data Where (t : Trace) (go : List ℤ → List (List ℤ) → Trace) (u : List (List ℤ)) (done rest : List Step)
    (point : Point) (v' : List ℤ) : Type 0 where
  First : (mid : List Step) → t.steps ≡ done ++ mid → rest ≡ mid ++ (from_end t.end go).steps
      → standing_at mid t.end ≡ At point v' → Where t go u done rest point v'
  After : (v : List ℤ) (w : List (List ℤ)) (past : List Step) → t.end ≡ Ended v w
      → left_after done u ≡ left_after past w → (go v w).steps ≡ past ++ rest
      → standing_at rest (go v w).end ≡ At point v' → Where t go u done rest point v'

pub where_is : (t : Trace) (go : List ℤ → List (List ℤ) → Trace) (u : List (List ℤ)) (done rest : List Step)
    (point : Point) (v' : List ℤ) → Reads t u
    → (then_do t go).steps ≡ done ++ rest → standing_at rest (then_do t go).end ≡ At point v'
    → Where t go u done rest point v'
where_is t go u done rest point v' r h s = at_end t.end refl h s
  where
    goes_on : (e : End) → t.end ≡ e → from_end e go ≡ no_steps e → t.steps ++ (from_end e go).steps ≡ done ++ rest
        → standing_at rest (from_end e go).end ≡ At point v' → Where t go u done rest point v'
    goes_on e is none h s =
        First rest (sym (append-nil t.steps) ∙ rw none at h) (rw (is, none) (sym (append-nil rest))) (rw is (rw none at s))

    at_end : (e : End) → t.end ≡ e → t.steps ++ (from_end e go).steps ≡ done ++ rest
        → standing_at rest (from_end e go).end ≡ At point v' → Where t go u done rest point v'
    at_end (Waits w y c) is h s = goes_on (Waits w y c) is refl h s
    at_end (Stopped y) is h s = goes_on (Stopped y) is refl h s
    at_end (Ended v w) is h s = elim (split t.steps (go v w).steps done rest h) [
      | Within x mid e f ↦ First (x ∷ mid) e (rw is f) (rw f at s)
      | Beyond past e f ↦ After v w past is (rw e (left_after-append t.steps past u ∙ ap (left_after past) (r.left v w is))) f s
    ]

-- so what is true of a part in the first, and of one in the other, is true of it
resume_then : (P : List (List ℤ) → End → Type 0) (t : Trace) (go : List ℤ → List (List ℤ) → Trace) (u : List (List ℤ))
    (done rest : List Step) (point : Point) (v' : List ℤ) → Reads t u
    → (then_do t go).steps ≡ done ++ rest → standing_at rest (then_do t go).end ≡ At point v'
    → ((mid : List Step) → t.steps ≡ done ++ mid → rest ≡ mid ++ (from_end t.end go).steps
    → standing_at mid t.end ≡ At point v' → P (left_after done u) (from_end t.end go).end)
    → ((v : List ℤ) (w : List (List ℤ)) (past : List Step) → t.end ≡ Ended v w → (go v w).steps ≡ past ++ rest
    → standing_at rest (go v w).end ≡ At point v' → P (left_after past w) (go v w).end)
    → P (left_after done u) (then_do t go).end
resume_then P t go u done rest point v' r h s first after = elim (where_is t go u done rest point v' r h s) [
  | First mid e f g ↦ first mid e f g
  | After v w past e l f g ↦ rw (l, e) (after v w past e f g)
]

-- the rest of what one does, and then what comes after it
pub resumed_then : (t : Trace) (mid rest : List Step) (end : End) (go : List ℤ → List (List ℤ) → Trace)
    → t ≡ record { steps = mid; end = end } → rest ≡ mid ++ (from_end end go).steps
    → then_do t go ≡ record { steps = rest; end = (from_end end go).end }
resumed_then t mid rest end go same e = rw (same, e) refl

-- an if of which a block is resumed, or what stands behind it
module _ (number : ℕ) (left : List ℕ) (test : Tree) (first second b : Block) (point : Point) (v' : List ℤ)
    (u' : List (List ℤ)) (mid rest : List Step) (end : End) where
  abbrev whole : Block
  whole = IfThen test first second b

  abbrev past_first : ℕ
  past_first = number + sites_of first

  abbrev past_second : ℕ
  past_second = number + sites_of first + sites_of second

  abbrev behind : List ℤ → List (List ℤ) → Trace
  behind = trace_of past_second left b

  in_first : Resumed number left point first v' u' mid end → rest ≡ mid ++ (from_end end behind).steps
      → Resumed number left point whole v' u' rest (from_end end behind).end
  in_first r is =
      let below = r.below in
      resumed_in number number left point first whole v' u' mid rest end _ r (omega arith) (omega arith)
      (rw (lt-ltb point.site past_first below) (resumed_then _ mid rest end behind r.same is))

  in_second : Resumed past_first left point second v' u' mid end → rest ≡ mid ++ (from_end end behind).steps
      → Resumed number left point whole v' u' rest (from_end end behind).end
  in_second r is =
      let above = r.above in
      let below = r.below in
      resumed_in number past_first left point second whole v' u' mid rest end _ r (omega arith) (omega arith)
      (rw (le-ltb point.site past_first above, lt-ltb point.site past_second below)
      (resumed_then _ mid rest end behind r.same is))

  past_both : Resumed past_second left point b v' u' rest end → Resumed number left point whole v' u' rest end
  past_both r =
      let above = r.above in
      let below = r.below in
      resumed_in number past_second left point b whole v' u' rest rest end end r (omega arith) (omega arith)
      (rw (le-ltb point.site past_first (omega arith), le-ltb point.site past_second above) r.same)

-- What is left of so many passes of a repetition, from a point on: the rest of the pass at hand, and those past it.
pub record ResumedRounds (number : ℕ) (left : List ℕ) (point : Point) (body : Block) (v' : List ℤ) (u' : List (List ℤ))
    (rest : List Step) (end : End) : Type 0 where
  pub above : number ≤ point.site
  pub below : point.site < number + sites_of body
  pub further : ℕ
  pub deeper : List ℕ
  pub stands : point.left ≡ left ++ suc further ∷ deeper
  pub same : then_do (trace_on number (left ++ suc further ∷ []) body point.site deeper v' u')
      (rounds further (λ (k : ℕ). trace_of number (left ++ k ∷ []) body)) ≡ record { steps = rest; end = end }

-- the pass in which it stands is resumed, and the same come after it
module _ (number : ℕ) (left : List ℕ) (body : Block) (point : Point) (v' : List ℤ)
    (by_body : (k : ℕ) (v : List ℤ) (u : List (List ℤ)) (done rest : List Step)
    → (trace_of number (left ++ k ∷ []) body v u).steps ≡ done ++ rest
    → standing_at rest (trace_of number (left ++ k ∷ []) body v u).end ≡ At point v'
    → Resumed number (left ++ k ∷ []) point body v' (left_after done u) rest
    (trace_of number (left ++ k ∷ []) body v u).end) where
  abbrev pass : ℕ → List ℤ → List (List ℤ) → Trace
  pass k = trace_of number (left ++ k ∷ []) body

  resume_rounds : (n : ℕ) (v : List ℤ) (u : List (List ℤ)) (done rest : List Step)
      → (rounds n pass v u).steps ≡ done ++ rest → standing_at rest (rounds n pass v u).end ≡ At point v'
      → ResumedRounds number left point body v' (left_after done u) rest (rounds n pass v u).end
  resume_rounds zero v u [] [] h s = absurd cc
  resume_rounds zero v u [] (x ∷ rest) h s = absurd cc
  resume_rounds zero v u (x ∷ done) rest h s = absurd cc
  resume_rounds (suc n) v u done rest h s =
      resume_then (λ u' end. ResumedRounds number left point body v' u' rest end) (pass (suc n) v u) (rounds n pass) u done
      rest point v' (reads_block number (left ++ suc n ∷ []) body v u) h s
      (λ mid e f g. let r = by_body (suc n) v u done mid e g in record {
        above = r.above;
        below = r.below;
        further = n;
        deeper = r.inner;
        stands = r.stands ∙ append_assoc left (suc n ∷ []) r.inner;
        same = resumed_then _ mid rest (pass (suc n) v u).end (rounds n pass) r.same f;
      })
      (λ v1 w past e f g. resume_rounds n v1 w past rest f g)

-- a repetition of which a pass is resumed, or what stands behind it
module _ (number : ℕ) (left : List ℕ) (times : ℕ) (body b : Block) (point : Point) (v' : List ℤ)
    (u' : List (List ℤ)) (mid rest : List Step) (end : End) where
  abbrev past_body : ℕ
  past_body = number + sites_of body

  abbrev behind_all : List ℤ → List (List ℤ) → Trace
  behind_all = trace_of past_body left b

  in_pass_of : ResumedRounds number left point body v' u' mid end → rest ≡ mid ++ (from_end end behind_all).steps
      → Resumed number left point (RepeatThen times body b) v' u' rest (from_end end behind_all).end
  in_pass_of r is =
      let below = r.below in
      let one_less : suc r.further - 1 ≡ r.further = omega arith in
      record {
        above = r.above;
        below = omega arith;
        inner = suc r.further ∷ r.deeper;
        stands = r.stands;
        same = rw (lt-ltb point.site past_body below, one_less) (resumed_then _ mid rest end behind_all r.same is);
      }

  past_passes : Resumed past_body left point b v' u' rest end
      → Resumed number left point (RepeatThen times body b) v' u' rest end
  past_passes r =
      let above = r.above in
      let below = r.below in
      resumed_in number past_body left point b (RepeatThen times body b) v' u' rest rest end end r (omega arith) (omega arith)
      (rw (le-ltb point.site past_body above) r.same)

-- before a get it stands there, whether it waits or not
stands_first : (hist : List ℤ) (point : Point) (c : ℕ) (v : List ℤ) (go : ℤ → List ℤ → Trace)
    → standing_at (on_get hist point c v go).steps (on_get hist point c v go).end ≡ At point v
stands_first [] point c v go = refl
stands_first (item ∷ later) point c v go = refl

-- what a block does from where it stands is what is left of what it did
pub resume : (number : ℕ) (left : List ℕ) (b : Block) (v : List ℤ) (u : List (List ℤ)) (done rest : List Step)
    (point : Point) (v' : List ℤ)
    → (trace_of number left b v u).steps ≡ done ++ rest
    → standing_at rest (trace_of number left b v u).end ≡ At point v'
    → Resumed number left point b v' (left_after done u) rest (trace_of number left b v u).end
resume number left Nothing v u [] [] point v' h s = absurd cc
resume number left Nothing v u [] (x ∷ rest) point v' h s = absurd cc
resume number left Nothing v u (x ∷ done) rest point v' h s = absurd cc
resume number left (StopThen b) v u [] [] point v' h s = absurd cc
resume number left (StopThen b) v u [] (x ∷ rest) point v' h s = absurd cc
resume number left (StopThen b) v u (x ∷ done) rest point v' h s = absurd cc
resume number left (AssignThen x e b) v u done rest point v' h s =
    let r = resume number left b (set v x (value_of e v)) u done rest point v' h s in
    record { above = r.above; below = r.below; inner = r.inner; stands = r.stands; same = r.same }
resume number left (IfThen test first second b) v u done rest point v' h s =
    let whole = IfThen test first second b in
    let one = trace_of number left first v u in
    let other = trace_of (number + sites_of first) left second v u in
    let go = trace_of (number + sites_of first + sites_of second) left b in
    let not_so = int_eq (value_of test v) (pos 0) in
    resume_then (λ u' end. Resumed number left point whole v' u' rest end) (cond not_so other one) go u done rest point v'
    (one_of (λ t. Reads t u) not_so other one (reads_block (number + sites_of first) left second v u)
    (reads_block number left first v u)) h s
    (λ mid. elim not_so as (λ z. (cond z other one).steps ≡ done ++ mid → rest ≡ mid ++ (from_end (cond z other one).end go).steps
    → standing_at mid (cond z other one).end ≡ At point v'
    → Resumed number left point whole v' (left_after done u) rest (from_end (cond z other one).end go).end) [
      | true ↦ λ e f g. in_second number left test first second b point v' (left_after done u) mid rest other.end
          (resume (number + sites_of first) left second v u done mid point v' e g) f
      | false ↦ λ e f g. in_first number left test first second b point v' (left_after done u) mid rest one.end
          (resume number left first v u done mid point v' e g) f
    ])
    (λ v1 w past e f g. past_both number left test first second b point v' (left_after past w) rest rest (go v1 w).end
    (resume (number + sites_of first + sites_of second) left b v1 w past rest point v' f g))
resume number left (RepeatThen times body b) v u done rest point v' h s =
    let pass = λ (k : ℕ). trace_of number (left ++ k ∷ []) body in
    let go = trace_of (number + sites_of body) left b in
    resume_then (λ u' end. Resumed number left point (RepeatThen times body b) v' u' rest end) (rounds times pass v u) go u
    done rest point v' (reads_rounds times pass (λ k v u. reads_block number (left ++ k ∷ []) body v u) v u) h s
    (λ mid e f g. in_pass_of number left times body b point v' (left_after done u) mid rest (rounds times pass v u).end
    (resume_rounds number left body point v'
    (λ k v1 w past more f q. resume number (left ++ k ∷ []) body v1 w past more point v' f q) times v u done mid e g) f)
    (λ v1 w past e f g. past_passes number left times body b point v' (left_after past w) rest rest (go v1 w).end
    (resume (number + sites_of body) left b v1 w past rest point v' f g))
resume number left (PutThen e c b) v u [] rest point v' h s =
    resumed_here number left point (PutThen e c b) v v' u rest (rw (← h) at s) (omega arith) (rw same_number refl) h
resume number left (PutThen e c b) v u (y ∷ done) rest point v' h s =
    let step : Step = record { point = point_at number left; vars = v; act = Sent c (value_of e v) } in
    resumed_later number left point (PutThen e c b) b v' u u y step done rest (trace_of (number + 1) left b v u).end (cc) refl
    refl (λ inner w other. rw other refl) (resume (number + 1) left b v u done rest point v' (cc) s)
resume number left (GetThen x c b) v u [] rest point v' h s =
    resumed_here number left point (GetThen x c b) v v' u rest
    (sym (stands_first (history_of u c) (point_at number left) c v _) ∙ rw (← h) at s) (omega arith) (rw same_number refl) h
resume number left (GetThen x c b) v u (y ∷ done) rest point v' h s =
    let go = λ (item : ℤ) (later : List ℤ). trace_of (number + 1) left b (set v x item) (set u c later) in
    let got = λ (hist : List ℤ). on_get hist (point_at number left) c v go in
    (elim (history_of u c) as (λ hist. history_of u c ≡ hist → (got hist).steps ≡ y ∷ (done ++ rest)
    → standing_at rest (got hist).end ≡ At point v'
    → Resumed number left point (GetThen x c b) v' (left_after (y ∷ done) u) rest (got hist).end) [
      | [] ↦ λ is h s. absurd cc
      | item ∷ later ↦ λ is h s.
          let step : Step = record { point = point_at number left; vars = v; act = Got c item } in
          resumed_later number left point (GetThen x c b) b v' u (set u c later) y step done rest (go item later).end (cc)
          (ap (λ (z : List ℤ). set u c (drop 1 z)) is) refl (λ inner w other. rw other refl)
          (resume (number + 1) left b (set v x item) (set u c later) done rest point v' (cc) s)
    ]) refl h s

-- what is left of a loop
pub record ResumedLoop (number : ℕ) (point : Point) (body : Option Block) (v' : List ℤ) (u' : List (List ℤ))
    (rest : List Step) (end : End) : Type 0 where
  pub above : number ≤ point.site
  pub same : then_do (body_on number body point v' u') (loop_trace number body) ≡ record { steps = rest; end = end }

-- the loop is as many passes as are enough
as_often : (n site : ℕ) (b : Block) (v : List ℤ) (u : List (List ℤ)) → IsTrue (is_passing b) → total u + 1 ≤ n
    → loop_trace site (Some b) v u ≡ passes n site b v u
as_often zero site b v u passing h = absurd (omega arith)
as_often (suc n) site b v u passing h = enough_passes (total u) n site b v u passing (omega arith) (omega arith)

-- a part in a pass
in_pass : (n number : ℕ) (point : Point) (b : Block) (v : List ℤ) (u : List (List ℤ)) (done mid rest : List Step)
    (v' : List ℤ) → IsTrue (is_passing b) → total u ≤ n → (trace_of number [] b v u).steps ≡ done ++ mid
    → rest ≡ mid ++ (from_end (trace_of number [] b v u).end (passes n number b)).steps
    → standing_at mid (trace_of number [] b v u).end ≡ At point v'
    → ResumedLoop number point (Some b) v' (left_after done u) rest (passes (suc n) number b v u).end
in_pass n number point b v u done mid rest v' passing enough e f g =
    let r = resume number [] b v u done mid point v' e g in
    let part : Trace = record { steps = mid; end = (trace_of number [] b v u).end } in
    let same = then_do_same part (loop_trace number (Some b)) (passes n number b)
    (λ v1 w h. let fewer = fewer_left number [] b v u v1 w passing h in as_often n number b v1 w passing (omega arith)) in
    record { above = r.above; same = rw (r.stands, r.same, same, f) refl }

-- whole passes: the one in which it stands is resumed, and the same come after it
pub resume_passes : (n number : ℕ) (point : Point) (b : Block) (v : List ℤ) (u : List (List ℤ)) (done rest : List Step)
    (v' : List ℤ) → IsTrue (is_passing b) → total u ≤ n
    → (passes (suc n) number b v u).steps ≡ done ++ rest
    → standing_at rest (passes (suc n) number b v u).end ≡ At point v'
    → ResumedLoop number point (Some b) v' (left_after done u) rest (passes (suc n) number b v u).end
resume_passes zero number point b v u done rest v' passing enough h s =
    resume_then (λ u' end. ResumedLoop number point (Some b) v' u' rest end) (trace_of number [] b v u) (passes zero number b)
    u done rest point v' (reads_block number [] b v u) h s
    (λ mid e f g. in_pass zero number point b v u done mid rest v' passing enough e f g)
    (λ v1 w past e f g. let fewer = fewer_left number [] b v u v1 w passing e in absurd (omega arith))
resume_passes (suc n) number point b v u done rest v' passing enough h s =
    resume_then (λ u' end. ResumedLoop number point (Some b) v' u' rest end) (trace_of number [] b v u)
    (passes (suc n) number b) u done rest point v' (reads_block number [] b v u) h s
    (λ mid e f g. in_pass (suc n) number point b v u done mid rest v' passing enough e f g)
    (λ v1 w past e f g. let fewer = fewer_left number [] b v u v1 w passing e in
    resume_passes n number point b v1 w past rest v' passing (omega arith) f g)

-- the loop
pub resume_loop : (number : ℕ) (point : Point) (body : Option Block) (v : List ℤ) (u : List (List ℤ))
    (done rest : List Step) (v' : List ℤ) → ((b : Block) → body ≡ Some b → IsTrue (is_passing b))
    → (loop_trace number body v u).steps ≡ done ++ rest
    → standing_at rest (loop_trace number body v u).end ≡ At point v'
    → ResumedLoop number point body v' (left_after done u) rest (loop_trace number body v u).end
resume_loop number point (Some b) v u done rest v' passing h s =
    resume_passes (total u) number point b v u done rest v' (passing b refl) (omega arith) h s
resume_loop number point None v u done [] v' passing h s = absurd cc
resume_loop number point None v u [] (x ∷ rest) v' passing h s = absurd cc
resume_loop number point None v u (y ∷ done) (x ∷ rest) v' passing h s = absurd cc

-- a process that stands before a get or put
resume_process : (code : Code) (inputs : List (List ℤ)) (done rest : List Step) (point : Point) (v' : List ℤ)
    → HasPassingLoop code
    → (process_trace code inputs).steps ≡ done ++ rest → standing_at rest (process_trace code inputs).end ≡ At point v'
    → trace_from code (At point v') (left_after done inputs)
    ≡ record { steps = rest; end = (process_trace code inputs).end }
resume_process code inputs done rest point v' passing h s =
    let loop = loop_trace (sites_of code.prelude) code.body in
    resume_then (λ u' end. trace_from code (At point v') u' ≡ record { steps = rest; end = end })
    (trace_of 0 [] code.prelude code.vars inputs) loop inputs done rest point v'
    (reads_block 0 [] code.prelude code.vars inputs) h s
    (λ mid e f g. let r = resume 0 [] code.prelude code.vars inputs done mid point v' e g in
    let below = r.below in
    rw (lt-ltb point.site (sites_of code.prelude) (omega arith), r.stands) (resumed_then _ mid rest _ loop r.same f))
    (λ v w past e f g. let r = resume_loop (sites_of code.prelude) point code.body v w past rest v' passing f g in
    rw (le-ltb point.site (sites_of code.prelude) r.above) r.same)

-- past the last statement nothing is left
past_last : (rest : List Step) (e : End) (vars : List ℤ) → Done vars ≡ standing_at rest e → rest ≡ []
past_last (x ∷ rest) e vars h = absurd cc
past_last [] e vars h = refl

-- This is left of a trace: it has these steps, and past them it stands as at this end. A finished process ends here
-- whether its statements ended or stopped.
pub record IsLeft (t : Trace) (steps : List Step) (end : End) : Type 0 where
  pub steps_are : t.steps ≡ steps
  pub stands : (rest : List Step) → standing_at rest t.end ≡ standing_at rest end

is_left : (t : Trace) (steps : List Step) (end : End) → t ≡ record { steps = steps; end = end } → IsLeft t steps end
is_left t steps end same = record { steps_are = rw same refl; stands = λ rest. rw same refl }

-- what a process does from where it stands, on what is then unread, is what is left of what it did
pub resumes : (code : Code) (inputs : List (List ℤ)) (m : ℕ) (standing : Standing) → HasPassingLoop code
    → StandsAt code inputs m standing
    → IsLeft (trace_from code standing (left_after (take m (process_trace code inputs).steps) inputs))
    (drop m (process_trace code inputs).steps) (process_trace code inputs).end
resumes code inputs m (At point vars) passing s =
    let steps = (process_trace code inputs).steps in
    is_left _ (drop m steps) _ (resume_process code inputs (take m steps) (drop m steps) point vars passing
    (sym (take-append-drop m steps)) (sym s.here))
resumes code inputs m (NotBegun vars) passing s =
    is_left _ (drop m (process_trace code inputs).steps) _ (rw (s.here.0, s.here.1) refl)
resumes code inputs m (Done vars) passing s = record { steps_are = sym none; stands = at_rest }
  where
    none : drop m (process_trace code inputs).steps ≡ []
    none = past_last (drop m (process_trace code inputs).steps) (process_trace code inputs).end vars s.here

    at_rest : (rest : List Step)
        → standing_at rest (Ended vars (left_after (take m (process_trace code inputs).steps) inputs))
        ≡ standing_at rest (process_trace code inputs).end
    at_rest (x ∷ rest) = refl
    at_rest [] = rw (← none) s.here
