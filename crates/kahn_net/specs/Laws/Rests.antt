-- Laws of a process at rest: where it has got all of the channel at which it waits, what it has done by now is all that
-- it does.
use Rattle.std.proofs.Common.{◌≡◌, ◌==◌, ◌||◌, ℕ, zero, suc, ◌+◌, ◌<◌, ◌≤◌, Bool, true, false, pos, List, ℤ, []}
use Rattle.std.proofs.Common.{◌∷◌, ◌++◌, length, take, drop, set, Option, Some, None, refl, sym, ap, ◌∙◌, arith}
use Rattle.std.proofs.Common.{append-nil}
use Rattle.std.proofs.lemmas.List.{take-append-drop, length-append}
use Rattle.std.proofs.lemmas.Bool.Decides.{nat_tests}
use Rattle.std.specs.Prelude.{IsTrue, slice_get}
use Rattle.std.specs.Ordering.{int_eq}
use Rattle.kahn_net.specs.Streams.{history_of, total, ArePrefixes}
use Rattle.kahn_net.specs.Syntax.{Block, Nothing, GetThen, AssignThen, PutThen, StopThen, IfThen, RepeatThen, Code}
use Rattle.kahn_net.specs.Valid.{block_gets, body_gets, code_gets}
use Rattle.kahn_net.specs.Statements.{Act, Got, Sent, Step, Trace, End, Ended, Waits, Stopped, trace_of, point_at}
use Rattle.kahn_net.specs.Statements.{choose, on_get, from_end, then_do, rounds, value_of, sites_of}
use Rattle.kahn_net.specs.Processes.{Standing, NotBegun, StandsAt, HasPassingLoop, passes, loop_trace, process_trace}
use Rattle.kahn_net.specs.Processes.{got_by, got_on}
use Rattle.kahn_net.specs.Laws.Traces.{one_of}
use Rattle.kahn_net.specs.Laws.Streams.{IsLonger, longer_process}
use Rattle.kahn_net.specs.Laws.Got.{got_on-append, got_and_left, reads_process, process_waits_empty, IsGetFrom}
use Rattle.kahn_net.specs.Laws.Got.{GetsNext, next_from, Within, Beyond, split}
use Rattle.kahn_net.specs.NextActs.{Next, Begins, Gets, Puts, NoNext, next_of, IsNextAct}
use Rattle.kahn_net.specs.Laws.NextActs.{next_acts}

-- What a process gets, its text gets

either_false : (a b : Bool) → (a || b) ≡ false → (a ≡ false) × (b ≡ false)
either_false a b h = grind arith

-- what one does after the other
deaf_then : (channel : ℕ) (t : Trace) (go : List ℤ → List (List ℤ) → Trace) → got_on channel t.steps ≡ []
    → ((v : List ℤ) (u : List (List ℤ)) → got_on channel (go v u).steps ≡ []) → got_on channel (then_do t go).steps ≡ []
deaf_then channel t go h later =
    rw (got_on-append channel t.steps _, h) (elim t.end as (λ e. got_on channel (from_end e go).steps ≡ []) [
      | Ended v u ↦ later v u
      | Waits s v c ↦ refl
      | Stopped v ↦ refl
    ])

-- so many passes
deaf_rounds : (channel n : ℕ) (pass : ℕ → List ℤ → List (List ℤ) → Trace)
    → ((k : ℕ) (v : List ℤ) (u : List (List ℤ)) → got_on channel (pass k v u).steps ≡ [])
    → (v : List ℤ) (u : List (List ℤ)) → got_on channel (rounds n pass v u).steps ≡ []
deaf_rounds channel zero pass h v u = refl
deaf_rounds channel (suc n) pass h v u =
    deaf_then channel (pass (suc n) v u) (rounds n pass) (h (suc n) v u) (λ v' u'. deaf_rounds channel n pass h v' u')

-- statements without a get from a channel get nothing there
deaf_block : (channel site : ℕ) (left : List ℕ) (b : Block) (vars : List ℤ) (unread : List (List ℤ))
    → block_gets channel b ≡ false → got_on channel (trace_of site left b vars unread).steps ≡ []
deaf_block channel site left Nothing vars unread h = refl
deaf_block channel site left (AssignThen x e rest) vars unread h =
    deaf_block channel site left rest (set vars x (value_of e vars)) unread h
deaf_block channel site left (PutThen e c rest) vars unread h = deaf_block channel (site + 1) left rest vars unread h
deaf_block channel site left (StopThen rest) vars unread h = refl
deaf_block channel site left (IfThen test first second rest) vars unread h =
    let in_first = either_false (block_gets channel first) (block_gets channel second || block_gets channel rest) h in
    let in_second = either_false (block_gets channel second) (block_gets channel rest) in_first.1 in
    let one = trace_of site left first vars unread in
    let other = trace_of (site + sites_of first) left second vars unread in
    deaf_then channel (choose (value_of test vars) one other)
    (trace_of (site + sites_of first + sites_of second) left rest)
    (one_of (λ (t : Trace). got_on channel t.steps ≡ []) (int_eq (value_of test vars) (pos 0)) other one
    (deaf_block channel (site + sites_of first) left second vars unread in_second.0)
    (deaf_block channel site left first vars unread in_first.0))
    (λ v u. deaf_block channel (site + sites_of first + sites_of second) left rest v u in_second.1)
deaf_block channel site left (RepeatThen times body rest) vars unread h =
    let both = either_false (block_gets channel body) (block_gets channel rest) h in
    let pass = λ (k : ℕ). trace_of site (left ++ k ∷ []) body in
    deaf_then channel (rounds times pass vars unread) (trace_of (site + sites_of body) left rest)
    (deaf_rounds channel times pass (λ k v u. deaf_block channel site (left ++ k ∷ []) body v u both.0) vars unread)
    (λ v u. deaf_block channel (site + sites_of body) left rest v u both.1)
deaf_block channel site left (GetThen x c rest) vars unread h =
    let both = either_false (c == channel) (block_gets channel rest) h in
    elim (history_of unread c) as (λ history. got_on channel (on_get history (point_at site left) c vars
    (λ item later. trace_of (site + 1) left rest (set vars x item) (set unread c later))).steps ≡ []) [
      | [] ↦ refl
      | item ∷ later ↦ rw both.0 (deaf_block channel (site + 1) left rest (set vars x item) (set unread c later) both.1)
    ]

-- again and again
deaf_passes : (channel n site : ℕ) (b : Block) (vars : List ℤ) (unread : List (List ℤ)) → block_gets channel b ≡ false
    → got_on channel (passes n site b vars unread).steps ≡ []
deaf_passes channel zero site b vars unread h = refl
deaf_passes channel (suc n) site b vars unread h =
    deaf_then channel (trace_of site [] b vars unread) (passes n site b) (deaf_block channel site [] b vars unread h)
    (λ v u. deaf_passes channel n site b v u h)

deaf_loop : (channel site : ℕ) (body : Option Block) (vars : List ℤ) (unread : List (List ℤ))
    → body_gets channel body ≡ false → got_on channel (loop_trace site body vars unread).steps ≡ []
deaf_loop channel site None vars unread h = refl
deaf_loop channel site (Some b) vars unread h = deaf_passes channel (suc (total unread)) site b vars unread h

-- a process whose text has no get from a channel gets nothing there
pub deaf : (code : Code) (inputs : List (List ℤ)) (channel : ℕ) → code_gets channel code ≡ false
    → got_on channel (process_trace code inputs).steps ≡ []
deaf code inputs channel h =
    let both = either_false (block_gets channel code.prelude) (body_gets channel code.body) h in
    deaf_then channel (trace_of 0 [] code.prelude code.vars inputs) (loop_trace (sites_of code.prelude) code.body)
    (deaf_block channel 0 [] code.prelude code.vars inputs both.0)
    (λ v u. deaf_loop channel (sites_of code.prelude) code.body v u both.1)

-- so one that got an item has a get
pub gets_where_got : (code : Code) (inputs : List (List ℤ)) (channel : ℕ)
    → 0 < length (got_on channel (process_trace code inputs).steps) → IsTrue (code_gets channel code)
gets_where_got code inputs channel some = grind (arith, deaf code inputs channel)

-- Counting

-- a get from a channel gets one item more
one_more : (c : ℕ) (a : Act) (later : List ℤ) → IsGetFrom c a → length (got_by c a later) ≡ suc (length later)
one_more c (Sent d item) later h = absurd h
one_more c (Got d item) later h = rw (h, same_number c) refl
  where
    same_number : (n : ℕ) → (n == n) ≡ true
    same_number n = grind (arith, nat_tests)

-- after these steps, and one more that gets from the channel
got_past : (c : ℕ) (xs : List Step) (x : Step) (mid : List Step) → IsGetFrom c x.act
    → length (got_on c (xs ++ x ∷ mid)) ≡ length (got_on c xs) + suc (length (got_on c mid))
got_past c xs x mid h = rw (got_on-append c xs (x ∷ mid), length-append, one_more c x.act (got_on c mid) h) refl

-- what a part of the steps gets is no more than what all get
got_less : (c : ℕ) (xs ys : List Step) → length (got_on c xs) ≤ length (got_on c (xs ++ ys))
got_less c xs ys = rw (got_on-append c xs ys, length-append) (omega arith)

-- the first of the steps that are left stands at their number
first_left : (m : ℕ) (steps : List Step) (x : Step) (more : List Step) → drop m steps ≡ x ∷ more
    → slice_get steps m ≡ Some x
first_left zero [] x more h = absurd cc
first_left (suc m) [] x more h = absurd cc
first_left zero (y ∷ steps) x more h = cc
first_left (suc m) (y ∷ steps) x more h = first_left m steps x more h

-- Rest

-- nothing comes next after these acts: the process has finished, or it gets from a channel of which they got all that
-- there is here
abbrev pub IsStuck : Code → List (List ℤ) → List Step → Next → Type 0
IsStuck code here done Begins = ⊥
IsStuck code here done (Gets c) = IsTrue (code_gets c code) → length (history_of here c) ≤ length (got_on c done)
IsStuck code here done (Puts c) = ⊥
IsStuck code here done NoNext = Unit {0}

-- A process made so many acts where there is at least what is here, got no more of any channel than is here, and is
-- stuck: then those are all the acts that it makes on what is here.
pub acts_at_rest : (code : Code) (here whole : List (List ℤ)) (m : ℕ) (standing : Standing) → HasPassingLoop code
    → ArePrefixes here whole → StandsAt code whole m standing
    → ((c : ℕ) → IsTrue (code_gets c code)
    → length (got_on c (take m (process_trace code whole).steps)) ≤ length (history_of here c))
    → IsStuck code here (take m (process_trace code whole).steps) (next_of code standing)
    → (process_trace code here).steps ≡ take m (process_trace code whole).steps
acts_at_rest code here whole m standing passing p stands few stuck =
    elim (split own l.more done rest (sym l.steps ∙ sym (take-append-drop m (process_trace code whole).steps))) [
      | Within x mid e f ↦ absurd (no_further x mid e (next_of code standing) stuck
          (next_acts code whole m standing stands passing x
          (first_left m (process_trace code whole).steps x (mid ++ l.more) f)))
      | Beyond [] e f ↦ sym (e ∙ append-nil own)
      | Beyond (y ∷ past) e f ↦ absurd (no_less y past e f (process_trace code here).end refl)
    ]
  where
    own : List Step
    own = (process_trace code here).steps

    done : List Step
    done = take m (process_trace code whole).steps

    rest : List Step
    rest = drop m (process_trace code whole).steps

    l : IsLonger (process_trace code here) (process_trace code whole)
    l = longer_process code here whole passing p

    -- what it gets of what is here
    of_here : (c : ℕ) → length (got_on c own) ≤ length (history_of here c)
    of_here c =
        let whole = got_and_left own here c (reads_process code here).reading in
        omega (arith, simp length-append at (ap (length {A = ℤ}) whole))

    -- past its acts it would get an item that isn't here
    no_further : (x : Step) (mid : List Step) → own ≡ done ++ x ∷ mid → (next : Next) → IsStuck code here done next
        → IsNextAct next x.act → ⊥
    no_further x mid is Begins s n = s
    no_further x mid is (Puts c) s n = s
    no_further x mid is NoNext s n = n
    no_further x mid is (Gets c) s n =
        let count = rw (← is) at (got_past c done x mid (from_here x.act n)) in
        let all = of_here c in
        let few_here = s (gets_where_got code here c (omega (arith, count))) in
        omega (arith, count, all, few_here)
      where
        from_here : (a : Act) → IsNextAct (Gets c) a → IsGetFrom c a
        from_here (Got d item) same = sym same
        from_here (Sent d item) none = none

    -- and it doesn't stop before: the item for which it would wait is one that it got
    no_less : (y : Step) (past : List Step) → done ≡ own ++ y ∷ past → l.more ≡ y ∷ (past ++ rest) → (e : End)
        → (process_trace code here).end ≡ e → ⊥
    no_less y past is more (Ended v u) ends = let none : [] ≡ y ∷ (past ++ rest) = sym (l.ends v u ends).0 ∙ more in cc
    no_less y past is more (Stopped v) ends = let none : [] ≡ y ∷ (past ++ rest) = sym (l.stops v ends).0 ∙ more in cc
    no_less y past is more (Waits s v c) ends =
        let gets : GetsNext c (y ∷ (past ++ rest)) =
        rw more at (next_from code (NotBegun code.vars) here whole passing p s v c ends l.more l.steps) in
        let count = rw (← is) at (got_past c own y past gets) in
        let all = ap (length {A = ℤ}) (rw (process_waits_empty code here s v c ends, append-nil) at
        (got_and_left own here c (reads_process code here).reading)) in
        let part = rw (take-append-drop m (process_trace code whole).steps) at (got_less c done rest) in
        let enough = few c (gets_where_got code whole c (omega (arith, count, part))) in
        omega (arith, count, all, enough)
