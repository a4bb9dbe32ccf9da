-- A process's function is monotone: where more is unread, it does what it did, and then more.
use Rattle.std.proofs.Common.{pos, ◌≡◌, ℕ, zero, suc, ◌+◌, ◌<◌, ◌≤◌, List, ℤ, [], ◌∷◌, ◌++◌}
use Rattle.std.proofs.Common.{refl, sym, ap, ◌∙◌, arith, set, length, append-nil, append_assoc, length-append}
use Rattle.std.proofs.Common.{drop, Option, Some, None, inl, inr}
use Rattle.std.proofs.lemmas.List.{get_or-set_same, get_or-set_other, drop-append-le}
use Rattle.std.proofs.lemmas.Bool.Decides.{eqb_tells}
use Rattle.std.specs.Prelude.{IsTrue}
use Rattle.std.specs.Ordering.{int_eq}
use Rattle.kahn_net.specs.Streams.{history_of, total, IsPrefix, ArePrefixes}
use Rattle.kahn_net.specs.Syntax.{Block, Nothing, GetThen, AssignThen, PutThen, StopThen, IfThen, RepeatThen, Code}
use Rattle.kahn_net.specs.Valid.{is_passing}
use Rattle.kahn_net.specs.Statements.{Point, Step, Trace, End, Ended, Waits, Stopped, no_steps, trace_of}
use Rattle.kahn_net.specs.Statements.{point_at, choose, on_get, from_end, then_do, rounds, value_of, sites_of}
use Rattle.kahn_net.specs.Processes.{Standing, NotBegun, At, Done, standing_at, IsHere, StandsAt, HasPassingLoop}
use Rattle.kahn_net.specs.Processes.{passes, loop_trace, process_trace, sent_on, output_of}
use Rattle.kahn_net.specs.Laws.Traces.{both_of}
use Rattle.kahn_net.specs.Laws.Passes.{fewer_left}
use Rattle.kahn_net.specs.Laws.Puts.{sent_on-append}
use Rattle.kahn_net.specs.Laws.Prefixes.{IsFollowed, followed, prefix_of}

-- A longer trace does the same and goes on: where this one waits it stands at the same point, and where this one ended
-- or stopped it does so too.
pub record IsLonger (t long : Trace) : Type 0 where
  pub more : List Step
  pub steps : long.steps ≡ t.steps ++ more
  pub stands : (point : Point) (v : List ℤ) → standing_at [] t.end ≡ At point v → standing_at more long.end ≡ At point v
  pub ends : (v : List ℤ) (u : List (List ℤ)) → t.end ≡ Ended v u
      → (more ≡ []) × ((u' : List (List ℤ)) × (long.end ≡ Ended v u') × ArePrefixes u u')
  pub stops : (v : List ℤ) → t.end ≡ Stopped v → (more ≡ []) × (long.end ≡ Stopped v)

-- a channel on which there is an item is there
pub within : (all : List (List ℤ)) (c : ℕ) (x : ℤ) (xs : List ℤ) → history_of all c ≡ x ∷ xs → c < length all
within [] c x xs h = absurd cc
within (y ∷ all) zero x xs h = omega arith
within (y ∷ all) (suc c) x xs h = let here = within all c x xs h in omega arith

-- the same item taken from both
pub prefixes_set : (small big : List (List ℤ)) (c : ℕ) (x y : ℤ) (left rest ys : List ℤ) → ArePrefixes small big
    → history_of small c ≡ x ∷ left → history_of big c ≡ y ∷ ys → ys ≡ left ++ rest
    → ArePrefixes (set small c left) (set big c ys)
prefixes_set small big c x y left rest ys p h k e = record {
  at = λ d. elim (eqb_tells d c) [
    | inl same ↦ rw (
      same.1,
      get_or-set_same small c left [] (within small c x left h),
      get_or-set_same big c ys [] (within big c y ys k),
    ) (prefix_of (record { rest = rest; is = e }))
    | inr other ↦ rw (get_or-set_other small c d left [] other.1, get_or-set_other big c d ys [] other.1) (p.at d)
  ];
}

pub not_done : (v v' : List ℤ) (point : Point) → Done v ≡ At point v' → ⊥
not_done v v' point e = cc

-- what stands before more still stands
keeps : (rest : List Step) (e : End) (go : List ℤ → List (List ℤ) → Trace) (point : Point) (v : List ℤ)
    → standing_at rest e ≡ At point v → standing_at (rest ++ (from_end e go).steps) (from_end e go).end ≡ At point v
keeps (x ∷ rest) e go point v h = h
keeps [] (Waits s y c) go point v h = h
keeps [] (Ended y z) go point v h = absurd cc
keeps [] (Stopped y) go point v h = absurd cc

-- what one does after the other
pub longer_then : (t long : Trace) (go go' : List ℤ → List (List ℤ) → Trace) → IsLonger t long
    → ((v : List ℤ) (u w : List (List ℤ)) → t.end ≡ Ended v u → long.end ≡ Ended v w → ArePrefixes u w
    → IsLonger (go v u) (go' v w)) → IsLonger (then_do t go) (then_do long go')
longer_then t long go go' l next = at_end t.end refl
  where
    at_end : (e : End) → t.end ≡ e
        → IsLonger (record { steps = t.steps ++ (from_end e go).steps; end = (from_end e go).end }) (then_do long go')
    at_end (Waits s y c) is = record {
      more = l.more ++ (from_end long.end go').steps;
      steps = rw (l.steps, append-nil) (append_assoc t.steps l.more (from_end long.end go').steps);
      stands = λ site v h. keeps l.more long.end go' site v (l.stands site v (rw is h));
      ends = λ v u h. absurd cc;
      stops = λ v h. absurd cc;
    }
    at_end (Stopped y) is =
        let e = l.stops y is in
        record {
          more = [];
          steps = rw (l.steps, e.0, e.1) refl;
          stands = λ point v h. absurd cc;
          ends = λ v u h. absurd cc;
          stops = λ v h. (refl, rw e.1 h);
        }
    at_end (Ended v u) is =
        let e = l.ends v u is in
        let n = next v u e.1.0 is e.1.1 e.1.2 in
        record {
          more = n.more;
          steps = rw (l.steps, e.0, e.1.1, append-nil, n.steps) (sym (append_assoc t.steps (go v u).steps n.more));
          stands = λ point v' h. rw e.1.1 (n.stands point v' h);
          ends = λ v' u' h. rw e.1.1 (n.ends v' u' h);
          stops = λ v' h. rw e.1.1 (n.stops v' h);
        }

-- with nothing to do
longer_none : (v : List ℤ) (u w : List (List ℤ)) → ArePrefixes u w
    → IsLonger (no_steps (Ended v u)) (no_steps (Ended v w))
longer_none v u w p = record {
  more = [];
  steps = refl;
  stands = λ point v' h. absurd cc;
  ends = λ v' u' h. let vars : v ≡ v' = cc in let unread : u ≡ u' = cc in (refl, (w, rw vars refl, rw (← unread) p));
  stops = λ v' h. absurd cc;
}

-- so many passes
pub longer_rounds : (n : ℕ) (pass : ℕ → List ℤ → List (List ℤ) → Trace)
    → ((k : ℕ) (v : List ℤ) (u w : List (List ℤ)) → ArePrefixes u w → IsLonger (pass k v u) (pass k v w))
    → (v : List ℤ) (u w : List (List ℤ)) → ArePrefixes u w → IsLonger (rounds n pass v u) (rounds n pass v w)
longer_rounds zero pass h v u w p = longer_none v u w p
longer_rounds (suc n) pass h v u w p =
    longer_then (pass (suc n) v u) (pass (suc n) v w) (rounds n pass) (rounds n pass) (h (suc n) v u w p)
    (λ v' u' w' e e' p'. longer_rounds n pass h v' u' w' p')

-- what a get does, and what comes behind it
longer_get : (point : Point) (c : ℕ) (v : List ℤ) (go go' : ℤ → List ℤ → Trace) (h h' : List ℤ) → IsFollowed h h'
    → ((item : ℤ) (l l' rest : List ℤ) → h ≡ item ∷ l → h' ≡ item ∷ l' → l' ≡ l ++ rest → IsLonger (go item l) (go' item l'))
    → IsLonger (on_get h point c v go) (on_get h' point c v go')
longer_get point c v go go' [] [] m later =
    record { more = []; steps = refl; stands = λ s v' e. e; ends = λ v' u e. absurd cc; stops = λ v' e. absurd cc }
longer_get point c v go go' [] (y ∷ ys) m later = record {
  more = (on_get (y ∷ ys) point c v go').steps;
  steps = refl;
  stands = λ s v' e. e;
  ends = λ v' u e. absurd cc;
  stops = λ v' e. absurd cc;
}
longer_get point c v go go' (z ∷ zs) [] m later = let bad = m.is in absurd cc
longer_get point c v go go' (z ∷ zs) (y ∷ ys) m later =
    let both = m.is in
    let same : y ≡ z = cc in
    let r = later z zs ys m.rest refl (cc) (cc) in
    rw same (record { more = r.more; steps = rw r.steps refl; stands = r.stands; ends = r.ends; stops = r.stops })

-- what statements do
pub longer : (site : ℕ) (left : List ℕ) (b : Block) (v : List ℤ) (u w : List (List ℤ)) → ArePrefixes u w
    → IsLonger (trace_of site left b v u) (trace_of site left b v w)
longer site left Nothing v u w p = longer_none v u w p
longer site left (AssignThen x e b) v u w p =
    let r = longer site left b (set v x (value_of e v)) u w p in
    record { more = r.more; steps = r.steps; stands = r.stands; ends = r.ends; stops = r.stops }
longer site left (PutThen e c b) v u w p =
    let r = longer (site + 1) left b v u w p in
    record { more = r.more; steps = rw r.steps refl; stands = r.stands; ends = r.ends; stops = r.stops }
longer site left (StopThen b) v u w p = record {
  more = [];
  steps = refl;
  stands = λ point v' h. absurd cc;
  ends = λ v' u' h. absurd cc;
  stops = λ v' h. (refl, h);
}
longer site left (IfThen test first second b) v u w p =
    let one = trace_of site left first v in
    let other = trace_of (site + sites_of first) left second v in
    let go = trace_of (site + sites_of first + sites_of second) left b in
    longer_then (choose (value_of test v) (one u) (other u)) (choose (value_of test v) (one w) (other w)) go go
    (both_of IsLonger (int_eq (value_of test v) (pos 0)) (other u) (one u) (other w) (one w)
    (longer (site + sites_of first) left second v u w p) (longer site left first v u w p))
    (λ v' u' w' e e' p'. longer (site + sites_of first + sites_of second) left b v' u' w' p')
longer site left (RepeatThen times body b) v u w p =
    let pass = λ (k : ℕ). trace_of site (left ++ k ∷ []) body in
    let go = trace_of (site + sites_of body) left b in
    longer_then (rounds times pass v u) (rounds times pass v w) go go
    (longer_rounds times pass (λ k v' u' w' p'. longer site (left ++ k ∷ []) body v' u' w' p') v u w p)
    (λ v' u' w' e e' p'. longer (site + sites_of body) left b v' u' w' p')
longer site left (GetThen x c b) v u w p =
    longer_get (point_at site left) c v _ _ (history_of u c) (history_of w c) (followed _ _ (p.at c))
    (λ item l l' rest here there more. longer (site + 1) left b (set v x item) (set u c l) (set w c l')
    (prefixes_set u w c item item l rest l' p here there more))

-- whole passes
pub longer_passes : (n m site : ℕ) (b : Block) (v : List ℤ) (u w : List (List ℤ)) → IsTrue (is_passing b) → total u ≤ n
    → total w ≤ m → ArePrefixes u w → IsLonger (passes (suc n) site b v u) (passes (suc m) site b v w)
longer_passes zero m site b v u w passing h h' p =
    longer_then (trace_of site [] b v u) (trace_of site [] b v w) (passes zero site b) (passes m site b)
    (longer site [] b v u w p)
    (λ v' u' w' e e' p'. let fewer = fewer_left site [] b v u v' u' passing e in absurd (omega arith))
longer_passes (suc n) zero site b v u w passing h h' p =
    longer_then (trace_of site [] b v u) (trace_of site [] b v w) (passes (suc n) site b) (passes zero site b)
    (longer site [] b v u w p)
    (λ v' u' w' e e' p'. let fewer = fewer_left site [] b v w v' w' passing e' in absurd (omega arith))
longer_passes (suc n) (suc m) site b v u w passing h h' p =
    longer_then (trace_of site [] b v u) (trace_of site [] b v w) (passes (suc n) site b) (passes (suc m) site b)
    (longer site [] b v u w p)
    (λ v' u' w' e e' p'. let fewer = fewer_left site [] b v u v' u' passing e in let fewer' =
    fewer_left site [] b v w v' w' passing e' in
    longer_passes n m site b v' u' w' passing (omega arith) (omega arith) p')

-- the loop
pub longer_loop : (site : ℕ) (body : Option Block) (v : List ℤ) (u w : List (List ℤ))
    → ((b : Block) → body ≡ Some b → IsTrue (is_passing b)) → ArePrefixes u w
    → IsLonger (loop_trace site body v u) (loop_trace site body v w)
longer_loop site None v u w passing p = longer 0 [] Nothing v u w p
longer_loop site (Some b) v u w passing p =
    longer_passes (total u) (total w) site b v u w (passing b refl) (omega arith) (omega arith) p

-- a process
pub longer_process : (code : Code) (small big : List (List ℤ)) → HasPassingLoop code → ArePrefixes small big
    → IsLonger (process_trace code small) (process_trace code big)
longer_process code small big passing p =
    longer_then (trace_of 0 [] code.prelude code.vars small) (trace_of 0 [] code.prelude code.vars big)
    (loop_trace (sites_of code.prelude) code.body) (loop_trace (sites_of code.prelude) code.body)
    (longer 0 [] code.prelude code.vars small big p)
    (λ v u w e e' p'. longer_loop (sites_of code.prelude) code.body v u w passing p')

-- more unread gives the same, and then more
pub monotone : (code : Code) (small big : List (List ℤ)) (channel : ℕ) → HasPassingLoop code → ArePrefixes small big
    → IsPrefix (output_of code small channel) (output_of code big channel)
monotone code small big channel passing p =
    let l = longer_process code small big passing p in
    prefix_of (record {
      rest = sent_on channel l.more;
      is = rw l.steps (sent_on-append channel (process_trace code small).steps l.more);
    })

-- where a process stands on fewer items, before steps that it still has to make, it stands on more
pub still_stands : (t long : Trace) (l : IsLonger t long) (rest : List Step)
    → standing_at (rest ++ l.more) long.end ≡ standing_at rest t.end
still_stands t long l (x ∷ rest) = refl
still_stands t long l [] = at t.end refl
  where
    at : (e : End) → t.end ≡ e → standing_at l.more long.end ≡ standing_at [] t.end
    at (Waits s v c) is = rw is (l.stands s v (rw is refl))
    at (Ended v u) is = let e = l.ends v u is in rw (e.0, e.1.1, is) refl
    at (Stopped v) is = let e = l.stops v is in rw (e.0, e.1, is) refl

-- where a process stands after m acts doesn't depend on what comes later on its inputs
pub stands_on : (code : Code) (small big : List (List ℤ)) (m : ℕ) (standing : Standing) → HasPassingLoop code
    → ArePrefixes small big → StandsAt code small m standing → StandsAt code big m standing
stands_on code small big m standing passing p s =
    let t = process_trace code small in
    let long = process_trace code big in
    let l = longer_process code small big passing p in
    let n = length-append t.steps l.more in
    let few = s.within in
    let same : standing_at (drop m t.steps) t.end ≡ standing_at (drop m long.steps) long.end =
    rw (l.steps, drop-append-le m t.steps l.more few) (sym (still_stands t long l (drop m t.steps))) in
    record {
      within = omega (arith, ap (length {A = Step}) l.steps);
      here = (elim standing as (λ x. IsHere code t m x → IsHere code long m x) [
        | NotBegun vars ↦ λ h. h
        | At point vars ↦ λ h. h ∙ same
        | Done vars ↦ λ h. h ∙ same
      ]) s.here;
    }
