-- From the items at hand to the whole input histories: what was made on the one is the process's own turn on the other.
use Rattle.std.proofs.Common.{◌≡◌, ℕ, zero, suc, ◌+◌, ◌≤◌, List, ℤ, [], ◌∷◌, ◌++◌, length, take, drop, refl, sym, ap}
use Rattle.std.proofs.Common.{◌∙◌, subst, append_assoc, append-nil, arith}
use Rattle.std.proofs.Math.Nat.{zero-add}
use Rattle.std.specs.Prelude.{slice_index}
use Rattle.std.proofs.lemmas.List.{length-append}
use Rattle.std.proofs.Math.Seq.{drop-append_seam}
use Rattle.kahn_net.specs.Common.{history_of, IsPrefix, Code, Got, Sent, Step, Trace, End, Ended, Waits, Stopped}
use Rattle.kahn_net.specs.Common.{Standing, standing_at, HasPassingLoop, process_trace, StandsAt, sent_on, trace_from}
use Rattle.kahn_net.specs.Common.{left_after}
use Rattle.kahn_net.specs.Streams.{ArePrefixes}
use Rattle.kahn_net.specs.Statements.{Act}
use Rattle.kahn_net.specs.Processes.{NotBegun, At, Done, IsHere}
use Rattle.kahn_net.specs.Processes.{got_on}
use Rattle.kahn_net.specs.Laws.Streams.{still_stands}
use Rattle.kahn_net.specs.Laws.Got.{longer_from, next_from, reads, reads_from, reading_first, got_and_left, waits_empty}
use Rattle.kahn_net.specs.Laws.Got.{IsReading, IsGetFrom, GetsNext, NoPutNext, function_of_got}
use Rattle.kahn_net.specs.Laws.Resuming.{resumes}
use Rattle.proc_step.specs.Turns.{IsHeldBack, IsNextHeldBack, HasBegun, AreNext, IsTurn, nothing_sent}
use Rattle.proc_step.specs.Parts.{CanStand, Played, taken_of}
use Rattle.kahn_net.specs.Laws.NextActs.{repeats_fit}
use Rattle.proc_step.proofs.Counts.{taken_is, sent_is}

-- where a process stands before steps, it has begun
not_begun : (vars : List ℤ) (steps : List Step) (end : End) → NotBegun vars ≡ standing_at steps end → ⊥
not_begun vars (s ∷ steps) end e = cc
not_begun vars [] (Ended v u) e = cc
not_begun vars [] (Waits s v c) e = cc
not_begun vars [] (Stopped v) e = cc

here_of : (code : Code) (t : Trace) (m : ℕ) (standing : Standing) → standing ≡ standing_at (drop m t.steps) t.end
    → IsHere code t m standing
here_of code t m (NotBegun vars) e = absurd (not_begun vars (drop m t.steps) t.end e)
here_of code t m (At site vars) e = e
here_of code t m (Done vars) e = e

begun_of : (standing : Standing) (steps : List Step) (end : End) → standing ≡ standing_at steps end → HasBegun standing
begun_of (NotBegun vars) steps end e = absurd (not_begun vars steps end e)
begun_of (At site vars) steps end e = tt
begun_of (Done vars) steps end e = tt

-- the items at hand are a front of what is unread there
at_hand : (code : Code) (inputs items : List (List ℤ)) (m : ℕ)
    → AreNext items inputs (take m (process_trace code inputs).steps)
    → ArePrefixes items (left_after (take m (process_trace code inputs).steps) inputs)
at_hand code inputs items m next = record {
  at = λ c.
      let made = take m (process_trace code inputs).steps in
      let left = history_of (left_after made inputs) c in
      let same : drop (length (got_on c made)) (history_of inputs c) ≡ left =
      ap (drop (length (got_on c made))) (reads code inputs m c) ∙ drop-append_seam (got_on c made) left in
      subst (λ (x : List ℤ). IsPrefix (history_of items c) x) same (next c);
}

-- a get on a channel with nothing left is held back
get_held_back : (c : ℕ) (more : List Step) (room : List ℕ) (left sent : List (List ℤ)) → history_of left c ≡ []
    → GetsNext c more → IsNextHeldBack more room left sent
get_held_back c [] room left sent h g = tt
get_held_back c (s ∷ more) room left sent h g = at s.act g
  where
    at : (a : Act) → IsGetFrom c a → IsHeldBack a room left sent
    at (Got d item) same = ap (history_of left) same ∙ h
    at (Sent d item) same = absurd same

-- the next act of the whole can't be made either
held_back : (code : Code) (before : Standing) (items whole : List (List ℤ)) (passing : HasPassingLoop code)
    (p : ArePrefixes items whole) (room : List ℕ) (sent : List (List ℤ)) (done rest more : List Step)
    → (trace_from code before items).steps ≡ done ++ rest
    → (trace_from code before whole).steps ≡ (trace_from code before items).steps ++ more
    → ((v : List ℤ) (u : List (List ℤ)) → (trace_from code before items).end ≡ Ended v u → more ≡ [])
    → ((v : List ℤ) → (trace_from code before items).end ≡ Stopped v → more ≡ [])
    → IsNextHeldBack rest room (left_after done items) sent
    → IsNextHeldBack (rest ++ more) room (left_after done items) sent
held_back code before items whole passing p room sent done (s ∷ rest) more is long ends stops h = h
held_back code before items whole passing p room sent done [] more is long ends stops h =
    at (trace_from code before items).end refl
  where
    at : (e : End) → (trace_from code before items).end ≡ e → IsNextHeldBack more room (left_after done items) sent
    at (Ended v u) e =
        subst (λ (x : List Step). IsNextHeldBack x room (left_after done items) sent) (sym (ends v u e)) tt
    at (Stopped v) e =
        subst (λ (x : List Step). IsNextHeldBack x room (left_after done items) sent) (sym (stops v e)) tt
    at (Waits site v c) e =
        let all : (trace_from code before items).steps ≡ done = is ∙ append-nil done in
        let empty =
        subst (λ (x : List Step). history_of (left_after x items) c ≡ []) all
        (waits_empty code before items site v c e) in
        get_held_back c more room (left_after done items) sent empty
        (next_from code before items whole passing p site v c e more long)

-- what comes after the steps made
past : (m : ℕ) (done later steps : List Step) → m ≤ length steps → drop m steps ≡ done ++ later
    → drop (m + length done) steps ≡ later
past zero done later steps h is =
    ap (λ (n : ℕ). drop n steps) (zero-add (length done)) ∙ (ap (drop (length done)) is ∙ drop-append_seam done later)
past (suc m) done later [] h is = absurd (omega (arith, h))
past (suc m) done later (s ∷ steps) h is =
    let next : suc m + length done ≡ suc (m + length done) = omega arith in
    ap (λ (n : ℕ). drop n (s ∷ steps)) next ∙ past m done later steps (omega (arith, h)) is

reaches : (m : ℕ) (done later steps : List Step) → m ≤ length steps → drop m steps ≡ done ++ later
    → m + length done ≤ length steps
reaches zero done later steps h is = omega (arith, ap (length {A = Step}) is, length-append done later)
reaches (suc m) done later [] h is = absurd (omega (arith, h))
reaches (suc m) done later (s ∷ steps) h is = let k = reaches m done later steps (omega (arith, h)) is in omega arith

-- what was made on the items at hand is the process's turn
pub lifted : (code : Code) (before : Standing) (items : List (List ℤ)) (room : List ℕ) (after : Standing)
    (left sent : List (List ℤ)) → HasPassingLoop code
    → Played (trace_from code before items) room items (nothing_sent room) after left sent
    → IsTurn code before items room after (taken_of items left) sent
lifted code before items room after left sent passing played inputs m stands next =
    let t = process_trace code inputs in
    let small = trace_from code before items in
    let whole = left_after (take m t.steps) inputs in
    let long = trace_from code before whole in
    let p = at_hand code inputs items m next in
    let l = longer_from code before items whole passing p in
    let r = resumes code inputs m before passing stands in
    let done = played.done in
    let later = played.rest ++ l.more in
    let is : drop m t.steps ≡ done ++ later =
    sym r.steps_are
    ∙ (l.steps ∙ (ap (λ (x : List Step). x ++ l.more) played.whole ∙ append_assoc done played.rest l.more)) in
    let reading : IsReading done items =
    reading_first done played.rest items
    (subst (λ (x : List Step). IsReading x items) played.whole (reads_from code before items).reading) in
    let cut : drop (m + length done) t.steps ≡ later = past m done later t.steps stands.within is in
    let stays : after ≡ standing_at (drop (m + length done) t.steps) t.end =
    played.stands
    ∙ (sym (still_stands small long l played.rest)
    ∙ (r.stands later ∙ ap (λ (x : List Step). standing_at x t.end) (sym cut))) in
    record {
      acts = done;
      later = later;
      split = is;
      made = played.made;
      held_back = subst (λ (x : List (List ℤ)). IsNextHeldBack later room (left_after done items) x) refl
          (held_back code before items whole passing p room sent done played.rest l.more played.whole l.steps
          (λ v u e. (l.ends v u e).0) (λ v e. (l.stops v e).0)
          (subst (λ (x : List (List ℤ)). IsNextHeldBack played.rest room x sent) played.left played.held_back));
      stands =
          record {
            within = reaches m done later t.steps stands.within is;
            here =
                here_of code t (m + length done) after stays;
          };
      begun = begun_of after (drop (m + length done) t.steps) t.end stays;
      taken_is =
          λ c. ap (λ (x : List (List ℤ)). slice_index (taken_of items x) c) played.left
          ∙ taken_is items done (λ d. got_on d done) c (λ d. got_and_left done items d reading);
      sent_is = λ c. ap (λ (x : List (List ℤ)). history_of x c) played.put ∙ sent_is done room items c played.made;
      function = λ no_put got same c.
          ap (sent_on c)
          (sym (function_of_got code inputs got (m + length done) passing
          (reaches m done later t.steps stands.within is) (subst NoPutNext (sym cut) no_put) same));
    }

-- wherever a process stands it can stand
pub can_stand : (code : Code) (inputs : List (List ℤ)) (m : ℕ) (standing : Standing)
    → StandsAt code inputs m standing → CanStand code standing
can_stand code inputs m (NotBegun vars) stands = tt
can_stand code inputs m (At point vars) stands = repeats_fit code inputs m point vars stands
can_stand code inputs m (Done vars) stands = tt

-- the same where nothing is taken and nothing sent yet
pub lifted_at : (code : Code) (before : Standing) (items : List (List ℤ)) (room : List ℕ) (left0 sent0 : List (List ℤ))
    (after : Standing) (left sent : List (List ℤ)) (taken : List ℕ) → HasPassingLoop code
    → left0 ≡ items → sent0 ≡ nothing_sent room
    → Played (trace_from code before left0) room left0 sent0 after left sent → taken ≡ taken_of items left
    → IsTurn code before items room after taken sent
lifted_at code before items room left0 sent0 after left sent taken passing same unsent played counted =
    let p = subst (λ (x : List (List ℤ)). Played (trace_from code before x) room x sent0 after left sent) same played in
    let q = subst (λ (x : List (List ℤ)). Played (trace_from code before items) room items x after left sent) unsent
    p in
    subst (λ (x : List ℕ). IsTurn code before items room after x sent) (sym counted)
    (lifted code before items room after left sent passing q)
