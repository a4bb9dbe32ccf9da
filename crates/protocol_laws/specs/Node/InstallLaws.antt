-- Laws of a turn taken in: the node has come further by the turn's acts, and what the turn took and put fits.
use Rattle.std.proofs.Common.{◌≡◌, ◌≢◌, ◌⊎◌, inl, inr, ℕ, zero, suc, ◌+◌, ◌<◌, ◌≤◌, true, eqb, cond, ℤ, List, [], ◌∷◌}
use Rattle.std.proofs.Common.{◌++◌, length, take, drop, map, Some, refl, sym, ap, ◌∙◌, append-nil, append_assoc, arith}
use Rattle.std.specs.Prelude.{slice_get, IsTrue}
use Rattle.std.proofs.lemmas.Bool.{eq-eqb, ne_eqb}
use Rattle.std.proofs.lemmas.Bool.Decides.{eqb_tells}
use Rattle.std.proofs.lemmas.List.{take-append-drop, length-append, length-take-le, take_at, drop-append-le}
use Rattle.std.proofs.lemmas.Option.{slice_get_cases}
use Rattle.protocol.specs.Node.Common.{history_of, Code, Network, Step, Standing, StandsAt, process_trace, sent_on}
use Rattle.protocol.specs.Node.Common.{got_on, approximation, Channel, Process, LogState, IsLogOf, SavedProcessView}
use Rattle.protocol.specs.Node.Common.{ImageView, JobView, RunningNode, received_at, log_at, items_from, log_with}
use Rattle.protocol.specs.Node.Common.{trimmed_log, taken_from, put_on, saved_pushed, saved_counted, moved, installed}
use Rattle.protocol.specs.Node.Common.{has_process, acts_of, ImageStands, HasReached, is_counting, IsLaidOut, IsJobOf}
use Rattle.protocol.specs.Node.Common.{End, Receives, Sends, Both}
use Rattle.kahn_net.specs.Laws.Got.{got_on-append}
use Rattle.kahn_net.specs.Laws.Prefixes.{prefix_trans}
use Rattle.kahn_net.specs.Laws.Puts.{sent_on-append}
use Rattle.proc_step.specs.Turns.{Turn, IsTurn}
use Rattle.ckpt_codec.specs.Common.{pushed, counted}
use Rattle.protocol.specs.Node.Installing.{with_turn}
use Rattle.protocol.specs.Node.Reached.{EndStands, IsTurnOf, HasComeOn}
use Rattle.protocol_laws.specs.Node.ImageLaws.{find_within, map_got}
use Rattle.protocol_laws.specs.Node.NumberedLaws.{StandOnce, where_mark, where_once}
use Rattle.protocol_laws.specs.Node.LiftLaws.{IsAtHand}
use Rattle.protocol_laws.specs.Node.LogLaws.{trimmed_is_log_of}
use Rattle.protocol.specs.declared.links.Inbox.{Inbox}

-- Lists

-- what comes behind a front of this length
pub take_and_more : (steps : List Step) (m : ℕ) (acts later : List Step) → m ≤ length steps
    → drop m steps ≡ acts ++ later → take (m + length acts) steps ≡ take m steps ++ acts
take_and_more steps m acts later few split =
    let front : length (take m steps) ≡ m = length-take-le m steps few in
    let both : length (take m steps ++ acts) ≡ m + length acts = simp length-append (omega arith) in
    let whole : (take m steps ++ acts) ++ later ≡ steps = rw (append_assoc, ← split, take-append-drop) refl in
    ap (take (m + length acts)) (sym whole) ∙ take_at (take m steps ++ acts) later (m + length acts) both

-- a log with more items behind is of the history with them behind
pub log_with_more : (log : LogState) (history items : List ℤ) → IsLogOf log history
    → IsLogOf (log_with items log) (history ++ items)
log_with_more log history items is =
    let within : log.base ≤ length history = omega (arith, is.count) in
    record {
      count = simp length-append (omega (arith, is.count));
      items = rw (drop-append-le log.base history items within, is.items) refl;
    }

-- Which process moved

pub moved_cases : (process : ℕ) (standing : Standing) (xs : List SavedProcessView) (k : ℕ) (saved : SavedProcessView)
    → StandOnce (λ (s : SavedProcessView). s.number) xs → slice_get (moved process standing xs) k ≡ Some saved
    → ((saved.number ≡ process) × (saved.standing ≡ standing))
    ⊎ ((saved.number ≢ process) × (slice_get xs k ≡ Some saved))
moved_cases process standing [] k saved once is = absurd cc
moved_cases process standing (y ∷ xs) zero saved once is = grind arith
moved_cases process standing (y ∷ xs) (suc k) saved once is =
    let behind = moved_cases process standing xs k saved
    (λ i j x z one other same. omega (arith, once (suc i) (suc j) x z one other same)) in
    let first : slice_get xs k ≡ Some saved → y.number ≢ saved.number =
    (λ there same. omega (arith, once 0 (suc k) y saved refl there same)) in
    grind (arith, behind, first)

-- What a turn did

-- the acts that a process made by the turn of this one
abbrev pub more_of : ℕ → List Step → ℕ → List Step
more_of process acts q = cond (eqb q process) acts []

-- how many acts each process has made then
abbrev pub made_then : ℕ → List Step → (ℕ → ℕ) → ℕ → ℕ
made_then process acts made q = cond (eqb q process) (made q + length acts) (made q)

-- the process of a job of an image that stands there
job_stands : (net : Network) (inputs : List (List ℤ)) (n : ℕ) (made : ℕ → ℕ) (image : ImageView) (inboxes : List Inbox)
    (job : JobView) (code : Code)
    → ImageStands net (approximation net inputs n) made image → IsJobOf net inputs image inboxes job
    → slice_get net.codes job.process ≡ Some code
    → StandsAt code (approximation net inputs n) (made job.process) job.standing
job_stands net inputs n made image inboxes job code stands of there =
    let found = find_within (λ (saved : SavedProcessView). eqb saved.number job.process) image.processes _ of.process in
    stands.processes found.0 _ code found.1 there

-- and the turn on it
pub turn_of_job : (net : Network) (inputs : List (List ℤ)) (n : ℕ) (made : ℕ → ℕ) (image : ImageView)
    (inboxes : List Inbox) (job : JobView) (code : Code) (after : Standing) (taken : List ℕ) (sent : List (List ℤ))
    → ImageStands net (approximation net inputs n) made image
    → IsAtHand net inputs (approximation net inputs n) made image inboxes job.process
    → IsJobOf net inputs image inboxes job → slice_get net.codes job.process ≡ Some code
    → IsTurn code job.standing job.items job.room after taken sent
    → Turn code (approximation net inputs n) (made job.process) job.items job.room after taken sent
turn_of_job net inputs n made image inboxes job code after taken sent stands hand of there turn =
    let next = rw there at hand in
    turn (approximation net inputs n) (made job.process)
    (job_stands net inputs n made image inboxes job code stands of there)
    (λ c. prefix_trans (history_of job.items c)
    (history_of (items_from inputs image inboxes job.process 0 net.channels) c) _ (of.items c) (next c))

-- each process has made its acts of before, and those of the turn
acts_then : (net : Network) (histories : List (List ℤ)) (made : ℕ → ℕ) (process : ℕ) (code : Code)
    (acts later : List Step) (q : ℕ) → slice_get net.codes process ≡ Some code
    → made process ≤ length (process_trace code histories).steps
    → drop (made process) (process_trace code histories).steps ≡ acts ++ later
    → acts_of net histories (made_then process acts made) q ≡ acts_of net histories made q ++ more_of process acts q
acts_then net histories made process code acts later q there few split =
    let more = take_and_more (process_trace code histories).steps (made process) acts later few split in
    elim (eqb_tells q process) [
      | inl same ↦ rw (same.0, same.1, there) more
      | inr other ↦ rw (other.0, append-nil) refl
    ]

-- an end that counts counts what is taken
pub received_then : (end : End) (items : List ℤ) (count : ℕ) → is_counting end ≡ true
    → received_at (Some (counted count (pushed items end))) ≡ received_at (Some end) + count
received_then end items count h = grind arith

-- and its log has what is put, but for what it let go of
pub log_then : (end : End) (items : List ℤ) (count : ℕ) (log : LogState)
    → log_at (Some (counted count (pushed items end))) ≡ Some log
    → (before : LogState) × (position : ℕ) × (log_at (Some end) ≡ Some before)
    × ((log_with items before ≡ log) ⊎ (trimmed_log position (log_with items before) ≡ log))
log_then (Receives received) items count log h = absurd (cc)
log_then (Sends before) items count log h = (before, 0, refl, inl (cc))
log_then (Both received before) items count log h = (before, received + count, refl, inr (cc))

-- an end counts as before
pub still_counting : (end : End) (items : List ℤ) (count : ℕ)
    → is_counting (counted count (pushed items end)) ≡ is_counting end
still_counting end items count = grind arith

-- An end stands after more acts too. They are what put and took what it says then.
end_then : (net : Network) (histories : List (List ℤ)) (made later : ℕ → ℕ) (more : ℕ → List Step) (c : ℕ)
    (channel : Channel) (end : End) (put : List ℤ) (count : ℕ)
    → EndStands net histories made c channel end
    → ((q : ℕ) → acts_of net histories later q ≡ acts_of net histories made q ++ more q)
    → ((q : ℕ) → channel.consumer ≡ Process q → count ≡ length (got_on c (more q)))
    → ((q : ℕ) → channel.producer ≡ Process q → put ≡ sent_on c (more q))
    → EndStands net histories later c channel (counted count (pushed put end))
end_then net histories made later more c channel end put count before all takes puts = record {
  received = λ q to counting. (
      let counts = rw (still_counting end put count) at counting in
      rw (received_then end put count counts, all q, got_on-append, length-append, before.received q to counts, takes q to)
      refl);
  retained = λ q log from is. (
      let old = log_then end put count log is in
      let now = log_with_more old.0 _ put (before.retained q old.0 from old.2) in
      rw (all q, sent_on-append, ← (puts q from)) (grind (arith, old.3, now, trimmed_is_log_of old.1 (log_with put old.0) _ now)));
}

-- an image after a turn stands where the process has made the turn's acts too
pub image_installed : (net : Network) (home : ℕ) (histories : List (List ℤ)) (made : ℕ → ℕ) (image : ImageView)
    (process : ℕ) (code : Code) (items : List (List ℤ)) (room : List ℕ) (after : Standing) (taken : List ℕ)
    (sent : List (List ℤ))
    → ImageStands net histories made image → IsLaidOut net home image → slice_get net.codes process ≡ Some code
    → made process ≤ length (process_trace code histories).steps
    → (turn : Turn code histories (made process) items room after taken sent)
    → ImageStands net histories (made_then process turn.acts made)
    (installed net.channels process after taken sent image)
image_installed net home histories made image process code items room after taken sent stands laid there few turn =
    record {
      processes = λ k saved code' is there'. elim (moved_cases process after image.processes k saved
          (where_once (λ (s : SavedProcessView). s.number) (has_process net home) 0 (length net.codes) image.processes
          laid.processes) is) [
            | inl same ↦ let one : code ≡ code' = cc in
                rw (same.0, same.1, eq-eqb process process refl, ← one) turn.stands
            | inr other ↦ rw (ne_eqb saved.number process other.0) (stands.processes k saved code' other.1 there')
          ];
      ends = λ k saved channel is on. (
          let mid =
          map_got (saved_counted net.channels process taken)
          (map (saved_pushed net.channels process sent) image.ends) k saved is in
          let old = map_got (saved_pushed net.channels process sent) image.ends k mid.0 mid.1 in
          let same : saved_counted net.channels process taken (saved_pushed net.channels process sent old.0) ≡ saved =
          ap (saved_counted net.channels process taken) old.2 ∙ mid.2 in
          let number : old.0.channel ≡ saved.channel = cc (same) in
          let on' : slice_get net.channels old.0.channel ≡ Some channel = rw number on in
          rw (← same)
          (end_then net histories made (made_then process turn.acts made) (more_of process turn.acts) old.0.channel channel
          old.0.end (put_on net.channels process sent old.0.channel) (taken_from net.channels process taken old.0.channel)
          (stands.ends k old.0 channel old.1 on')
          (λ q. acts_then net histories made process code turn.acts turn.later q there few turn.split)
          (λ q to. rw (on', to) (grind (arith, turn.taken_is old.0.channel)))
          (λ q from. rw (on', from) (grind (arith, turn.sent_is old.0.channel)))));
    }

-- the process of the job that is out is one of the node's, and of the network
job_marks : (net : Network) (home : ℕ) (inputs : List (List ℤ)) (image : ImageView) (inboxes : List Inbox)
    (job : JobView) → IsLaidOut net home image → IsJobOf net inputs image inboxes job
    → IsTrue (has_process net home job.process) × (0 ≤ job.process) × (job.process < 0 + length net.codes)
job_marks net home inputs image inboxes job laid of =
    let found = find_within (λ (saved : SavedProcessView). eqb saved.number job.process) image.processes _ of.process in
    where_mark (λ (s : SavedProcessView). s.number) (has_process net home) 0 (length net.codes) image.processes found.0
    _ laid.processes found.1

pub job_here : (net : Network) (home : ℕ) (inputs : List (List ℤ)) (image : ImageView) (inboxes : List Inbox)
    (job : JobView) → IsLaidOut net home image → IsJobOf net inputs image inboxes job
    → IsTrue (has_process net home job.process)
job_here net home inputs image inboxes job laid of = (job_marks net home inputs image inboxes job laid of).0

pub job_has_code : (net : Network) (home : ℕ) (inputs : List (List ℤ)) (image : ImageView) (inboxes : List Inbox)
    (job : JobView) → IsLaidOut net home image → IsJobOf net inputs image inboxes job
    → (code : Code) × (slice_get net.codes job.process ≡ Some code)
job_has_code net home inputs image inboxes job laid of =
    let mark = job_marks net home inputs image inboxes job laid of in
    grind (arith, slice_get_cases net.codes job.process, mark)

-- a node has come further by the turn on the job that was out
pub reached_install : (net : Network) (home : ℕ) (inputs : List (List ℤ)) (node : RunningNode) (job : JobView)
    (after : Standing) (taken : List ℕ) (sent : List (List ℤ))
    → (reached : HasReached net inputs node) → IsLaidOut net home node.current
    → IsAtHand net inputs (approximation net inputs reached.n) reached.current_acts node.current node.inboxes
    job.process → IsJobOf net inputs node.current node.inboxes job → IsTurnOf net job after taken sent
    → HasReached net inputs (with_turn net.channels job.process after taken sent node)
reached_install net home inputs node job after taken sent reached laid hand of turn =
    let code = job_has_code net home inputs node.current node.inboxes job laid of in
    let before =
    job_stands net inputs reached.n reached.current_acts node.current node.inboxes job code.0 reached.current of code.1 in
    let done =
    turn_of_job net inputs reached.n reached.current_acts node.current node.inboxes job code.0 after taken sent
    reached.current hand of code.1 (turn code.0 code.1) in
    record {
      n = reached.n;
      permanent_acts = reached.permanent_acts;
      held_acts = reached.held_acts;
      current_acts = made_then job.process done.acts reached.current_acts;
      permanent = reached.permanent;
      held = reached.held;
      current =
          image_installed net home (approximation net inputs reached.n) reached.current_acts node.current job.process
          code.0 job.items job.room after taken sent reached.current laid code.1 before.within done;
      held_after = reached.held_after;
      current_after =
          λ q. grind (arith, reached.current_after q);
    }

pub on_install : (net : Network) (home : ℕ) (inputs : List (List ℤ)) (node : RunningNode) (job : JobView)
    (after : Standing) (taken : List ℕ) (sent : List (List ℤ))
    → (reached : HasReached net inputs node) (laid : IsLaidOut net home node.current)
    (hand : IsAtHand net inputs (approximation net inputs reached.n) reached.current_acts node.current node.inboxes
    job.process)
    → (of : IsJobOf net inputs node.current node.inboxes job) (turn : IsTurnOf net job after taken sent)
    → HasComeOn net inputs node (with_turn net.channels job.process after taken sent node) reached
    (reached_install net home inputs node job after taken sent reached laid hand of turn)
unfolding reached_install
on_install net home inputs node job after taken sent reached laid hand of turn =
    let code = job_has_code net home inputs node.current node.inboxes job laid of in
    let done =
    turn_of_job net inputs reached.n reached.current_acts node.current node.inboxes job code.0 after taken sent
    reached.current hand of code.1 (turn code.0 code.1) in
    record { same = refl; further = λ q. grind arith }
