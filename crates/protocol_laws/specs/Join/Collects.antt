-- What the node that began a checkpoint hears of it is steps of the abstract machine.
use Rattle.std.proofs.Common.{◌≡◌, inl, inr, ℕ, suc, ◌<◌, ◌≤◌, Bool, true, false, cond, List, [], ◌∷◌, ◌++◌}
use Rattle.std.proofs.Common.{length, Option, Some, None, option_map, refl, sym, ap, ◌∙◌, arith}
use Rattle.std.specs.Prelude.{◌==◌, slice_get, slice_set}
use Rattle.std.specs.List.{AllByRecursion, list_all}
use Rattle.std.proofs.lemmas.Bool.{eqb-true, eq-eqb, ne_eqb}
use Rattle.protocol.specs.Node.Common.{Need, Network, sent_of, without_tentative, RecordView, collecting, was_asked}
use Rattle.protocol.specs.Node.Common.{with_answer, hearing_covered, with_needs, joined_live, in_front, producer_node}
use Rattle.protocol.specs.Node.Common.{QuestionView, LiveView, ModeView, Down, InDoubt, Runs, RunningView, on_mode}
use Rattle.protocol.specs.Node.Common.{on_running}
use Rattle.datagram.specs.declared.packet.Packet.{Packet as Datagram}
use Rattle.record.specs.declared.record.Tentative.{Tentative as HeldImage}
use Rattle.recovery_line.proofs.Basics.{one_inside, same_or_other}
use Rattle.recovery_line.proofs.Observing.{dropping_moves}
use Rattle.protocol.specs.World.Common.{IsCross, Answer, Awaited, By_took, By_covered, NodeStep, live_of}
use Rattle.protocol.specs.World.Common.{image_seen, record_seen, Packet, World, Leads, WasSent, need_of}
use Rattle.protocol.specs.World.Common.{question_seen, questions_seen, live_seen, mode_seen, all_seen}
use Rattle.protocol.specs.World.Common.{world_seen, net_seen, outlets_seen, StationView, moved_to}
use Rattle.recovery_line.specs.Moves.{Drops}
use Rattle.recovery_line.specs.Nodes.{Give_up, Node}
use Rattle.recovery_line.specs.Packets.{Covered, Took, HearsCovered, HearsTook}
use Rattle.recovery_line.specs.Worlds.{IsLive, MaySend}
use Rattle.protocol.specs.Node.Beginning.{ask_on}
use Rattle.protocol.specs.Node.Collecting.{is_open_at, awaits, with_covered, needs_no_question, new_question, with_need}
use Rattle.protocol.specs.Node.Collecting.{new_ask, new_asks, is_met, are_met, given_up}
use Rattle.protocol_laws.specs.Join.Crossings.{both_true, cross_within, producer_is}
use Rattle.protocol_laws.specs.Join.Holding.{at_most, IsHeld, held_seen, named_so}
use Rattle.protocol_laws.specs.Join.Leading.{leads_here, leads_by, leads_then, acts, hears, outlets_same, mode_at}
use Rattle.protocol_laws.specs.Join.Leading.{set_there, unseen}
use Rattle.protocol_laws.specs.Join.Questions.{question_at, open_at, asked_within, set_question, answer_here}
use Rattle.protocol_laws.specs.Join.Questions.{answer_elsewhere, answer_length, need_length, needs_length, needs_stay}
use Rattle.protocol_laws.specs.Join.Questions.{needs_new, needs_met}
use Rattle.protocol_laws.specs.Join.Sent.{MaySendAll, sends}
use Rattle.protocol_laws.specs.Join.Takers.{has_joined}
use Rattle.protocol.specs.declared.round_turns.RoundTurns.{RoundTurns}

-- ---- as a step of one node

-- a node that runs so, with this record, as it is seen
abbrev runs_so : RecordView → RunningView → (ℕ → ℕ) → Node
runs_so kept running left = record { disk = record_seen kept; mode = mode_seen (Runs running); outlets = left }

hears_covered : (n c : ℕ) (kept : RecordView) (running : RunningView) (left : ℕ → ℕ) (live : LiveView)
    → running.live ≡ Some live → awaits n c (Some live) ≡ true
    → HearsCovered (runs_so kept running left)
    (runs_so kept (collecting (Some (with_covered c live)) running) left) n c
hears_covered n c kept running left live is may =
    let parts = both_true (live.number == n) (is_open_at (slice_get live.questions c)) may in
    let question = open_at live.questions c parts.1 in
    record {
      current = image_seen running.current;
      before = live_seen live;
      later = live_seen (with_covered c live);
      same = record { disk = refl; outlets = refl };
      was = rw is refl;
      now = refl;
      number = eqb-true live.number n parts.0;
      number_same = refl;
      count = question.0.count;
      asked = ap question_seen question.1 ∙ ap (λ (a : Answer). Some (question.0.count, a)) question.2;
      answered = answer_here live.questions c By_covered question.0 question.1;
      others = λ d other. answer_elsewhere live.questions c By_covered d other;
      takes = refl;
      place = refl;
    }

gives_up : (net : Network) (home : ℕ) (kept : RecordView) (running : RunningView) (left : ℕ → ℕ) (live : LiveView)
    → running.live ≡ Some live → IsHeld home live.number kept.tentative
    → NodeStep (net_seen net) home (runs_so kept running left)
    (runs_so (without_tentative kept) (collecting None running) left)
gives_up net home kept running left live is at =
    Give_up (image_seen running.current) (image_seen at.held.image) (live_seen live) (record {
      was = rw is refl;
      drops = named_so home live.number kept.tentative at
          (λ (x n : ℕ). Drops (record_seen kept) (record_seen (without_tentative kept)) x n (image_seen at.held.image))
          (dropping_moves kept at.held at.is);
      now = refl;
      outlets = refl;
    })

-- a need on a channel of the node's own is met by its image
own_met : (net : Network) (home : ℕ) (held : HeldImage) (needs : List Need) (d j : ℕ)
    → list_all (is_met net home held) needs ≡ true → need_of needs d ≡ Some j → producer_node net d ≡ home
    → j ≤ sent_of held.image d
own_met net home held [] d j all is own = absurd (cc)
own_met net home held (need ∷ needs) d j all is own =
    let parts = both_true (is_met net home held need) (list_all (is_met net home held) needs) all in
    elim (same_or_other need.channel d) [
      | inl here ↦ (let found = rw (eq-eqb need.channel d here) at is in
          at_most j (sent_of held.image d)
          (rw (here, eq-eqb (producer_node net d) home own, one_inside refl found) at parts.0))
      | inr apart ↦ own_met net home held needs d j parts.1 (rw (ne_eqb need.channel d apart) at is) own
    ]

module _ (net : Network) (home p c n to : ℕ) (needs : List Need) (cross : IsCross (net_seen net) c p to)
    (kept : RecordView) (running : RunningView) (left : ℕ → ℕ) (live : LiveView) (is : running.live ≡ Some live)
    (number : live.number ≡ n) (asked : was_asked c live.questions ≡ true) (at : IsHeld home n kept.tentative)
    (met : are_met net home needs kept.tentative ≡ true)
    (wide : length live.questions ≡ length net.channels) where
  question : (q : QuestionView) × (slice_get live.questions c ≡ Some (Some q))
  question = question_at live.questions c asked

  -- its questions with the answer
  abbrev answered : List (Option QuestionView)
  answered = with_answer By_took c live.questions

  hears_took : HearsTook (net_seen net) home (runs_so kept running left)
      (runs_so kept (collecting (Some (joined_live net home p c needs live)) running) left) n c (need_of needs)
  hears_took = record {
    from = p;
    to = to;
    cross = cross;
    current = image_seen running.current;
    own = image_seen at.held.image;
    before = live_seen live;
    later = live_seen (joined_live net home p c needs live);
    same = record { disk = refl; outlets = refl };
    was = rw is refl;
    now = refl;
    held = held_seen home n kept.tentative at;
    number = number;
    number_same = refl;
    count = question.0.count;
    answer = question.0.answer;
    asked = ap question_seen question.1;
    answered = needs_stay net home needs answered c (question.0.count, By_took)
        (answer_here live.questions c By_took question.0 question.1);
    asks_kept = λ d j answer other before.
        needs_stay net home needs answered d (j, answer) (answer_elsewhere live.questions c By_took d other ∙ before);
    asks_new = λ d j answer other later.
        let within = asked_within (with_needs net home needs answered) d (j, answer) later in
        let same = needs_length net home needs answered in
        elim (needs_new net home needs answered d j answer (omega (arith, within, same)) later) [
          | inl before ↦ inl (rw (answer_elsewhere live.questions c By_took d other) at before)
          | inr new ↦ inr (new.0, new.1, λ own. new.2 (producer_is net d home own))
        ];
    met = λ d r j from need. elim (same_or_other r home) [
      | inl own ↦ inl (own, own_met net home at.held needs d j (rw at.is at met) need (producer_is net d r from.from ∙ own))
      | inr other ↦ inr (
          let within : d < length net.channels = cross_within net d r p from in
          let same = answer_length live.questions c By_took in
          let found = needs_met net home needs answered d j need
          (λ own. other (sym (producer_is net d r from.from) ∙ own)) (omega (arith, within, wide, same)) in
          (other, found.0.0, found.0.1, found.1))
    ];
    takes = (has_joined p live.takers).takes;
    takes_others = (has_joined p live.takers).others;
    places = (has_joined p live.takers).places;
    last = (has_joined p live.takers).last;
  }

-- ---- the questions that a node makes that took part

module _ (net : Network) (home : ℕ) (w : World) (live : LiveView) (is : IsLive w home (live_seen live)) where
  new_one : (need : Need) (questions : List (Option QuestionView)) (packets : List Datagram)
      → need.channel < length questions
      → (questions_seen (with_need net home need questions) need.channel ≡ Some (need.count, Awaited)
      → questions_seen live.questions need.channel ≡ Some (need.count, Awaited))
      → MaySendAll (net_seen net) w packets
      → AllByRecursion (MaySend (net_seen net) w)
      (all_seen (in_front (new_ask net home live.number need questions) packets))
  new_one need questions packets within lasts rest =
      elim (needs_no_question net home need questions) as (λ b.
      (questions_seen (cond b questions (slice_set questions need.channel (new_question need))) need.channel
      ≡ Some (need.count, Awaited) → questions_seen live.questions need.channel ≡ Some (need.count, Awaited))
      → AllByRecursion (MaySend (net_seen net) w)
      (all_seen (in_front (cond b None (Some (ask_on net home live.number need.channel need.count))) packets))) [
        | true ↦ λ stays. rest
        | false ↦ λ stays. (
            let new = set_question questions need.channel (record { count = need.count; answer = Awaited }) within in
            (record { live = live_seen live; is = is; number = refl; asked = stays new }, rest))
      ] lasts

  pub new_may : (needs : List Need) (questions : List (Option QuestionView))
      → ((i : ℕ) (need : Need) → slice_get needs i ≡ Some need → need.channel < length questions)
      → with_needs net home needs questions ≡ live.questions
      → MaySendAll (net_seen net) w (new_asks net home live.number needs questions)
  new_may [] questions few last = tt
  new_may (need ∷ needs) questions few last =
      new_one need questions (new_asks net home live.number needs (with_need net home need questions)) (few 0 need refl)
      (λ now. rw last at
      (needs_stay net home needs (with_need net home need questions) need.channel (need.count, Awaited) now))
      (new_may needs (with_need net home need questions)
      (λ i other at. (let same = need_length net home need questions in
      let below = few (suc i) other at in omega (arith, same, below))) last)

-- ---- one station of several

module _ (net : Network) (stations : List StationView) (k : ℕ) (old : StationView)
    (there : slice_get stations k ≡ Some old) (sent : List Packet) (failures : ℕ) (turns : RoundTurns) where
  abbrev Now : ModeView → StationView
  Now mode = moved_to (record old.node { mode = mode }) failures turns old

  -- the machine goes from this world to that in which the node's mode is another
  abbrev LeadsTo : ModeView → Type 0
  LeadsTo mode = Leads (net_seen net) (world_seen stations sent) (world_seen (slice_set stations k (Now mode)) sent)

  still : (mode : ModeView) → mode_seen mode ≡ mode_seen old.node.mode → LeadsTo mode
  still mode same =
      leads_here (net_seen net) (world_seen stations sent)
      _ (unseen stations k old (Now mode) there sent refl refl same)

  pub covered_leads : (n c m : ℕ) → WasSent sent (Covered k n c m)
      → Leads (net_seen net) (world_seen stations sent)
      (world_seen (slice_set stations k (moved_to (on_running (hearing_covered n c) old.node) failures turns old)) sent)
  covered_leads n c m came = by old.node.mode refl
    where
      of_live : (running : RunningView) → old.node.mode ≡ Runs running → (o : Option LiveView) → running.live ≡ o
          → (b : Bool) → awaits n c o ≡ b
          → LeadsTo (Runs (collecting (cond b (option_map (with_covered c) o) o) running))
      of_live running is o live_is false none = still (Runs (collecting o running)) (rw (is, live_is) refl)
      of_live running is None live_is true waits = absurd (cc)
      of_live running is (Some live) live_is true waits =
          let new = Now (Runs (collecting (Some (with_covered c live)) running)) in
          leads_by (net_seen net) (world_seen stations sent) _
          (hears stations k old new there (net_seen net) sent (outlets_same stations k old new there refl)
          (Covered k n c m) came (
            refl,
            rw is (hears_covered n c old.node.kept running (outlets_seen stations) live live_is waits),
          ))

      by : (mode : ModeView) → old.node.mode ≡ mode → LeadsTo (on_mode (hearing_covered n c) mode)
      by Down is = still Down (rw is refl)
      by InDoubt is = still InDoubt (rw is refl)
      by (Runs running) is = of_live running is running.live refl (awaits n c running.live) refl

  module _ (running : RunningView) (is : old.node.mode ≡ Runs running) (live : LiveView)
      (live_is : running.live ≡ Some live) where
    pub give_up_leads : IsHeld k live.number old.node.kept.tentative
        → Leads (net_seen net) (world_seen stations sent)
        (world_seen (slice_set stations k (moved_to (given_up old.node) failures turns old)) sent)
    give_up_leads at =
        let new = moved_to (given_up old.node) failures turns old in
        leads_by (net_seen net) (world_seen stations sent) _
        (acts stations k old new there (net_seen net) sent (outlets_same stations k old new there refl)
        (rw is (gives_up net k old.node.kept running (outlets_seen stations) live live_is at)))

    pub joined_leads : (p c n m to : ℕ) (needs : List Need) → IsCross (net_seen net) c p to
        → ((i : ℕ) (need : Need) → slice_get needs i ≡ Some need → need.channel < length net.channels)
        → WasSent sent (Took k n c m (need_of needs)) → length live.questions ≡ length net.channels
        → live.number ≡ n → was_asked c live.questions ≡ true → IsHeld k n old.node.kept.tentative
        → are_met net k needs old.node.kept.tentative ≡ true
        → Leads (net_seen net) (world_seen stations sent)
        (world_seen (slice_set stations k (Now (Runs (collecting (Some (joined_live net k p c needs live)) running))))
        (all_seen (new_asks net k live.number needs (with_answer By_took c live.questions)) ++ sent))
    joined_leads p c n m to needs cross few came wide number asked at met =
        let new = Now (Runs (collecting (Some (joined_live net k p c needs live)) running)) in
        let later = slice_set stations k new in
        leads_then (net_seen net) (world_seen stations sent) (world_seen later sent) _
        (leads_by (net_seen net) (world_seen stations sent) (world_seen later sent)
        (hears stations k old new there (net_seen net) sent (outlets_same stations k old new there refl)
        (Took k n c m (need_of needs)) came (
          refl,
          rw is (hears_took net k p c n to needs cross old.node.kept running (outlets_seen stations) live live_is number
              asked at met wide),
        )))
        (sends (net_seen net) later (new_asks net k live.number needs (with_answer By_took c live.questions)) sent
        (new_may net k (world_seen later sent) (joined_live net k p c needs live)
        (ap live_of (mode_at later k new (set_there stations k old new there))) needs
        (with_answer By_took c live.questions)
        (λ i need there_is. (let below = few i need there_is in
        let same = answer_length live.questions c By_took in omega (arith, below, same, wide))) refl)) refl
