-- A node that begins a checkpoint makes a step of the abstract machine, and may ask what it asks.
use Rattle.std.proofs.Common.{◌≡◌, ℕ, suc, ◌+◌, ◌<◌, ◌&&◌, true, List, [], ◌∷◌, ◌++◌, length, Option, Some, None}
use Rattle.std.proofs.Common.{option_map, refl, sym, ap, ◌∙◌, arith}
use Rattle.std.specs.Prelude.{nat_lt, slice_get, slice_set}
use Rattle.std.specs.List.{AllByRecursion}
use Rattle.datagram.specs.declared.packet.Packet.{Packet as Datagram}
use Rattle.protocol.specs.Node.Common.{Network, IsValid, highest_seen, RecordView, MAX_DECISIONS, live_in, live_asks}
use Rattle.protocol.specs.Node.Common.{may_start, beginning, begun, in_front, QuestionView, LiveView, is_none}
use Rattle.protocol.specs.Node.Common.{is_running, ModeView, Down, InDoubt, Runs, running_in, on_mode, own_at}
use Rattle.recovery_line.proofs.Basics.{some_not_none, false_true}
use Rattle.recovery_line.proofs.Observing.{taking_moves}
use Rattle.recovery_line.proofs.Theorems.{is_consistent}
use Rattle.protocol.specs.World.Common.{Answer, Awaited, By_took, By_covered, Mode, live_of, NodeStep, image_seen}
use Rattle.protocol.specs.World.Common.{record_seen, Packet, Record, World, Reachable, Leads, questions_seen}
use Rattle.protocol.specs.World.Common.{live_seen, mode_seen, all_seen, world_seen, net_seen, outlets_seen}
use Rattle.protocol.specs.World.Common.{StationView, moved_to}
use Rattle.recovery_line.specs.Nodes.{Live, Start}
use Rattle.recovery_line.specs.Observers.{tentative_seen}
use Rattle.recovery_line.specs.Worlds.{IsLive, MaySend}
use Rattle.protocol.specs.Node.Beginning.{live_begun, if_awaited, ask_on, open_question, open_questions}
use Rattle.protocol_laws.specs.Join.Crossings.{both_true}
use Rattle.protocol_laws.specs.Join.Leading.{leads_by, leads_then, acts, outlets_same, record_at, mode_at, set_there}
use Rattle.protocol_laws.specs.Join.NeedLaws.{asks_needs}
use Rattle.protocol_laws.specs.Join.Sent.{MaySendAll, sends}
use Rattle.protocol.specs.declared.round_turns.RoundTurns.{RoundTurns}

pub live_there : (mode : ModeView) (live : LiveView) → live_in mode ≡ Some live
    → live_of (mode_seen mode) ≡ Some (live_seen live)
live_there Down live is = absurd (cc)
live_there InDoubt live is = absurd (cc)
live_there (Runs running) live is = ap (option_map live_seen) is

is_nothing : {A : Type 0} (o : Option A) → is_none o ≡ true → o ≡ None
is_nothing None is = refl
is_nothing (Some x) is = absurd (cc)

starts : (net : Network) (k version : ℕ) (kept : RecordView) (mode : ModeView) (left : ℕ → ℕ) → IsValid net
    → is_running mode ≡ true → kept.tentative ≡ None → live_of (mode_seen mode) ≡ None → k < length kept.highest
    → NodeStep (net_seen net) k (record { disk = record_seen kept; mode = mode_seen mode; outlets = left })
    (record {
      disk = record_seen (own_at k kept (running_in kept version mode));
      mode = mode_seen (on_mode (beginning net k kept) mode);
      outlets = left;
    })
starts net k version kept Down left valid runs free idle listed = absurd (cc)
starts net k version kept InDoubt left valid runs free idle listed = absurd (cc)
starts net k version kept (Runs running) left valid runs free idle listed =
    Start (image_seen running.current) (live_seen (live_begun net k kept running.current)) (record {
      was = ap (λ (live : Option Live). Mode.Running (image_seen running.current) live) idle;
      number = refl;
      takes = taking_moves kept k (highest_seen k kept + 1) running.current free listed (omega arith);
      asks = asks_needs net k valid kept.permanent running.current;
      nobody = λ p. false_true;
      now = refl;
      outlets = refl;
    })

-- ---- what is asked

module _ (net : Network) (home : ℕ) (w : World) (live : LiveView) (is : IsLive w home (live_seen live)) where
  open_may : (c : ℕ) (question : QuestionView) (others : List Datagram)
      → questions_seen live.questions c ≡ Some (question.count, question.answer)
      → MaySendAll (net_seen net) w others
      → AllByRecursion (MaySend (net_seen net) w)
      (all_seen (in_front (open_question net home live.number c (Some question)) others))
  open_may c question others asked rest = by question.answer refl
    where
      by : (answer : Answer) → question.answer ≡ answer
          → AllByRecursion (MaySend (net_seen net) w)
          (all_seen (in_front (if_awaited answer (ask_on net home live.number c question.count)) others))
      by Awaited e = (
        record {
          live = live_seen live;
          is = is;
          number = refl;
          asked = asked ∙ ap (λ (a : Answer). Some (question.count, a)) e;
        },
        rest,
      )
      by By_took e = rest
      by By_covered e = rest

  -- of the questions from a channel on, as they stand among all of them
  questions_may : (c : ℕ) (questions : List (Option QuestionView))
      → ((j : ℕ) → questions_seen questions j ≡ questions_seen live.questions (c + j))
      → MaySendAll (net_seen net) w (open_questions net home live.number c questions)
  questions_may c [] same = tt
  questions_may c (None ∷ questions) same = questions_may (suc c) questions
      (λ j. same (suc j) ∙ ap (questions_seen live.questions) (let e : c + suc j ≡ suc c + j = omega arith in e))
  questions_may c (Some question ∷ questions) same =
      open_may c question (open_questions net home live.number (suc c) questions)
      (ap (questions_seen live.questions) (let e : c ≡ c + 0 = omega arith in e) ∙ sym (same 0))
      (questions_may (suc c) questions
      (λ j. same (suc j) ∙ ap (questions_seen live.questions) (let e : c + suc j ≡ suc c + j = omega arith in e)))

  pub asks_may : MaySendAll (net_seen net) w (live_asks net home (Some live))
  asks_may = questions_may 0 live.questions
      (λ j. ap (questions_seen live.questions) (let e : j ≡ 0 + j = omega arith in e))

-- ---- one station of several

module _ (net : Network) (valid : IsValid net) (stations : List StationView) (k : ℕ) (old : StationView)
    (there : slice_get stations k ≡ Some old) (sent : List Packet)
    (reached : Reachable (net_seen net) (world_seen stations sent)) (may : may_start old.node ≡ true)
    (listed : k < length old.node.kept.highest) where
  runs : is_running old.node.mode ≡ true
  runs = (both_true (is_running old.node.mode)
      (is_none old.node.kept.tentative && nat_lt (length old.node.kept.decisions) MAX_DECISIONS) may).0

  free : old.node.kept.tentative ≡ None
  free = is_nothing old.node.kept.tentative
      (both_true (is_none old.node.kept.tentative) (nat_lt (length old.node.kept.decisions) MAX_DECISIONS)
      (both_true (is_running old.node.mode)
      (is_none old.node.kept.tentative && nat_lt (length old.node.kept.decisions) MAX_DECISIONS) may).1).0

  -- nothing is live where no image is held
  idle : live_of (mode_seen old.node.mode) ≡ None
  idle = by (live_of (mode_seen old.node.mode)) refl
    where
      by : (o : Option Live) → live_of (mode_seen old.node.mode) ≡ o → live_of (mode_seen old.node.mode) ≡ None
      by None is = is
      by (Some live) is =
          let agreed = (is_consistent (net_seen net) (world_seen stations sent) reached).agreed in
          let holds = (agreed.live k live (ap live_of (mode_at stations k old there) ∙ is)).1.held in
          absurd (some_not_none (ap tentative_seen free)
          (sym (ap (λ (r : Record). r.tentative) (record_at stations k old there)) ∙ holds))

  asks_sent : (later : List StationView) → live_of ((world_seen later sent).modes k)
      ≡ live_of (mode_seen (begun net k old.node).mode)
      → MaySendAll (net_seen net) (world_seen later sent) (live_asks net k (live_in (begun net k old.node).mode))
  asks_sent later same = by (live_in (begun net k old.node).mode) refl
    where
      by : (o : Option LiveView) → live_in (begun net k old.node).mode ≡ o
          → MaySendAll (net_seen net) (world_seen later sent) (live_asks net k o)
      by None is = tt
      by (Some live) is = asks_may net k (world_seen later sent) live
          (same ∙ live_there (begun net k old.node).mode live is)

  pub begin_leads : (failures : ℕ) (turns : RoundTurns)
      → Leads (net_seen net) (world_seen stations sent)
      (world_seen (slice_set stations k (moved_to (begun net k old.node) failures turns old))
      (all_seen (live_asks net k (live_in (begun net k old.node).mode)) ++ sent))
  begin_leads failures turns =
      let new = moved_to (begun net k old.node) failures turns old in
      let later = slice_set stations k new in
      leads_then (net_seen net) (world_seen stations sent) (world_seen later sent) _
      (leads_by (net_seen net) (world_seen stations sent) (world_seen later sent)
      (acts stations k old new there (net_seen net) sent (outlets_same stations k old new there refl)
      (starts net k old.node.version old.node.kept old.node.mode (outlets_seen stations) valid runs free idle listed)))
      (sends (net_seen net) later (live_asks net k (live_in (begun net k old.node).mode)) sent
      (asks_sent later (ap live_of (mode_at later k new (set_there stations k old new there))))) refl
