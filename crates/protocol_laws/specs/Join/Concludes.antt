-- A decision of a checkpoint is a step of the abstract machine, and whom it names may be told.
use Rattle.std.proofs.Common.{◌≡◌, inl, ℕ, zero, suc, ◌<◌, true, List, [], ◌∷◌, ◌++◌}
use Rattle.std.proofs.Common.{length, map, Option, Some, None, refl, ap, ◌∙◌, arith}
use Rattle.std.specs.Prelude.{◌≢◌, not, slice_get, slice_set}
use Rattle.std.specs.List.{AllByRecursion}
use Rattle.std.proofs.Math.Path.{fun_ext}
use Rattle.std.proofs.lemmas.List.{length-map}
use Rattle.std.proofs.lemmas.Option.{slice_get_within}
use Rattle.protocol.specs.Node.Common.{Network, DecisionView, RecordView, collecting, live_in, holds}
use Rattle.protocol.specs.Node.Common.{may_decide, participants_of, concluded, commit_to, QuestionView, LiveView}
use Rattle.protocol.specs.Node.Common.{Runs, RunningView, on_mode}
use Rattle.recovery_line.proofs.Basics.{some_not_none}
use Rattle.recovery_line.proofs.Observing.{deciding_moves}
use Rattle.recovery_line.proofs.Theorems.{is_consistent}
use Rattle.protocol.specs.World.Common.{Image, Net, Awaited, Mode, NodeStep, live_of, has_node, image_seen}
use Rattle.protocol.specs.World.Common.{record_seen, decides, Packet, Record, World, Reachable, Leads}
use Rattle.protocol.specs.World.Common.{questions_seen, live_seen, mode_seen, all_seen, world_seen, net_seen}
use Rattle.protocol.specs.World.Common.{records_of, records_seen, outlets_seen, StationView, moved_to}
use Rattle.recovery_line.specs.Moves.{Decides}
use Rattle.recovery_line.specs.Nodes.{Conclude, current_of}
use Rattle.recovery_line.specs.Records.{Holds}
use Rattle.protocol.specs.Node.Collecting.{is_open}
use Rattle.protocol.specs.Node.Verdicts.{all_answered, decision_on, decided_now}
use Rattle.protocol.specs.Node.Verdicts.{commit_packets}
use Rattle.protocol_laws.specs.Join.Crossings.{both_true}
use Rattle.protocol_laws.specs.Join.Holding.{IsHeld, held_where, held_seen}
use Rattle.protocol_laws.specs.Join.Leading.{leads_by, leads_then, acts, outlets_same, record_at, mode_at, set_there}
use Rattle.protocol_laws.specs.Join.NeedLaws.{has_where, has_where_below}
use Rattle.protocol_laws.specs.Join.Sent.{MaySendAll, sends}
use Rattle.protocol.specs.declared.round_turns.RoundTurns.{RoundTurns}

-- ---- answers and decisions

none_open : (questions : List (Option QuestionView)) → all_answered questions ≡ true → (c m : ℕ)
    → questions_seen questions c ≢ Some (m, Awaited)
none_open [] all c m is = cc
none_open (question ∷ questions) all (suc c) m is =
    none_open questions (both_true (not (is_open question)) (all_answered questions) all).1 c m is
none_open (question ∷ questions) all zero m is =
    grind (arith, both_true (not (is_open question)) (all_answered questions) all)

-- where each decided number is below one, so is that of each decision
all_below : (m : ℕ) (decisions : List DecisionView) → ((n : ℕ) → decides decisions n ≡ true → n < m)
    → AllByRecursion (λ (d : DecisionView). d.number < m) decisions
all_below m [] below = tt
all_below m (d ∷ decisions) below = (
  below d.number (grind arith),
  all_below m decisions (λ n decided. below n (grind (arith, decided))),
)

-- those who took part, ascending, are those who took part, where each is one of so many
same_nodes : (nodes : ℕ) (takers : List ℕ) → ((p : ℕ) → has_node p takers ≡ true → p < nodes) → (p : ℕ)
    → has_node p (participants_of nodes takers) ≡ has_node p takers
same_nodes nodes takers few p =
    grind (arith, few p, has_where (λ q. has_node q takers) p 0 nodes, has_where_below (λ q. has_node q takers) p 0 nodes)

-- ---- as a step of one node

module _ (home : ℕ) (kept : RecordView) (live : LiveView) (ready : may_decide home kept (Some live) ≡ true)
    (few : (p : ℕ) → has_node p live.takers ≡ true → p < length kept.highest)
    (older : (n : ℕ) → decides kept.decisions n ≡ true → n < live.number) where
  pub own_held : IsHeld home live.number kept.tentative
  own_held = held_where home live.number kept.tentative
      (both_true (holds home live.number kept.tentative) (all_answered live.questions) ready).0

  pub decision_moves : Decides (record_seen kept) (record_seen (decision_on live kept)) home live.number
      (image_seen own_held.held.image) (λ p. has_node p live.takers)
  decision_moves =
      rw (own_held.initiator, own_held.number, fun_ext (same_nodes (length kept.highest) live.takers few)) at
      (deciding_moves kept own_held.held (participants_of (length kept.highest) live.takers) own_held.is
      (all_below own_held.held.number kept.decisions
      (λ n is. (let below = older n is in let same = own_held.number in omega (arith, below, same)))))

concludes : (net : Net) (home : ℕ) (kept : RecordView) (running : RunningView) (left : ℕ → ℕ) (live : LiveView)
    → running.live ≡ Some live → may_decide home kept (Some live) ≡ true
    → ((p : ℕ) → has_node p live.takers ≡ true → p < length kept.highest)
    → ((n : ℕ) → decides kept.decisions n ≡ true → n < live.number)
    → NodeStep net home (record { disk = record_seen kept; mode = mode_seen (Runs running); outlets = left })
    (record {
      disk = record_seen (decided_now (Some live) kept);
      mode = mode_seen (Runs (collecting None running));
      outlets = left;
    })
concludes net home kept running left live is ready few older =
    Conclude (image_seen running.current) (image_seen (own_held home kept live ready few older).held.image)
    (live_seen live) (record {
      was = rw is refl;
      answered = none_open live.questions
          (both_true (holds home live.number kept.tentative) (all_answered live.questions) ready).1;
      decides = decision_moves home kept live ready few older;
      now = refl;
      outlets = refl;
    })

-- ---- whom a decision names is told

pub commits_may : (net : Net) (w : World) (home number : ℕ) (nodes : List ℕ) → w.modes home ≢ Mode.Down
    → ((p : ℕ) → has_node p nodes ≡ true
    → ((w.records home).decided number ≡ true) × ((w.records home).named number p ≡ true))
    → MaySendAll net w (map (commit_to home number) nodes)
commits_may net w home number [] up names = tt
commits_may net w home number (p ∷ nodes) up names =
    let here = names p (grind arith) in (
      record { up = up; decided = here.0; why = inl here.1 },
      commits_may net w home number nodes up (λ q named. names q (grind (arith, named))),
    )

-- ---- one station of several

module _ (net : Network) (stations : List StationView) (k : ℕ) (old : StationView)
    (there : slice_get stations k ≡ Some old) (sent : List Packet)
    (reached : Reachable (net_seen net) (world_seen stations sent))
    (listed : length old.node.kept.highest ≡ length stations) where
  -- whoever holds an image is there
  holder_there : (p x n : ℕ) → (image : Image) → Holds (records_seen (records_of stations) p) x n image
      → p < length stations
  holder_there p x n image held =
      grind (arith, slice_get_within, length-map stations (λ (s : StationView). s.node.kept))

  module _ (running : RunningView) (is : old.node.mode ≡ Runs running) (live : LiveView)
      (live_is : running.live ≡ Some live) (ready : may_decide k old.node.kept (Some live) ≡ true) where
    seen_live : (world_seen stations sent).modes k ≡ Mode.Running (image_seen running.current) (Some (live_seen live))
    seen_live = rw (mode_at stations k old there, is, live_is) refl

    takers_few : (p : ℕ) → has_node p live.takers ≡ true → p < length old.node.kept.highest
    takers_few p takes =
        let agreed = (is_consistent (net_seen net) (world_seen stations sent) reached).agreed in
        let taker = (agreed.live k (live_seen live) (ap live_of seen_live)).1.takers p takes in
        let below = holder_there p k live.number taker.1.0 taker.1.1 in
        omega (arith, below, listed)

    decided_before : (n : ℕ) → decides old.node.kept.decisions n ≡ true → n < live.number
    decided_before n decided =
        let ok = (is_consistent (net_seen net) (world_seen stations sent) reached).nodes k in
        let held = held_seen k live.number old.node.kept.tentative
        (held_where k live.number old.node.kept.tentative
        (both_true (holds k live.number old.node.kept.tentative) (all_answered live.questions) ready).0) in
        ok.older live.number n _
        (ap (λ (r : Record). r.tentative) (record_at stations k old there) ∙ held)
        (ap (λ (r : Record). r.decided n) (record_at stations k old there) ∙ decided)

    pub conclude_by : (failures : ℕ) (turns : RoundTurns)
        → Leads (net_seen net) (world_seen stations sent)
        (world_seen (slice_set stations k (moved_to (concluded old.node) failures turns old))
        (all_seen (commit_packets k (length old.node.kept.highest) (Some live)) ++ sent))
    conclude_by failures turns =
        let new = moved_to (concluded old.node) failures turns old in
        let later = slice_set stations k new in
        let here = set_there stations k old new there in
        leads_then (net_seen net) (world_seen stations sent) (world_seen later sent) _
        (leads_by (net_seen net) (world_seen stations sent) (world_seen later sent)
        (acts stations k old new there (net_seen net) sent (outlets_same stations k old new there refl) step))
        (sends (net_seen net) later (commit_packets k (length old.node.kept.highest) (Some live)) sent
        (commits_may (net_seen net) (world_seen later sent) k live.number
        (participants_of (length old.node.kept.highest) live.takers)
        (λ down. some_not_none (ap current_of down) (ap current_of (mode_at later k new here ∙ mode_now)))
        (λ p named. (names_it later (record_at later k new here) p named)))) refl
      where
        live_now : live_in old.node.mode ≡ Some live
        live_now = rw is live_is

        mode_now : mode_seen (concluded old.node).mode ≡ Mode.Running (image_seen running.current) None
        mode_now = rw is refl

        step : NodeStep (net_seen net) k
            (record {
              disk = record_seen old.node.kept;
              mode = mode_seen old.node.mode;
              outlets = outlets_seen stations;
            })
            (record {
              disk = record_seen (decided_now (live_in old.node.mode) old.node.kept);
              mode = mode_seen (on_mode (collecting None) old.node.mode);
              outlets = outlets_seen stations;
            })
        step =
            rw (live_now, is)
            (concludes (net_seen net) k old.node.kept running (outlets_seen stations) live live_is ready takers_few
            decided_before)

        names_it : (later : List StationView)
            → records_seen (records_of later) k ≡ record_seen (decided_now (live_in old.node.mode) old.node.kept)
            → (p : ℕ) → has_node p (participants_of (length old.node.kept.highest) live.takers) ≡ true
            → ((records_seen (records_of later) k).decided live.number ≡ true)
            × ((records_seen (records_of later) k).named live.number p ≡ true)
        names_it later same p named =
            let moves = decision_moves k old.node.kept live ready takers_few decided_before in
            let takes = same_nodes (length old.node.kept.highest) live.takers takers_few p in
            rw (same, live_now) (moves.decided p (rw (← takes) named), rw (moves.named p, ← takes) named)
