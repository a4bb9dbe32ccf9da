-- After each deed a station's record and what it collects may be said, and so may what is sent in the deed.
use Rattle.std.proofs.Common.{◌≡◌, ◌⊎◌, inl, inr, ℕ, ◌+◌, ◌<◌, Bool, true, false, cond, List, ℤ, [], length, All}
use Rattle.std.proofs.Common.{Option, Some, None, option_map, refl, ap, ◌∙◌, arith}
use Rattle.std.specs.Prelude.{nat_lt}
use Rattle.std.specs.List.{list_all}
use Rattle.std.proofs.lemmas.Bool.{ltb-true}
use Rattle.std.proofs.lemmas.List.Elements.{All-nil}
use Rattle.protocol.specs.Node.Common.{IsPacket, Body, Need, Packet, node_count, Network, IsValid, MAX_COUNT}
use Rattle.protocol.specs.Node.Common.{highest_seen, with_epoch, with_permanent, without_tentative, RecordView}
use Rattle.protocol.specs.Node.Common.{MAX_DECISIONS, AskAnswer, TakesNow, holds, kept_then, answer_to_ask}
use Rattle.protocol.specs.Node.Common.{with_current_as, live_in, collecting, live_asks, may_start, beginning, begun}
use Rattle.protocol.specs.Node.Common.{start_prospect, Ignores, Joins, GivesUp, answer_to_took, hearing_covered}
use Rattle.protocol.specs.Node.Common.{joined_live, took_prospect, refused_prospect, with_answer, PassesOver, Notes}
use Rattle.protocol.specs.Node.Common.{GoesBack, noting_undone, set_back_to, undone_prospect, hear_prospect, may_decide}
use Rattle.protocol.specs.Node.Common.{decide_prospect, mode_then, settled_packets, commit_prospect, ended_prospect}
use Rattle.protocol.specs.Node.Common.{settled_prospect, participants_of, verdict_packets, names_run, hearing}
use Rattle.protocol.specs.Node.Common.{is_incoming, is_outgoing, LiveView, NodeView, ModeView, Runs, RunningView}
use Rattle.protocol.specs.Node.Common.{on_mode, on_running, running_in, Plan, Prospect, Undue, Exhausted, Planned}
use Rattle.protocol.specs.Node.Common.{becoming, telling, packets_by, own_at, cut_at}
use Rattle.datagram.specs.PacketText.{IsPositive, IsBody}
use Rattle.datagram.specs.declared.packet.Body.TheVariants as says
use Rattle.datagram.specs.declared.packet.Reason.TheVariants.{TooLarge}
use Rattle.recovery_line.proofs.Basics.{one_inside}
use Rattle.protocol.specs.World.Common.{By_took, has_node, names, LiveIsSound, MayBeAskedFor}
use Rattle.protocol.specs.Node.Answering.{ask_prospect}
use Rattle.protocol.specs.Node.Collecting.{TookAnswer, covered_live, with_covered, joining, joined_asks}
use Rattle.protocol.specs.Node.Collecting.{give_up_prospect, took_by, loses}
use Rattle.protocol.specs.Node.GoingBack.{UndoneAnswer, answer_to_undone, undone_by}
use Rattle.protocol.specs.Join.Joined.{IsOther, KeepsNodes}
use Rattle.protocol.specs.Node.Verdicts.{decided_now, commit_packets}
use Rattle.protocol_laws.specs.Join.Keeps.{epoch_keeps, takes_keeps, drops_keeps, settles_keeps, decides_keeps}
use Rattle.protocol_laws.specs.Join.Keeps.{confirms_keeps, begun_sound, covered_sound, joined_sound}
use Rattle.protocol_laws.specs.Join.NeedLaws.{has_where_below}
use Rattle.protocol_laws.specs.Join.Spelled.{IsSayable, one_sendable, other_of, asks_sendable, new_sendable}
use Rattle.protocol_laws.specs.Join.Spelled.{answers_sendable, declined_sendable, commits_sendable, settled_sendable}
use Rattle.protocol_laws.specs.Join.Spelled.{verdict_sendable}
use Rattle.protocol.specs.Node.Plans.{plan_packets}
use Rattle.protocol.specs.declared.outcome.Outcome.{Outcome}
use Rattle.protocol.specs.declared.outcome.Outcome.TheVariants as outcome
use Rattle.protocol.specs.declared.outcome.Refusal.TheVariants as refusal

-- of the node of this number that a plan makes, and of what it sends
pub record PlanSays (net : Network) (inputs : List (List ℤ)) (home : ℕ) (plan : Plan) : Type 0 where
  pub kept : KeepsNodes net home plan.node.kept
  pub live : (live : LiveView) → live_in plan.node.mode ≡ Some live → LiveIsSound net home live
  pub sendable : All (IsSayable net inputs) plan.packets
  pub refusable : All (IsSayable net inputs) plan.refused

abbrev pub ProspectSays : Network → List (List ℤ) → ℕ → Prospect → Type 0
ProspectSays net inputs home Undue = Unit {0}
ProspectSays net inputs home (Exhausted looks) = Unit {0}
ProspectSays net inputs home (Planned plan) = PlanSays net inputs home plan

module _ (net : Network) (inputs : List (List ℤ)) (valid : IsValid net) (home : ℕ) (here : home < node_count net)
    (old : NodeView) (kept : KeepsNodes net home old.kept)
    (live : (live : LiveView) → live_in old.mode ≡ Some live → LiveIsSound net home live)
    (counts : (running : RunningView) → old.mode ≡ Runs running → MayBeAskedFor net home running.current) where
  nothing : All (IsSayable net inputs) []
  nothing = All-nil (IsSayable net inputs)

  -- what is collected, if anything is, is sound
  abbrev SoundIn : Option LiveView → Type 0
  SoundIn o = (l : LiveView) → o ≡ Some l → LiveIsSound net home l

  -- a plan whose refusal says nothing
  sends : {node : NodeView} {packets : List Packet} {puts grows : Bool} → KeepsNodes net home node.kept
      → SoundIn (live_in node.mode) → All (IsSayable net inputs) packets
      → PlanSays net inputs home
      (record { node = node; puts = puts; grows = grows; packets = packets; refused = [] })
  sends keeps sound sendable = record { kept = keeps; live = sound; sendable = sendable; refusable = nothing }

  stays : ProspectSays net inputs home (becoming old)
  stays = sends kept live nothing

  tells : (packets : List Packet) → All (IsSayable net inputs) packets
      → ProspectSays net inputs home (telling packets old)
  tells packets sendable = sends kept live sendable

  -- what a test chooses is so if each of the two is, and the first needs to be so only where the test passes
  chosen : (b : Bool) (x y : Prospect) → (b ≡ true → ProspectSays net inputs home x) → ProspectSays net inputs home y
      → ProspectSays net inputs home (cond b x y)
  chosen true x y one another = one refl
  chosen false x y one another = another

  -- what is collected after a change of what a node that runs has in memory
  live_after : (change : RunningView → RunningView)
      → ((running : RunningView) → old.mode ≡ Runs running → SoundIn (change running).live)
      → SoundIn (live_in (on_mode change old.mode))
  live_after change sound = by old.mode refl
    where
      by : (mode : ModeView) → old.mode ≡ mode → SoundIn (live_in (on_mode change mode))
      by (Runs running) is l e = sound running is l e
      by _ is l e = absurd (cc)

  -- it is what was collected, or nothing
  same_live : (change : RunningView → RunningView) → ((running : RunningView) → (change running).live ≡ running.live)
      → SoundIn (live_in (on_mode change old.mode))
  same_live change same = live_after change (λ running is l e. live l (let unmoved = same running in cc))

  none_live : (change : RunningView → RunningView) → ((running : RunningView) → (change running).live ≡ None)
      → SoundIn (live_in (on_mode change old.mode))
  none_live change none = live_after change (λ running is l e. absurd (let gone = none running in cc))

  -- ---- it begins, and decides

  begun_kept : nat_lt (highest_seen home old.kept) MAX_COUNT ≡ true → length old.kept.decisions < MAX_DECISIONS
      → (mode : ModeView) → old.mode ≡ mode
      → KeepsNodes net home (own_at home old.kept (running_in old.kept old.version mode))
  begun_kept less few (Runs running) is =
      let below = ltb-true (highest_seen home old.kept) MAX_COUNT less in
      takes_keeps net home old.kept kept home (highest_seen home old.kept + 1) running.current here
      (omega arith, omega (arith, below)) (counts running is) (λ same. few)
  begun_kept less few _ is = kept

  -- a node that may start has room for a decision
  few_now : may_start old ≡ true → length old.kept.decisions < MAX_DECISIONS
  few_now due = grind (arith, ltb-true)

  begun_live : nat_lt (highest_seen home old.kept) MAX_COUNT ≡ true
      → SoundIn (live_in (on_mode (beginning net home old.kept) old.mode))
  begun_live less = live_after (beginning net home old.kept) (λ running is l e.
      rw (← one_inside refl e)
      (begun_sound net home inputs valid here old.kept running.current less (counts running is)))

  live_sendable : (o : Option LiveView) → SoundIn o → All (IsSayable net inputs) (live_asks net home o)
  live_sendable None sound = nothing
  live_sendable (Some l) sound = asks_sendable net inputs valid home here l (sound l refl)

  pub begins_says : ProspectSays net inputs home (start_prospect net home old)
  begins_says =
      chosen (may_start old) _ _ (λ due. chosen (nat_lt (highest_seen home old.kept) MAX_COUNT) _ _ (λ less.
      sends (begun_kept less (few_now due) old.mode refl) (begun_live less)
      (live_sendable (live_in (begun net home old).mode) (begun_live less))) tt) tt

  decided_kept : (o : Option LiveView) → SoundIn o → KeepsNodes net home (decided_now o old.kept)
  decided_kept None sound = kept
  decided_kept (Some l) sound = decides_keeps net home old.kept kept l (sound l refl)

  decided_told : (o : Option LiveView) → SoundIn o
      → All (IsSayable net inputs) (commit_packets home (length old.kept.highest) o)
  decided_told None sound = nothing
  decided_told (Some l) sound =
      commits_sendable net inputs valid home here l.number (sound l refl).number
      (participants_of (length old.kept.highest) l.takers)
      (λ p has. (sound l refl).takers p
      (has_where_below (λ q. has_node q l.takers) p 0 (length old.kept.highest) has).0)

  pub concludes_says : ProspectSays net inputs home (decide_prospect home old)
  concludes_says =
      chosen (may_decide home old.kept (live_in old.mode)) _ _ (λ due.
      sends (decided_kept (live_in old.mode) live) (none_live (collecting None) (λ running. refl))
      (decided_told (live_in old.mode) live)) tt

  -- ---- it is asked

  module _ (x n c m : ℕ) (asked : IsBody (says.Ask n c m)) (right : names_run net x home (says.Ask n c m) ≡ true) where
    other : IsOther net home x
    other = other_of net inputs valid home here x (grind arith)

    taken_kept : (mode : ModeView) → old.mode ≡ mode → KeepsNodes net home (with_current_as x n mode old.kept)
    taken_kept (Runs running) is =
        takes_keeps net home old.kept kept x n running.current other.below asked.0 (counts running is)
        (λ same. absurd (other.apart same))
    taken_kept _ is = kept

    kept_after : (answer : AskAnswer) → KeepsNodes net home (kept_then x n answer old.mode old.kept)
    kept_after TakesNow = taken_kept old.mode refl
    kept_after _ = kept

    pub asked_says : ProspectSays net inputs home (ask_prospect net home x n c m old)
    asked_says =
        let answer = answer_to_ask x n c m old.kept old.mode in
        record {
          kept = kept_after answer;
          live = live;
          sendable = answers_sendable net inputs valid home here x n c m asked right
              (kept_then x n answer old.mode old.kept)
              (λ h is. ((kept_after answer).held h is).counts) answer;
          refusable = one_sendable net inputs valid home here
              (record { from = home; to = x; body = says.Refused n c TooLarge })
              (declined_sendable net inputs valid home here x n c m asked right old.kept
              (λ h is. (kept.held h is).counts) TooLarge);
        }

  -- ---- it is answered

  gives_up : ProspectSays net inputs home (give_up_prospect old)
  gives_up = sends (drops_keeps net home old.kept kept) (none_live (collecting None) (λ running. refl)) nothing

  refused_says : (n : ℕ) → ProspectSays net inputs home (refused_prospect home n old)
  refused_says n = chosen (loses home n old) _ _ (λ lost. gives_up) stays

  covered_says : (n c : ℕ) → ProspectSays net inputs home (becoming (on_running (hearing_covered n c) old))
  covered_says n c =
      sends kept (live_after (hearing_covered n c) (λ running at l is. elim (covered running.live l is) [
        | inl same ↦ live l (ap live_in at ∙ same)
        | inr k ↦ rw (← k.2) (covered_sound net home inputs valid here k.0 c (live k.0 (ap live_in at ∙ k.1)))
      ])) nothing
    where
      covered : (o : Option LiveView) (l : LiveView) → covered_live n c o ≡ Some l
          → (o ≡ Some l) ⊎ ((k : LiveView) × (o ≡ Some k) × (with_covered c k ≡ l))
      covered o l is = grind arith

  mapped : {A B : Type 0} {f : A → B} (o : Option A) (y : B) → option_map f o ≡ Some y
      → (x : A) × (o ≡ Some x) × (f x ≡ y)
  mapped o y is = grind arith

  took_says : (p n c m : ℕ) (needs : List Need) → IsBody (says.Took n c m needs)
      → names_run net p home (says.Took n c m needs) ≡ true
      → ProspectSays net inputs home (took_prospect net home p n c needs old)
  took_says p n c m needs asked right = by (answer_to_took net home n c needs old.kept (live_in old.mode))
    where
      parts : (is_outgoing net p c ≡ true) × (list_all (λ (need : Need). is_incoming net p need.channel) needs ≡ true)
      parts = grind arith

      other : IsOther net home p
      other = other_of net inputs valid home here p (grind arith)

      joined : (running : RunningView) → old.mode ≡ Runs running
          → SoundIn (option_map (joined_live net home p c needs) running.live)
      joined running at l is =
          let k = mapped running.live l is in
          rw (← k.2)
          (joined_sound net home inputs valid here k.0 p c needs (live k.0 (ap live_in at ∙ k.1)) other asked.3.each
          parts.1)

      asks : (o : Option LiveView) → SoundIn o → All (IsSayable net inputs) (joined_asks net home c needs o)
      asks None sound = nothing
      asks (Some k) sound =
          new_sendable net inputs valid home here k.number p (sound k refl).number needs
          (with_answer By_took c k.questions) asked.3.each parts.1

      by : (answer : TookAnswer) → ProspectSays net inputs home (took_by net home p c needs answer old)
      by Ignores = stays
      by GivesUp = gives_up
      by Joins = sends kept (live_after (joining net home p c needs) joined) (asks (live_in old.mode) live)

  -- ---- verdicts

  -- what is collected afterwards, where a node that was in doubt runs on
  verdict_live : (next : RecordView) (mode : ModeView) → old.mode ≡ mode → SoundIn (live_in (mode_then net home next mode))
  verdict_live next (Runs running) at l is = live l (ap live_in at ∙ is)
  verdict_live next _ at l is = absurd (cc)

  commit_says : (x n : ℕ) → IsPositive n → IsOther net home x
      → ProspectSays net inputs home (commit_prospect net home x n old)
  commit_says x n positive other =
      chosen (holds x n old.kept.tentative) _ _ (λ held.
      sends (settles_keeps net home old.kept kept) (verdict_live (with_permanent old.kept) old.mode refl)
      (settled_sendable net inputs valid home here x n (with_permanent old.kept) positive other))
      (tells (settled_packets home x n old.kept)
      (settled_sendable net inputs valid home here x n old.kept positive other))

  ended_says : (x n : ℕ) → ProspectSays net inputs home (ended_prospect net home x n old)
  ended_says x n =
      chosen (holds x n old.kept.tentative) _ _ (λ held.
      sends (drops_keeps net home old.kept kept) (verdict_live (without_tentative old.kept) old.mode refl) nothing)
      stays

  -- ---- the sender of a channel restored an image

  undone_says : (c epoch count : ℕ) → ProspectSays net inputs home (undone_prospect c epoch count old)
  undone_says c epoch count = by (answer_to_undone c epoch count old.kept old.mode)
    where
      by : (answer : UndoneAnswer) → ProspectSays net inputs home (undone_by c epoch answer old)
      by PassesOver = stays
      by Notes = sends kept (same_live (noting_undone c epoch) (λ r. refl)) nothing
      by GoesBack =
          sends (epoch_keeps net home old.kept kept)
          (none_live (set_back_to (with_epoch old.kept) c epoch) (λ running. refl)) nothing

  settled_says : (p n : ℕ) → ProspectSays net inputs home (settled_prospect p n old)
  settled_says p n =
      chosen (names old.kept.decisions n p) _ _ (λ is. sends (confirms_keeps net home old.kept kept n p) live nothing)
      stays

  -- ---- whatever it hears

  pub hears_says : (from : ℕ) (what : Body) → IsBody what → names_run net from home what ≡ true
      → ProspectSays net inputs home (hear_prospect net home from what old)
  hears_says from (says.Data channel position item) is right =
      sends kept (same_live (hearing (says.Data channel position item)) (λ r. refl)) nothing
  hears_says from (says.Ack channel epoch next) is right =
      sends kept (same_live (hearing (says.Ack channel epoch next)) (λ r. refl)) nothing
  hears_says from (says.Kept channel count) is right =
      sends kept (same_live (cut_at channel count) (λ r. refl)) nothing
  hears_says from (says.Ask n c m) is right = asked_says from n c m is right
  hears_says from (says.Took n c m needs) is right = took_says from n c m needs is right
  hears_says from (says.Covered n c m) is right = covered_says n c
  hears_says from (says.Refused n c reason) is right = refused_says n
  hears_says from (says.Query n) is right =
      tells (verdict_packets home from n old.kept (live_in old.mode))
      (verdict_sendable net inputs valid home here from n old.kept (live_in old.mode) is
      (other_of net inputs valid home here from right))
  hears_says from (says.Commit n) is right =
      commit_says from n is (other_of net inputs valid home here from right)
  hears_says from (says.Ended n) is right = ended_says from n
  hears_says from (says.Settled n) is right = settled_says from n
  hears_says from (says.Undone channel epoch count) is right = undone_says channel epoch count

-- what such a plan sends has a spelling, however it comes out
plan_allowed : (net : Network) (inputs : List (List ℤ)) (home : ℕ) (plan : Plan) → PlanSays net inputs home plan
    → (came : Outcome) → All IsPacket (plan_packets plan came)
plan_allowed net inputs home plan says outcome.Made = λ k d within. (says.sendable k d within).allowed
plan_allowed net inputs home plan says (outcome.Refused refusal.TooLarge) =
    λ k d within. (says.refusable k d within).allowed
plan_allowed net inputs home plan says _ = All-nil IsPacket

pub says_allowed : (net : Network) (inputs : List (List ℤ)) (home : ℕ) (prospect : Prospect)
    → ProspectSays net inputs home prospect → (came : Outcome) → All IsPacket (packets_by prospect came)
says_allowed net inputs home (Planned plan) says came = plan_allowed net inputs home plan says came
says_allowed net inputs home _ says came = All-nil IsPacket
