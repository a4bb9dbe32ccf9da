-- Deeds come out by their plans.
use Rattle.std.proofs.Common.{◌≡◌, ℕ, Bool, true, false, cond, List, [], Option, Some, None, Result, Ok, Err, refl, sym}
use Rattle.std.proofs.Common.{ap, subst, ◌∙◌, All}
use Rattle.std.specs.Prelude.{is_some, map, nat_lt, not, option_map, IfOk}
use Rattle.std.specs.declared.alloc.AllocError.{AllocError}
use Rattle.std.specs.declared.alloc.Global.{Global}
use Rattle.std.specs.declared.sync.Arc.{Arc}
use Rattle.protocol.specs.World.Common.{Traffic, all_sent, traffic_without, EventView, ByNode, answer_by}
use Rattle.protocol.specs.World.Common.{delivery_reply, grant_reply, has_happened, ReplyView, StationView, IsPlanned}
use Rattle.protocol.specs.World.Common.{Setting, StationPlan, deliver_plan, moved_to, plan_of, sending_of}
use Rattle.protocol.specs.World.Common.{traffic_left, turns_by, turns_of}
use Rattle.protocol.specs.Node.Common.{Network, MAX_COUNT, IsPacket, Packet, with_epoch, RecordView, restart_after}
use Rattle.protocol.specs.Node.Common.{Job, granted, with_grant, packet_for, deliver_prospect, hear_prospect, JobView}
use Rattle.protocol.specs.Node.Common.{NodeView, ModeView, Down, InDoubt, Runs, on_mode, is_down, Prospect, Undue}
use Rattle.protocol.specs.Node.Common.{Exhausted, Planned, becoming, if_due, packets_by, putting, room_for}
use Rattle.protocol.specs.Node.Common.{unless_spent, IsMade, IsPut, recover_prospect, restored, restored_mode}
use Rattle.std.proofs.lemmas.List.Elements.{All-nil}
use Rattle.node.specs.Memory.{shared_view}
use Rattle.protocol.specs.Node.Delivering.{delivery_of}
use Rattle.protocol.specs.Node.NodeView.{with_mode}
use Rattle.protocol.specs.declared.round_turns.RoundTurns.{RoundTurns}
use Rattle.protocol.specs.declared.event.Deed.{Deed}
use Rattle.protocol.specs.declared.reply.Reply.TheVariants as reply
use Rattle.protocol.specs.World.Steps.{grant_plan}
use Rattle.protocol.specs.World.Turns.{count_grant}
use Rattle.protocol_laws.specs.World.DeedLaws.{becoming_sends}
use Rattle.protocol.specs.declared.outcome.Outcome.{Outcome}
use Rattle.protocol.specs.declared.outcome.Outcome.TheVariants as outcome
use Rattle.protocol.specs.declared.outcome.Refusal.TheVariants.{TooLarge, Spent}
use Rattle.station.specs.Coming.{ComesBy, ComesHeard, ComesOut, HasCome, taken_by}
use Rattle.station.specs.ReplyView.{reply_view}
use Rattle.station.specs.ReplyView.{Reply}

pub silent_allowed : (packets : List Packet) → packets ≡ [] → All IsPacket packets
silent_allowed packets none = subst (All IsPacket) (sym none) (All-nil IsPacket)

module _ (fits : RecordView → Bool) (round : ℕ) (plan : StationPlan) (old new : StationView) where
  -- a deed without a put, that was made
  pub becomes_is : (node : NodeView) → plan.prospect ≡ becoming node → (answer : ReplyView) → answer ≡ plan.answer
      → new ≡ moved_to node old.failures plan.turns old → IsPlanned fits round plan outcome.Made old answer new
  becomes_is node is answer answers same = record {
    call = 0;
    step = subst (λ (p : Prospect). IsMade (restart_after old.node.armed 0 round) p old.node outcome.Made new.node)
        (sym is) (ap (λ (s : StationView). s.node) same);
    put = subst (λ (p : Prospect). IsPut (room_for fits p) old.failures new.failures outcome.Made) (sym is)
        (refl, ap (λ (s : StationView). s.failures) same);
    answers = answers;
    allowed = silent_allowed (packets_by plan.prospect outcome.Made)
        (ap (λ (p : Prospect). packets_by p outcome.Made) is ∙ becoming_sends node outcome.Made);
    same = same
        ∙ (ap (λ (n : NodeView). moved_to n old.failures plan.turns old) (sym (ap (λ (s : StationView). s.node) same))
        ∙ ap (λ (f : ℕ). moved_to new.node f plan.turns old) (sym (ap (λ (s : StationView). s.failures) same)));
  }

  pub becomes : (node : NodeView) → plan.prospect ≡ becoming node → (answer : ReplyView) → answer ≡ plan.answer
      → new ≡ moved_to node old.failures plan.turns old → ComesBy fits round plan old answer new
  becomes node is answer answers same = (outcome.Made, becomes_is node is answer answers same)

  -- or that isn't due
  pub not_due_is : plan.prospect ≡ Undue → (answer : ReplyView) → answer ≡ reply.NotDue → new ≡ old
      → IsPlanned fits round plan outcome.NotDue old answer new
  not_due_is is answer answers same = record {
    call = 0;
    step = subst (λ (p : Prospect). IsMade (restart_after old.node.armed 0 round) p old.node outcome.NotDue new.node)
        (sym is) (refl, ap (λ (s : StationView). s.node) same);
    put = ap (λ (s : StationView). s.failures) same;
    answers = answers;
    allowed = silent_allowed (packets_by plan.prospect outcome.NotDue)
        (ap (λ (p : Prospect). packets_by p outcome.NotDue) is);
    same = same
        ∙ (ap (λ (n : NodeView). moved_to n old.failures old.turns old) (sym (ap (λ (s : StationView). s.node) same))
        ∙ ap (λ (f : ℕ). moved_to new.node f old.turns old) (sym (ap (λ (s : StationView). s.failures) same)));
  }

  pub not_due : plan.prospect ≡ Undue → (answer : ReplyView) → answer ≡ reply.NotDue → new ≡ old
      → ComesBy fits round plan old answer new
  not_due is answer answers same = (outcome.NotDue, not_due_is is answer answers same)

-- a station whose node, device and memory of the round are so
pub seen_moved : (old : StationView) (number failures : ℕ) (node : NodeView) (turns noted : RoundTurns)
    → number ≡ old.number → turns ≡ noted
    → record { number = number; node = node; failures = failures; outlets = old.outlets; turns = turns }
    ≡ moved_to node failures noted old
seen_moved old number failures node turns noted same_number same_turns =
    ap (λ (n : ℕ). record { number = n; node = node; failures = failures; outlets = old.outlets; turns = turns })
    same_number
    ∙ ap (λ (t : RoundTurns). record
    { number = old.number; node = node; failures = failures; outlets = old.outlets; turns = t }) same_turns

-- a job is granted, or none, and that is noted
mode_stays : (mode : ModeView) → on_mode (granted None) mode ≡ mode
mode_stays Down = refl
mode_stays InDoubt = refl
mode_stays (Runs running) = refl

none_granted : (node : NodeView) → with_grant None node ≡ node
none_granted node = ap (λ (mode : ModeView). with_mode mode node) (mode_stays node.mode)

pub grants : (fits : RecordView → Bool) (round : ℕ) (job : Option JobView) (given : Option (Arc Job Global))
    (old : StationView)
    (number failures : ℕ) (node : NodeView) (turns : RoundTurns) (answer : ReplyView)
    → option_map shared_view given ≡ job → answer ≡ grant_reply (option_map shared_view given)
    → node ≡ with_grant job old.node → number ≡ old.number → failures ≡ old.failures
    → turns ≡ cond (is_some given) (count_grant (turns_of round old.turns)) old.turns
    → ComesBy fits round (grant_plan job round old) old answer
    (record { number = number; node = node; failures = failures; outlets = old.outlets; turns = turns })
grants fits round job None old number failures node turns answer is answers moved same_number same_failures noted =
    let new : StationView =
    record { number = number; node = node; failures = failures; outlets = old.outlets; turns = turns } in
    subst (λ (o : Option JobView). ComesBy fits round (grant_plan o round old) old answer new) is
    (not_due fits round (grant_plan None round old) old new refl answer answers
    (seen_moved old number failures node turns old.turns same_number noted
    ∙ ap (λ (n : NodeView). moved_to n failures old.turns old)
    ((moved ∙ ap (λ (o : Option JobView). with_grant o old.node) (sym is)) ∙ none_granted old.node)
    ∙ ap (λ (f : ℕ). moved_to old.node f old.turns old) same_failures))
grants fits round job (Some given) old number failures node turns answer is answers moved same_number same_failures
    noted =
    let some = Some (shared_view given) in
    let counted = count_grant (turns_of round old.turns) in
    let new : StationView =
    record { number = number; node = node; failures = failures; outlets = old.outlets; turns = turns } in
    subst (λ (o : Option JobView). ComesBy fits round (grant_plan o round old) old answer new) is
    (becomes fits round (grant_plan some round old) old new (with_grant some old.node) refl answer answers
    (seen_moved old number failures node turns counted same_number noted
    ∙ ap (λ (n : NodeView). moved_to n failures counted old)
    (moved ∙ ap (λ (o : Option JobView). with_grant o old.node) (sym is))
    ∙ ap (λ (f : ℕ). moved_to (with_grant some old.node) f counted old) same_failures))

-- ---- a node comes back

-- in the mode in which its record starts again
put_made : (restart : ℕ) (due less : Bool) (next old new : NodeView)
    → IsMade restart (if_due due (unless_spent true less (putting false next))) old outcome.Made new → new ≡ next
put_made restart false less next old new (e, same) = absurd (cc)
put_made restart true false next old new step = absurd step
put_made restart true true next old new step = step

pub back_mode : (net : Network) (home restart : ℕ) (old new : NodeView) (came : Outcome)
    → IsMade restart (recover_prospect net home old) old came new → came ≡ outcome.Made
    → new.mode ≡ restored_mode net home (with_epoch old.kept)
back_mode net home restart old new came step made =
    ap (λ (n : NodeView). n.mode)
    (put_made restart (is_down old.mode) (nat_lt old.kept.epoch MAX_COUNT) (restored net home old) old new
    (subst (λ (o : Outcome). IsMade restart (recover_prospect net home old) old o new) made step))

-- what is answered where it is made counts there alone
pub answer_then : (made planned otherwise : ReplyView) (came : Outcome) → (came ≡ outcome.Made → made ≡ planned)
    → answer_by made otherwise came ≡ answer_by planned otherwise came
answer_then made planned otherwise outcome.NotDue right = refl
answer_then made planned otherwise outcome.Made right = right refl
answer_then made planned otherwise (outcome.Refused TooLarge) right = refl
answer_then made planned otherwise (outcome.Refused Spent) right = refl
answer_then made planned otherwise outcome.Failed right = refl

-- where nothing is noted what is remembered stays, however it came out
pub turns_kept : (turns : RoundTurns) (came : Outcome) → turns ≡ turns_by turns turns came
turns_kept turns outcome.NotDue = refl
turns_kept turns outcome.Made = refl
turns_kept turns (outcome.Refused refusal) = refl
turns_kept turns outcome.Failed = refl

-- ---- what is in flight behind a deed

-- of which no packet came
pub own_traffic : (round : ℕ) (prospect : Prospect) (came : Outcome) (made declined answer : ReplyView)
    (before after : Traffic)
    → answer ≡ answer_by made declined came → has_happened made ≡ true → has_happened declined ≡ true
    → packets_by prospect outcome.NotDue ≡ []
    → after ≡ all_sent round (map sending_of (packets_by prospect came)) before
    → after ≡ cond (has_happened answer) (all_sent round (map sending_of (packets_by prospect came)) before) before
own_traffic round prospect came made declined answer before after is happened refused none sent =
    sent ∙ by came ∙ ap (λ (r : ReplyView). cond (has_happened r)
    (all_sent round (map sending_of (packets_by prospect came)) before) before) (sym is)
  where
    by : (o : Outcome)
        → all_sent round (map sending_of (packets_by prospect o)) before
        ≡ cond (has_happened (answer_by made declined o))
        (all_sent round (map sending_of (packets_by prospect o)) before)
        before
    by outcome.NotDue = ap (λ (ps : List Packet). all_sent round (map sending_of ps) before) none
    by outcome.Made =
        ap (λ (b : Bool). cond b (all_sent round (map sending_of (packets_by prospect outcome.Made)) before) before)
        (sym happened)
    by (outcome.Refused TooLarge) =
        ap (λ (b : Bool). cond b
        (all_sent round (map sending_of (packets_by prospect (outcome.Refused TooLarge))) before) before) (sym refused)
    by (outcome.Refused Spent) = refl
    by outcome.Failed = refl

-- and one that is heard
heard_traffic : (round : ℕ) (prospect : Prospect) (came : Outcome) (answer : ReplyView) (to place : ℕ)
    (before after : Traffic)
    → answer ≡ answer_by reply.Delivered reply.Delivered came → packets_by prospect outcome.NotDue ≡ []
    → after ≡ all_sent round (map sending_of (packets_by prospect came)) (taken_by came before to place)
    → after ≡ cond (has_happened answer)
    (all_sent round (map sending_of (packets_by prospect came)) (traffic_without before to place)) before
heard_traffic round prospect came answer to place before after is none sent =
    sent ∙ by came ∙ ap (λ (r : ReplyView). cond (has_happened r)
    (all_sent round (map sending_of (packets_by prospect came)) (traffic_without before to place)) before) (sym is)
  where
    by : (o : Outcome)
        → all_sent round (map sending_of (packets_by prospect o)) (taken_by o before to place)
        ≡ cond (has_happened (answer_by reply.Delivered reply.Delivered o))
        (all_sent round (map sending_of (packets_by prospect o)) (traffic_without before to place)) before
    by outcome.NotDue = ap (λ (ps : List Packet). all_sent round (map sending_of ps) before) none
    by outcome.Made = refl
    by (outcome.Refused TooLarge) = refl
    by (outcome.Refused Spent) = refl
    by outcome.Failed = refl

-- A packet is heard by which nothing is put and nothing is said, so that it comes to the node afterwards alone.
pub heard_silently : (fits : RecordView → Bool) (round : ℕ) (prospect : Prospect) (old new : StationView)
    (answer : ReplyView)
    (to place : ℕ) (before after : Traffic) → prospect ≡ becoming new.node → answer ≡ reply.Delivered
    → All IsPacket (packets_by prospect outcome.Made) → new.failures ≡ old.failures
    → new ≡ moved_to new.node new.failures old.turns old → after ≡ traffic_without before to place
    → ComesHeard fits round prospect old answer new to place before after
heard_silently fits round prospect old new answer to place before after becomes answers allowed failures same left =
    record {
      call = 0;
      came = outcome.Made;
      step = subst (λ (p : Prospect). IsMade (restart_after old.node.armed 0 round) p old.node outcome.Made new.node)
          (sym becomes) refl;
      put = subst (λ (p : Prospect). IsPut (room_for fits p) old.failures new.failures outcome.Made) (sym becomes)
          (refl, failures);
      answers = answers;
      allowed = allowed;
      same = same;
      traffic = left
          ∙ ap (λ (p : Prospect). all_sent round (map sending_of (packets_by p outcome.Made))
          (traffic_without before to place))
          (sym becomes);
    }

-- an event that isn't due sends nothing
pub undue_silent : (prospect : Prospect) → packets_by prospect outcome.NotDue ≡ []
undue_silent Undue = refl
undue_silent (Exhausted looks) = refl
undue_silent (Planned plan) = refl

-- ---- bytes that were found come to a node

module _ (fits : RecordView → Bool) (round : ℕ) (net : Network) (to place : ℕ) (old new : StationView)
    (answer : ReplyView) (before after : Traffic) where
  abbrev Delivers : Option (List ℕ) → Type 0
  Delivers found = ComesOut fits round (deliver_plan net place found old) old answer new to before after

  -- the plan where they spell this packet, or none
  abbrev told_plan : Option Packet → StationPlan
  told_plan packet =
      record {
        prospect = deliver_prospect net old.number packet old.node;
        turns = old.turns;
        answer = delivery_reply (delivery_of false packet);
        declined = reply.Delivered;
        came = Some place;
      }

  abbrev Tells : Option Packet → Type 0
  Tells packet = ComesOut fits round (told_plan packet) old answer new to before after

  -- they spell one, which it hears
  tells_one : (packet : Packet) → is_down old.node.mode ≡ false
      → ComesHeard fits round (hear_prospect net old.number packet.from packet.body old.node) old answer new to place
      before after
      → Tells (Some packet)
  tells_one packet up heard =
      let hears = hear_prospect net old.number packet.from packet.body old.node in
      let is : hears ≡ (told_plan (Some packet)).prospect = ap (λ (d : Bool). if_due (not d) hears) (sym up) in
      record {
        came = heard.came;
        step = record {
          call = heard.call;
          step = subst
              (λ (p : Prospect). IsMade (restart_after old.node.armed heard.call round) p old.node heard.came new.node)
              is heard.step;
          put = subst (λ (p : Prospect). IsPut (room_for fits p) old.failures new.failures heard.came) is heard.put;
          answers = heard.answers;
          allowed = subst (λ (p : Prospect). All IsPacket (packets_by p heard.came)) is heard.allowed;
          same = heard.same
              ∙ ap (λ (t : RoundTurns). moved_to new.node new.failures t old) (turns_kept old.turns heard.came);
        };
        traffic = subst (λ (p : Prospect). after ≡ cond (has_happened answer)
            (all_sent round (map sending_of (packets_by p heard.came)) (traffic_without before to place)) before) is
            (heard_traffic round hears heard.came answer to place before after heard.answers (undue_silent hears)
            heard.traffic);
      }

  pub came_heard : (found : Option (List ℕ)) (bytes : List ℕ) (packet : Packet) → Some bytes ≡ found
      → Some packet ≡ packet_for net old.number bytes → is_down old.node.mode ≡ false
      → ComesHeard fits round (hear_prospect net old.number packet.from packet.body old.node) old answer new to place
      before after
      → Delivers found
  came_heard found bytes packet is spelled up heard =
      subst Delivers is (subst Tells spelled (tells_one packet up heard))

-- ---- events

module _ (setting : Setting) (fits : RecordView → Bool) (seen : EventView) (old new : StationView)
    (after : Traffic) (result : Result Reply AllocError) where
  abbrev Comes : Type 0
  Comes = IfOk result (λ (r : Reply). HasCome setting fits seen old (reply_view r) new after)

  -- a deed with what it sends
  pub deed_came : (k : ℕ) (deed : Deed) (plan : StationPlan) → seen ≡ ByNode k deed → plan ≡ plan_of setting k deed old
      → IfOk result
      (λ (r : Reply). ComesOut fits setting.round plan old (reply_view r) new k setting.traffic after)
      → Comes
  deed_came k deed plan is planned come = by result come
    where
      by : (res : Result Reply AllocError)
          → IfOk res (λ (r : Reply). ComesOut fits setting.round plan old (reply_view r) new k setting.traffic after)
          → IfOk res (λ (r : Reply). HasCome setting fits seen old (reply_view r) new after)
      by (Err e) come = tt
      by (Ok r) come =
          let here =
          subst (λ (p : StationPlan). ComesOut fits setting.round p old (reply_view r) new k setting.traffic after)
          planned come in
          subst (λ (e : EventView). HasCome setting fits e old (reply_view r) new after) (sym is)
          (record { came = here.came; step = here.step; traffic = here.traffic })

  -- one by which nothing is sent, and no packet came
  quiet : (b : Bool) (k : ℕ) (deed : Deed) (came : Outcome) → (plan_of setting k deed old).came ≡ None
      → packets_by (plan_of setting k deed old).prospect came ≡ []
      → setting.traffic
      ≡ cond b
      (all_sent setting.round (map sending_of (packets_by (plan_of setting k deed old).prospect came))
      (traffic_left setting.traffic k (plan_of setting k deed old).came)) setting.traffic
  quiet false k deed came none silent = refl
  quiet true k deed came none silent =
      ap (traffic_left setting.traffic k) (sym none)
      ∙ ap (λ (ps : List Packet). all_sent setting.round (map sending_of ps)
      (traffic_left setting.traffic k (plan_of setting k deed old).came)) (sym silent)

  pub quiet_came : (k : ℕ) (deed : Deed) (plan : StationPlan) → seen ≡ ByNode k deed
      → plan ≡ plan_of setting k deed old → after ≡ setting.traffic → (plan_of setting k deed old).came ≡ None
      → ((came : Outcome) → packets_by (plan_of setting k deed old).prospect came ≡ [])
      → IfOk result (λ (r : Reply). ComesBy fits setting.round plan old (reply_view r) new) → Comes
  quiet_came k deed plan is planned same none silent come = by result come
    where
      by : (res : Result Reply AllocError)
          → IfOk res (λ (r : Reply). ComesBy fits setting.round plan old (reply_view r) new)
          → IfOk res (λ (r : Reply). HasCome setting fits seen old (reply_view r) new after)
      by (Err e) come = tt
      by (Ok r) come =
          let here =
          subst (λ (p : StationPlan). ComesBy fits setting.round p old (reply_view r) new) planned come in
          subst (λ (e : EventView). HasCome setting fits e old (reply_view r) new after) (sym is)
          (record {
            came = here.0;
            step = here.1;
            traffic = same ∙ quiet (has_happened (reply_view r)) k deed here.0 none (silent here.0);
          })
