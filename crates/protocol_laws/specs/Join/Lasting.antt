-- What a station keeps and collects may be said at any time.
use Rattle.std.proofs.Common.{◌≡◌, ⊎_elim, ℕ, zero, suc, ◌<◌, Bool, true, false, List, ℤ, [], ◌∷◌}
use Rattle.std.proofs.Common.{length, Option, Some, None, refl, sym, ap, subst, ◌∙◌, arith}
use Rattle.std.specs.Prelude.{nat_lt, not, slice_get}
use Rattle.std.proofs.Math.Bool.{Bool-set}
use Rattle.std.proofs.Math.Bridge.{le_prop}
use Rattle.std.proofs.Math.Logic.{∥∥₁_elim, ∥∥₁_map}
use Rattle.std.proofs.Math.Nat.{ℕ_set}
use Rattle.std.proofs.lemmas.Bool.{eq-eqb}
use Rattle.std.proofs.lemmas.List.{length-replicate}
use Rattle.std.proofs.lemmas.Option.{slice_get_within}
use Rattle.datagram.proofs.Exactness.{whole_again}
use Rattle.protocol.specs.Node.Common.{node_count, Network, MAX_COUNT, with_epoch, RecordView, Tentative, live_in}
use Rattle.protocol.specs.Node.Common.{start_prospect, hear_prospect, turn_packets, decide_prospect, restart_after}
use Rattle.protocol.specs.Node.Common.{round_later, granted, grant_prospect, node_job, IsInstall, JobView, LiveView}
use Rattle.protocol.specs.Node.Common.{is_down, crashed, with_kept, NodeView, Runs, RunningView, running_node}
use Rattle.protocol.specs.Node.Common.{running_in, on_mode, Prospect, Undue, Exhausted, Planned, IsMade, if_due}
use Rattle.protocol.specs.Node.Common.{putting, telling, unless_spent, recover_prospect, restored, cut_at}
use Rattle.recovery_line.proofs.Basics.{one_inside, some_not_none}
use Rattle.protocol.specs.World.Common.{deliver_plan, plan_of, LiveIsSound, MayBeAskedFor, IsJoined, StationView}
use Rattle.protocol.specs.World.Common.{DoneView, ReplyView, Setting, due_bytes, flight_at, next_release, IsInstalled}
use Rattle.protocol.specs.World.Common.{IsRelease, moved_to}
use Rattle.protocol.specs.Node.Hearing.{told_prospect}
use Rattle.protocol.specs.Join.Joined.{KeepsNodes}
use Rattle.protocol_laws.specs.Join.Promises.{StandsIn, DeedsStayJoined, OpeningIsJoined}
use Rattle.protocol_laws.specs.Join.Keeps.{epoch_keeps, current_counts}
use Rattle.protocol_laws.specs.Join.Sayable.{ProspectSays, begins_says, concludes_says, hears_says}
use Rattle.protocol_laws.specs.Join.Whole.{SpelledBytes, bytes_spelled}
use Rattle.protocol.specs.Node.Installing.{turned}
use Rattle.protocol.specs.Node.Recovering.{crash_prospect, restored_with}
use Rattle.protocol.specs.declared.event.Deed.{Deed}
use Rattle.protocol.specs.declared.event.Deed.TheVariants as event
use Rattle.protocol.specs.World.OpeningWorld.{stations_from}
use Rattle.protocol.specs.declared.outcome.Outcome.{Outcome}
use Rattle.protocol.specs.declared.outcome.Outcome.TheVariants as outcome
use Rattle.protocol.specs.declared.outcome.Refusal.TheVariants.{TooLarge, Spent}

-- ---- nodes

pub record NodeJoins (net : Network) (home : ℕ) (node : NodeView) : Type 0 where
  pub kept : KeepsNodes net home node.kept
  pub live : (live : LiveView) → live_in node.mode ≡ Some live → LiveIsSound net home live

abbrev ProspectJoins : Network → ℕ → Prospect → Type 0
ProspectJoins net home Undue = Unit {0}
ProspectJoins net home (Exhausted looks) = Unit {0}
ProspectJoins net home (Planned plan) = NodeJoins net home plan.node

says_joins : (net : Network) (inputs : List (List ℤ)) (home : ℕ) (prospect : Prospect)
    → ProspectSays net inputs home prospect → ProspectJoins net home prospect
says_joins net inputs home Undue says = tt
says_joins net inputs home (Exhausted looks) says = tt
says_joins net inputs home (Planned plan) says = search says

-- what an event comes to where it is due, or no number passes the greatest
joins_if_due : (net : Network) (home : ℕ) (due : Bool) (prospect : Prospect) → ProspectJoins net home prospect
    → ProspectJoins net home (if_due due prospect)
joins_if_due net home true prospect joins = joins
joins_if_due net home false prospect joins = tt

joins_unless_spent : (net : Network) (home : ℕ) (looks less : Bool) (prospect : Prospect) → ProspectJoins net home prospect
    → ProspectJoins net home (unless_spent looks less prospect)
joins_unless_spent net home looks true prospect joins = joins
joins_unless_spent net home looks false prospect joins = tt

module _ (net : Network) (home : ℕ) (old : NodeView) (joins : NodeJoins net home old) where
  down_joins : (restart : ℕ) (kept : RecordView) → KeepsNodes net home kept
      → NodeJoins net home (crashed restart (with_kept kept old))
  down_joins restart kept keeps = record { kept = keeps; live = λ live is. absurd (some_not_none refl is) }

  went_down : (restart : ℕ) → NodeJoins net home (crashed restart old)
  went_down restart = record { kept = joins.kept; live = λ live is. absurd (some_not_none refl is) }

  -- however it comes out
  made_joins : (restart : ℕ) (prospect : Prospect) (came : Outcome) (new : NodeView) → ProspectJoins net home prospect
      → IsMade restart prospect old came new → NodeJoins net home new
  made_joins restart Undue came new then_joins step = rw step.1 joins
  made_joins restart (Exhausted looks) (outcome.Refused Spent) new then_joins step = rw step joins
  made_joins restart (Exhausted looks) outcome.Failed new then_joins step = rw step.1 (went_down restart)
  made_joins restart (Exhausted looks) came new then_joins step = absurd step
  made_joins restart (Planned plan) outcome.Made new then_joins step = rw step then_joins
  made_joins restart (Planned plan) (outcome.Refused TooLarge) new then_joins step = rw step.1 joins
  made_joins restart (Planned plan) outcome.Failed new then_joins step =
      ⊎_elim (λ same. rw same (went_down restart)) (λ same. rw same (down_joins restart plan.node.kept then_joins.kept)) step.1
  made_joins restart (Planned plan) came new then_joins step = absurd step

  -- a change that leaves what is collected
  changed_joins : (change : RunningView → RunningView)
      → ((running : RunningView) → (change running).live ≡ running.live)
      → NodeJoins net home (record old { mode = on_mode change old.mode })
  changed_joins change same =
      let still : live_in (on_mode change old.mode) ≡ live_in old.mode = grind (arith, same) in
      record { kept = joins.kept; live = λ live is. joins.live live (rw still at is) }

  crash_joins : (restart : ℕ) → ProspectJoins net home (crash_prospect restart old)
  crash_joins restart = joins_if_due net home (not (is_down old.mode)) _ (went_down restart)

  -- a node that comes back collects nothing
  recover_joins : ProspectJoins net home (recover_prospect net home old)
  recover_joins =
      joins_if_due net home (is_down old.mode) _
      (joins_unless_spent net home true (nat_lt old.kept.epoch MAX_COUNT) (putting false (restored net home old)) (record {
        kept = epoch_keeps net home old.kept joins.kept;
        live = λ live is. absurd (none (with_epoch old.kept).tentative live is);
      }))
    where
      none : (o : Option Tentative) (live : LiveView) → live_in (restored_with net home (with_epoch old.kept) o) ≡ Some live
          → ⊥
      none o live is = grind arith

  grant_joins : (job : Option JobView) → ProspectJoins net home (grant_prospect job old)
  grant_joins None = tt
  grant_joins (Some job) = changed_joins (granted (Some job)) (λ r. refl)

-- ---- deeds

module _ (setting : Setting) (stations : List StationView) (k : ℕ) (old : StationView)
    (in_world : StandsIn setting stations k old) where
  here_below : old.number < node_count setting.net
  here_below =
      let within = slice_get_within stations k old in_world.there in
      let count = in_world.count in
      let number = in_world.number in
      omega (arith, within, count, number)

  joins_now : NodeJoins setting.net old.number old.node
  joins_now = search in_world.joined

  counts : (running : RunningView) → old.node.mode ≡ Runs running
      → MayBeAskedFor setting.net old.number running.current
  counts running runs =
      let node = running_node old.node.kept old.node.version running in
      let links = (in_world.sound.runs node (ap (running_in old.node.kept old.node.version) runs)).sound.kept.links in
      let same = in_world.number ∙ sym in_world.node in
      rw same
      (current_counts setting.net old.node.kept.node setting.inputs in_world.valid (rw same at here_below) node links)

  came_joins : (place : ℕ) (o : Option (List ℕ)) → SpelledBytes setting k o
      → ProspectJoins setting.net old.number (deliver_plan setting.net place o old).prospect
  came_joins place None says = tt
  came_joins place (Some bytes) says =
      rw (whole_again bytes says.packet says.text, eq-eqb says.packet.to old.number to_here, says.names)
      (joins_if_due setting.net old.number (not (is_down old.node.mode))
      (told_prospect setting.net old.number (Some says.packet) old.node)
      (says_joins setting.net setting.inputs old.number
      (hear_prospect setting.net old.number says.packet.from says.packet.body old.node)
      (hears_says setting.net setting.inputs in_world.valid old.number here_below old.node in_world.joined.kept
      in_world.joined.live counts says.packet.from says.packet.body says.text.allowed.body (rw to_here at says.names))))
    where
      to_here : says.packet.to ≡ old.number
      to_here = says.here ∙ sym in_world.number

  deed_joins : (deed : Deed)
      → ((place : ℕ) → deed ≡ event.Deliver place
      → SpelledBytes setting k (due_bytes setting.round (flight_at setting k place)))
      → ProspectJoins setting.net old.number (plan_of setting k deed old).prospect
  deed_joins (event.Deliver place) says =
      came_joins place (due_bytes setting.round (flight_at setting k place)) (says place refl)
  deed_joins event.Grant says =
      grant_joins setting.net old.number old.node joins_now (node_job setting.net setting.inputs setting.rooms old.node)
  deed_joins event.Send says =
      joins_if_due setting.net old.number (not (is_down old.node.mode))
      (telling (turn_packets setting.net old.number old.node.kept old.node.mode) old.node) joins_now
  deed_joins event.Start says =
      says_joins setting.net setting.inputs old.number (start_prospect setting.net old.number old.node)
      (begins_says setting.net setting.inputs in_world.valid old.number here_below old.node
      in_world.joined.kept in_world.joined.live counts)
  deed_joins event.Decide says =
      says_joins setting.net setting.inputs old.number (decide_prospect old.number old.node)
      (concludes_says setting.net setting.inputs in_world.valid old.number here_below old.node
      in_world.joined.kept in_world.joined.live counts)
  deed_joins (event.Crash fill rounds) says =
      crash_joins setting.net old.number old.node joins_now (round_later setting.round rounds)
  deed_joins event.Recover says = recover_joins setting.net old.number old.node joins_now
  deed_joins (event.Arm fault rounds) says = search joins_now
  deed_joins event.Idle says = joins_now

  -- the bytes that come in a deed are spelled
  known_bytes : (deed : Deed) → ∥ ((place : ℕ) → deed ≡ event.Deliver place
      → SpelledBytes setting k (due_bytes setting.round (flight_at setting k place))) ∥₁
  known_bytes (event.Deliver place) =
      ∥∥₁_map (bytes_spelled setting stations k old in_world place
      (due_bytes setting.round (flight_at setting k place)) refl)
      (λ says other same. (let p : place ≡ other = cc in rw (← p) says))
  known_bytes deed = ∣ (λ place same. absurd (cc)) ∣₁

pub deeds_stay_joined : DeedsStayJoined
deeds_stay_joined setting stations k old new deed fits came answer in_world step =
    ∥∥₁_elim (known_bytes setting stations k old in_world deed) (hlevel (le_prop, ℕ_set, Bool-set))
    (λ says. rw step.same (search
    (made_joins setting.net old.number old.node (joins_now setting stations k old in_world)
    (restart_after old.node.armed step.call setting.round) (plan_of setting k deed old).prospect came
    new.node (deed_joins setting stations k old in_world deed says) step.step)))

pub install_joined : (net : Network) (old new : StationView) (done : DoneView) (answer : ReplyView)
    → IsInstalled net.channels done old answer new → IsJoined net old → IsJoined net new
install_joined net old new done answer step joined = rw step.same (by step.applied step.step)
  where
    by : (applied : Bool) → IsInstall net.channels done.job done.after done.taken done.sent old.node applied new.node
        → IsJoined net (moved_to new.node old.failures old.turns old)
    by false is = rw is.1 (search joined)
    by true is =
        let joins = changed_joins net old.number old.node (search joined)
        (turned net.channels done.job.process done.after done.taken done.sent) (λ r. refl) in
        rw is.1 (search joins)

pub release_joined : (net : Network) (old new : StationView) (round : ℕ) (answer : ReplyView)
    → IsRelease round (next_release round old) old answer new → IsJoined net old → IsJoined net new
release_joined net old new round answer step joined = by (next_release round old) step
  where
    by : (o : Option ℕ) → IsRelease round o old answer new → IsJoined net new
    by None is = rw is.1 joined
    by (Some place) is =
        let joins = changed_joins net old.number old.node (search joined)
        (cut_at is.outlet.channel (length is.later.taken)) (λ r. refl) in
        rw is.same (search joins)

pub opening_is_joined : OpeningIsJoined
opening_is_joined net failures outlets k station is = from_number (node_count net) 0 failures k refl is
  where
    from_number : (nodes number : ℕ) (failures : List ℕ) (k : ℕ) → nodes ≡ node_count net
        → slice_get (stations_from net nodes number failures outlets) k ≡ Some station → IsJoined net station
    from_number nodes number [] k same is = absurd (cc)
    from_number nodes number (f ∷ failures) zero same is = subst (IsJoined net) (one_inside refl is) (record {
      kept = record {
        listed = length-replicate nodes 0 ∙ same;
        held = λ held e. absurd (some_not_none refl e);
        decisions = λ i d e. absurd (cc);
        room = λ held e own. absurd (some_not_none refl e);
      };
      live = λ live e. absurd (some_not_none refl e);
    })
    from_number nodes number (f ∷ failures) (suc k) same is = from_number nodes (suc number) failures k same is
