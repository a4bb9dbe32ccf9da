-- One law: whatever event happens, what is true of a world stays so.
use Rattle.std.proofs.Common.{◌≡◌, ◌⊎◌, inl, inr, ℕ, zero, suc, ◌≤◌, Bool, true, false, cond, List, ℤ, []}
use Rattle.std.proofs.Common.{◌∷◌, length, map, get_or, Option, Some, None, refl, sym, ap, ◌∙◌, arith}
use Rattle.std.specs.Prelude.{All, slice_get, slice_set}
use Rattle.std.proofs.Math.Logic.{∥∥₁_map}
use Rattle.std.proofs.lemmas.List.{map-set}
use Rattle.std.proofs.lemmas.List.Elements.{All-map, All-nil}
use Rattle.std.proofs.lemmas.Option.{slice_get_within}
use Rattle.protocol.specs.Node.Common.{IsPrefix, Fits, Network, IsValid, IsPacket, Packet, LogState}
use Rattle.protocol.specs.Node.Common.{trimmed_image, log_of, sent_of, ImageView, RecordView, restart_after}
use Rattle.protocol.specs.Node.Common.{IsInstall, is_running, NodeView, Runs, RunningView}
use Rattle.protocol.specs.Node.Common.{RunningNode, running_node, running_in, running_of, on_mode, on_running, Plan}
use Rattle.protocol.specs.Node.Common.{Prospect, Planned, packets_by, AreInOrder, current_log}
use Rattle.protocol.specs.Node.Common.{cut_at, trimmed_node, HasNext, TookNext}
use Rattle.kahn_net.specs.Laws.Prefixes.{prefix_length}
use Rattle.datagram.specs.PacketText.{packet_text}
use Rattle.protocol.specs.World.Common.{Traffic, all_sent, DoneView, EventView, ByNode, ByNetwork, Install, Release}
use Rattle.protocol.specs.World.Common.{event_node, IsJoined, RunsOn, output_of, outputs_of, AreSound}
use Rattle.protocol.specs.World.Common.{IsNumbered, RunsSoundly, StationInvariant, WorldInvariant, OutputView}
use Rattle.protocol.specs.World.Common.{has_happened, ReplyView, IsSound, StationView, IsActOf, IsAct}
use Rattle.protocol.specs.World.Common.{IsRelease, IsStationStep, IsStep, Setting, with_rooms, WorldView}
use Rattle.protocol.specs.World.Common.{moved_to, next_release, plan_of, round_after, sending_of}
use Rattle.protocol.specs.World.Common.{setting_of, traffic_acted, traffic_after, traffic_left, TrafficIsSound}
use Rattle.protocol.specs.World.Common.{IsSoundSetting, IsSoundStation}
use Rattle.protocol.specs.Node.Installing.{turned}
use Rattle.protocol.specs.Node.Plans.{plan_packets}
use Rattle.protocol.specs.Node.Trimming.{with_current}
use Rattle.protocol_laws.specs.Node.FitLaws.{behind_installed}
use Rattle.protocol_laws.specs.Node.TrimLaws.{behind_trimmed}
use Rattle.protocol.specs.declared.outcome.Outcome.{Outcome}
use Rattle.protocol.specs.declared.outcome.Outcome.TheVariants as outcome
use Rattle.protocol.specs.declared.outcome.Refusal.TheVariants.{TooLarge}
use Rattle.protocol.specs.World.DoneView.{IsTurnOfJob}
use Rattle.protocol.specs.declared.event.NetworkAct.{NetworkAct}
use Rattle.protocol.specs.declared.event.NetworkAct.TheVariants as act_is
use Rattle.protocol_laws.specs.Join.Promises.{StandsIn}
use Rattle.protocol_laws.specs.Join.Lasting.{deeds_stay_joined, install_joined, release_joined}
use Rattle.protocol_laws.specs.Join.Leading.{set_there}
use Rattle.protocol_laws.specs.Join.Flown.{has_run_then}
use Rattle.protocol_laws.specs.Join.Whole.{deeds_run, installs_run, network_runs, releases_run, runs_still}
use Rattle.protocol.specs.World.Invariant.{AreJoined}
use Rattle.protocol.specs.World.RecordSound.{ImageIsSound}
use Rattle.protocol.specs.declared.reply.Reply.TheVariants as reply
use Rattle.protocol.specs.World.Steps.{IsReleaseAt}
use Rattle.protocol.specs.World.Steps.{sendings_then}
use Rattle.protocol.specs.World.Steps.{traffic_then}
use Rattle.protocol.specs.World.Traffic.{SendingIsSound}
use Rattle.protocol_laws.specs.World.HandedLaws.{next_waits, next_there, took_or_not, took_begins, took_one}
use Rattle.protocol_laws.specs.World.HandedLaws.{took_goes_on}
use Rattle.protocol_laws.specs.World.KeptLaws.{step_node, step_number}
use Rattle.protocol_laws.specs.World.LeaveLaws.{sound_released}
use Rattle.protocol_laws.specs.World.OrderLaws.{order_ahead}
use Rattle.protocol_laws.specs.World.OutputLaws.{map_at, set_cases, set_same}
use Rattle.protocol_laws.specs.World.DeedLaws.{deed_sound}
use Rattle.protocol_laws.specs.World.PlanLaws.{IsSoundPlan, IsSoundProspect, made_keeps}
use Rattle.protocol_laws.specs.World.PlanLaws.{moved_keeps, ran, runs_at, runs_now, same_keeps}
use Rattle.protocol_laws.specs.World.RecordLaws.{record_of}
use Rattle.protocol_laws.specs.World.SendLaws.{IsSendable}
use Rattle.protocol_laws.specs.World.TrafficLaws.{all_sent_sound, delayed_sound, gone_sound, repeated_sound}
use Rattle.protocol_laws.specs.World.TrafficLaws.{spelled_sound}
use Rattle.protocol_laws.specs.World.TurnLaws.{sound_done}

module _ (net : Network) (inputs : List (List ℤ)) where
  -- A turn that comes back

  turn_keeps : (done : DoneView) (old : StationView) (applied : Bool) (node : NodeView) → IsValid net → Fits net inputs
      → StationInvariant net inputs old → ∥ IsTurnOfJob done.job done.after done.taken done.sent ∥₁
      → IsInstall net.channels done.job done.after done.taken done.sent old.node applied node
      → StationInvariant net inputs (moved_to node old.failures old.turns old)
  turn_keeps done old false node valid fits inv turn step =
      rw step.1 (moved_keeps net inputs old.node old.failures old.turns old inv.kept inv.runs)
  turn_keeps done old true node valid fits inv turn step =
      rw step.1 (moved_keeps net inputs _ old.failures old.turns old inv.kept runs)
    where
      runs : (run : RunningNode)
          → running_of (on_running (turned net.channels done.job.process done.after done.taken done.sent) old.node)
          ≡ Some run → RunsSoundly net inputs run (outputs_of old.outlets)
      runs run is =
          let before =
          ran old.node.kept old.node.version (turned net.channels done.job.process done.after done.taken done.sent)
          old.node.mode run is in
          let now = running_node old.node.kept old.node.version before.0 in
          let sound = runs_at net inputs old inv before.0 before.1 in
          rw (← before.2)
          (record {
            order = order_ahead now.kept now.current
                _ (behind_installed net.channels done.job.process done.after done.taken done.sent now.current)
                sound.order;
            sound = sound_done net inputs valid now (outputs_of old.outlets) done.job done.after done.taken done.sent
                fits sound.sound (rw before.1 at step.0) turn;
          })

  -- An item that leaves

  module _ (round place : ℕ) (running : RunningView) (old : StationView) (answer : ReplyView) (new : StationView)
      (mode : old.node.mode ≡ Runs running) (next : next_release round old ≡ Some place)
      (inv : StationInvariant net inputs old) (step : IsReleaseAt round place old answer new) where
    -- the log that lets go of the item, and the image, the node and the outputs once it has
    abbrev log : Option LogState
    log = log_of running.current step.outlet.channel

    abbrev image : ImageView
    image = trimmed_image step.outlet.channel (length step.later.taken) running.current

    abbrev node : RunningNode
    node = with_current image (running_node old.node.kept old.node.version running)

    abbrev one : OutputView
    one = record { channel = step.outlet.channel; taken = step.later.taken }

    abbrev outputs : List OutputView
    outputs = slice_set (outputs_of old.outlets) place one

    was : RunsSoundly net inputs (running_node old.node.kept old.node.version running) (outputs_of old.outlets)
    was = runs_at net inputs old inv running mode

    took : (step.later.taken ≡ step.outlet.taken) ⊎ TookNext log step.outlet.taken step.later.taken
    took = rw mode at
        (took_or_not round (current_log step.outlet.channel old.node.mode) step.outlet answer step.later step.handed)

    covers : length step.later.taken ≤ sent_of old.node.kept.permanent step.outlet.channel
    covers =
        let more = next_waits round place old step.outlet next step.there in
        let one = took_one log step.outlet.taken step.later.taken took in
        omega (arith, one, more)

    order : AreInOrder old.node.kept image
    order = order_ahead old.node.kept running.current image
        (behind_trimmed step.outlet.channel (length step.later.taken) running.current) was.order

    there : slice_get (outputs_of old.outlets) place ≡ Some (output_of step.outlet)
    there = map_at output_of old.outlets place step.outlet step.there

    has : HasNext log (length step.outlet.taken)
    has = rw mode at (next_there net inputs old round place step.outlet inv next step.there)

    longer : IsPrefix step.outlet.taken step.later.taken
    longer = took_begins log step.outlet.taken step.later.taken took

    outputs_then : outputs_of (slice_set old.outlets place step.later) ≡ outputs
    outputs_then = rw (map-set output_of old.outlets place step.later, step.handed.channel)

    sound_then : IsSound net inputs node outputs
    sound_then = sound_released net inputs (running_node old.node.kept old.node.version running) (outputs_of old.outlets)
        place (output_of step.outlet) step.later.taken was.sound there longer covers
        (λ one history. took_goes_on log step.outlet.taken step.later.taken history one has took) (λ none. rw none at has)

    -- a log that goes back to what has left goes back to what has left by now
    image_still : (image : ImageView) → ImageIsSound net old.node.kept.node inputs image (outputs_of old.outlets)
        → ImageIsSound net old.node.kept.node inputs image outputs
    image_still image sound = record {
      laid_out = sound.laid_out;
      counts = sound.counts;
      logs = sound.logs;
      no_gap = λ i output is. grind (
        arith,
        set_cases (outputs_of old.outlets) place i one output is,
        sound.no_gap i output,
        sound.no_gap place (output_of step.outlet) there,
        prefix_length step.outlet.taken step.later.taken longer,
      );
    }

    runs : (run : RunningNode)
        → running_of (trimmed_node step.outlet.channel (length step.later.taken) old.node) ≡ Some run
        → RunsSoundly net inputs run outputs
    runs run is =
        let whole : running_in old.node.kept old.node.version
        (on_mode (cut_at step.outlet.channel (length step.later.taken)) (Runs running)) ≡ Some run = rw mode at is in
        let same : node ≡ run = cc in
        rw (← same) (record { order = order; sound = sound_then })

    release_at : StationInvariant net inputs new
    release_at = same_keeps net inputs _ new step.same
        (record {
          kept = rw outputs_then
              (record_of net inputs _ node inv.kept.epoch inv.kept.bounded (image_still old.node.kept.permanent inv.kept.permanent)
              (λ tentative is. image_still tentative.image (inv.kept.held tentative is)) order sound_then);
          runs = λ run is. rw outputs_then (runs run is);
        })

  release_or_not : (round : ℕ) (o : Option ℕ) (old : StationView) (answer : ReplyView) (new : StationView)
      → next_release round old ≡ o → StationInvariant net inputs old → IsRelease round o old answer new
      → StationInvariant net inputs new
  release_or_not round None old answer new next inv step = same_keeps net inputs old new step.1 inv
  release_or_not round (Some place) old answer new next inv step =
      let test : is_running old.node.mode ≡ true = grind arith in
      let runs = runs_now old.node.mode test in
      release_at round place runs.0 old answer new runs.1 next inv step

-- Stations of a list

-- what is true of each station, and of one that is set, is true of each afterwards
set_each : (P : ℕ → StationView → Type 0) (xs : List StationView) (place : ℕ) (y : StationView)
    → ((i : ℕ) (station : StationView) → slice_get xs i ≡ Some station → P i station) → P place y
    → (i : ℕ) (station : StationView) → slice_get (slice_set xs place y) i ≡ Some station → P i station
set_each P xs place y each set i station is = elim (set_cases xs place i y station is) [
  | inl here ↦ rw (here.0, ← here.1) set
  | inr other ↦ each i station other.1
]

-- Each event of a station
module _ (setting : Setting) (sure : IsSoundSetting setting) where
  pub station_keeps : (fits : RecordView → Bool) (e : EventView) (came : Outcome) (old : StationView)
      (answer : ReplyView)
      (new : StationView) → IsSoundStation setting old
      → IsStationStep setting fits e came old answer new → StationInvariant setting.net setting.inputs new
  station_keeps fits (ByNode k deed) came old answer new sound step =
      same_keeps setting.net setting.inputs _ new step.same
      (made_keeps setting.net setting.inputs old (restart_after old.node.armed step.call setting.round)
      (plan_of setting k deed old).prospect came new.node new.failures _ sound.inv
      (deed_sound setting sure old sound k deed) step.step)
  station_keeps fits (Install done) came old answer new sound step =
      same_keeps setting.net setting.inputs _ new step.same
      (turn_keeps setting.net setting.inputs done old step.applied new.node sure.valid sure.fits sound.inv
      step.turn step.step)
  station_keeps fits (Release k) came old answer new sound step =
      release_or_not setting.net setting.inputs setting.round (next_release setting.round old) old answer new refl
      sound.inv step
  station_keeps fits (ByNetwork k place act) came old answer new sound step =
      same_keeps setting.net setting.inputs old new step.1 sound.inv

  pub act_keeps : (place : ℕ) (room : Option (RecordView → Bool)) (o : Option StationView) (e : EventView)
      (came : Outcome) (old : List StationView) (answer : ReplyView) (new : List StationView) → slice_get old place ≡ o
      → ((station : StationView) → slice_get old place ≡ Some station → IsSoundStation setting station)
      → AreSound setting.net setting.inputs old
      → IsActOf setting place room o e came old answer new → AreSound setting.net setting.inputs new
  act_keeps place None o e came old answer new there here sound act = rw act.1 sound
  act_keeps place (Some room) None e came old answer new there here sound act = rw act.1 sound
  act_keeps place (Some room) (Some station) e came old answer new there here sound act =
      rw act.stations
      (set_each (λ i. StationInvariant setting.net setting.inputs) old place act.later sound
      (station_keeps room e came station answer act.later (here station there) act.step))

-- there are as many as before
set_length : (xs : List StationView) (place : ℕ) (y : StationView) → length (slice_set xs place y) ≡ length xs
set_length [] place y = refl
set_length (x ∷ xs) zero y = refl
set_length (x ∷ xs) (suc place) y = ap suc (set_length xs place y)

act_length : (setting : Setting) (place : ℕ) (room : Option (RecordView → Bool)) (o : Option StationView)
    (e : EventView) (came : Outcome) (old : List StationView) (answer : ReplyView) (new : List StationView)
    → IsActOf setting place room o e came old answer new → length new ≡ length old
act_length setting place None o e came old answer new act = rw act.1
act_length setting place (Some room) None e came old answer new act = rw act.1
act_length setting place (Some room) (Some station) e came old answer new act =
    rw (act.stations, set_length old place act.later)

-- each has its number still
pub act_numbered : (setting : Setting) (sure : IsSoundSetting setting) (place : ℕ) (room : Option (RecordView → Bool))
    (o : Option StationView) (e : EventView) (came : Outcome) (old : List StationView) (answer : ReplyView)
    (new : List StationView) → slice_get old place ≡ o
    → ((station : StationView) → slice_get old place ≡ Some station → IsSoundStation setting station)
    → IsNumbered old → IsActOf setting place room o e came old answer new → IsNumbered new
act_numbered setting sure place None o e came old answer new there here numbered act = rw act.1 numbered
act_numbered setting sure place (Some room) None e came old answer new there here numbered act = rw act.1 numbered
act_numbered setting sure place (Some room) (Some station) e came old answer new there here numbered act =
    let before = numbered place station there in
    rw act.stations
    (set_each (λ i s. (s.number ≡ i) × (s.node.kept.node ≡ i)) old place act.later numbered (
      step_number setting room e came station answer act.later act.step ∙ before.0,
      step_node setting sure room e came station answer act.later (here station there) act.step ∙ before.1,
    ))

-- ---- what is in flight

-- packets that are sent are sound where they may be
module _ (net : Network) (inputs : List (List ℤ)) where
  sending_sound : (packet : Packet) → IsPacket packet → IsSendable net inputs packet
      → SendingIsSound net inputs (sending_of packet)
  sending_sound packet allowed may =
      spelled_sound net inputs packet (packet_text packet) (record { allowed = allowed; spelled = refl }) may.names
      may.sound

  sendings_sound : (packets : List Packet) → All (IsSendable net inputs) packets → All IsPacket packets
      → All (SendingIsSound net inputs) (map sending_of packets)
  sendings_sound packets may allowed =
      All-map (SendingIsSound net inputs) sending_of packets
      (λ k d within. sending_sound (get_or packets k d) (allowed k d within) (may k d within))

  plan_sendable : (old : StationView) (plan : Plan) → IsSoundPlan net inputs old plan → (outcome : Outcome)
      → All (IsSendable net inputs) (plan_packets plan outcome)
  plan_sendable old plan sound outcome.Made = sound.sendable
  plan_sendable old plan sound (outcome.Refused TooLarge) = sound.refusable
  plan_sendable old plan sound other = All-nil (IsSendable net inputs)

  sendable : (old : StationView) (prospect : Prospect) → IsSoundProspect net inputs old prospect → (outcome : Outcome)
      → All (IsSendable net inputs) (packets_by prospect outcome)
  sendable old (Planned plan) sound outcome = plan_sendable old plan sound outcome
  sendable old other sound outcome = All-nil (IsSendable net inputs)

  left_sound : (traffic : Traffic) (k : ℕ) (came : Option ℕ) → TrafficIsSound net inputs traffic
      → TrafficIsSound net inputs (traffic_left traffic k came)
  left_sound traffic k None flying = flying
  left_sound traffic k (Some place) flying = gone_sound net inputs traffic k place flying

  acted_sound : (act : NetworkAct) (traffic : Traffic) (k place : ℕ) → TrafficIsSound net inputs traffic
      → TrafficIsSound net inputs (traffic_acted act traffic k place)
  acted_sound act_is.Lose traffic k place flying = gone_sound net inputs traffic k place flying
  acted_sound act_is.Repeat traffic k place flying = repeated_sound net inputs traffic k place flying
  acted_sound (act_is.Delay rounds) traffic k place flying = delayed_sound net inputs traffic k place rounds flying
  acted_sound (act_is.ArmPacket from nth change) traffic k place flying = flying

-- whatever happens to it
module _ (setting : Setting) (sure : IsSoundSetting setting) (place : ℕ) (came : Outcome) (old : List StationView)
    (answer : ReplyView) (new : List StationView) where
  not_due : answer ≡ reply.NotDue → has_happened answer ≡ true → ⊥
  not_due is happened = grind arith

  then_sound : (e : EventView) (o : Option StationView)
      → TrafficIsSound setting.net setting.inputs (traffic_then setting e o)
  then_sound (ByNode k deed) (Some station) =
      left_sound setting.net setting.inputs setting.traffic k (plan_of setting k deed station).came sure.traffic
  then_sound (ByNetwork k at act) o = acted_sound setting.net setting.inputs act setting.traffic k at sure.traffic
  then_sound other o = sure.traffic

  sent_sound : (e : EventView) (room : Option (RecordView → Bool)) (o : Option StationView)
      → ((station : StationView) → o ≡ Some station → IsSoundStation setting station)
      → has_happened answer ≡ true → IsActOf setting place room o e came old answer new
      → All (SendingIsSound setting.net setting.inputs) (sendings_then setting e came o)
  sent_sound (ByNode k deed) None (Some station) sound happened act = absurd (not_due act.0 happened)
  sent_sound (ByNode k deed) (Some room) (Some station) sound happened act =
      sendings_sound setting.net setting.inputs
      (packets_by (plan_of setting k deed station).prospect came)
      (sendable setting.net setting.inputs station (plan_of setting k deed station).prospect
      (deed_sound setting sure station (sound station refl) k deed) came) act.step.allowed
  sent_sound e room o sound happened act = All-nil (SendingIsSound setting.net setting.inputs)

  traffic_keeps : (e : EventView) (room : Option (RecordView → Bool)) (o : Option StationView)
      → ((station : StationView) → o ≡ Some station → IsSoundStation setting station)
      → IsActOf setting place room o e came old answer new
      → TrafficIsSound setting.net setting.inputs (traffic_after setting e came answer o)
  traffic_keeps e room o sound act =
      let sent : has_happened answer ≡ true → TrafficIsSound setting.net setting.inputs
      (all_sent setting.round (sendings_then setting e came o) (traffic_then setting e o)) =
      λ happened. all_sent_sound setting.net setting.inputs setting.round (sendings_then setting e came o)
      (traffic_then setting e o) (then_sound e o) (sent_sound e room o sound happened act) in
      grind (arith, sure.traffic, sent)

-- ---- a world

-- a sound world's setting is sound
pub world_sure : (world : WorldView) → WorldInvariant world → IsSoundSetting (setting_of world)
world_sure world inv = record { valid = inv.valid; fits = inv.fits; traffic = inv.traffic }

-- and so is each of its stations
pub world_station : (world : WorldView) → WorldInvariant world → (place : ℕ) (station : StationView)
    → slice_get world.stations place ≡ Some station → IsSoundStation (setting_of world) station
world_station world inv place station there = record {
  inv = inv.stations place station there;
  named = (let named = inv.numbered place station there in named.1 ∙ sym named.0);
  below = (let within = slice_get_within world.stations place station there in let count = inv.count in
      let named = (inv.numbered place station there).0 in omega (arith, within, count, named));
  joined = inv.joined place station there;
}

-- ---- each is joined, and the world has run

-- all that the laws of runs ask of a station
pub stands_in : (world : WorldView) → WorldInvariant world → (k : ℕ) (station : StationView)
    → slice_get world.stations k ≡ Some station → StandsIn (setting_of world) world.stations k station
stands_in world inv k station there =
    search (inv.numbered k station there, inv.stations k station there, inv.joined k station there)

module _ (world : WorldView) (inv : WorldInvariant world) (answer : ReplyView) (came : Outcome) where
  -- an event of a station leaves it joined
  joined_then : (room : RecordView → Bool) (e : EventView) (station later : StationView)
      → slice_get world.stations (event_node e) ≡ Some station
      → IsStationStep (setting_of world) room e came station answer later → IsJoined world.net later
  joined_then room (ByNode k deed) station later there step =
      deeds_stay_joined (setting_of world) world.stations k station later deed room came answer
      (stands_in world inv k station there) step
  joined_then room (Install done) station later there step =
      install_joined world.net station later done answer step
      (inv.joined (event_node (Install done)) station there)
  joined_then room (Release k) station later there step =
      release_joined world.net station later world.round answer step (inv.joined k station there)
  joined_then room (ByNetwork k place act) station later there step = rw step.1 (inv.joined k station there)

  act_joined : (e : EventView) (room : Option (RecordView → Bool)) (o : Option StationView)
      (new : List StationView) → slice_get world.stations (event_node e) ≡ o
      → IsActOf (setting_of world) (event_node e) room o e came world.stations answer new → AreJoined world.net new
  act_joined e None o new there act = rw act.1 inv.joined
  act_joined e (Some room) None new there act = rw act.1 inv.joined
  act_joined e (Some room) (Some station) new there act =
      rw act.stations
      (set_each (λ i. IsJoined world.net) world.stations (event_node e) act.later inv.joined
      (joined_then room e station act.later there act.step))

  -- where nothing is sent, and nothing came
  traffic_same : (b : Bool) → cond b (all_sent world.round [] world.traffic) world.traffic ≡ world.traffic
  traffic_same true = refl
  traffic_same false = refl

  still : ∥ RunsOn world.net world.stations world.traffic world.stations world.traffic ∥₁
  still = ∥∥₁_map inv.run (runs_still world.net world.stations world.traffic)

  run_then : (room : RecordView → Bool) (e : EventView) (station later : StationView)
      → slice_get world.stations (event_node e) ≡ Some station
      → IsNumbered (slice_set world.stations (event_node e) later)
      → AreSound world.net world.inputs (slice_set world.stations (event_node e) later)
      → IsStationStep (setting_of world) room e came station answer later
      → ∥ RunsOn world.net world.stations world.traffic (slice_set world.stations (event_node e) later)
      (traffic_after (setting_of world) e came answer (Some station)) ∥₁
  run_then room (ByNode k deed) station later there numbered sound step =
      deeds_run (setting_of world) world.stations k station later deed room came answer
      (stands_in world inv k station there) step inv.run
  run_then room (Install done) station later there numbered sound step =
      rw (traffic_same (has_happened answer))
      (installs_run world.net world.inputs world.stations (event_node (Install done)) station later done answer
      world.traffic there (inv.numbered (event_node (Install done)) station there).1
      (inv.stations (event_node (Install done)) station there)
      (sound (event_node (Install done)) later (set_there world.stations (event_node (Install done)) station later
      there)) step inv.run)
  run_then room (Release k) station later there numbered sound step =
      rw (traffic_same (has_happened answer))
      (releases_run world.net world.inputs world.stations k station later world.round answer world.traffic there
      inv.numbered inv.stations numbered sound step inv.run)
  run_then room (ByNetwork k place act) station later there numbered sound step =
      rw (step.1, set_same world.stations k station there) (by (has_happened answer))
    where
      by : (b : Bool) → ∥ RunsOn world.net world.stations world.traffic world.stations
          (cond b (traffic_acted act world.traffic k place) world.traffic) ∥₁
      by true = network_runs world.net world.stations k place act world.traffic inv.run
      by false = still

  act_run : (e : EventView) (room : Option (RecordView → Bool)) (o : Option StationView)
      (new : List StationView) → slice_get world.stations (event_node e) ≡ o → IsNumbered new
      → AreSound world.net world.inputs new
      → IsActOf (setting_of world) (event_node e) room o e came world.stations answer new
      → ∥ RunsOn world.net world.stations world.traffic new (traffic_after (setting_of world) e came answer o) ∥₁
  act_run e None o new there numbered sound act = rw (act.0, act.1) still
  act_run e (Some room) None new there numbered sound act = rw (act.0, act.1) still
  act_run e (Some room) (Some station) new there numbered sound act =
      rw act.stations
      (run_then room e station act.later there (rw act.stations at numbered) (rw act.stations at sound) act.step)

-- whatever event happens, however it comes out, and whatever is answered
pub step_keeps : (rooms : List (RecordView → Bool)) (e : EventView) (old : WorldView) (answer : ReplyView)
    (new : WorldView) → WorldInvariant old → IsStep rooms e old answer new → WorldInvariant new
step_keeps rooms e old answer new inv step =
    let setting = setting_of old in
    let sure = world_sure old inv in
    let room = slice_get rooms (event_node e) in
    let found = slice_get old.stations (event_node e) in
    let stations =
    act_keeps setting sure (event_node e) room found e step.came old.stations answer new.stations refl
    (world_station old inv (event_node e)) inv.stations step.act in
    let numbered =
    act_numbered setting sure (event_node e) room found e step.came old.stations answer new.stations refl
    (world_station old inv (event_node e)) inv.numbered step.act in
    let joined = act_joined old inv answer step.came e room found new.stations refl step.act in
    let count = act_length setting (event_node e) room found e step.came old.stations answer new.stations step.act in
    let flying = traffic_keeps setting sure (event_node e) step.came old.stations answer new.stations e room found
    (λ station there. world_station old inv (event_node e) station there) step.act in
    let run = ∥∥₁_map (act_run old inv answer step.came e room found new.stations refl numbered stations step.act)
    (has_run_then old.net old.stations new.stations old.traffic (traffic_after setting e step.came answer found)) in
    record {
      valid = rw step.net inv.valid;
      fits = rw (step.net, step.inputs) inv.fits;
      count = rw step.net (count ∙ inv.count);
      numbered = numbered;
      stations = rw (step.net, step.inputs) stations;
      joined = rw step.net joined;
      traffic = rw (step.net, step.inputs, step.traffic) flying;
      run = rw (step.net, step.traffic) run;
    }

-- And the world goes on by steps of the abstract machine: what is true of two worlds of that machine of which one comes
-- after the other is true of the worlds before and after each event.
pub step_runs_on : (rooms : List (RecordView → Bool)) (e : EventView) (old : WorldView) (answer : ReplyView)
    (new : WorldView) → WorldInvariant old → IsStep rooms e old answer new
    → ∥ RunsOn old.net old.stations old.traffic new.stations new.traffic ∥₁
step_runs_on rooms e old answer new inv step =
    let setting = setting_of old in
    let sure = world_sure old inv in
    let room = slice_get rooms (event_node e) in
    let found = slice_get old.stations (event_node e) in
    rw step.traffic
    (act_run old inv answer step.came e room found new.stations refl
    (act_numbered setting sure (event_node e) room found e step.came old.stations answer new.stations refl
    (world_station old inv (event_node e)) inv.numbered step.act)
    (act_keeps setting sure (event_node e) room found e step.came old.stations answer new.stations refl
    (world_station old inv (event_node e)) inv.stations step.act) step.act)

-- the same of an event at the station of this number
pub act_keeps_world : (rooms : List (RecordView → Bool)) (e : EventView) (came : Outcome) (old : WorldView)
    (answer : ReplyView) (setting : Setting) (number round : ℕ) (stations : List StationView) (traffic : Traffic)
    → WorldInvariant old → setting ≡ setting_of old → number ≡ event_node e
    → IsAct setting number rooms e came old.stations answer stations
    → traffic ≡ traffic_after setting e came answer (slice_get old.stations number)
    → round ≡ round_after answer old.round stations
    → WorldInvariant
    (record {
      net = old.net;
      inputs = old.inputs;
      stations = stations;
      traffic = traffic;
      round = round;
      rooms = old.rooms;
    })
act_keeps_world rooms e came old answer setting number round stations traffic inv same_setting same_number act flown
    later =
    step_keeps rooms e old answer (record old { stations = stations; traffic = traffic; round = round }) inv
    (record {
      net = refl;
      inputs = refl;
      came = came;
      act = rw (same_setting, same_number) at act;
      traffic = rw (same_setting, same_number) at flown;
      round = later;
      rooms = refl;
    })

-- A world is sound whatever rooms its channels are given, since a room bounds what a job is granted alone.
pub rooms_keep_world : (world : WorldView) (rooms : List ℕ) → WorldInvariant world
    → WorldInvariant (with_rooms rooms world)
rooms_keep_world world rooms inv = search inv
