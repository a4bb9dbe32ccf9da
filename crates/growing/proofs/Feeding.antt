-- All that is true of a world is true of it on later inputs.
use Rattle.std.proofs.Common.{ℕ, zero, suc, ℤ, List, [], ◌∷◌, refl, sym, subst, arith}
use Rattle.std.proofs.Math.Logic.{∥∥₁_map}
use Rattle.std.proofs.lemmas.List.Elements.{All-weaker}
use Rattle.datagram.specs.declared.packet.Body.TheVariants.{Data}
use Rattle.kahn_net.specs.Laws.Prefixes.{prefix_length, prefix_refl, prefix_trans}
use Rattle.kahn_net.specs.Streams.{ArePrefixes}
use Rattle.protocol.specs.Node.Common.{approximation, Body, Channel, CountsAreWithin, HasReached, history_of, ImageView}
use Rattle.protocol.specs.Node.Common.{IsJobOf, IsPrefix, IsValid, items_from, JobView, Network, next_items, Outside}
use Rattle.protocol.specs.Node.Common.{Port, Process, received_of, RecordView, RunningNode}
use Rattle.protocol.specs.World.Common.{Flight, flights_to, HasCome, IsSound, outputs_of, OutputView, RecordIsSound}
use Rattle.protocol.specs.World.Common.{StationInvariant, StationView, Traffic, TrafficIsSound, WorldView}
use Rattle.protocol.specs.World.RecordSound.{ImageIsSound, RecordHasCome}
use Rattle.protocol.specs.World.Traffic.{BodyIsSound, FlightIsSound, SpellsSound}
use Rattle.protocol.specs.declared.limits.TheConstants.{MAX_JOB_ITEMS}
use Rattle.protocol.specs.declared.links.Inbox.{Inbox}
use Rattle.protocol_laws.specs.Node.LiftLaws.{on_next}
use Rattle.growing.proofs.Meaning.{approximations_are_monotone, belongs_there, history_grows}
use Rattle.growing.proofs.Standing.{far_stays, image_stays, inboxes_stay, prefix_dropped, prefix_taken, put_stays}
use Rattle.growing.specs.LaterInputs.{AreLaterInputs, with_inputs}
use Rattle.growing.specs.Laws.{ChangesInputsAlone, JobStays, LeftStays, OutputsStayWithin, StaysCoordinated, StaysSound}
use Rattle.starting_again.specs.WasLeft.{IsLeftBy}

-- ---- what inputs have at hand

module _ (net : Network) (before after : List (List ℤ)) (longer : ArePrefixes before after) where
  -- no more was received of an input than it has
  counts_stay : (image : ImageView) → CountsAreWithin net before image → CountsAreWithin net after image
  counts_stay image counts k saved is = let here = counts k saved is in
      record {
        of_input = λ channel received there from end. (
            let few = here.of_input channel received there from end in
            let more = prefix_length _ _ (longer.at saved.channel) in
            omega (arith, few, more));
        of_link = here.of_link;
        in_log = here.in_log;
      }

  -- of each channel there is at hand what there was, and of an input perhaps more
  next_stays : (image : ImageView) (inboxes : List Inbox) (c : ℕ) (port : Port)
      → IsPrefix (next_items before image inboxes c port) (next_items after image inboxes c port)
  next_stays image inboxes c Outside =
      prefix_taken MAX_JOB_ITEMS _ _ (prefix_dropped (received_of image c) _ _ (longer.at c))
  next_stays image inboxes c (Process p) = prefix_refl _

  -- a process has at hand what it had, and perhaps more
  items_stay : (image : ImageView) (inboxes : List Inbox) (process number : ℕ) (channels : List Channel) (c : ℕ)
      → IsPrefix (history_of (items_from before image inboxes process number channels) c)
      (history_of (items_from after image inboxes process number channels) c)
  items_stay image inboxes process number [] c = refl
  items_stay image inboxes process number (x ∷ channels) (suc c) =
      items_stay image inboxes process (suc number) channels c
  items_stay image inboxes process number (x ∷ channels) zero =
      let front = next_stays image inboxes number x.producer in
      let none : IsPrefix [] [] = refl in
      grind (arith, front, none)

  job_there : (image : ImageView) (inboxes : List Inbox) (job : JobView) → IsJobOf net before image inboxes job
      → IsJobOf net after image inboxes job
  job_there image inboxes job of = record {
    process = of.process;
    code = of.code;
    items = λ c. prefix_trans (history_of job.items c) _ _ (of.items c)
        (items_stay image inboxes job.process 0 net.channels c);
    room = of.room;
  }

pub job_stays : JobStays
job_stays net before after image inboxes job longer = job_there net before after longer image inboxes job

module _ (net : Network) (valid : IsValid net) (before after : List (List ℤ)) (longer : ArePrefixes before after) where
  -- the approximation of a number, and the one of that number on later inputs
  grown : (n : ℕ) → ArePrefixes (approximation net before n) (approximation net after n)
  grown n = approximations_are_monotone net before after n valid longer

  -- the acts that were made, of those that there are on the approximation of before
  abbrev those : ℕ → (ℕ → ℕ) → ℕ → ℕ
  those n = on_next net (approximation net before n)

  -- ---- a record

  image_sound : (home : ℕ) (image : ImageView) (outputs : List OutputView) → ImageIsSound net home before image outputs
      → ImageIsSound net home after image outputs
  image_sound home image outputs sound = record {
    laid_out = sound.laid_out;
    counts = counts_stay net before after longer image sound.counts;
    logs = sound.logs;
    no_gap = sound.no_gap;
  }

  record_come : (kept : RecordView) (outputs : List OutputView) → RecordHasCome net before kept outputs
      → RecordHasCome net after kept outputs
  record_come kept outputs come =
      let stays = image_stays net valid _ _ (grown come.n) in
      record {
        n = come.n;
        permanent_acts = those come.n come.permanent_acts;
        held_acts = those come.n come.held_acts;
        permanent = stays come.permanent_acts kept.permanent come.permanent;
        held = λ tentative is. stays come.held_acts tentative.image (come.held tentative is);
        held_after = far_stays net valid _ _ (grown come.n) come.permanent_acts come.held_acts come.held_after;
        released =
            λ j p output channel is there from. put_stays net valid _ _ (grown come.n) output.channel p
            come.permanent_acts output.taken (come.released j p output channel is there from);
      }

  record_sound : (kept : RecordView) (outputs : List OutputView) → RecordIsSound net before kept outputs
      → RecordIsSound net after kept outputs
  record_sound kept outputs sound = record {
    listed = sound.listed;
    permanent = image_sound kept.node kept.permanent outputs sound.permanent;
    held = λ tentative is. image_sound kept.node tentative.image outputs (sound.held tentative is);
    ahead = sound.ahead;
    covered = sound.covered;
    epoch = sound.epoch;
    bounded = sound.bounded;
    come = ∥∥₁_map sound.come (record_come kept outputs);
  }

  -- ---- a node that runs

  -- `reached_on_next` of `protocol_laws` is made of the same parts: it goes to the next number on the same inputs
  abbrev reached_there : (node : RunningNode) → HasReached net before node → HasReached net after node
  reached_there node come =
      let stays = image_stays net valid _ _ (grown come.n) in
      let far = far_stays net valid _ _ (grown come.n) in
      record {
        n = come.n;
        permanent_acts = those come.n come.permanent_acts;
        held_acts = those come.n come.held_acts;
        current_acts = those come.n come.current_acts;
        permanent = stays come.permanent_acts node.kept.permanent come.permanent;
        held = λ tentative is. stays come.held_acts tentative.image (come.held tentative is);
        current = stays come.current_acts node.current come.current;
        held_after = far come.permanent_acts come.held_acts come.held_after;
        current_after = far come.held_acts come.current_acts come.current_after;
      }

  node_come : (node : RunningNode) (outputs : List OutputView) → HasCome net before node outputs
      → HasCome net after node outputs
  node_come node outputs come =
      let n = come.reached.n in
      record {
        reached = reached_there node come.reached;
        inboxes = inboxes_stay net valid _ _ (grown n) node.inboxes come.inboxes;
        out = λ job is. job_there net before after longer node.current node.inboxes job (come.out job is);
        released =
            λ j p output channel is there from. put_stays net valid _ _ (grown n) output.channel p
            come.reached.current_acts output.taken (come.released j p output channel is there from);
      }

  node_sound : (node : RunningNode) (outputs : List OutputView) → IsSound net before node outputs
      → IsSound net after node outputs
  node_sound node outputs sound = record {
    listed = sound.listed;
    kept =
        record {
          laid_out = sound.kept.laid_out;
          counts = counts_stay net before after longer node.current sound.kept.counts;
          logs = sound.kept.logs;
          links = sound.kept.links;
        };
    covered = sound.covered;
    come = ∥∥₁_map sound.come (node_come node outputs);
  }

  station_sound : (station : StationView) → StationInvariant net before station → StationInvariant net after station
  station_sound station inv = record {
    kept = record_sound station.node.kept (outputs_of station.outlets) inv.kept;
    runs = λ node is. (let runs = inv.runs node is in
        record { order = runs.order; sound = node_sound node (outputs_of station.outlets) runs.sound });
  }

  -- ---- what is in flight

  -- of all packets `Data` alone has an item
  body_sound : (body : Body) → BodyIsSound net before body → BodyIsSound net after body
  body_sound (Data c k v) sound = ∥∥₁_map sound (belongs_there net before after valid longer c k v)
  body_sound other sound = tt

  flight_sound : (to : ℕ) (flight : Flight) → FlightIsSound net before to flight → FlightIsSound net after to flight
  flight_sound to flight sound = ∥∥₁_map sound (λ (s : SpellsSound net before to flight.packet). record {
    packet = s.packet;
    text = s.text;
    here = s.here;
    names = s.names;
    sound = body_sound s.packet.body s.sound;
  })

  traffic_sound : (traffic : Traffic) → TrafficIsSound net before traffic → TrafficIsSound net after traffic
  traffic_sound traffic sound to =
      All-weaker (FlightIsSound net before to) (FlightIsSound net after to) (flight_sound to) (flights_to traffic to)
      (sound to)

-- ---- a world

pub stays_sound : StaysSound
stays_sound world inputs inv later = record {
  valid = inv.valid;
  fits = later.fits;
  count = inv.count;
  numbered = inv.numbered;
  stations =
      λ i station is. station_sound world.net inv.valid world.inputs inputs later.longer station
      (inv.stations i station is);
  joined = inv.joined;
  traffic = traffic_sound world.net inv.valid world.inputs inputs later.longer world.traffic inv.traffic;
  run = inv.run;
}

pub changes_inputs_alone : ChangesInputsAlone
changes_inputs_alone world inputs = (refl, refl, refl, refl, refl, refl)

pub outputs_stay_within : OutputsStayWithin
outputs_stay_within net before after stations n valid longer within i station is j output there =
    prefix_trans output.taken _ _ (within i station is j output there)
    (history_grows net before after valid longer n output.channel)

-- coordination is said of stations and of what is in flight, and not of inputs
pub stays_coordinated : StaysCoordinated
stays_coordinated old new before after coordinated = coordinated

pub left_stays : LeftStays
left_stays net before after records outputs later left = ∥∥₁_map left (λ l. (with_inputs after l.0, at l.0 l.1))
  where
    at : (world : WorldView) → IsLeftBy net before records outputs world
        → IsLeftBy net after records outputs (with_inputs after world)
    at world l =
        let on_net = subst (λ (n : Network). AreLaterInputs n before after) (sym l.same_net) later in
        let there =
        subst (λ (inputs : List (List ℤ)). AreLaterInputs world.net inputs after) (sym l.same_inputs) on_net in
        record {
          true_before = stays_sound world after l.true_before there;
          same_net = l.same_net;
          same_inputs = refl;
          records_are = l.records_are;
          outputs_are = l.outputs_are;
        }
