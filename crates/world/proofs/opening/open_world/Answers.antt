use Rattle.std.proofs.Common.{ℕ, ℤ, List, length, map, refl, ap, sym, subst, ◌∙◌}
use Rattle.protocol.specs.Node.AtHand.{HaveGot}
use Rattle.protocol.specs.Node.Common.{Fits, network_of, Net}
use Rattle.protocol_laws.specs.Node.AtHandLaws.{got_nothing}
use Rattle.protocol_laws.specs.World.PrefixLaws.{released_prefix}
use Rattle.protocol.specs.World.Common.{opening_world, records_of, traffic_of}
use Rattle.station.specs.OutputView.{fresh}
use Rattle.station.specs.StationView.{outlet_views, station_view}
use Rattle.world.specs.OpeningWorld.{IsWorldRefusal}
use Rattle.world.proofs.LetGo.{first_of}
use Rattle.world.proofs.OpenedStations.{opened_all, opened_sound, opened_world, opened_outlets, opened_left}
use Rattle.world.proofs.OpenedStations.{opened_armed, opened_calls, opened_rooms, opened_fits, opened_versions, world_refused, none_opened}
use Rattle.std.proofs.Common.{arith}
use Rattle.std.proofs.lemmas.Grind.{elements}
use Rattle.world.proofs.opening.open_world.Goals as goal

pub invariant_of-result : goal.invariant_of-result
invariant_of-result g c =
    let taken = g.O.Outlet.taken in
    let failures = g.O.Outlet.failures in
    let net = network_of c.args.net.value.program in
    let arrived = c.in-Ok-Ok-Ok.inputs in
    let stations = c.open_stations.new.stations.items in
    record {
      sound = opened_sound taken failures c.deref.result.now c.args.net.value c.args.versions.now c.args.disks.items
          c.args.outputs.items (map fresh c.args.outputs.items) stations c.deref.ensures refl c.in-Ok.ensures.opened arrived.came
          (traffic_of c.in-Ok-Ok-Ok.wire) c.even.result c.in-Ok-Ok-Ok.ensures' c.even.ensures
          (subst (Fits net) (sym c.in-Ok-Ok-Ok.ensures.came) c.requires.fits) c.requires.each c.requires.listed c.requires.empty;
      got = subst (λ (bases : List ℕ). HaveGot net bases (records_of (map (station_view taken failures) stations)))
          (sym c.in-Ok-Ok-Ok.ensures.bases)
          (got_nothing net (length c.args.inputs) (records_of (map (station_view taken failures) stations)));
    }

pub returns-in-Ok-clause-made : goal.returns-in-Ok-clause-made
returns-in-Ok-clause-made g c =
    let taken = g.O.Outlet.taken in
    let failures = g.O.Outlet.failures in
    let net = network_of c.args.net.value.program in
    let versions = c.args.versions.now in
    let disks = c.args.disks.items in
    let outputs = c.args.outputs.items in
    let arrived = c.in-Ok-Ok-Ok.inputs in
    let stations = c.open_stations.new.stations.items in
    let all =
    opened_all taken failures c.deref.result.now c.args.net.value versions disks outputs (map fresh outputs) stations
    c.deref.ensures refl c.in-Ok.ensures.opened in
    record {
      opening = opened_world taken failures c.deref.result.now c.args.net.value versions disks outputs
          (map fresh outputs) stations c.deref.ensures refl c.in-Ok.ensures.opened arrived.came
          (traffic_of c.in-Ok-Ok-Ok.wire) c.even.result c.in-Ok-Ok-Ok.ensures' c.even.ensures
          ∙ ap (λ (lists : List (List ℤ)). opening_world net lists (map (λ d. g.D.Disk.failure_count d) disks)
          (outlet_views taken failures outputs)) c.in-Ok-Ok-Ok.ensures.came;
      same = (refl, first_of arrived c.args.inputs c.in-Ok-Ok-Ok.ensures.came c.in-Ok-Ok-Ok.ensures.bases);
      fresh_inputs = c.none_closed.ensures;
      outlets = opened_outlets taken failures net versions outputs 0 disks stations all;
      prefix = released_prefix _
          (opened_sound taken failures c.deref.result.now c.args.net.value versions disks outputs (map fresh outputs)
          stations c.deref.ensures refl c.in-Ok.ensures.opened arrived.came (traffic_of c.in-Ok-Ok-Ok.wire)
          c.even.result c.in-Ok-Ok-Ok.ensures' c.even.ensures
          (subst (Fits net) (sym c.in-Ok-Ok-Ok.ensures.came) c.requires.fits) c.requires.each c.requires.listed
          c.requires.empty);
      left = opened_left taken failures net versions (map fresh outputs) 0 disks stations all;
      formatted = opened_versions taken failures net versions (map fresh outputs) 0 disks stations all;
      room = opened_rooms taken failures net versions (map fresh outputs) 0 disks stations all;
      armed = opened_armed taken failures net versions (map fresh outputs) 0 disks stations all;
      counted = opened_calls taken failures net versions (map fresh outputs) 0 disks stations all;
      fits = opened_fits taken failures net versions (map fresh outputs) 0 disks stations all;
    }

pub returns-in_default-clause-refused : goal.returns-in_default-clause-refused
returns-in_default-clause-refused g c = record {
  why = world_refused (network_of c.args.net.value.program) 0
      (map (λ d. g.D.Disk.sector_count d) c.args.disks.items);
  handed_back = none_opened g.D.Disk.sector_count g.D.Disk.failure_count c.args.disks.items c.args.disks.items refl;
  same_outputs = refl;
}

pub returns-in-Err-clause-refused : goal.returns-in-Err-clause-refused
returns-in-Err-clause-refused g c = record {
  why = subst (λ (n : Net). IsWorldRefusal (network_of n.program) 0
      (map (λ d. g.D.Disk.sector_count d) c.args.disks.items) c.in-Err.fault) c.deref.ensures c.in-Err.ensures.refused;
  handed_back = c.in-Err.ensures.handed_back;
  same_outputs = c.in-Err.ensures.same_outputs;
}

pub open_stations-requires-clause-nodes : goal.open_stations-requires-clause-nodes
open_stations-requires-clause-nodes g c = grind (arith, elements)
