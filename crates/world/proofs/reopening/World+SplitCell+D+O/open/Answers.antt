use Rattle.std.proofs.Common.{rules, ◌≡◌, ◌≤◌, ℕ, ℤ, List, vec_len, length, map, refl, ap, sym, subst, ◌∙◌, arith}
use Rattle.protocol.specs.Node.AtHand.{HaveGot}
use Rattle.protocol.specs.Node.Common.{Net, network_of, node_count}
use Rattle.protocol.specs.World.Common.{records_of, traffic_of}
use Rattle.protocol_laws.specs.Node.AtHandLaws.{got_nothing}
use Rattle.protocol_laws.specs.World.PrefixLaws.{released_prefix}
use Rattle.starting_again.specs.WasLeft.{OpensOver}
use Rattle.station.specs.OutputView.{fresh, outputs_view}
use Rattle.station.specs.StationView.{outlet_views, station_view}
use Rattle.world.specs.Left.{AreLeft, records_on}
use Rattle.world.specs.Reopening.{world_again}
use Rattle.world.proofs.LetGo.{first_of}
use Rattle.world.proofs.OpenedStations.{none_opened}
use Rattle.world.proofs.ReopenedStations.{left_again, left_few, left_own, none_changed, reopened_all, reopened_armed}
use Rattle.world.proofs.ReopenedStations.{reopened_calls, reopened_left, reopened_opens, reopened_outlets, reopened_rooms}
use Rattle.world.proofs.ReopenedStations.{reopened_soundly, reopened_world, world_at}
use Rattle.world.proofs.reopening.World+SplitCell+D+O.open.Goals as goal

pub reopen_stations-requires-clause-few : goal.reopen_stations-requires-clause-few
reopen_stations-requires-clause-few g c =
    let few : length c.args.disks.items ≡ node_count (network_of c.args.net.value.program) =
    left_few g.D.Disk g.O.Outlet.taken (network_of c.args.net.value.program) c.args.inputs c.args.disks.items
    c.args.outputs.items c.requires.left in
    let long : vec_len c.args.disks ≡ length c.args.disks.items = search rules in
    subst (λ (n : Net). vec_len c.args.disks ≤ node_count (network_of n.program)) (sym c.deref.ensures)
    (omega (arith, few, long))

pub reopen_stations-requires-clause-own : goal.reopen_stations-requires-clause-own
reopen_stations-requires-clause-own g c =
    left_own g.D.Disk g.O.Outlet.taken (network_of c.args.net.value.program) c.args.inputs c.args.disks.items
    c.args.outputs.items c.requires.left

pub invariant_of-result : goal.invariant_of-result
invariant_of-result g c =
    let taken = g.O.Outlet.taken in
    let failures = g.O.Outlet.failures in
    let net = network_of c.args.net.value.program in
    let disks = c.args.disks.items in
    let outputs = c.args.outputs.items in
    let arrived = c.in-Ok-Ok-Ok.inputs in
    let stations = c.reopen_stations.new.stations.items in
    record {
      sound = (reopened_soundly taken failures c.deref.result.now c.args.net.value arrived.came disks outputs (map fresh outputs)
          stations (traffic_of c.in-Ok-Ok-Ok.wire) c.even.result c.deref.ensures refl c.in-Ok-Ok-Ok.ensures' c.even.ensures
          c.in-Ok.ensures.opened
          (subst (λ (lists : List (List ℤ)). AreLeft g.D.Disk.sector_count g.D.Disk.content g.D.Disk.may_leave taken net lists
          disks outputs) (sym c.in-Ok-Ok-Ok.ensures.came) c.requires.left)).0;
      got = subst (λ (bases : List ℕ). HaveGot net bases (records_of (map (station_view taken failures) stations)))
          (sym c.in-Ok-Ok-Ok.ensures.bases)
          (got_nothing net (length c.args.inputs) (records_of (map (station_view taken failures) stations)));
    }

pub returns-in-Ok-clause-made : goal.returns-in-Ok-clause-made
returns-in-Ok-clause-made g c =
    let taken = g.O.Outlet.taken in
    let failures = g.O.Outlet.failures in
    let net = network_of c.args.net.value.program in
    let disks = c.args.disks.items in
    let outputs = c.args.outputs.items in
    let arrived = c.in-Ok-Ok-Ok.inputs in
    let came = c.in-Ok-Ok-Ok.ensures.came in
    let stations = c.reopen_stations.new.stations.items in
    let traffic = traffic_of c.in-Ok-Ok-Ok.wire in
    let all =
    reopened_all taken failures c.deref.result.now c.args.net.value arrived.came disks outputs
    (map fresh outputs) stations traffic c.even.result c.deref.ensures refl c.in-Ok-Ok-Ok.ensures' c.even.ensures
    c.in-Ok.ensures.opened in
    let sound =
    reopened_soundly taken failures c.deref.result.now c.args.net.value arrived.came disks outputs
    (map fresh outputs) stations traffic c.even.result c.deref.ensures refl c.in-Ok-Ok-Ok.ensures' c.even.ensures
    c.in-Ok.ensures.opened
    (subst (λ (lists : List (List ℤ)). AreLeft g.D.Disk.sector_count g.D.Disk.content g.D.Disk.may_leave taken net lists
    disks outputs) (sym came) c.requires.left) in
    record {
      opening = reopened_world taken failures c.deref.result.now c.args.net.value arrived.came disks outputs
          (map fresh outputs) stations traffic c.even.result c.deref.ensures refl c.in-Ok-Ok-Ok.ensures' c.even.ensures
          c.in-Ok.ensures.opened
          ∙ ap (λ (lists : List (List ℤ)). world_again net lists (records_on g.D.Disk.sector_count g.D.Disk.content disks)
          (map (λ d. g.D.Disk.failure_count d) disks) (outlet_views taken failures outputs)) came;
      opens = subst (λ (lists : List (List ℤ)). OpensOver net lists
          (records_on g.D.Disk.sector_count g.D.Disk.content disks) (outputs_view taken outputs) (world_at net arrived.came
          (map (station_view taken failures) stations) traffic c.even.result)) came
          (reopened_opens taken failures c.deref.result.now c.args.net.value arrived.came disks outputs
          (map fresh outputs) stations traffic c.even.result c.deref.ensures refl c.in-Ok-Ok-Ok.ensures' c.even.ensures
          c.in-Ok.ensures.opened);
      same_left = sound.1;
      same = (refl, first_of arrived c.args.inputs came c.in-Ok-Ok-Ok.ensures.bases);
      fresh_inputs = c.none_closed.ensures;
      outlets = reopened_outlets taken failures net outputs 0 disks stations all;
      prefix = released_prefix _ sound.0;
      left = reopened_left taken failures net (map fresh outputs) 0 disks stations all;
      room = reopened_rooms taken failures net (map fresh outputs) 0 disks stations all;
      armed = reopened_armed taken failures net (map fresh outputs) 0 disks stations all;
      counted = reopened_calls taken failures net (map fresh outputs) 0 disks stations all;
    }

pub returns-in_default-clause-refused : goal.returns-in_default-clause-refused
returns-in_default-clause-refused g c = record {
  why = tt;
  handed_back = none_opened g.D.Disk.sector_count g.D.Disk.failure_count c.args.disks.items c.args.disks.items refl;
  as_left = none_changed g.D.Disk c.args.disks.items c.args.disks.items
      (left_own g.D.Disk g.O.Outlet.taken (network_of c.args.net.value.program) c.args.inputs
      c.args.disks.items c.args.outputs.items c.requires.left) refl;
  same_outputs = refl;
  left = c.requires.left;
}

pub returns-in-Err-clause-refused : goal.returns-in-Err-clause-refused
returns-in-Err-clause-refused g c = record {
  why = c.in-Err.ensures.refused;
  handed_back = c.in-Err.ensures.handed_back;
  as_left = c.in-Err.ensures.as_left;
  same_outputs = c.in-Err.ensures.same_outputs;
  left = left_again g.D.Disk g.O.Outlet.taken (network_of c.args.net.value.program) c.args.inputs
      c.args.disks.items c.reopen_stations.new.disks.items c.args.outputs.items c.reopen_stations.new.outputs.items
      c.requires.left c.in-Err.ensures.as_left c.in-Err.ensures.same_outputs;
}
