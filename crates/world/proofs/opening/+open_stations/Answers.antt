use Rattle.std.proofs.Common.{rules, ◌≡◌, ◌++◌, vec_len, ◌≤◌, length, map, sym, ap, subst, ◌∙◌, arith}
use Rattle.protocol.specs.Node.Common.{node_count, network_of, MAX_NODES, slot_room_on}
use Rattle.ckpt_store.specs.StoreView.{cell_in}
use Rattle.slot_cell.specs.SplitCell.{disk_in}
use Rattle.protocol.specs.World.Common.{is_output}
use Rattle.protocol_laws.specs.Node.PlaceLaws.{nodes_few}
use Rattle.world.proofs.OpenedStations.{none_opened, last_back, before_back, world_refused, last_refused}
use Rattle.world.proofs.OpenedStations.{before_refused, station_opened, stations_more, others_left, nothing_before}
use Rattle.world.proofs.OpenedStations.{fewer_left, version_valid}
use Rattle.station.specs.OutputView.{fresh}
use Rattle.world.specs.OpeningWorld.{own_outputs, IsVersion}
use Rattle.world.proofs.opening.+open_stations.Goals as goal

pub overflow_cast-number : goal.overflow_cast-number
overflow_cast-number g t c =
    let net = network_of c.args.net.now.program in
    let few : node_count net ≤ MAX_NODES = nodes_few net c.args.net.now.valid in
    omega (arith, few, c.requires.nodes, c.requires.few, c.pop.ensures.len, c.len-number.ensures)

pub returns-in_default-2-clause-handed_back : goal.returns-in_default-2-clause-handed_back
returns-in_default-2-clause-handed_back g t c =
    none_opened g.D.Disk.sector_count g.D.Disk.failure_count c.args.disks.now.items c.push_reserved.new.self.items
    (c.push_reserved.ensures.items ∙ sym c.in-Some.ensures.items)

pub returns-in_default-2-clause-refused : goal.returns-in_default-2-clause-refused
returns-in_default-2-clause-refused g t c =
    world_refused (network_of c.args.net.now.program) 0
    (map (λ disk. g.D.Disk.sector_count disk) c.args.disks.now.items)

pub open_node-requires-clause-few : goal.open_node-requires-clause-few
open_node-requires-clause-few g t c =
    let net = network_of c.args.net.now.program in
    let few : node_count net ≤ MAX_NODES = nodes_few net c.args.net.now.valid in
    omega (arith, few, c.requires.nodes)

pub open_node-requires-clause-version : goal.open_node-requires-clause-version
open_node-requires-clause-version g t c =
    subst IsVersion (sym c.version_for-version.ensures)
    (version_valid c.args.versions.now c.len-number.result c.requires.versions)

pub returns-in-Err-clause-handed_back : goal.returns-in-Err-clause-handed_back
returns-in-Err-clause-handed_back g t c =
    last_back g.D.Disk.sector_count g.D.Disk.failure_count c.pop.new.self.items c.args.disks.now.items
    c.push_reserved-in-Err.new.self.items
    c.in-Some.disk c.in-Err.refused.disk c.in-Err.refused.fault c.in-Some.ensures.items
    c.push_reserved-in-Err.ensures.items
    c.in-Err.ensures.refused

pub returns-in-Err-clause-refused : goal.returns-in-Err-clause-refused
returns-in-Err-clause-refused g t c =
    let place : c.len-number.result ≡ length c.pop.new.self.items = search rules in
    last_refused (network_of c.args.net.now.program) g.D.Disk.sector_count c.args.nodes c.len-number.result
    c.pop.new.self.items
    c.args.disks.now.items c.in-Some.disk c.in-Err.refused.fault c.requires.nodes place c.in-Some.ensures.items
    c.in-Err.ensures.refused.why

pub returns-in-Ok-open_stations-clause-opened : goal.returns-in-Ok-open_stations-clause-opened
returns-in-Ok-open_stations-clause-opened g t c =
    let net = network_of c.args.net.now.program in
    let place : c.len-number.result ≡ length c.pop.new.self.items = search rules in
    stations_more g.O.Outlet.taken g.O.Outlet.failures net c.args.versions.now c.args.outputs.now.items c.pop.new.self.items
    c.args.disks.now.items
    c.in-Some.disk c.open_stations.new.stations.items c.push_reserved-in-Ok-open_stations.new.self.items c.new.result
    c.len-number.result c.in-Some.ensures.items place c.push_reserved-in-Ok-open_stations.ensures.items
    c.in-Ok-open_stations.ensures.opened
    (station_opened g.O.Outlet.taken g.O.Outlet.failures net c.args.versions.now c.args.outputs.now.items c.args.nodes
    c.len-number.result c.version_for-version.result c.in-Some.disk
    c.replace-given.result.items c.forget_failures.new.outputs.items c.in-Ok.node c.new.result c.requires.nodes
    c.version_for-version.ensures c.in-Ok.ensures.opened
    (ap (λ given. own_outputs net c.len-number.result given.items) c.replace-given.ensures.value
    ∙ c.in-Ok-open_stations.ensures.rest c.len-number.result (omega (arith, c.len-number.ensures)))
    (c.forget_failures.ensures
    ∙ ap (map fresh) (c.part_outputs.ensures.own
    ∙ ap (λ before. before ++ own_outputs net c.len-number.result c.replace-given.result.items)
    c.in-Ok-Ok.ensures.items))
    c.new.ensures.node (ap (λ outputs. outputs.items) c.new.ensures.outputs) c.new.ensures.turns)

pub returns-in-Ok-open_stations-clause-rest : goal.returns-in-Ok-open_stations-clause-rest
returns-in-Ok-open_stations-clause-rest g t c =
    let net = network_of c.args.net.now.program in
    others_left net c.args.outputs.now.items c.replace-given.result.items
    c.part_outputs.new.others.items c.len-number.result _
    (nothing_before c.replace-given.new.dest.items c.part_outputs.new.others.items
    _ (ap (λ outputs. outputs.items) c.replace-given.ensures.after ∙ c.in-Ok-Ok.ensures'.items)
    c.part_outputs.ensures.others)
    (search rules)
    (λ home behind. ap (λ given. own_outputs net home given.items) c.replace-given.ensures.value
    ∙ c.in-Ok-open_stations.ensures.rest home (omega (arith, behind, c.len-number.ensures)))

pub returns-in-Ok-open_stations-clause-fewer : goal.returns-in-Ok-open_stations-clause-fewer
returns-in-Ok-open_stations-clause-fewer g t c =
    let net = network_of c.args.net.now.program in
    let others =
    nothing_before c.replace-given.new.dest.items c.part_outputs.new.others.items
    _ (ap (λ outputs. outputs.items) c.replace-given.ensures.after ∙ c.in-Ok-Ok.ensures'.items)
    c.part_outputs.ensures.others in
    let few : length c.part_outputs.new.others.items ≤ length c.replace-given.result.items =
    fewer_left (λ output. is_output net c.len-number.result output.channel) c.replace-given.result.items
    c.part_outputs.new.others.items others in
    let given : vec_len c.replace-given.result ≡ vec_len c.open_stations.new.outputs =
    ap (λ given. vec_len given) c.replace-given.ensures.value in
    let long : vec_len c.part_outputs.new.others ≡ length c.part_outputs.new.others.items = search rules in
    let wide : vec_len c.replace-given.result ≡ length c.replace-given.result.items = search rules in
    omega (arith, few, given, long, wide, c.in-Ok-open_stations.ensures.fewer)

pub returns-in-Err-open_stations-clause-handed_back :
    goal.returns-in-Err-open_stations-clause-handed_back
returns-in-Err-open_stations-clause-handed_back g t c =
    before_back g.D.Disk.sector_count g.D.Disk.failure_count c.pop.new.self.items c.open_stations.new.disks.items
    c.args.disks.now.items c.push_reserved-in-Err-open_stations.new.self.items c.in-Some.disk
    c.close-in-Err-open_stations.result c.in-Err-open_stations.fault c.in-Some.ensures.items
    c.push_reserved-in-Err-open_stations.ensures.items c.in-Err-open_stations.ensures.handed_back
    (ap (λ disk. slot_room_on (g.D.Disk.sector_count disk))
    (c.close-in-Err-open_stations.ensures ∙ (ap disk_in c.close.ensures ∙ ap (λ store. disk_in (cell_in store)) c.into_store.ensures))
    ∙ c.in-Ok.ensures.opened.room)
    (ap g.D.Disk.failure_count (c.close-in-Err-open_stations.ensures ∙ (ap disk_in c.close.ensures ∙ ap (λ store. disk_in (cell_in store)) c.into_store.ensures))
    ∙ c.in-Ok.ensures.opened.failures)

pub returns-in-Err-open_stations-clause-refused : goal.returns-in-Err-open_stations-clause-refused
returns-in-Err-open_stations-clause-refused g t c =
    before_refused (network_of c.args.net.now.program) g.D.Disk.sector_count c.pop.new.self.items c.args.disks.now.items
    c.in-Some.disk c.in-Err-open_stations.fault c.in-Some.ensures.items c.in-Err-open_stations.ensures.refused
