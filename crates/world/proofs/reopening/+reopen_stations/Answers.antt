use Rattle.std.proofs.Common.{rules, ℕ, ◌≡◌, ◌++◌, vec_len, ◌≤◌, length, map, sym, ap, subst, ◌∙◌, arith}
use Rattle.protocol.specs.Node.Common.{node_count, network_of, MAX_NODES, slot_room_on}
use Rattle.ckpt_store.specs.StoreView.{cell_in}
use Rattle.slot_cell.specs.SplitCell.{disk_in}
use Rattle.protocol.specs.World.Common.{is_output}
use Rattle.protocol_laws.specs.Node.PlaceLaws.{nodes_few}
use Rattle.station.specs.OutputView.{fresh}
use Rattle.world.proofs.OpenedStations.{before_back, fewer_left, last_back, none_opened, nothing_before, others_left}
use Rattle.world.proofs.Reopened.{as_not_opened, AsLeft}
use Rattle.world.proofs.ReopenedStations.{all_same, disks_back, more_reopened, none_changed, Own, own_front, own_last}
use Rattle.world.proofs.ReopenedStations.{station_reopened}
use Rattle.world.specs.OpeningWorld.{own_outputs}
use Rattle.world.specs.Reopening.{HoldsItsOwn}
use Rattle.std.proofs.lemmas.Grind.{elements}
use Rattle.world.proofs.reopening.+reopen_stations.Goals as goal

pub overflow_cast-number : goal.overflow_cast-number
overflow_cast-number g t c =
    let net = network_of c.args.net.now.program in
    let few : node_count net ≤ MAX_NODES = nodes_few net c.args.net.now.valid in
    omega (arith, few, c.requires.few, c.take_last.ensures.len, c.len-number.ensures)

pub returns-in_default-2-clause-handed_back : goal.returns-in_default-2-clause-handed_back
returns-in_default-2-clause-handed_back g t c =
    none_opened g.D.Disk.sector_count g.D.Disk.failure_count c.args.disks.now.items c.push_reserved.new.self.items
    (c.push_reserved.ensures.items ∙ sym c.in-Some.ensures.items)

pub returns-in_default-2-clause-as_left : goal.returns-in_default-2-clause-as_left
returns-in_default-2-clause-as_left g t c =
    none_changed g.D.Disk c.args.disks.now.items c.push_reserved.new.self.items c.requires.own
    (c.push_reserved.ensures.items ∙ sym c.in-Some.ensures.items)

pub reopen_node-requires : goal.reopen_node-requires
reopen_node-requires g t c =
    let place : length c.take_last.new.disks.items ≡ c.len-number.result = search rules in
    record {
      own = subst (λ (n : ℕ). HoldsItsOwn g.D.Disk.sector_count g.D.Disk.content g.D.Disk.may_leave n c.in-Some.disk)
          place c.in-Some.ensures.last;
    }

pub returns-in-Err-clause-handed_back : goal.returns-in-Err-clause-handed_back
returns-in-Err-clause-handed_back g t c =
    let last =
    own_last g.D.Disk 0 c.take_last.new.disks.items c.in-Some.disk
    (subst (Own g.D.Disk 0) c.in-Some.ensures.items c.requires.own) in
    last_back g.D.Disk.sector_count g.D.Disk.failure_count c.take_last.new.disks.items c.args.disks.now.items
    c.push_reserved-in-Err.new.self.items
    c.in-Some.disk c.in-Err.refused.disk c.in-Err.refused.fault c.in-Some.ensures.items
    c.push_reserved-in-Err.ensures.items
    (as_not_opened g.D.Disk c.in-Some.disk c.in-Err.refused.disk c.in-Err.refused.fault last.held
    c.in-Err.ensures.refused)

pub returns-in-Err-clause-as_left : goal.returns-in-Err-clause-as_left
returns-in-Err-clause-as_left g t c =
    disks_back g.D.Disk c.take_last.new.disks.items c.take_last.new.disks.items c.args.disks.now.items
    c.push_reserved-in-Err.new.self.items c.in-Some.disk c.in-Err.refused.disk c.in-Some.ensures.items
    c.push_reserved-in-Err.ensures.items
    (all_same g.D.Disk 0 c.take_last.new.disks.items
    (own_front g.D.Disk 0 c.take_last.new.disks.items c.in-Some.disk
    (subst (Own g.D.Disk 0) c.in-Some.ensures.items c.requires.own)))
    c.in-Err.ensures.refused.as_left

pub returns-in-Err-clause-refused : goal.returns-in-Err-clause-refused
returns-in-Err-clause-refused g t c = c.in-Err.ensures.refused.why

pub returns-in-Ok-reopen_stations-clause-opened : goal.returns-in-Ok-reopen_stations-clause-opened
returns-in-Ok-reopen_stations-clause-opened g t c =
    let net = network_of c.args.net.now.program in
    let place : c.len-number.result ≡ length c.take_last.new.disks.items = grind (arith, elements) in
    more_reopened g.O.Outlet.taken g.O.Outlet.failures net c.args.outputs.now.items c.take_last.new.disks.items
    c.args.disks.now.items
    c.in-Some.disk c.reopen_stations.new.stations.items c.push_reserved-in-Ok-reopen_stations.new.self.items c.new.result
    c.len-number.result c.in-Some.ensures.items place c.push_reserved-in-Ok-reopen_stations.ensures.items
    c.in-Ok-reopen_stations.ensures.opened
    (station_reopened g.O.Outlet.taken g.O.Outlet.failures net c.args.outputs.now.items
    c.len-number.result c.in-Some.disk
    c.replace-given.result.items c.forget_failures.new.outputs.items c.in-Ok.node c.new.result
    c.in-Ok.ensures.opened
    (ap (λ given. own_outputs net c.len-number.result given.items) c.replace-given.ensures.value
    ∙ c.in-Ok-reopen_stations.ensures.rest c.len-number.result (omega (arith, c.len-number.ensures)))
    (c.forget_failures.ensures
    ∙ ap (map fresh) (c.part_outputs.ensures.own
    ∙ ap (λ before. before ++ own_outputs net c.len-number.result c.replace-given.result.items)
    c.in-Ok-Ok.ensures.items))
    c.new.ensures.node (ap (λ outputs. outputs.items) c.new.ensures.outputs) c.new.ensures.turns)

pub returns-in-Ok-reopen_stations-clause-rest : goal.returns-in-Ok-reopen_stations-clause-rest
returns-in-Ok-reopen_stations-clause-rest g t c =
    let net = network_of c.args.net.now.program in
    others_left net c.args.outputs.now.items c.replace-given.result.items
    c.part_outputs.new.others.items c.len-number.result _
    (nothing_before c.replace-given.new.dest.items c.part_outputs.new.others.items
    _ (ap (λ outputs. outputs.items) c.replace-given.ensures.after ∙ c.in-Ok-Ok.ensures'.items)
    c.part_outputs.ensures.others)
    (grind (arith, elements))
    (λ home behind. ap (λ given. own_outputs net home given.items) c.replace-given.ensures.value
    ∙ c.in-Ok-reopen_stations.ensures.rest home (omega (arith, behind, c.len-number.ensures)))

pub returns-in-Ok-reopen_stations-clause-fewer : goal.returns-in-Ok-reopen_stations-clause-fewer
returns-in-Ok-reopen_stations-clause-fewer g t c =
    let net = network_of c.args.net.now.program in
    let others =
    nothing_before c.replace-given.new.dest.items c.part_outputs.new.others.items
    _ (ap (λ outputs. outputs.items) c.replace-given.ensures.after ∙ c.in-Ok-Ok.ensures'.items)
    c.part_outputs.ensures.others in
    let few : length c.part_outputs.new.others.items ≤ length c.replace-given.result.items =
    fewer_left (λ output. is_output net c.len-number.result output.channel) c.replace-given.result.items
    c.part_outputs.new.others.items others in
    let given : vec_len c.replace-given.result ≡ vec_len c.reopen_stations.new.outputs =
    ap (λ given. vec_len given) c.replace-given.ensures.value in
    let long : vec_len c.part_outputs.new.others ≡ length c.part_outputs.new.others.items = search rules in
    let wide : vec_len c.replace-given.result ≡ length c.replace-given.result.items = search rules in
    omega (arith, few, given, long, wide, c.in-Ok-reopen_stations.ensures.fewer)

pub returns-in-Err-reopen_stations-clause-handed_back : goal.returns-in-Err-reopen_stations-clause-handed_back
returns-in-Err-reopen_stations-clause-handed_back g t c =
    before_back g.D.Disk.sector_count g.D.Disk.failure_count c.take_last.new.disks.items c.reopen_stations.new.disks.items
    c.args.disks.now.items c.push_reserved-in-Err-reopen_stations.new.self.items c.in-Some.disk
    c.close-in-Err-reopen_stations.result c.in-Err-reopen_stations.fault c.in-Some.ensures.items
    c.push_reserved-in-Err-reopen_stations.ensures.items c.in-Err-reopen_stations.ensures.handed_back
    (ap (λ disk. slot_room_on (g.D.Disk.sector_count disk))
    (c.close-in-Err-reopen_stations.ensures ∙ (ap disk_in c.close.ensures ∙ ap (λ store. disk_in (cell_in store)) c.into_store.ensures))
    ∙ c.in-Ok.ensures.opened.room)
    (ap g.D.Disk.failure_count (c.close-in-Err-reopen_stations.ensures ∙ (ap disk_in c.close.ensures ∙ ap (λ store. disk_in (cell_in store)) c.into_store.ensures))
    ∙ c.in-Ok.ensures.opened.failures)

pub returns-in-Err-reopen_stations-clause-as_left : goal.returns-in-Err-reopen_stations-clause-as_left
returns-in-Err-reopen_stations-clause-as_left g t c =
    disks_back g.D.Disk c.take_last.new.disks.items c.reopen_stations.new.disks.items c.args.disks.now.items
    c.push_reserved-in-Err-reopen_stations.new.self.items c.in-Some.disk c.close-in-Err-reopen_stations.result
    c.in-Some.ensures.items c.push_reserved-in-Err-reopen_stations.ensures.items
    c.in-Err-reopen_stations.ensures.as_left
    (subst (AsLeft g.D.Disk c.in-Some.disk) (sym (c.close-in-Err-reopen_stations.ensures ∙ (ap disk_in c.close.ensures ∙ ap (λ store. disk_in (cell_in store)) c.into_store.ensures)))
    c.in-Ok.ensures.opened.as_left)

pub returns-in-Err-reopen_stations-clause-refused : goal.returns-in-Err-reopen_stations-clause-refused
returns-in-Err-reopen_stations-clause-refused g t c = c.in-Err-reopen_stations.ensures.refused
