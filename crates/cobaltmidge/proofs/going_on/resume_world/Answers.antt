use Rattle.std.proofs.Common.{◌≡◌, ◌∙◌, ℕ, ℤ, ap, List, Some, map, replicate, subst, sym}
use Rattle.std.specs.List.{AllByRecursion}
use Rattle.kahn_net.specs.Syntax.{network_of}
use Rattle.protocol.specs.Node.Common.{Channel, Net, Network, sectors_of}
use Rattle.protocol.specs.Node.Sharing.{even_rooms}
use Rattle.protocol.specs.World.Common.{output_channels, OutletView, with_rooms}
use Rattle.rerun.specs.Tables.{first_table}
use Rattle.rerun.specs.Whole.{inputs_in, net_in, table_in}
use Rattle.resuming.specs.Resuming.{Agrees}
use Rattle.sector_disk.specs.MemDisk.{failures_of}
use Rattle.station.specs.OutputView.{output_view, outputs_view}
use Rattle.station.specs.StationView.{outlet_views}
use Rattle.world.specs.WholeView.{world_of}
use Rattle.world.specs.WorldView.{capacities}
use Rattle.cobaltmidge.proofs.GoingOn.{all_agree, again, begins_again, begins_first, channels_are, channels_of, has_stopped, none_taken, views_left}
use Rattle.cobaltmidge.proofs.Turns.{if_ok_then, rooms_given}
use Rattle.cobaltmidge.specs.Beginning.{IsBeginning, limits_of}
use Rattle.cobaltmidge.specs.FirstWorld.{first_world}
use Rattle.cobaltmidge.proofs.going_on.resume_world.Goals as goal

pub catch_up-requires-clause-taken : goal.catch_up-requires-clause-taken
catch_up-requires-clause-taken g c =
    let rerun = c.in-Ok-Ok-Ok.rerun in
    none_taken g.O.Outlet.taken (net_in rerun) (inputs_in rerun) (table_in rerun) c.args.outputs.items
    (c.in-Ok-Ok-Ok.ensures.table ∙ ap first_table (sym c.in-Ok-Ok-Ok.ensures.net)) c.requires.unused

pub resume-requires-clause-listed : goal.resume-requires-clause-listed
resume-requires-clause-listed g c =
    let caught = c.in-Ok.caught in
    let same_net : net_in caught.rerun ≡ network_of c.args.net.now.value.program =
    c.in-Ok.ensures.net ∙ (c.in-Ok-Ok-Ok.ensures.net ∙ ap (λ (net : Net). network_of net.program) c.in-Ok-Ok.ensures') in
    sym (channels_are g.O.Outlet.taken caught.outputs.items)
    ∙ (c.in-Ok.ensures.caught_up.gone_on.channels
    ∙ (channels_are g.O.Outlet.taken c.args.outputs.items
    ∙ (c.requires.listed ∙ ap (λ (net : Network). output_channels 0 net.channels) (sym same_net))))

pub resume-requires-clause-agree : goal.resume-requires-clause-agree
resume-requires-clause-agree g c =
    let caught = c.in-Ok.caught in
    subst (λ (net : Network). AllByRecursion (λ output. Agrees net (inputs_in caught.rerun) (table_in caught.rerun)
    (output_view g.O.Outlet.taken output)) caught.outputs.items) (sym c.in-Ok.ensures.net)
    (subst (λ (inputs : List (List ℤ)). AllByRecursion (λ output. Agrees (net_in c.in-Ok-Ok-Ok.rerun) inputs
    (table_in caught.rerun) (output_view g.O.Outlet.taken output)) caught.outputs.items) (sym c.in-Ok.ensures.inputs)
    (all_agree g.O.Outlet.taken (net_in c.in-Ok-Ok-Ok.rerun) (inputs_in c.in-Ok-Ok-Ok.rerun) (table_in caught.rerun)
    caught.outputs.items c.in-Ok.ensures.caught_up.taken))

-- where the outputs held nothing
pub returns-then-held_nothing-clause-begins : goal.returns-then-held_nothing-clause-begins
returns-then-held_nothing-clause-begins g c =
    let net = network_of c.args.net.now.value.program in
    let held = c.args.held.now in
    if_ok_then (λ world. world_of world ≡ first_world net c.args.inputs c.args.room)
    (λ world. IsBeginning (Some held) net c.args.inputs c.args.room (world_of world)) c.first_world.result
    (λ world is. begins_first c.held_nothing.result net c.args.inputs c.args.room held (world_of world) c.held_nothing.ensures
    c.if-held_nothing.true is)
    c.first_world.ensures.first

pub returns-clause-begins : goal.returns-clause-begins
returns-clause-begins g c =
    let net = network_of c.args.net.now.value.program in
    let held = c.args.held.now in
    let caught = c.in-Ok.caught in
    let made = c.in-Ok-resume.ensures.made in
    let first_net : net_in c.in-Ok-Ok-Ok.rerun ≡ net =
    c.in-Ok-Ok-Ok.ensures.net ∙ ap (λ (net : Net). network_of net.program) c.in-Ok-Ok.ensures' in
    let first_inputs : inputs_in c.in-Ok-Ok-Ok.rerun ≡ c.args.inputs = c.in-Ok-Ok-Ok.ensures.inputs ∙ c.in-Ok-Ok.ensures.ok in
    let same_net : net_in caught.rerun ≡ net = c.in-Ok.ensures.net ∙ first_net in
    let same_inputs : inputs_in caught.rerun ≡ c.args.inputs = c.in-Ok.ensures.inputs ∙ first_inputs in
    let outlets = outlet_views g.O.Outlet.taken g.O.Outlet.failures caught.outputs.items in
    let listed : map (λ (outlet : OutletView). outlet.channel) outlets ≡ output_channels 0 net.channels =
    channels_of g.O.Outlet.taken g.O.Outlet.failures caught.outputs.items
    ∙ (sym (channels_are g.O.Outlet.taken caught.outputs.items)
    ∙ (c.in-Ok.ensures.caught_up.gone_on.channels
    ∙ (channels_are g.O.Outlet.taken c.args.outputs.items ∙ c.requires.listed))) in
    begins_again c.held_nothing.result net c.args.inputs c.args.room held (world_of c.set_room.new.self) c.held_nothing.ensures
    c.if-held_nothing.false
    (again net (net_in caught.rerun) c.args.inputs (inputs_in caught.rerun) c.args.room held (table_in caught.rerun)
    (map failures_of c.in-Ok-Ok-Ok.disks.items) outlets (world_of c.in-Ok-resume.world) (world_of c.set_room.new.self)
    caught.stopped
    (has_stopped net (net_in c.in-Ok-Ok-Ok.rerun) c.args.inputs (inputs_in c.in-Ok-Ok-Ok.rerun) held c.deref-3.result.now
    (outputs_view g.O.Outlet.taken c.args.outputs.items) (table_in c.in-Ok-Ok-Ok.rerun) (table_in caught.rerun)
    (outputs_view g.O.Outlet.taken caught.outputs.items) caught.stopped outlets first_net first_inputs
    (c.deref-3.ensures.value
    ∙ (c.in-Ok-Ok-Ok.ensures'
    ∙ ap (λ (channels : List Channel). limits_of channels held)
    (c.deref-2.ensures.value ∙ ap (λ (n : Net). n.program.channels.items) c.deref.ensures)))
    (c.in-Ok-Ok-Ok.ensures.table ∙ ap first_table (sym c.in-Ok-Ok-Ok.ensures.net ∙ first_net)) (views_left g.O.Outlet.taken g.O.Outlet.failures caught.outputs.items)
    c.in-Ok.ensures.caught_up)
    listed same_net same_inputs caught.rerun.reached
    (c.in-Ok-Ok-Ok.ensures''.unfailed ∙ ap (λ (n : ℕ). replicate n 0) c.requires.nodes) made.opening
    (c.in-Ok-set_room.ensures.set
    ∙ ap (λ (n : ℕ). with_rooms (even_rooms n) (world_of c.in-Ok-resume.world)) c.nearest_room.ensures))

pub returns-clause-room : goal.returns-clause-room
returns-clause-room g c =
    rooms_given sectors_of c.in-Ok-Ok-Ok.disks.items _
    (ap (λ stations. capacities stations) c.set_room.ensures.same.2 ∙ c.in-Ok-resume.ensures.made.room)
    c.in-Ok-Ok-Ok.ensures''.sectors
