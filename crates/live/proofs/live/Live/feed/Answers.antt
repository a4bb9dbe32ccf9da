use Rattle.std.proofs.Common.{◌≡◌, ap, subst, sym, true}
use Rattle.std.specs.Prelude.{map}
use Rattle.std.specs.declared.alloc.Global.{Global}
use Rattle.std.specs.declared.sync.Arc.{Arc}
use Rattle.growing.specs.WhateverComes.{HasGoneOn}
use Rattle.protocol.specs.Node.Common.{Net, network_of}
use Rattle.protocol.specs.World.Common.{WorldView}
use Rattle.station.specs.StationView.{station_view}
use Rattle.world.specs.Feeding.{is_input}
use Rattle.world.specs.WholeView.{world_of}
use Rattle.live.proofs.Advances.{came_on, stays_on}
use Rattle.live.proofs.Feeding.{gone_before, takes_inputs}
use Rattle.live.proofs.live.Live.feed.Goals as goal

pub returns-in_err-feed-clause-gone_on : goal.returns-in_err-feed-clause-gone_on
returns-in_err-feed-clause-gone_on g c = stays_on _ _ c.args.self.now.world.sound c.in_err-feed.ensures.unchanged

pub returns-clause-gone : goal.returns-clause-gone
returns-clause-gone g c =
    let old = c.args.self.now.world in
    let fed = c.feed.new.self in
    let view = station_view {cell = g.C.StableCell} {slots = g.C.SlotCell} g.O.Outlet.taken g.O.Outlet.failures in
    let same = c.in_ok-feed.ensures.same in
    let takes : is_input (network_of old.net.value.program) c.args.input ≡ true = takes_inputs _ _ _ c.in_ok-feed.ensures.accepted in
    gone_before (network_of old.net.value.program) (network_of fed.net.value.program) old.inputs.bases fed.inputs.bases
    (world_of old).stations (world_of fed).stations c.args.input c.let_go.new.self.inputs.bases
    (ap (λ (net : Arc Net Global). network_of net.value.program) same.0) same.1 (ap (map view) same.2) takes
    c.let_go.ensures.gone

pub returns-clause-gone_on : goal.returns-clause-gone_on
returns-clause-gone_on g c =
    subst (λ (world : WorldView). HasGoneOn (world_of c.args.self.now.world) world) (sym c.let_go.ensures.same.0)
    (came_on _ (world_of c.feed.new.self) _ c.args.self.now.world.sound c.in_ok-feed.ensures.fed c.in_ok-feed.ensures.later)
