use Rattle.std.proofs.Common.{◌≡◌, ◌≤◌, ◌∙◌, true, sym, arith}
use Rattle.std.proofs.lemmas.Grind.{elements}
use Rattle.std.proofs.lemmas.List.{length-map}
use Rattle.protocol.specs.Node.Common.{MAX_NODES, node_count}
use Rattle.protocol.specs.World.Quiet.{are_quiet}
use Rattle.protocol_laws.specs.Node.PlaceLaws.{nodes_few}
use Rattle.protocol_laws.specs.World.QuietLaws.{quiet_is_whole}
use Rattle.world.specs.WholeView.{nodes_in, world_of}
use Rattle.station.specs.StationView.{station_view}
use Rattle.live.specs.LiveViews.{live_view, world_on}
use Rattle.live.proofs.Advances.{inputs_stay, inputs_then_same, steps_go_on, then_same}
use Rattle.live.proofs.live.Live.advance.Goals as goal

pub returns-then-rests-clause-gone_on : goal.returns-then-rests-clause-gone_on
returns-then-rests-clause-gone_on g c =
    then_same (world_on c.args.self.now) (live_view c.loop-step.self) (live_view c.rests.new.self)
    (steps_go_on _ _ _ _ (live_view c.loop-step.self) c.args.self.now.world.sound c.loop-step.invariant.made) c.rests.ensures.same.0

pub returns-then-rests-clause-whole : goal.returns-then-rests-clause-whole
returns-then-rests-clause-whole g c = λ rests.
    let quiet : are_quiet (world_on c.rests.new.self) ≡ true = grind (arith, elements) in
    quiet_is_whole (world_on c.rests.new.self) c.rests.new.self.world.sound quiet

-- a network has at most 16 nodes
pub step-requires : goal.step-requires
step-requires g c =
    let world = c.args.self.now.world in
    let view = station_view {cell = g.C.StableCell} {slots = g.C.SlotCell} g.O.Outlet.taken g.O.Outlet.failures in
    let count : nodes_in world ≡ node_count (world_of world).net =
    world.stations.ok.0 ∙ (sym (length-map world.stations.items view) ∙ world.sound.count) in
    let few : node_count (world_of world).net ≤ MAX_NODES = nodes_few (world_of world).net world.sound.valid in
    let is : c.nodes-nodes.result ≡ nodes_in world = c.nodes-nodes.ensures in
    record { few = omega (arith, is, count, few) }

pub returns-in_err-step-clause-gone_on : goal.returns-in_err-step-clause-gone_on
returns-in_err-step-clause-gone_on g c =
    then_same (world_on c.args.self.now) (live_view c.loop-step.self) (live_view c.step.new.self)
    (steps_go_on _ _ _ _ (live_view c.loop-step.self) c.args.self.now.world.sound c.loop-step.invariant.made)
    (c.in_err-step.ensures.refused ∙ c.rests.ensures.same.0)

pub returns-then-rests-2-clause-gone_on : goal.returns-then-rests-2-clause-gone_on
returns-then-rests-2-clause-gone_on g c =
    then_same (world_on c.args.self.now) (live_view c.loop-step.self) (live_view c.rests-2.new.self)
    (steps_go_on _ _ _ _ (live_view c.loop-step.self) c.args.self.now.world.sound c.loop-step.invariant.made) c.rests-2.ensures.same.0

pub returns-then-rests-2-clause-whole : goal.returns-then-rests-2-clause-whole
returns-then-rests-2-clause-whole g c = λ rests.
    let quiet : are_quiet (world_on c.rests-2.new.self) ≡ true = grind (arith, elements) in
    quiet_is_whole (world_on c.rests-2.new.self) c.rests-2.new.self.world.sound quiet

pub returns-else-rests-2-clause-gone_on : goal.returns-else-rests-2-clause-gone_on
returns-else-rests-2-clause-gone_on g c =
    then_same (world_on c.args.self.now) (live_view c.loop-step.self) (live_view c.rests-2.new.self)
    (steps_go_on _ _ _ _ (live_view c.loop-step.self) c.args.self.now.world.sound c.loop-step.invariant.made) c.rests-2.ensures.same.0

pub returns-then-rests-clause-inputs : goal.returns-then-rests-clause-inputs
returns-then-rests-clause-inputs g c =
    inputs_then_same _ (live_view c.loop-step.self) (live_view c.rests.new.self)
    (inputs_stay _ _ _ _ (live_view c.loop-step.self) c.loop-step.invariant.made) c.rests.ensures.same.0

pub returns-in_err-step-clause-inputs : goal.returns-in_err-step-clause-inputs
returns-in_err-step-clause-inputs g c =
    inputs_then_same _ (live_view c.loop-step.self) (live_view c.step.new.self)
    (inputs_stay _ _ _ _ (live_view c.loop-step.self) c.loop-step.invariant.made) (c.in_err-step.ensures.refused ∙ c.rests.ensures.same.0)

pub returns-then-rests-2-clause-inputs : goal.returns-then-rests-2-clause-inputs
returns-then-rests-2-clause-inputs g c =
    inputs_then_same _ (live_view c.loop-step.self) (live_view c.rests-2.new.self)
    (inputs_stay _ _ _ _ (live_view c.loop-step.self) c.loop-step.invariant.made) c.rests-2.ensures.same.0

pub returns-else-rests-2-clause-inputs : goal.returns-else-rests-2-clause-inputs
returns-else-rests-2-clause-inputs g c =
    inputs_then_same _ (live_view c.loop-step.self) (live_view c.rests-2.new.self)
    (inputs_stay _ _ _ _ (live_view c.loop-step.self) c.loop-step.invariant.made) c.rests-2.ensures.same.0
