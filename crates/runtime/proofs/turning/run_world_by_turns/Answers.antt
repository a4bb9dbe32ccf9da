use Rattle.std.proofs.Common.{rules, ◌≡◌, ◌≤◌, ◌∙◌, ℕ, List, sym, refl, subst, arith}
use Rattle.std.proofs.lemmas.List.{length-map}
use Rattle.protocol.specs.Node.Common.{node_count, MAX_NODES}
use Rattle.protocol_laws.specs.Node.PlaceLaws.{nodes_few}
use Rattle.station.specs.StationView.{station_view}
use Rattle.protocol.specs.Node.Common.{Channel}
use Rattle.runtime.specs.Ending.{IsOver, is_over}
use Rattle.runtime.specs.Turning.{EndsByTurns}
use Rattle.world.specs.WholeView.{nodes_in, rooms_in, world_of}
use Rattle.runtime.proofs.Nowhere.{leads_nowhere, runs_nowhere}
use Rattle.std.proofs.lemmas.Grind.{elements}
use Rattle.runtime.proofs.turning.run_world_by_turns.Goals as goal

-- where the run didn't begin nothing is written, and the world is the one that was handed in
pub returns-in_default-clause-leads : goal.returns-in_default-clause-leads
returns-in_default-clause-leads g c = λ kept. leads_nowhere _ _ _ _ _ c.unbegun.ensures.none (rw c.unbegun.ensures.same refl)

pub returns-in_default-clause-run : goal.returns-in_default-clause-run
returns-in_default-clause-run g c = runs_nowhere _ _ _ _ (rw c.unbegun.ensures.same refl)

-- the share that was taken is of the world's own network
pub returns-clause-over : goal.returns-clause-over
returns-clause-over g c =
    let same : c.as_slice-channels.result.now ≡ c.args.world.net.value.program.channels.items = search rules in
    subst (λ (channels : List Channel). IsOver channels c.args.bounds (world_of c.play_by_turns.result.world) c.play_by_turns.result.end) same
    c.play_by_turns.ensures.over

-- a network has at most 16 nodes
pub play_by_turns-requires-clause-nodes : goal.play_by_turns-requires-clause-nodes
play_by_turns-requires-clause-nodes g c =
    let world = c.args.world in
    let view = station_view {cell = g.C.StableCell} {slots = g.C.SlotCell} g.O.Outlet.taken g.O.Outlet.failures in
    let count : nodes_in world ≡ node_count (world_of world).net =
    world.stations.ok.0 ∙ (sym (length-map world.stations.items view) ∙ world.sound.count) in
    let few : node_count (world_of world).net ≤ MAX_NODES = nodes_few (world_of world).net world.sound.valid in
    let is : c.nodes-nodes.result ≡ nodes_in world = c.nodes-nodes.ensures in
    omega (arith, is, count, few)

pub returns-clause-turns : goal.returns-clause-turns
returns-clause-turns g c =
    let world = c.args.world in
    let end = c.play_by_turns.result.end in
    let now = world_of c.play_by_turns.result.world in
    let same : c.as_slice-channels.result.now ≡ world.net.value.program.channels.items = search rules in
    subst (λ (channels : List Channel). EndsByTurns (is_over channels c.args.bounds) (nodes_in world) (rooms_in world) c.args.script.items
    (world_of world) now end) same
    (subst (λ (n : ℕ). EndsByTurns (is_over c.as_slice-channels.result.now c.args.bounds) n (rooms_in world) c.args.script.items
    (world_of world) now end) c.nodes-nodes.ensures c.play_by_turns.ensures.turns)

pub returns-in_default-clause-begun : goal.returns-in_default-clause-begun
returns-in_default-clause-begun g c = grind (arith, elements)
