use Rattle.std.proofs.Common.{true, false, ◌≡◌, ◌∙◌, length, sym, refl, subst}
use Rattle.std.proofs.lemmas.List.{length-map}
use Rattle.std.proofs.lemmas.Result.{IfErr-weaker}
use Rattle.protocol.specs.Node.Common.{node_count}
use Rattle.protocol.specs.World.Common.{are_quiet}
use Rattle.runtime.specs.Ending.{was_refused}
use Rattle.station.specs.StationView.{station_view}
use Rattle.world.specs.WholeView.{nodes_in, world_of}
use Rattle.runtime.specs.Logs.{happenings}
use Rattle.cobaltmidge.specs.Failing.{IsRunFault}
use Rattle.cobaltmidge.specs.Runs.{IsEndFrom, IsRun, released_streams}
use Rattle.cobaltmidge.proofs.Streams.{run_at_end}
use Rattle.cobaltmidge.specs.Remaining.{IsFarFrom}
use Rattle.cobaltmidge.specs.declared.unfinished.Left.TheVariants as left
use Rattle.cobaltmidge.specs.declared.unfinished.Unfinished.{Unfinished}
use Rattle.cobaltmidge.proofs.Turns.{come_so, ended_so, of_end, of_hub, run_stays}
use Rattle.std.proofs.lemmas.Grind.{elements}
use Rattle.std.proofs.Common.{arith}
use Rattle.cobaltmidge.proofs.running.run_from.Goals as goal

pub returns-clause-err : goal.returns-clause-err
returns-clause-err g c =
    IfErr-weaker c.came_to.result _ (λ (unfinished : Unfinished _ _). IsRunFault true unfinished.fault)
    (λ unfinished is. subst (IsRunFault true) (sym is.2) (of_hub is.0)) c.came_to.ensures.err

-- how far a run came that was refused
pub returns-clause-left : goal.returns-clause-left
returns-clause-left g c =
    let world = c.args.world in
    let ended = c.run_to_end.result in
    IfErr-weaker c.came_to.result
    (λ (unfinished : Unfinished _ _). unfinished.left ≡ left.World ended.world ended.history)
    (λ (unfinished : Unfinished _ _). IsFarFrom (world_of world) c.args.settings c.args.script.items unfinished.left)
    (λ unfinished is. rw is (
      run_at_end (world_of ended.world) (world_of world).net (world_of world).inputs
          (run_stays _ c.args.script.items _ (world_of ended.world) c.run_to_end.ensures.run) ended.world.sound,
      come_so g.O.Outlet.taken g.O.Outlet.failures world.stations.items c.args.settings c.args.script.items
          (happenings ended.history.lines.items) (world_of world) (world_of ended.world) c.requires.room refl
          c.run_to_end.ensures.run c.run_to_end.ensures.leads,
    ))
    c.came_to.ensures.left

pub returns-clause-run : goal.returns-clause-run
returns-clause-run g c =
    let world = c.args.world in
    let ended = c.run_to_end.result in
    of_end (λ now. was_refused now.end ≡ false)
    (λ now. IsRun (world_of world).net (world_of world).inputs
    (released_streams (world_of world).net (world_of now.world).stations) (are_quiet (world_of now.world)))
    c.came_to.result ended c.came_to.ensures.same c.came_to.ensures.unrefused
    (λ unrefused. run_at_end (world_of ended.world) (world_of world).net (world_of world).inputs
    (run_stays _ c.args.script.items _ (world_of ended.world) c.run_to_end.ensures.run) ended.world.sound)

pub returns-clause-end : goal.returns-clause-end
returns-clause-end g c =
    let world = c.args.world in
    let ended = c.run_to_end.result in
    let view = station_view g.O.Outlet.taken g.O.Outlet.failures in
    let many : nodes_in world ≡ node_count (world_of world).net =
    world.stations.ok.0 ∙ (sym (length-map world.stations.items view) ∙ world.sound.count) in
    of_end (λ now. was_refused now.end ≡ false)
    (λ now. IsEndFrom (world_of world) c.args.settings (world_of world).net c.args.script.items
    (happenings now.history.lines.items) (world_of now.world))
    c.came_to.result ended c.came_to.ensures.same c.came_to.ensures.unrefused
    (λ unrefused. ended_so g.O.Outlet.taken g.O.Outlet.failures world.stations.items c.args.settings c.args.script.items
    (happenings ended.history.lines.items) (world_of world) (world_of ended.world) ended.end (nodes_in world)
    c.requires.room refl many unrefused c.run_to_end.ensures.run c.run_to_end.ensures.leads
    c.run_to_end.ensures.turns c.run_to_end.ensures.rounds)

pub returns-clause-same : goal.returns-clause-same
returns-clause-same g c =
    let world = c.args.world in
    let ended = c.run_to_end.result in
    of_end (λ now. was_refused now.end ≡ false)
    (λ now. ∥ ((world_of now.world).net ≡ (world_of world).net) × ((world_of now.world).inputs ≡ (world_of world).inputs) ∥₁)
    c.came_to.result ended c.came_to.ensures.same c.came_to.ensures.unrefused
    (λ unrefused. run_stays _ c.args.script.items _ (world_of ended.world) c.run_to_end.ensures.run)

pub returns-clause-begun : goal.returns-clause-begun
returns-clause-begun g c = grind (arith, elements)
