use Rattle.std.proofs.Common.{refl, sym, ◌∙◌}
use Rattle.std.proofs.lemmas.List.{nil_from_length}
use Rattle.std.specs.Vec.Iter.{into_iter_items}
use Rattle.world.specs.Closing.{all_outputs, disk_of, disks_of}
use Rattle.world.proofs.Collected.{all_lists, one_list_more, one_more}
use Rattle.world.proofs.closing.parts_of.Goals as goal

pub loop-station-preserved : goal.loop-station-preserved
loop-station-preserved g c =
    let more = into_iter_items c.next.new.self in
    let steps = c.in-Some.ensures.steps.0 in
    let added = c.in_ok-add_station.ensures in (
      one_more (λ station. disk_of station) c.loop-station.disks.items _ _ c.in-Some.station more _ added.disks steps
          c.loop-station.invariant.0,
      one_list_more (λ station. station.outputs.items) c.loop-station.outputs.items _ _ c.in-Some.station more _
          added.outputs steps c.loop-station.invariant.1,
    )

pub returns-clause-disks : goal.returns-clause-disks
returns-clause-disks g c =
    let rest = c.loop-station.station-iterator in
    all_lists (λ stations. disks_of stations) _ _ (into_iter_items rest) refl
    (nil_from_length (into_iter_items rest) (sym rest.rest.ok.0 ∙ c.in-None.ensures.steps.0))
    c.loop-station.invariant.0

pub returns-clause-outputs : goal.returns-clause-outputs
returns-clause-outputs g c =
    let rest = c.loop-station.station-iterator in
    all_lists (λ stations. all_outputs stations) _ _ (into_iter_items rest) refl
    (nil_from_length (into_iter_items rest) (sym rest.rest.ok.0 ∙ c.in-None.ensures.steps.0))
    c.loop-station.invariant.1
