use Rattle.std.proofs.Common.{rules, inl, ℕ, ◌≡◌, length, refl, subst}
use Rattle.protocol.specs.Node.Common.{network_of}
use Rattle.world.specs.OpeningWorld.{AreVersionsFor}
use Rattle.world.proofs.OpenedStations.{none_tried, not_new_from}
use Rattle.std.proofs.Common.{arith}
use Rattle.std.proofs.lemmas.Grind.{elements}
use Rattle.world.proofs.opening.World+SplitCell+D+O.new_from.Goals as goal

pub returns-then-not-are_versions_for-clause-refused : goal.returns-then-not-are_versions_for-clause-refused
returns-then-not-are_versions_for-clause-refused g c =
    let long : c.len.result ≡ length c.args.disks.items = search rules in
    let wrong : ¬ (AreVersionsFor (length c.args.disks.items) c.args.versions.now) = search rules in
    record {
      version = (λ same. wrong, λ none. refl);
      untouched = λ same. refl;
      why = inl refl;
      handed_back = none_tried g.D.Disk.sector_count g.D.Disk.failure_count c.args.disks.items;
      same_outputs = refl;
    }

pub returns-clause-refused : goal.returns-clause-refused
returns-clause-refused g c =
    let long : c.len.result ≡ length c.args.disks.items = search rules in
    not_new_from g.D.Disk.sector_count g.D.Disk.failure_count (network_of c.args.net.value.program)
    c.args.versions.now c.args.disks.items c.args.outputs.items c.open_world.result
    (subst (λ (n : ℕ). AreVersionsFor n c.args.versions.now) long
    (c.are_versions_for.ensures.0 c.if-not-are_versions_for.false))
    c.open_world.ensures.refused

pub open_world-requires-clause-versions : goal.open_world-requires-clause-versions
open_world-requires-clause-versions g c = grind (arith, elements)
