use Rattle.std.proofs.Common.{rules, Bool, List, sym, subst}
use Rattle.world.specs.WholeView.{world_of}
use Rattle.replay.specs.Rests.{AllRest}
use Rattle.replay.proofs.Rests.{none_noted}
use Rattle.run_log.proofs.Adding.{begins}
use Rattle.run_log.proofs.run_log.RunLog.new.Goals as goal

pub invariant_of-result-clause-replays : goal.invariant_of-result-clause-replays
invariant_of-result-clause-replays g c = begins _ _ _ _ _ c.new.result.items (search rules) c.requires.opening

pub invariant_of-result-clause-rest : goal.invariant_of-result-clause-rest
invariant_of-result-clause-rest g c =
    let world = world_of c.args.armed.world in
    ∣ subst (λ (list : List Bool). AllRest list world) (sym c.none_rest.ensures) (none_noted world) ∣₁
