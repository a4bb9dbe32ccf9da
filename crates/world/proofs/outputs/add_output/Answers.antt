use Rattle.std.proofs.Common.{List, refl, sym, subst}
use Rattle.std.specs.List.{AllByRecursion}
use Rattle.world.specs.OpeningWorld.{HasNotFailed, IsMade, IsUnused}
use Rattle.protocol_laws.specs.World.PairLaws.{every_more}
use Rattle.station.specs.declared.output.Output.{Output}
use Rattle.std.proofs.Common.{arith}
use Rattle.std.proofs.lemmas.Grind.{common_steps}
use Rattle.world.proofs.outputs.add_output.Goals as goal

pub returns-in_ok-push-clause-empty : goal.returns-in_ok-push-clause-empty
returns-in_ok-push-clause-empty g c =
    subst (λ (outputs : List (Output _)). AllByRecursion (IsUnused g.O.Outlet.taken) outputs)
    (sym c.in_ok-push.ensures.items)
    (every_more (IsUnused g.O.Outlet.taken) _ _ c.requires.unused c.in_ok-make.ensures.unused)

pub returns-in_ok-push-clause-made : goal.returns-in_ok-push-clause-made
returns-in_ok-push-clause-made g c =
    subst (λ (outputs : List (Output _)). AllByRecursion (IsMade g.M.OutletMaker.makes) outputs)
    (sym c.in_ok-push.ensures.items)
    (every_more (IsMade g.M.OutletMaker.makes) _ _ c.requires.made c.in_ok-make.ensures.made)

pub returns-in_ok-push-clause-none_failed : goal.returns-in_ok-push-clause-none_failed
returns-in_ok-push-clause-none_failed g c =
    λ before. subst (λ (outputs : List (Output _)). AllByRecursion HasNotFailed outputs) (sym c.in_ok-push.ensures.items)
    (every_more HasNotFailed _ _ before refl)

pub returns-in_ok-push-clause-listed : goal.returns-in_ok-push-clause-listed
returns-in_ok-push-clause-listed g c = grind (arith, common_steps)
