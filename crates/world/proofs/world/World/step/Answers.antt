use Rattle.std.proofs.Common.{Some, None, subst}
use Rattle.protocol.specs.World.Common.{EventView}
use Rattle.station.specs.ReplyView.{reply_view}
use Rattle.world.specs.Applied.{IsApplied}
use Rattle.std.proofs.Common.{arith}
use Rattle.std.proofs.lemmas.Grind.{elements}
use Rattle.world.proofs.world.World.step.Goals as goal

-- what was picked is the event that is next
pub returns-in-Ok-clause-made : goal.returns-in-Ok-clause-made
returns-in-Ok-clause-made g c =
    subst (λ (e : EventView). IsApplied e c.args.self.now c.make.new.self (Some (reply_view c.in-Ok.reply)))
    c.pick-event.ensures c.in-Ok.ensures

pub returns-clause-refused : goal.returns-clause-refused
returns-clause-refused g c =
    subst (λ (e : EventView). IsApplied e c.args.self.now c.make.new.self None) c.pick-event.ensures c.in-Err.ensures

pub returns-in-Ok-clause-passed : goal.returns-in-Ok-clause-passed
returns-in-Ok-clause-passed g c = grind (arith, elements)
