use Rattle.std.proofs.Common.{subst, sym}
use Rattle.runtime.specs.Marked.{IsGrantAt}
use Rattle.runtime.specs.declared.turned.Turned.{Turned}
use Rattle.runtime.proofs.Marked.{granted_at}
use Rattle.runtime.proofs.entered.Entered.take_turn.Goals as goal

pub returns-in-Ok-clause-home : goal.returns-in-Ok-clause-home
returns-in-Ok-clause-home g c =
    let node = c.args.seat.now.node in
    subst (λ (turned : Turned). IsGrantAt node turned) (sym c.of.ensures) (granted_at node c.in-Ok.answer c.in-Ok.ensures.told.home)
