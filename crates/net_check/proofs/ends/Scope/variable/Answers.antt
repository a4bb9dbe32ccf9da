use Rattle.std.proofs.Common.{sym}
use Rattle.net_check.proofs.Claiming.{unknown_one}
use Rattle.net_check.specs.Uses.{OfVariable}
use Rattle.net_check.proofs.ends.Scope.variable.Goals as goal

pub returns-in-None : goal.returns-in-None
returns-in-None c = unknown_one _ _ (OfVariable c.args.name.now) _ c.in-None.ensures (sym c.line.ensures)
