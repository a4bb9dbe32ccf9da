use Rattle.kahn_net.specs.Laws.Approximations.{one_item}
use Rattle.stream_eq.proofs.laws.one_item_law.Goals as goal

pub returns : goal.returns
returns c net inputs channel position v w valid fits one other =
    one_item net valid inputs fits channel position v w one other
