use Rattle.kahn_net.specs.Laws.Approximations.{approximations_grow}
use Rattle.stream_eq.proofs.laws.growth_law.Goals as goal

pub returns : goal.returns
returns c net inputs m n valid fits le = approximations_grow net valid inputs fits m n le
