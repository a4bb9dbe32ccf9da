use Rattle.kahn_net.specs.Laws.Approximations.{agreement}
use Rattle.stream_eq.proofs.laws.agreement_law.Goals as goal

pub returns : goal.returns
returns c net inputs n m reached le = agreement net inputs n m reached le
