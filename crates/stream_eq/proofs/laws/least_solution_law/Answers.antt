use Rattle.kahn_net.specs.Laws.Approximations.{reached_is_solution, below_solutions}
use Rattle.stream_eq.proofs.laws.least_solution_law.Goals as goal

pub returns : goal.returns
returns c = record {
  solution = λ net inputs n valid reached. reached_is_solution net valid inputs n reached;
  least = λ net inputs n histories valid fits s. below_solutions net valid inputs fits n histories s;
}
