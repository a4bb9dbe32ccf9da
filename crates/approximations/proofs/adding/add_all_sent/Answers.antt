use Rattle.std.proofs.Common.{arith}
use Rattle.std.proofs.lemmas.Grind.{elements}
use Rattle.approximations.proofs.adding.add_all_sent.Goals as goal

pub returns-in_err-add_sent-clause-long : goal.returns-in_err-add_sent-clause-long
returns-in_err-add_sent-clause-long c = grind (arith, elements)
