use Rattle.std.proofs.Common.{false}
use Rattle.cobaltmidge.proofs.network.Network.open.Goals as goal

pub returns-in-Err-clause-err : goal.returns-in-Err-clause-err
returns-in-Err-clause-err c = (c.in-Err.unfinished.fault, c.in-Err.ensures.err false, c.run_error.ensures)
