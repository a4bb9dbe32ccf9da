use Rattle.std.proofs.lemmas.Grind.{pieces}
use Rattle.std.proofs.Common.{arith}
use Rattle.slot_cell.proofs.split.SplitCellStableCell.recount.Goals as goal

pub returns-clause-any_moment : goal.returns-clause-any_moment
returns-clause-any_moment g c = search (pieces, arith) depth 5 fits 300
