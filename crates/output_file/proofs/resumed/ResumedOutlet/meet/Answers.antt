use Rattle.std.proofs.Common.{arith}
use Rattle.std.proofs.lemmas.Grind.{elements}
use Rattle.output_file.proofs.resumed.ResumedOutlet.meet.Goals as goal

pub returns-then-index-item-clause-meets : goal.returns-then-index-item-clause-meets
returns-then-index-item-clause-meets g c = grind (arith, elements)

pub returns-clause-differs : goal.returns-clause-differs
returns-clause-differs g c = grind (arith, elements)

pub returns-clause-meets : goal.returns-clause-meets
returns-clause-meets g c = grind (arith, elements)

pub returns-then-index-item-clause-differs : goal.returns-then-index-item-clause-differs
returns-then-index-item-clause-differs g c = grind (arith, elements)
