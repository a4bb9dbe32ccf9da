use Rattle.std.proofs.lemmas.Grind.{elements}
use Rattle.std.proofs.Common.{arith}
use Rattle.cobaltmidge.proofs.texts.inputs_of_bytes.Goals as goal

pub returns-clause-inputs : goal.returns-clause-inputs
returns-clause-inputs c = grind (arith, elements)
