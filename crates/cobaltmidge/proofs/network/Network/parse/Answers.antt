use Rattle.std.proofs.Common.{refl}
use Rattle.net_text.specs.declared.fault.TextFault.TheVariants.{NoMemory}
use Rattle.cobaltmidge.specs.Texts.{bad_text}
use Rattle.std.proofs.lemmas.Grind.{elements}
use Rattle.std.proofs.Common.{arith}
use Rattle.cobaltmidge.proofs.network.Network.parse.Goals as goal

pub returns-clause-err : goal.returns-clause-err
returns-clause-err c = bad_text NoMemory tt refl

pub returns-in-Ok-new-clause-net : goal.returns-in-Ok-new-clause-net
returns-in-Ok-new-clause-net c = grind (arith, elements)
