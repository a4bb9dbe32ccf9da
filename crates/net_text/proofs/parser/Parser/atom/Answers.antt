use Rattle.std.proofs.lemmas.Grind.{elements}
use Rattle.std.proofs.Common.{arith}
use Rattle.net_text.specs.Reading.{atom_at}
use Rattle.net_text.proofs.parser.Parser.atom.Goals as goal

pub returns-in-Number : goal.returns-in-Number
unfolding atom_at
returns-in-Number c = grind (arith, elements)

pub returns-in-empty : goal.returns-in-empty
unfolding atom_at
returns-in-empty c = grind (arith, elements)

pub returns-in_default : goal.returns-in_default
unfolding atom_at
returns-in_default c = grind (arith, elements)

pub returns-in_err-name_of-in-Name : goal.returns-in_err-name_of-in-Name
unfolding atom_at
returns-in_err-name_of-in-Name c = grind (arith, elements)

pub returns-in_ok-name_of-in-Name : goal.returns-in_ok-name_of-in-Name
unfolding atom_at
returns-in_ok-name_of-in-Name c = grind (arith, elements)
