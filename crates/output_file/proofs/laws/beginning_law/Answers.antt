use Rattle.output_file.proofs.Lining.{any_beginning}
use Rattle.output_file.proofs.laws.beginning_law.Goals as goal

pub returns : goal.returns
returns c = λ items size each. let b = any_beginning items size each in (b.count, b.tail, b.holds)
