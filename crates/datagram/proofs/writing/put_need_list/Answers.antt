use Rattle.std.proofs.lemmas.Grind.{elements}
use Rattle.std.proofs.Common.{arith}
use Rattle.datagram.proofs.writing.put_need_list.Goals as goal

pub returns : goal.returns
returns c = grind (arith, elements)
