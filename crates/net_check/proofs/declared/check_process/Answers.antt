use Rattle.std.proofs.Common.{refl, arith}
use Rattle.net_text.specs.Trees.{process_tree}
use Rattle.net_check.specs.NetFaults.{high_node}
use Rattle.net_check.proofs.declared.check_process.Goals as goal

pub returns-then-process-from-clause-err : goal.returns-then-process-from-clause-err
returns-then-process-from-clause-err c = λ text p h. high_node p (process_tree c.args.process.now) h (omega arith) refl
