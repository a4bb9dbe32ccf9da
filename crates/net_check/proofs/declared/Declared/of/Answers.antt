use Rattle.std.proofs.lemmas.Grind.{elements}
use Rattle.std.proofs.Common.{arith}
use Rattle.std.proofs.lemmas.Grind.{common_steps}
use Rattle.net_check.proofs.declared.Declared.of.Goals as goal

pub returns-clause-declared : goal.returns-clause-declared
returns-clause-declared c = grind (arith, elements)

pub returns-clause-err : goal.returns-clause-err
returns-clause-err c = grind (arith, elements)

pub returns-in_err-declare_channel-in-Channel-clause-channels : goal.returns-in_err-declare_channel-in-Channel-clause-channels
returns-in_err-declare_channel-in-Channel-clause-channels c = grind (arith, elements)

pub returns-in_err-declare_channel-in-Channel-clause-declared : goal.returns-in_err-declare_channel-in-Channel-clause-declared
returns-in_err-declare_channel-in-Channel-clause-declared c = grind (arith, elements)

pub returns-in_err-declare_channel-in-Channel-clause-err : goal.returns-in_err-declare_channel-in-Channel-clause-err
returns-in_err-declare_channel-in-Channel-clause-err c = grind (arith, elements)

pub returns-in_err-declare_channel-in-Channel-clause-processes : goal.returns-in_err-declare_channel-in-Channel-clause-processes
returns-in_err-declare_channel-in-Channel-clause-processes c = grind (arith, elements)

pub returns-in_err-declare_process-in-Process-clause-channels : goal.returns-in_err-declare_process-in-Process-clause-channels
returns-in_err-declare_process-in-Process-clause-channels c = grind (arith, elements)

pub returns-in_err-declare_process-in-Process-clause-declared : goal.returns-in_err-declare_process-in-Process-clause-declared
returns-in_err-declare_process-in-Process-clause-declared c = grind (arith, elements)

pub returns-in_err-declare_process-in-Process-clause-err : goal.returns-in_err-declare_process-in-Process-clause-err
returns-in_err-declare_process-in-Process-clause-err c = grind (arith, elements)

pub returns-in_err-declare_process-in-Process-clause-processes : goal.returns-in_err-declare_process-in-Process-clause-processes
returns-in_err-declare_process-in-Process-clause-processes c = grind (arith, elements)

pub returns-clause-channels : goal.returns-clause-channels
returns-clause-channels c = grind (arith, common_steps)

pub loop-declaration-preserved : goal.loop-declaration-preserved
loop-declaration-preserved c = grind (arith, common_steps)

pub returns-clause-processes : goal.returns-clause-processes
returns-clause-processes c = grind (arith, common_steps)

pub loop-declaration-preserved-in-Continue-1 : goal.loop-declaration-preserved-in-Continue-1
loop-declaration-preserved-in-Continue-1 c = grind (arith, common_steps)
