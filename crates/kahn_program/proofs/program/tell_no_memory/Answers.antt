use Rattle.kahn_program.proofs.Causes.{told_none}
use Rattle.kahn_program.proofs.program.tell_no_memory.Goals as goal

pub returns-clause-told : goal.returns-clause-told
returns-clause-told g c = told_none _ _ _ c.requires c.tell.ensures.told c.tell.ensures.fault
