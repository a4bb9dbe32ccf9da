use Rattle.proc_code.specs.Laws.Processes.{process_made, code_resumed}
use Rattle.proc_code.specs.Laws.Sites.{row_says}
use Rattle.proc_code.proofs.laws.code_law.Goals as goal

pub returns-clause-begins : goal.returns-clause-begins
returns-clause-begins c = λ code passing inputs. process_made code passing inputs

pub returns-clause-resumes : goal.returns-clause-resumes
returns-clause-resumes c = λ code passing point vars unread fits. code_resumed code passing point vars unread fits

pub returns-clause-next : goal.returns-clause-next
returns-clause-next c = λ code site row is. row_says code site row is
