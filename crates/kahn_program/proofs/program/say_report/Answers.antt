use Rattle.std.proofs.Common.{rules, ◌∙◌, sym, true, false}
use Rattle.kahn_program.proofs.Said.{status_is}
use Rattle.run_files.proofs.Going.{goes_then}
use Rattle.std.proofs.lemmas.Grind.{elements}
use Rattle.std.proofs.Common.{arith}
use Rattle.kahn_program.proofs.program.say_report.Goals as goal

pub returns-in-Err-clause-goes : goal.returns-in-Err-clause-goes
returns-in-Err-clause-goes g c = search (rules, goes_then)

pub returns-then-complete-clause-goes : goal.returns-then-complete-clause-goes
returns-then-complete-clause-goes g c = search (rules, goes_then)

pub returns-clause-goes : goal.returns-clause-goes
returns-clause-goes g c = search (rules, goes_then)

pub returns-then-complete-clause-said : goal.returns-then-complete-clause-said
returns-then-complete-clause-said g c complete same =
    (status_is complete true (sym same) ∙ sym c.if-complete.true, c.tell_words-2.ensures.later _ c.in_default.ensures.said)

pub returns-clause-said : goal.returns-clause-said
returns-clause-said g c complete same =
    (status_is complete false (sym same) ∙ sym c.if-complete.false, c.tell_words-2.ensures.later _ c.in_default.ensures.said)

pub returns-in-Err-clause-failed : goal.returns-in-Err-clause-failed
returns-in-Err-clause-failed g c = λ is. (_, c.tell_words.ensures.later _ c.in-Err.ensures.fault)

pub returns-then-complete-clause-failed : goal.returns-then-complete-clause-failed
returns-then-complete-clause-failed g c = grind (arith, elements)
