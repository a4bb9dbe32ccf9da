use Rattle.std.proofs.Common.{rules, ◌≡◌, ◌∙◌, inl, sym, subst, Ok}
use Rattle.host.specs.Requests.{Has, Told}
use Rattle.kahn_program.specs.Failures.{failure_line}
use Rattle.kahn_program.proofs.Causes.{told_in_vain}
use Rattle.run_files.proofs.Going.{goes_then}
use Rattle.std.proofs.lemmas.Grind.{elements}
use Rattle.std.proofs.Common.{arith}
use Rattle.kahn_program.proofs.program.tell_stop.Goals as goal

pub returns-clause-goes : goal.returns-clause-goes
returns-clause-goes g c = search (rules, goes_then)

pub returns-clause-told : goal.returns-clause-told
returns-clause-told g c is =
    let line : c.into_bytes.result.items ≡ failure_line c.args.stop.failure = search rules in (
      sym c.status.ensures ∙ is,
      c.tell_words.ensures.later _
          (subst (λ bytes. Has (Told bytes (Ok tt)) (g.H.Host.asked c.tell.new.host)) line c.in_default-tell.ensures.told),
    )

pub returns-in-Err-clause-failed : goal.returns-in-Err-clause-failed
returns-in-Err-clause-failed g c is =
    let line : c.into_bytes.result.items ≡ failure_line c.args.stop.failure = search rules in
    inl (told_in_vain _ _ _ _ line c.in-Err.ensures.fault)

pub returns-clause-failed : goal.returns-clause-failed
returns-clause-failed g c = λ is.
    let line : c.into_bytes.result.items ≡ failure_line c.args.stop.failure = search rules in
    inl (
      Ok tt,
      c.tell_words.ensures.later _ (subst (λ bytes. Has (Told bytes (Ok tt)) (g.H.Host.asked c.tell.new.host)) line
          c.in_default-tell.ensures.told),
      inl (sym c.status.ensures ∙ is),
    )

pub returns-clause-status : goal.returns-clause-status
returns-clause-status g c = grind (arith, elements)

pub returns-in-Err-clause-told : goal.returns-in-Err-clause-told
returns-in-Err-clause-told g c = grind (arith, elements)

pub returns-clause-none : goal.returns-clause-none
returns-clause-none g c = grind (arith, elements)

pub returns-in_default-clause-told : goal.returns-in_default-clause-told
returns-in_default-clause-told g c = grind (arith, elements)
