use Rattle.std.proofs.Common.{rules, inl, ℕ, ◌≤◌, Err, arith, codes}
use Rattle.host.specs.Requests.{Has, MadeFile}
use Rattle.host.specs.declared.fault.HostFault.TheVariants as host
use Rattle.run_files.specs.Causes.{tried_name}
use Rattle.run_files.specs.Rules.{GoesOn}
use Rattle.run_files.specs.Wanted.{wanted_of}
use Rattle.run_files.specs.declared.happened.TheConstants.{LAST_NAME}
use Rattle.run_files.proofs.Caused.{taken_more, unmade_told}
use Rattle.run_files.proofs.Going.{goes_still, goes_then, goes_with, of_none, ready_goes}
use Rattle.run_files.proofs.Left.{in_fault}
use Rattle.run_files.proofs.folder.make_text.Goals as goal

pub make_text_nth-requires-after_bounds : goal.make_text_nth-requires-after_bounds
make_text_nth-requires-after_bounds g c κs within = ready_goes _ _ _ _ c.loop-nth.invariant.goes c.requires

pub loop-nth-preserved : goal.loop-nth-preserved
loop-nth-preserved g c =
    let unmade = of_none _ (GoesOn g.J.Judge.accepts (wanted_of c.args.names.now) (g.H.Host.asked c.loop-nth.host)
    (g.H.Host.asked c.make_text_nth.new.host)) c.in_default.is c.in_ok-made.ensures.unmade in record {
      goes = goes_then _ _ _ _ _ c.loop-nth.invariant.goes unmade;
      taken = taken_more (λ k e. Has (MadeFile (tried_name c.as_str-stem.result.now (codes "making") k) (Err host.IsThere)) e)
          c.loop-nth.nth _ _ (λ k h. unmade.later _ h) c.loop-nth.invariant.taken (of_none _ _ c.in_default.is c.in_ok-made.ensures.taken);
    }

pub loop-nth-init : goal.loop-nth-init
loop-nth-init g c = record { goes = goes_still _ _ _; taken = λ k below. absurd (omega (arith, below)) }

pub returns-in_err-made-clause-failed : goal.returns-in_err-made-clause-failed
returns-in_err-made-clause-failed g c =
    in_fault _ _ (λ refused. goes_then _ _ _ _ _ c.loop-nth.invariant.goes c.in_err-made.ensures.failed)

pub returns-in-Some-clause-goes : goal.returns-in-Some-clause-goes
returns-in-Some-clause-goes g c = goes_with _ _ _ _ _ _ c.loop-nth.invariant.goes (search rules)

pub returns-clause-cause : goal.returns-clause-cause
returns-clause-cause g c =
    let all : (k : ℕ) → k ≤ LAST_NAME → Has (MadeFile (tried_name c.as_str-stem.result.now (codes "making") k) (Err host.IsThere))
    (g.H.Host.asked c.loop-nth.host) = λ k within. c.loop-nth.invariant.taken k (omega (arith, within, c.loop-nth-test.false)) in
    unmade_told _ _ c.refused_at.ensures (inl (c.as_str-stem.result.now, all))
