use Rattle.run_files.proofs.Going.{has_goes, none_left, ready_goes, with_goes}
use Rattle.std.proofs.Common.{inr, subst, Err}
use Rattle.host.specs.Requests.{Has, Wrote}
use Rattle.run_files.proofs.asking.make_file.Goals as goal

pub write-requires-clause-ready : goal.write-requires-clause-ready
write-requires-clause-ready g c κs within = ready_goes _ _ _ _ c.make.ensures.goes c.requires

pub returns-in-Ok-clause-goes : goal.returns-in-Ok-clause-goes
returns-in-Ok-clause-goes g c = with_goes _ _ _ _ _ _ c.make.ensures.goes c.write.ensures.goes

pub returns-in-Ok-clause-made : goal.returns-in-Ok-clause-made
returns-in-Ok-clause-made g c = has_goes _ _ _ _ _ c.write.ensures.goes c.in_ok-file.ensures.made

pub remove_file-requires-after_bounds : goal.remove_file-requires-after_bounds
remove_file-requires-after_bounds g c κs within = has_goes _ _ _ _ _ c.write.ensures.goes c.in_ok-file.ensures.made

pub returns-clause-goes : goal.returns-clause-goes
returns-clause-goes g c =
    with_goes _ _ _ _ _ _ (with_goes _ _ _ _ _ _ c.make.ensures.goes c.write.ensures.goes) c.remove_file.ensures.goes

pub returns-clause-unmade : goal.returns-clause-unmade
returns-clause-unmade g c =
    none_left _ _ _ _ _ (with_goes _ _ _ _ _ _ (with_goes _ _ _ _ _ _ c.make.ensures.goes c.write.ensures.goes) c.remove_file.ensures.goes)
    c.remove_file.ensures.gone

pub returns-clause-fault : goal.returns-clause-fault
returns-clause-fault g c =
    inr (c.remove_file.ensures.goes.later _
    (subst (λ p. Has (Wrote p c.args.bytes.now.items (Err c.in-Err.fault)) (g.H.Host.asked c.write.new.host)) c.in_ok-file.ensures.path
    c.in-Err.ensures.fault))
