use Rattle.std.proofs.Common.{rules, refl}
use Rattle.run_files.proofs.Going.{goes_then, open_made, ready_goes, written_by}
use Rattle.run_files.proofs.Caused.{unwritten_by, caused_later}
use Rattle.run_files.proofs.happened.finish_history.Goals as goal

pub drop_history-requires-after_bounds : goal.drop_history-requires-after_bounds
drop_history-requires-after_bounds g c κs within = open_made _ _ _ _ _ _ _ c.requires.open c.write.ensures.goes

pub returns-in-Err-clause-goes : goal.returns-in-Err-clause-goes
returns-in-Err-clause-goes g c = search (rules, goes_then)

pub rename-requires-clause-ready : goal.rename-requires-clause-ready
rename-requires-clause-ready g c κs within = ready_goes _ _ _ _ c.write.ensures.goes c.requires.ready

pub rename-requires-clause-made : goal.rename-requires-clause-made
rename-requires-clause-made g c κs within = open_made _ _ _ _ _ _ _ c.requires.open c.write.ensures.goes

pub drop_history-requires-in-Err-rename-after_bounds : goal.drop_history-requires-in-Err-rename-after_bounds
drop_history-requires-in-Err-rename-after_bounds g c κs within =
    open_made _ _ _ _ _ _ _ c.requires.open (goes_then _ _ _ _ _ c.write.ensures.goes c.rename.ensures.goes)

pub returns-in-Err-rename-clause-goes : goal.returns-in-Err-rename-clause-goes
returns-in-Err-rename-clause-goes g c = search (rules, goes_then)

pub returns-clause-goes : goal.returns-clause-goes
returns-clause-goes g c = search (rules, goes_then)

pub returns-clause-written : goal.returns-clause-written
returns-clause-written g c =
    written_by _ _ _ _ _ _ _ _ _ c.requires.open c.write.ensures.goes c.in_default.ensures.wrote c.rename.ensures.goes
    c.in_default-rename.ensures.renamed

pub returns-in-Err-clause-cause : goal.returns-in-Err-clause-cause
returns-in-Err-clause-cause g c =
    caused_later _ _ _ _ c.drop_history.ensures.goes.later _ (unwritten_by _ _ _ _ _ _ _ c.refused_by-refusal.ensures c.requires.wanted c.in-Err.ensures.fault tt)

pub returns-in-Err-rename-clause-cause : goal.returns-in-Err-rename-clause-cause
returns-in-Err-rename-clause-cause g c =
    caused_later _ _ _ _ c.drop_history-in-Err-rename.ensures.goes.later _
    (unwritten_by _ _ _ _ _ _ _ c.refused_by-refusal-in-Err-rename.ensures c.requires.wanted c.in-Err-rename.ensures.fault.1 refl)
