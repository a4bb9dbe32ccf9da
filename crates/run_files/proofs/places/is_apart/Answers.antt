use Rattle.run_files.proofs.Going.{goes_then, apart_all}
use Rattle.run_files.proofs.Caused.{unwritten_by}
use Rattle.run_files.proofs.places.is_apart.Goals as goal

pub returns-in_err-differ-clause-goes : goal.returns-in_err-differ-clause-goes
returns-in_err-differ-clause-goes g c = goes_then _ _ _ _ _ c.place.ensures.goes c.differ.ensures.goes

pub returns-in_err-differ-2-clause-goes : goal.returns-in_err-differ-2-clause-goes
returns-in_err-differ-2-clause-goes g c =
    goes_then _ _ _ _ _ (goes_then _ _ _ _ _ c.place.ensures.goes c.differ.ensures.goes) c.differ-2.ensures.goes

pub returns-in_err-differ_from_script-clause-goes : goal.returns-in_err-differ_from_script-clause-goes
returns-in_err-differ_from_script-clause-goes g c =
    goes_then _ _ _ _ _ (goes_then _ _ _ _ _ (goes_then _ _ _ _ _ c.place.ensures.goes c.differ.ensures.goes) c.differ-2.ensures.goes) c.differ_from_script.ensures.goes

pub returns-in_err-stay_outside_if_asked-clause-goes : goal.returns-in_err-stay_outside_if_asked-clause-goes
returns-in_err-stay_outside_if_asked-clause-goes g c =
    goes_then _ _ _ _ _ (goes_then _ _ _ _ _ (goes_then _ _ _ _ _ (goes_then _ _ _ _ _ c.place.ensures.goes c.differ.ensures.goes) c.differ-2.ensures.goes) c.differ_from_script.ensures.goes) c.stay_outside_if_asked.ensures.goes

pub returns-clause-goes : goal.returns-clause-goes
returns-clause-goes g c =
    goes_then _ _ _ _ _ (goes_then _ _ _ _ _ (goes_then _ _ _ _ _ (goes_then _ _ _ _ _ c.place.ensures.goes c.differ.ensures.goes) c.differ-2.ensures.goes) c.differ_from_script.ensures.goes) c.stay_outside_if_asked.ensures.goes

pub returns-clause-apart : goal.returns-clause-apart
returns-clause-apart g c =
    apart_all _ _ _ _ _ _ _ _ _ c.in-Ok.ensures.placed c.differ.ensures.goes c.in_ok-differ.ensures.apart c.differ-2.ensures.goes
    c.in_ok-differ-2.ensures.apart c.differ_from_script.ensures.goes c.in_ok-differ_from_script.ensures.apart
    c.stay_outside_if_asked.ensures.goes c.in_ok-stay_outside_if_asked.ensures.apart

pub returns-in-Err-clause-cause : goal.returns-in-Err-clause-cause
returns-in-Err-clause-cause g c = unwritten_by _ _ _ _ _ _ _ c.refused_by.ensures c.requires.wanted c.in-Err.ensures.fault tt

pub differ-requires-2-clause-placed : goal.differ-requires-2-clause-placed
differ-requires-2-clause-placed g c κs within = c.differ.ensures.goes.later _ c.in-Ok.ensures.placed

pub differ_from_script-requires-clause-placed : goal.differ_from_script-requires-clause-placed
differ_from_script-requires-clause-placed g c κs within = c.differ-2.ensures.goes.later _ (c.differ.ensures.goes.later _ c.in-Ok.ensures.placed)

pub stay_outside_if_asked-requires-clause-placed : goal.stay_outside_if_asked-requires-clause-placed
stay_outside_if_asked-requires-clause-placed g c κs within = c.differ_from_script.ensures.goes.later _ (c.differ-2.ensures.goes.later _ (c.differ.ensures.goes.later _ c.in-Ok.ensures.placed))
