use Rattle.run_files.specs.Opening.{IsFileMade}
use Rattle.run_files.proofs.Going.{has_goes, made_later, first_goes, ready_goes, with_goes}
use Rattle.run_files.proofs.folder.fill_and_name.Goals as goal

pub give_name-named-requires-clause-ready : goal.give_name-named-requires-clause-ready
give_name-named-requires-clause-ready g c κs within = ready_goes _ _ _ _ c.fill-made.ensures.goes c.requires.ready

pub give_name-named-requires-clause-made : goal.give_name-named-requires-clause-made
give_name-named-requires-clause-made g c κs within = has_goes _ _ _ _ _ c.fill-made.ensures.goes c.requires.made

pub returns-in-None-clause-goes : goal.returns-in-None-clause-goes
returns-in-None-clause-goes g c = with_goes _ _ _ _ _ _ c.fill-made.ensures.goes c.give_name-named.ensures.goes

pub returns-in-None-clause-made : goal.returns-in-None-clause-made
returns-in-None-clause-made g c = first_goes IsFileMade _ _ _ _ (made_later _ _ c.give_name-named.ensures.goes.later) c.fill-made.ensures.made
