use Rattle.std.proofs.lemmas.Result.{err_from_is_err_and}
use Rattle.run_files.proofs.Caused.{caused_later, text_unmade}
use Rattle.run_files.proofs.Going.{grown_goes, has_goes, none_left, ready_goes, with_goes}
use Rattle.run_files.proofs.folder.replace_text.Goals as goal

pub returns-in_err-making-clause-cause : goal.returns-in_err-making-clause-cause
returns-in_err-making-clause-cause g c =
    let p = err_from_is_err_and c.from_residual.result c.from_residual.ensures.1 in
    rw (p.1, p.2) (text_unmade _ _ _ _ c.in_err-making.ensures.cause)

pub write_and_replace-replaced-requires-clause-ready : goal.write_and_replace-replaced-requires-clause-ready
write_and_replace-replaced-requires-clause-ready g c κs within = ready_goes _ _ _ _ c.in_ok-making.ensures.goes c.requires.ready

pub write_and_replace-replaced-requires-clause-grown : goal.write_and_replace-replaced-requires-clause-grown
write_and_replace-replaced-requires-clause-grown g c κs within = grown_goes _ _ _ _ _ _ c.in_ok-making.ensures.goes c.requires.grown

pub returns-in-Ok-clause-goes : goal.returns-in-Ok-clause-goes
returns-in-Ok-clause-goes g c =
    none_left _ _ _ _ _ (with_goes _ _ _ _ _ _ c.in_ok-making.ensures.goes c.write_and_replace-replaced.ensures.goes)
    c.in-Ok.ensures.gone

pub remove_file-requires-after_bounds : goal.remove_file-requires-after_bounds
remove_file-requires-after_bounds g c κs within = has_goes _ _ _ _ _ c.write_and_replace-replaced.ensures.goes c.in_ok-making.ensures.made

pub returns-clause-goes : goal.returns-clause-goes
returns-clause-goes g c =
    none_left _ _ _ _ _ (with_goes _ _ _ _ _ _ (with_goes _ _ _ _ _ _ c.in_ok-making.ensures.goes c.write_and_replace-replaced.ensures.goes)
    c.remove_file.ensures.goes) c.remove_file.ensures.gone

pub returns-clause-cause : goal.returns-clause-cause
returns-clause-cause g c = caused_later _ _ _ _ c.remove_file.ensures.goes.later _ c.in-Err.ensures.cause
