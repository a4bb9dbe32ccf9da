use Rattle.run_files.proofs.Going.{goes_then, has_goes, opened_as, ready_goes}
use Rattle.run_files.proofs.Caused.{by_bytes, unopened_by}
use Rattle.std.proofs.Common.{string_bytes}
use Rattle.std.proofs.lemmas.Result.{err_from_is_err_and}
use Rattle.std.proofs.lemmas.Grind.{elements}
use Rattle.std.proofs.Common.{arith}
use Rattle.run_files.proofs.folder.open_one.Goals as goal

pub cut_tail-requires-clause-ready : goal.cut_tail-requires-clause-ready
cut_tail-requires-clause-ready g c κs within = ready_goes _ _ _ _ c.open_lines.ensures.goes c.requires.ready

pub cut_tail-requires-clause-held : goal.cut_tail-requires-clause-held
cut_tail-requires-clause-held g c κs within = c.open_lines.ensures.goes.held _ c.requires.held

pub returns-in_err-cut_tail-clause-goes : goal.returns-in_err-cut_tail-clause-goes
returns-in_err-cut_tail-clause-goes g c =
    goes_then _ _ _ _ _ c.open_lines.ensures.goes c.cut_tail.ensures.goes

pub returns-clause-goes : goal.returns-clause-goes
returns-clause-goes g c = goes_then _ _ _ _ _ c.open_lines.ensures.goes c.cut_tail.ensures.goes

pub returns-clause-opened : goal.returns-clause-opened
returns-clause-opened g c =
    opened_as _ _ _ _ _ _ c.of.ensures (has_goes _ _ _ _ _ c.cut_tail.ensures.goes c.in-Ok.ensures.opened)

pub returns-in-Err-clause-cause : goal.returns-in-Err-clause-cause
returns-in-Err-clause-cause g c =
    unopened_by _ _ _ (string_bytes c.args.folder.now) (string_bytes c.args.name.now) c.args.names.now.sync _ _ _ c.refused_by.ensures
    c.of_missing-refusal.ensures c.requires.wanted c.in-Err.ensures.fault

pub returns-in_err-held-clause-cause : goal.returns-in_err-held-clause-cause
returns-in_err-held-clause-cause g c =
    let p = err_from_is_err_and c.from_residual-in_err-held.result c.from_residual-in_err-held.ensures.1 in
    rw (p.1, p.2) (by_bytes _ _ _ (string_bytes c.args.folder.now) (string_bytes c.args.name.now) _ c.args.names.now.sync _ c.requires.wanted
    c.in-Ok.ensures.opened c.in_err-held.ensures.cause)

pub returns-clause-cut : goal.returns-clause-cut
returns-clause-cut g c = grind (arith, elements)

pub returns-clause-lines : goal.returns-clause-lines
returns-clause-lines g c = grind (arith, elements)
