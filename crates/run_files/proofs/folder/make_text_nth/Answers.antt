use Rattle.run_files.proofs.Caused.{file_taken, unmade_as}
use Rattle.run_files.proofs.folder.make_text_nth.Goals as goal

pub returns-then-is_there-clause-taken : goal.returns-then-is_there-clause-taken
returns-then-is_there-clause-taken g c =
    file_taken _ _ _ _ c.in_ok-making.ensures (c.is_there.ensures.there c.if-is_there.true) c.in-Err.ensures.fault

pub returns-clause-cause : goal.returns-clause-cause
returns-clause-cause g c = unmade_as _ _ _ _ c.refused_by.ensures c.in-Err.ensures.fault (c.is_there.ensures.other c.if-is_there.false)
