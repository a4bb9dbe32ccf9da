use Rattle.run_files.proofs.Caused.{file_taken, unwritten_by}
use Rattle.run_files.proofs.happened.make_nth.Goals as goal

pub returns-then-is_there-clause-taken : goal.returns-then-is_there-clause-taken
returns-then-is_there-clause-taken g c =
    file_taken _ _ _ _ c.in_ok-made.ensures (c.is_there.ensures.there c.if-is_there.true) c.in-Err.ensures.fault

pub returns-clause-cause : goal.returns-clause-cause
returns-clause-cause g c = unwritten_by _ _ _ _ _ _ _ c.refused_by.ensures c.requires.wanted c.in-Err.ensures.fault (c.is_there.ensures.other c.if-is_there.false)
