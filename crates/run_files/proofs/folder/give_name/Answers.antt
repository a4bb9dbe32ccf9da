use Rattle.run_files.proofs.Going.{goes_then, has_goes, ready_goes, synced_both, synced_later}
use Rattle.run_files.proofs.Caused.{failed_by}
use Rattle.std.proofs.lemmas.Grind.{elements}
use Rattle.std.proofs.Common.{arith, inl}
use Rattle.run_files.proofs.folder.give_name.Goals as goal

pub settle_one-requires-after_bounds : goal.settle_one-requires-after_bounds
settle_one-requires-after_bounds g c κs within = ready_goes _ _ _ _ c.settle.ensures.goes c.requires.ready

pub returns-in_err-settle_one-clause-goes : goal.returns-in_err-settle_one-clause-goes
returns-in_err-settle_one-clause-goes g c =
    goes_then _ _ _ _ _ c.settle.ensures.goes c.settle_one.ensures.goes

pub rename_folder-requires-clause-ready : goal.rename_folder-requires-clause-ready
rename_folder-requires-clause-ready g c κs within = ready_goes _ _ _ _ (goes_then _ _ _ _ _ c.settle.ensures.goes c.settle_one.ensures.goes) c.requires.ready

pub rename_folder-requires-clause-made : goal.rename_folder-requires-clause-made
rename_folder-requires-clause-made g c κs within = has_goes _ _ _ _ _ (goes_then _ _ _ _ _ c.settle.ensures.goes c.settle_one.ensures.goes) c.requires.made

pub returns-in-Ok-clause-goes : goal.returns-in-Ok-clause-goes
returns-in-Ok-clause-goes g c =
    goes_then _ _ _ _ _ (goes_then _ _ _ _ _ c.settle.ensures.goes c.settle_one.ensures.goes) c.rename_folder.ensures.goes

pub returns-else-is_taken-clause-goes : goal.returns-else-is_taken-clause-goes
returns-else-is_taken-clause-goes g c =
    goes_then _ _ _ _ _ (goes_then _ _ _ _ _ c.settle.ensures.goes c.settle_one.ensures.goes) c.rename_folder.ensures.goes

pub returns-then-is_taken-clause-goes : goal.returns-then-is_taken-clause-goes
returns-then-is_taken-clause-goes g c =
    goes_then _ _ _ _ _ (goes_then _ _ _ _ _ c.settle.ensures.goes c.settle_one.ensures.goes) c.rename_folder.ensures.goes

pub returns-in-Ok-clause-synced : goal.returns-in-Ok-clause-synced
returns-in-Ok-clause-synced g c = synced_both _ _ _ _
    (synced_later _ _ _ _ (goes_then _ _ _ _ _ c.settle_one.ensures.goes c.rename_folder.ensures.goes).later c.in_ok-settle.ensures.synced)
    (synced_later _ _ _ _ c.rename_folder.ensures.goes.later c.in_ok-settle_one.ensures.synced)

pub returns-then-is_taken-clause-synced : goal.returns-then-is_taken-clause-synced
returns-then-is_taken-clause-synced g c = synced_both _ _ _ _
    (synced_later _ _ _ _ (goes_then _ _ _ _ _ c.settle_one.ensures.goes c.rename_folder.ensures.goes).later c.in_ok-settle.ensures.synced)
    (synced_later _ _ _ _ c.rename_folder.ensures.goes.later c.in_ok-settle_one.ensures.synced)

pub returns-then-is_taken-clause-taken : goal.returns-then-is_taken-clause-taken
returns-then-is_taken-clause-taken g c = λ is. (c.in-Err.fault, c.in-Err.ensures.fault, c.is_taken.ensures.taken c.if-is_taken.true)

pub returns-else-is_taken-clause-cause : goal.returns-else-is_taken-clause-cause
returns-else-is_taken-clause-cause g c = failed_by _ _ _ _ _ _ c.refused_by.ensures c.in-Err.ensures.fault (inl (c.requires.wanted, c.is_taken.ensures.free c.if-is_taken.false))

pub returns-then-is_taken-clause-renamed : goal.returns-then-is_taken-clause-renamed
returns-then-is_taken-clause-renamed g c = grind (arith, elements)

pub returns-in-Ok-clause-taken : goal.returns-in-Ok-clause-taken
returns-in-Ok-clause-taken g c = grind (arith, elements)
