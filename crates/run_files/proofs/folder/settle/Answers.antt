use Rattle.std.proofs.Common.{refl, arith}
use Rattle.run_files.specs.Syncing.{IsSynced}
use Rattle.run_files.proofs.Going.{first_all, first_next, goes_still, goes_then, on_disk_later, ready_goes, synced_if}
use Rattle.run_files.proofs.Caused.{failed_by}
use Rattle.std.proofs.lemmas.Grind.{elements}
use Rattle.run_files.proofs.folder.settle.Goals as goal

pub sync-requires-after_bounds : goal.sync-requires-after_bounds
sync-requires-after_bounds g c κs within = ready_goes _ _ _ _ c.loop-path.invariant.goes c.requires

pub returns-in-Err-clause-goes : goal.returns-in-Err-clause-goes
returns-in-Err-clause-goes g c = goes_then _ _ _ _ _ c.loop-path.invariant.goes c.sync.ensures.goes

pub loop-path-preserved : goal.loop-path-preserved
loop-path-preserved g c = record {
  goes = goes_then _ _ _ _ _ c.loop-path.invariant.goes c.sync.ensures.goes;
  synced = first_next IsSynced _ _ _ _ _ _ (on_disk_later _ _ c.sync.ensures.goes.later) c.loop-path.invariant.synced refl c.path-item.is
      c.loop-path-test.true c.in_default.ensures.synced;
}

pub loop-path-init : goal.loop-path-init
loop-path-init g c = record { goes = goes_still _ _ _; synced = tt }

pub returns-clause-synced : goal.returns-clause-synced
returns-clause-synced g c = synced_if _ _ _ (first_all IsSynced _ _ _ c.loop-path.invariant.synced (omega (arith, c.loop-path-test.false)))

pub returns-in-Err-clause-cause : goal.returns-in-Err-clause-cause
returns-in-Err-clause-cause g c = failed_by _ _ _ _ _ _ c.refused_by.ensures c.in-Err.ensures.fault tt

pub returns-then-not-names-clause-goes : goal.returns-then-not-names-clause-goes
returns-then-not-names-clause-goes g c = grind (arith, elements)
