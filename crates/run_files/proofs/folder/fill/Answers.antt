use Rattle.std.proofs.Common.{rules, refl, inl, inr}
use Rattle.run_files.specs.Opening.{IsFileMade}
use Rattle.run_files.proofs.Going.{first_goes, goes_more, goes_still, made_later, ready_goes, with_goes, with_then}
use Rattle.run_files.proofs.Going.{first_next as more_made}
use Rattle.run_files.proofs.Left.{first_next}
use Rattle.run_files.proofs.Caused.{unmade_by}
use Rattle.std.proofs.lemmas.Grind.{elements}
use Rattle.std.proofs.Common.{arith}
use Rattle.run_files.proofs.folder.fill.Goals as goal

pub make_file-requires-after_bounds : goal.make_file-requires-after_bounds
make_file-requires-after_bounds g c κs within = ready_goes _ _ _ _ c.loop-path.invariant.goes c.requires

pub returns-in-Err-clause-goes : goal.returns-in-Err-clause-goes
returns-in-Err-clause-goes g c = with_goes _ _ _ _ _ _ c.loop-path.invariant.goes (grind (arith, elements))

pub returns-in-Err-clause-made : goal.returns-in-Err-clause-made
returns-in-Err-clause-made g c = first_goes IsFileMade _ _ _ _ (made_later _ _ c.make_file.ensures.goes.later) c.loop-path.invariant.made

pub loop-path-preserved : goal.loop-path-preserved
loop-path-preserved g c = record {
  goes = with_then _ _ _ _ _ _ _ _
      (λ p is. first_next _ _ _ _ c.loop-path.invariant.count c.path-item.is c.loop-path-test.true p (inl is))
      (λ p is. first_next _ _ _ _ c.loop-path.invariant.count c.path-item.is c.loop-path-test.true p (inr is))
      c.loop-path.invariant.goes c.make_file.ensures.goes;
  count = search rules;
  made = more_made IsFileMade _ _ _ _ _ _ (made_later _ _ c.make_file.ensures.goes.later) c.loop-path.invariant.made c.loop-path.invariant.count c.path-item.is
      c.loop-path-test.true c.in_default.ensures.made;
}

pub loop-path-init : goal.loop-path-init
loop-path-init g c = record { goes = goes_more _ _ _ _ _ (goes_still _ _ _); count = refl; made = tt }

pub returns-in-Err-clause-cause : goal.returns-in-Err-clause-cause
returns-in-Err-clause-cause g c = unmade_by _ _ _ _ _ _ _ c.refused_by.ensures c.in-Err.ensures.fault
