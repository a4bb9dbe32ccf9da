use Rattle.run_files.proofs.Going.{goes_then, ready_goes}
use Rattle.std.proofs.Common.{string_bytes}
use Rattle.run_files.specs.Causes.{taken}
use Rattle.run_files.specs.declared.fault.FilesFault.TheVariants.{OtherState}
use Rattle.run_files.proofs.Caused.{caused_as}
use Rattle.run_files.proofs.folder.make_if_missing.Goals as goal

pub make-requires-clause-ready : goal.make-requires-clause-ready
make-requires-clause-ready g c κs within = ready_goes _ _ _ _ c.is_made.ensures.goes c.requires.ready

pub returns-in_err-make-clause-goes : goal.returns-in_err-make-clause-goes
returns-in_err-make-clause-goes g c = goes_then _ _ _ _ _ c.is_made.ensures.goes c.make.ensures.goes

pub returns-in_err-home-clause-goes : goal.returns-in_err-home-clause-goes
returns-in_err-home-clause-goes g c = goes_then _ _ _ _ _ c.is_made.ensures.goes c.make.ensures.goes

pub settle_one-requires-after_bounds : goal.settle_one-requires-after_bounds
settle_one-requires-after_bounds g c κs within = ready_goes _ _ _ _ (goes_then _ _ _ _ _ c.is_made.ensures.goes c.make.ensures.goes) c.requires.ready

pub returns-then-branch-2-clause-goes : goal.returns-then-branch-2-clause-goes
returns-then-branch-2-clause-goes g c =
    goes_then _ _ _ _ _ (goes_then _ _ _ _ _ c.is_made.ensures.goes c.make.ensures.goes) c.settle_one.ensures.goes

pub returns-in_err-is_made-2-clause-goes : goal.returns-in_err-is_made-2-clause-goes
returns-in_err-is_made-2-clause-goes g c =
    goes_then _ _ _ _ _ (goes_then _ _ _ _ _ c.is_made.ensures.goes c.make.ensures.goes) c.is_made-2.ensures.goes

pub returns-then-branch-3-clause-goes : goal.returns-then-branch-3-clause-goes
returns-then-branch-3-clause-goes g c =
    goes_then _ _ _ _ _ (goes_then _ _ _ _ _ c.is_made.ensures.goes c.make.ensures.goes) c.is_made-2.ensures.goes

pub returns-clause-goes : goal.returns-clause-goes
returns-clause-goes g c =
    goes_then _ _ _ _ _ (goes_then _ _ _ _ _ c.is_made.ensures.goes c.make.ensures.goes) c.is_made-2.ensures.goes

pub returns-clause-cause : goal.returns-clause-cause
returns-clause-cause g c =
    let there = c.in_ok-make.ensures.taken c.if-branch-2.false in
    caused_as _ _ _ _ OtherState c.refused_at.ensures
    (string_bytes c.args.folder.now, c.requires.wanted, taken there.0 there.1.0 (c.is_made-2.ensures.goes.later _ there.1.1) there.1.2)
