use Rattle.std.proofs.Common.{refl, sym, subst, arith, take, ◌<◌, ◌≡◌}
use Rattle.std.proofs.lemmas.Grind.{common_steps}
use Rattle.std.proofs.lemmas.Option.{slice_get_read}
use Rattle.run_files.specs.Opening.{IsFileMade, OfFirst}
use Rattle.run_files.specs.Removing.{IsFileRemoved}
use Rattle.run_files.specs.Leftovers.{AreGone, IsFirst}
use Rattle.run_files.specs.Wanted.{wanted_of}
use Rattle.run_files.proofs.Left.{first_taken, gone_next}
use Rattle.run_files.proofs.Going.{first_at, first_from, first_goes, first_next, first_to, gone_later, goes_still, goes_then, has_goes, removed_later, taken_length}
use Rattle.run_files.proofs.folder.clear.Goals as goal

pub slice_bounds-path-items-end : goal.slice_bounds-path-items-end
slice_bounds-path-items-end g c = taken_length IsFileMade _ _ _ c.requires.files

pub loop-path-init : goal.loop-path-init
loop-path-init g c = record { goes = goes_still _ _ _; removed = tt; gone = λ p none left. none }

pub remove_file-requires-after_bounds : goal.remove_file-requires-after_bounds
remove_file-requires-after_bounds g c κs within = c.loop-path.invariant.goes.later _
    (first_at IsFileMade _ _ _ _ _ (first_to IsFileMade _ _ _ c.requires.files)
    (subst (λ count. c.loop-path.path-index < count) (sym (taken_length IsFileMade _ _ _ c.requires.files)) c.loop-path-test.true)
    (slice_get_read _ _ _ _ refl c.loop-path-test.true c.path-item.is))

pub loop-path-preserved : goal.loop-path-preserved
loop-path-preserved g c = record {
  goes = goes_then _ _ _ _ _ c.loop-path.invariant.goes c.remove_file.ensures.goes;
  removed = first_next IsFileRemoved _ _ _ _ _ _ (removed_later _ _ c.remove_file.ensures.goes.later) c.loop-path.invariant.removed refl
      c.path-item.is c.loop-path-test.true c.remove_file.ensures.removed;
  gone =
      let paths = take c.args.made c.args.paths.now in
      gone_next c.loop-path.path-index c.loop-path.path-index paths _ (g.H.Host.asked c.remove_file.new.host) refl c.path-item.is c.loop-path-test.true
      (gone_later g.J.Judge.accepts (wanted_of c.args.names.now) (IsFirst c.loop-path.path-index paths) (g.H.Host.asked c.loop-path.host)
      (g.H.Host.asked c.remove_file.new.host) c.remove_file.ensures.goes c.loop-path.invariant.gone) c.remove_file.ensures.gone;
}

pub remove_folder-requires-after_bounds : goal.remove_folder-requires-after_bounds
remove_folder-requires-after_bounds g c κs within = has_goes _ _ _ _ _ c.loop-path.invariant.goes c.requires.folder

pub returns-clause-goes : goal.returns-clause-goes
returns-clause-goes g c = goes_then _ _ _ _ _ c.loop-path.invariant.goes c.remove_folder.ensures.goes

pub returns-clause-files : goal.returns-clause-files
returns-clause-files g c =
    let all : c.loop-path.path-index ≡ c.args.made =
    omega (arith, taken_length IsFileMade _ _ _ c.requires.files, c.loop-path-test.false, c.loop-path.auto.path-index-end) in
    first_from IsFileRemoved _ _ _ (first_goes IsFileRemoved _ _ _ _ (removed_later _ _ c.remove_folder.ensures.goes.later)
    (subst (λ count. OfFirst IsFileRemoved count (take c.args.made c.args.paths.now) (g.H.Host.asked c.loop-path.host)) all c.loop-path.invariant.removed))

pub returns-clause-gone_files : goal.returns-clause-gone_files
returns-clause-gone_files g c =
    let all : c.loop-path.path-index ≡ c.args.made =
    omega (arith, taken_length IsFileMade _ _ _ c.requires.files, c.loop-path-test.false, c.loop-path.auto.path-index-end) in
    gone_later g.J.Judge.accepts (wanted_of c.args.names.now) (IsFirst c.args.made c.args.paths.now) (g.H.Host.asked c.loop-path.host)
    (g.H.Host.asked c.remove_folder.new.host) c.remove_folder.ensures.goes (λ p is left.
    subst (λ count. AreGone (IsFirst count (take c.args.made c.args.paths.now)) (g.H.Host.asked c.loop-path.host)) all
    c.loop-path.invariant.gone p (first_taken _ _ p is) left)

pub offset_bounds-path-items-path-index : goal.offset_bounds-path-items-path-index
offset_bounds-path-items-path-index g c = grind (arith, common_steps)
