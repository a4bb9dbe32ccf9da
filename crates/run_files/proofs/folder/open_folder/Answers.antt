use Rattle.run_files.proofs.Going.{free_still, held_now, judged_goes, judged_later, later_by, ready_goes, ready_later, rules_by, rules_unlocked}
use Rattle.run_files.proofs.Caused.{caused_later, unlocked_by}
use Rattle.std.proofs.Common.{refl, string_bytes}
use Rattle.run_files.proofs.Left.{left_by_goes, left_by_one}
use Rattle.std.proofs.lemmas.Grind.{elements}
use Rattle.std.proofs.Common.{arith}
use Rattle.run_files.proofs.folder.open_folder.Goals as goal

pub returns-in_err-make_if_missing-clause-cleared : goal.returns-in_err-make_if_missing-clause-cleared
returns-in_err-make_if_missing-clause-cleared g c path left = left_by_goes _ _ _ _ c.make_if_missing.ensures.goes path left

pub returns-in-Err : goal.returns-in-Err
returns-in-Err g c = record {
  rules = λ each. rules_by _ _ _ _ _ c.in-Err.ensures.asked ((ready_goes _ _ _ _ c.make_if_missing.ensures.goes c.requires.ready), c.make_if_missing.ensures.goes.free c.requires.free, c.requires.wanted) (c.make_if_missing.ensures.goes.rules each);
  later = λ r h. later_by _ _ _ c.in-Err.ensures.asked r (c.make_if_missing.ensures.goes.later r h);
  cleared = λ path left. left_by_goes _ _ _ _ c.make_if_missing.ensures.goes path (left_by_one _ _ _ c.in-Err.ensures.asked refl path left);
  held = tt;
  lock = tt;
  opened = tt;
  named = tt;
  files = tt;
  synced = tt;
  cause = unlocked_by _ _ _ (string_bytes c.args.folder.now) _ c.in-Err.fault _ c.requires.wanted c.in-Err.ensures.asked c.not_locked.ensures.busy
      c.not_locked.ensures.failed;
  err = free_still _ _ _ _ c.in-Err.ensures.asked (c.make_if_missing.ensures.goes.free c.requires.free);
}

pub open_locked-requires-clause-ready : goal.open_locked-requires-clause-ready
open_locked-requires-clause-ready g c κs within = ready_later _ _ _ _ (later_by _ _ _ c.in-Ok.ensures.asked) (ready_goes _ _ _ _ c.make_if_missing.ensures.goes c.requires.ready)

pub open_locked-requires-clause-judged : goal.open_locked-requires-clause-judged
open_locked-requires-clause-judged g c κs within =
    judged_later g.J.Judge.accepts _ _ _ _ _ _ (later_by _ _ _ c.in-Ok.ensures.asked) (judged_goes _ _ _ _ _ _ _ c.make_if_missing.ensures.goes c.requires.judged)

pub returns-in-Ok-open_locked-clause-rules : goal.returns-in-Ok-open_locked-clause-rules
returns-in-Ok-open_locked-clause-rules g c each = c.open_locked.ensures.goes.rules (rules_by _ _ _ _ _ c.in-Ok.ensures.asked ((ready_goes _ _ _ _ c.make_if_missing.ensures.goes c.requires.ready), c.make_if_missing.ensures.goes.free c.requires.free, c.requires.wanted) (c.make_if_missing.ensures.goes.rules each))

pub returns-in-Ok-open_locked-clause-later : goal.returns-in-Ok-open_locked-clause-later
returns-in-Ok-open_locked-clause-later g c r h =
    c.open_locked.ensures.goes.later r (later_by _ _ _ c.in-Ok.ensures.asked r (c.make_if_missing.ensures.goes.later r h))

pub returns-in-Ok-open_locked-clause-cleared : goal.returns-in-Ok-open_locked-clause-cleared
returns-in-Ok-open_locked-clause-cleared g c path left =
    left_by_goes _ _ _ _ c.make_if_missing.ensures.goes path
    (left_by_one _ _ _ c.in-Ok.ensures.asked refl path (left_by_goes _ _ _ _ c.open_locked.ensures.goes path left))

pub returns-in-Ok-open_locked-clause-held : goal.returns-in-Ok-open_locked-clause-held
returns-in-Ok-open_locked-clause-held g c = c.open_locked.ensures.goes.held _ (held_now _ _ _ c.in-Ok.ensures.asked)

pub returns-in-Err-open_locked-clause-rules : goal.returns-in-Err-open_locked-clause-rules
returns-in-Err-open_locked-clause-rules g c each =
    rules_unlocked _ _ _ _ _ _ c.unlock.ensures c.in-Ok.ensures.folder
    (c.open_locked.ensures.goes.held _ (held_now _ _ _ c.in-Ok.ensures.asked))
    (c.open_locked.ensures.goes.rules (rules_by _ _ _ _ _ c.in-Ok.ensures.asked ((ready_goes _ _ _ _ c.make_if_missing.ensures.goes c.requires.ready), c.make_if_missing.ensures.goes.free c.requires.free, c.requires.wanted) (c.make_if_missing.ensures.goes.rules each)))

pub returns-in-Err-open_locked-clause-later : goal.returns-in-Err-open_locked-clause-later
returns-in-Err-open_locked-clause-later g c r h =
    later_by _ _ _ c.unlock.ensures r
    (c.open_locked.ensures.goes.later r (later_by _ _ _ c.in-Ok.ensures.asked r (c.make_if_missing.ensures.goes.later r h)))

pub returns-in-Err-open_locked-clause-cleared : goal.returns-in-Err-open_locked-clause-cleared
returns-in-Err-open_locked-clause-cleared g c path left =
    left_by_goes _ _ _ _ c.make_if_missing.ensures.goes path
    (left_by_one _ _ _ c.in-Ok.ensures.asked refl path
    (left_by_goes _ _ _ _ c.open_locked.ensures.goes path (left_by_one _ _ _ c.unlock.ensures refl path left)))

pub returns-in-Err-open_locked-clause-cause : goal.returns-in-Err-open_locked-clause-cause
returns-in-Err-open_locked-clause-cause g c = caused_later _ _ _ _ (later_by _ _ _ c.unlock.ensures) _ c.in-Err-open_locked.ensures.cause

pub returns-in-Err-open_locked-clause-err : goal.returns-in-Err-open_locked-clause-err
returns-in-Err-open_locked-clause-err g c = grind (arith, elements)
