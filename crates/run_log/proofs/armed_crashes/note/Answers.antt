use Rattle.std.proofs.Common.{◌∙◌, sym}
use Rattle.run_log.proofs.Arming.{now_first, still_first}
use Rattle.run_log.proofs.armed_crashes.note.Goals as goal

pub returns-then-contains_key-clause-noted : goal.returns-then-contains_key-clause-noted
returns-then-contains_key-clause-noted c = λ crashes has.
    still_first crashes c.args.firsts.now c.args.crash (sym c.contains_key.ensures ∙ c.if-contains_key.true) has

pub returns-clause-noted : goal.returns-clause-noted
returns-clause-noted c = λ crashes has.
    now_first crashes c.args.firsts.now c.insert.new.self c.args.crash
    (sym c.contains_key.ensures ∙ c.if-contains_key.false) (c.in_ok-insert.ensures.updates).0 has
