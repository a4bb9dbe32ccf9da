use Rattle.std.proofs.Common.{sym, ◌∙◌}
use Rattle.node.proofs.Recoveries.{crash_has, crash_step}
use Rattle.node.proofs.recover.crash.Goals as goal

pub returns-clause-kept : goal.returns-clause-kept
returns-clause-kept g c =
    let up = sym c.is_down.ensures ∙ c.if-is_down.false in
    crash_has g.C.StableCell g.C.SlotCell c.args.number c.args.restart c.args.store.now c.crash.new.self c.args.state.now
    c.stop.new.self c.requires up c.crash.ensures.same c.crash.ensures.settled c.stop.ensures

pub returns-clause-step : goal.returns-clause-step
returns-clause-step g c = λ was_up.
    let up = sym c.is_down.ensures ∙ c.if-is_down.false in
    crash_step g.C.StableCell g.C.SlotCell c.args.number c.args.restart c.args.store.now c.crash.new.self c.args.state.now
    c.stop.new.self c.requires up c.crash.ensures.same c.crash.ensures.settled c.stop.ensures
