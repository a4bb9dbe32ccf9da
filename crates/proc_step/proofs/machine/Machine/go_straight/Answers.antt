use Rattle.std.proofs.Common.{◌+◌, ◌≡◌, refl, arith}
use Rattle.std.proofs.lemmas.Option.{slice_get_past}
use Rattle.proc_step.specs.Stepping.{held}
use Rattle.proc_step.proofs.Straight.{at_hand, not_yet, ran_out, goes_behind, goes_to, stops}
use Rattle.proc_step.proofs.machine.Machine.go_straight.Goals as goal

pub returns-in_default : goal.returns-in_default
returns-in_default c =
    let code = c.args.code.now in
    let first = held c.args.self.now c.args.self.now.place c.args.stack.now in
    ran_out code c.args.room.now first 0 first (not_yet code c.args.room.now first first.place refl) first.place
    (slice_get_past code first.place (omega (arith, c.in_default.ensures.lookup)))

pub loop-instruction-init : goal.loop-instruction-init
loop-instruction-init c =
    let first = held c.args.self.now c.args.self.now.place c.args.stack.now in
    let there : first.place ≡ first.place + 0 = omega arith in
    not_yet c.args.code.now c.args.room.now first (first.place + 0) there

pub loop-instruction-preserved : goal.loop-instruction-preserved
loop-instruction-preserved c =
    let code = c.args.code.now in
    let first = held c.args.self.now c.args.self.now.place c.args.stack.now in
    let l = c.loop-instruction in
    let place = first.place + l.instruction-index in
    let next : place + 1 ≡ first.place + (l.instruction-index + 1) = omega arith in
    let rest = c.in-Some.ensures.lookup in
    goes_behind code c.args.room.now first l.instruction-index (held l.self place l.stack) l.invariant _
    (at_hand code c.in-Some.rest.now first.place l.instruction-index _ rest.0.2 rest.0.3 c.loop-instruction-test.true)
    c.in_ok-perform.field-0 (held c.perform.new.self place c.perform.new.stack) (c.in_ok-perform.ensures place)
    (first.place + (l.instruction-index + 1)) next c.in-Behind.is

pub returns-in-To : goal.returns-in-To
returns-in-To c =
    let code = c.args.code.now in
    let first = held c.args.self.now c.args.self.now.place c.args.stack.now in
    let l = c.loop-instruction in
    let place = first.place + l.instruction-index in
    let rest = c.in-Some.ensures.lookup in
    goes_to code c.args.room.now first l.instruction-index (held l.self place l.stack) l.invariant _
    (at_hand code c.in-Some.rest.now first.place l.instruction-index _ rest.0.2 rest.0.3 c.loop-instruction-test.true)
    c.in_ok-perform.field-0 (held c.perform.new.self place c.perform.new.stack) (c.in_ok-perform.ensures place)
    c.in-To.target c.in-To.is

pub returns-in-Stop : goal.returns-in-Stop
returns-in-Stop c =
    let code = c.args.code.now in
    let first = held c.args.self.now c.args.self.now.place c.args.stack.now in
    let l = c.loop-instruction in
    let place = first.place + l.instruction-index in
    let rest = c.in-Some.ensures.lookup in
    stops code c.args.room.now first l.instruction-index (held l.self place l.stack) l.invariant _
    (at_hand code c.in-Some.rest.now first.place l.instruction-index _ rest.0.2 rest.0.3 c.loop-instruction-test.true)
    c.in_ok-perform.field-0 (held c.perform.new.self place c.perform.new.stack) (c.in_ok-perform.ensures place)
    c.in-Stop.flow c.perform.new.self.place c.in-Stop.is

pub returns : goal.returns
returns c =
    let code = c.args.code.now in
    let first = held c.args.self.now c.args.self.now.place c.args.stack.now in
    let l = c.loop-instruction in
    let place = first.place + l.instruction-index in
    let rest = c.in-Some.ensures.lookup in
    ran_out code c.args.room.now first l.instruction-index (held l.self place l.stack) l.invariant l.self.place
    (slice_get_past code place (omega (arith, rest.0.3, c.loop-instruction-test.false)))
