use Rattle.std.proofs.Common.{take, rules}
use Rattle.std.proofs.lemmas.List.{take_more}
use Rattle.sector_disk.specs.declared.disk.ArmedFault.{ArmedFault}
use Rattle.sector_disk.proofs.NextArmed.{one_behind}
use Rattle.sector_disk.proofs.schedule.next_armed.Goals.{then-fault-calls, else-fault-calls}
use Rattle.sector_disk.proofs.schedule.next_armed.Goals as goal

pub loop-fault-preserved : goal.loop-fault-preserved
loop-fault-preserved c =
    let armed = c.args.armed.now in
    let i = c.loop-fault.fault-index in
    let none : ArmedFault = record { call = 0; fill = 0 } in
    rw (take_more armed i none c.loop-fault-test.true)
    (one_behind (take i armed) _ c.loop-fault.next c.if-fault-calls.next c.args.calls c.loop-fault.invariant
    (search rules) (search rules))
