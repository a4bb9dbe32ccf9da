use Rattle.std.proofs.Common.{sym, ap, subst}
use Rattle.gate_cell.proofs.Lift.{lifted_call}
use Rattle.slot_cell.specs.SplitLayout.{slot_room_on, header_on, whole_on}
use Rattle.slot_cell.specs.SplitStands.{only_whole}
use Rattle.slot_cell.proofs.split.SplitCellStableCell.crash.Goals as goal

pub returns-clause-any_moment : goal.returns-clause-any_moment
returns-clause-any_moment g c =
    let D = g.D.Disk in
    let old = c.args.self.now.disk in
    let crash = c.crash.ensures in
    let up =
    lifted_call header_on D.moment D.left_since D.sector_count old c.crash.new.self crash.setup.same_sectors
    D.may_leave (g.met.D.Disk.only_now old) crash.time
    (λ f now. subst (D.may_leave old) (sym (crash.durable f now)) crash.left) in
    record { later = up.later; each = up.each; before = up.before; keeps = up.keeps }

pub returns-clause-beside : goal.returns-clause-beside
returns-clause-beside g c =
    let D = g.D.Disk in
    let old = c.args.self.now.disk in
    let new = c.crash.new.self in
    let crash = c.crash.ensures in
    let up =
    lifted_call whole_on D.moment D.left_since D.sector_count old new crash.setup.same_sectors D.may_leave
    (g.met.D.Disk.only_now old) crash.time
    (λ f now. subst (D.may_leave old) (sym (crash.durable f now)) crash.left) in
    record {
      same_slot_room = ap slot_room_on crash.setup.same_sectors;
      settled = only_whole (D.sector_count new) (D.content new) (D.may_leave new) crash.durable;
      any_moment = record { later = up.later; each = up.each; before = up.before; keeps = up.keeps };
    }
