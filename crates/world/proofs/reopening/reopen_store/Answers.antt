use Rattle.std.proofs.Common.{refl, sym, ap, subst, ◌∙◌}
use Rattle.std.specs.Prelude.{IsTrue}
use Rattle.slot_cell.specs.SplitCell.{disk_in, whole_of}
use Rattle.ckpt_store.specs.StoreView.{record_spelled}
use Rattle.protocol.specs.Node.Common.{cell_in, known_in, Spells, Whole}
use Rattle.slot_cell.specs.SplitLayout.{whole_on}
use Rattle.world.specs.Left.{record_on}
use Rattle.world.proofs.OpeningStores.{answered, opened_failures}
use Rattle.world.proofs.Reopened.{AsLeft, cell_refused, found_in, holds_found, looked_at, not_loaded, settled_cell}
use Rattle.world.proofs.Reopened.{store_refused, then_looked}
use Rattle.world.proofs.reopening.reopen_store.Goals as goal

pub returns-in-Err-clause-refused : goal.returns-in-Err-clause-refused
returns-in-Err-clause-refused g c =
    cell_refused g.D.Disk g.met.D.Disk.content_may_stay c.args.disk c.in-Err.disk c.in-Err.fault c.from.result
    c.requires.held c.from.ensures c.in-Err.ensures.looks_err c.in-Err.ensures.setup_err c.in-Err.ensures.cause

pub returns-in-Err-open-clause-refused : goal.returns-in-Err-open-clause-refused
returns-in-Err-open-clause-refused g c =
    let disk = c.args.disk in
    let load = c.in-Err-open.ensures.opens in
    let kept = record_on g.D.Disk.sector_count g.D.Disk.content disk in
    not_loaded g.D.Disk disk c.close.result (g.D.Disk.failure_count (disk_in c.in-Ok.cell))
    (g.D.Disk.failure_count (disk_in c.in-Err-open.refused.cell)) c.in-Err-open.refused.fault
    (store_refused _ _ kept c.in-Ok.cell c.in-Err-open.refused.cell c.in-Err-open.refused.fault load
    (subst (λ (w : Whole). ∥ Spells kept w ∥₁) (sym c.in-Ok.ensures.opens.holds)
    (c.requires.held.alone (whole_on (g.D.Disk.sector_count disk) (g.D.Disk.content disk))
    (g.D.Disk.content disk, g.met.D.Disk.content_may_stay disk, refl)))
    c.in-Ok.ensures.opens.ready)
    (subst (AsLeft g.D.Disk disk) (sym c.close.ensures)
    (then_looked g.D.Disk g.met.D.Disk.includes_now disk c.in-Ok.cell c.in-Err-open.refused.cell
    (looked_at g.D.Disk disk (disk_in c.in-Ok.cell) c.requires.held c.in-Ok.ensures.looks.quiet c.in-Ok.ensures.setup)
    load.same_whole load.any_moment load.same_slot_room load.same_setup.same_faults))
    c.in-Ok.ensures.failures (ap g.D.Disk.failure_count (sym c.close.ensures)) load.failures

pub returns-clause-opened : goal.returns-clause-opened
returns-clause-opened g c =
    let disk = c.args.disk in
    let load = c.in-Ok-open.ensures.opens in
    let same = c.recount.ensures.untouched in
    let kept = record_on g.D.Disk.sector_count g.D.Disk.content disk in
    let back : AsLeft g.D.Disk disk (disk_in (cell_in c.recount.new.self)) =
    then_looked g.D.Disk g.met.D.Disk.includes_now disk (cell_in c.in-Ok-open.store) (cell_in c.recount.new.self)
    (then_looked g.D.Disk g.met.D.Disk.includes_now disk c.in-Ok.cell (cell_in c.in-Ok-open.store)
    (looked_at g.D.Disk disk (disk_in c.in-Ok.cell) c.requires.held c.in-Ok.ensures.looks.quiet c.in-Ok.ensures.setup)
    load.same_whole load.any_moment load.same_slot_room load.same_setup.same_faults)
    same.same_whole same.any_moment same.same_slot_room c.recount.ensures.same_faults in
    record {
      shows = ap record_spelled back.same;
      holds = holds_found (whole_of c.in-Ok.cell) (whole_of (cell_in c.recount.new.self))
          (whole_on (g.D.Disk.sector_count disk) (g.D.Disk.content disk)) (same.same_whole ∙ load.same_whole) back.same
          (found_in (λ found. Spells found (whole_of c.in-Ok.cell)) (known_in c.in-Ok-open.store)
          c.in-Ok-open.ensures.ready load.found);
      settled = settled_cell g.D.Disk (cell_in c.recount.new.self)
          (subst IsTrue (sym (same.same_readiness
          ∙ load.stays_ready (answered (known_in c.in-Ok-open.store) c.in-Ok-open.ensures.ready)))
          c.in-Ok.ensures.opens.ready);
      failures = opened_failures _ _ kept c.in-Ok.cell c.in-Ok-open.store c.recount.new.self load same
          c.in-Ok-open.ensures.ready ∙ c.in-Ok.ensures.failures;
      armed = back.same_faults;
      counted = c.recount.ensures.none_counted;
      room = back.room;
      as_left = back;
    }
