use Rattle.std.proofs.Common.{◌≤◌, ◌*◌, length, sym, ◌∙◌, subst, arith}
use Rattle.sector_disk.specs.Disk.{IsOverwritten}
use Rattle.sector_disk.specs.declared.TheConstants.{SECTOR_BYTES}
use Rattle.gate_cell.proofs.Laying.{laid_settled, laid_value, laid_frame, laid_behind}
use Rattle.gate_cell.proofs.OnePut.{gate_written}
use Rattle.gate_cell.proofs.formatting.lay_out.Goals as goal

pub returns-clause-value : goal.returns-clause-value
returns-clause-value g c =
    let D = g.D.Disk in
    let old = c.args.disk.now in
    let mid = D.content c.write_sectors.new.disk in
    let new = c.recount.new.self in
    let seen = c.recount.ensures.quiet.same ∙ c.make_sure.ensures.looks.quiet.same in
    let written =
    subst (λ l. IsOverwritten mid 0 c.gate_bytes.result l) (sym seen) c.in_ok-write_sectors-2.ensures.written in
    let bytes = c.gate_bytes.ensures in
    let whole : SECTOR_BYTES * c.args.size ≤ length (D.content old) =
    omega (arith, g.met.D.Disk.is_whole old, c.requires.within) in
    let whole_mid : SECTOR_BYTES * c.args.size ≤ length mid =
    omega (
      arith,
      g.met.D.Disk.is_whole c.write_sectors.new.disk,
      c.write_sectors.ensures.setup.same_sectors,
      c.requires.within,
    ) in
    laid_value c.args.size (D.content old) mid (D.content new) _ c.args.frame.now c.gate_bytes.result c.requires.big
    whole
    c.requires.frame c.requires.room c.in_ok-write_sectors.ensures.written whole_mid bytes.long bytes.names written

pub returns-clause-frame : goal.returns-clause-frame
returns-clause-frame g c =
    let D = g.D.Disk in
    let old = c.args.disk.now in
    let mid = D.content c.write_sectors.new.disk in
    let new = c.recount.new.self in
    let seen = c.recount.ensures.quiet.same ∙ c.make_sure.ensures.looks.quiet.same in
    let written =
    subst (λ l. IsOverwritten mid 0 c.gate_bytes.result l) (sym seen) c.in_ok-write_sectors-2.ensures.written in
    let bytes = c.gate_bytes.ensures in
    let whole : SECTOR_BYTES * c.args.size ≤ length (D.content old) =
    omega (arith, g.met.D.Disk.is_whole old, c.requires.within) in
    let whole_mid : SECTOR_BYTES * c.args.size ≤ length mid =
    omega (
      arith,
      g.met.D.Disk.is_whole c.write_sectors.new.disk,
      c.write_sectors.ensures.setup.same_sectors,
      c.requires.within,
    ) in
    laid_frame c.args.size (D.content old) mid (D.content new) _ c.args.frame.now c.gate_bytes.result c.requires.big
    whole
    c.requires.frame c.requires.room c.in_ok-write_sectors.ensures.written whole_mid bytes.long bytes.names written

pub returns-clause-behind : goal.returns-clause-behind
returns-clause-behind g c =
    let D = g.D.Disk in
    let old = c.args.disk.now in
    let mid = D.content c.write_sectors.new.disk in
    let new = c.recount.new.self in
    let seen = c.recount.ensures.quiet.same ∙ c.make_sure.ensures.looks.quiet.same in
    let written =
    subst (λ l. IsOverwritten mid 0 c.gate_bytes.result l) (sym seen) c.in_ok-write_sectors-2.ensures.written in
    let bytes = c.gate_bytes.ensures in
    let whole : SECTOR_BYTES * c.args.size ≤ length (D.content old) =
    omega (arith, g.met.D.Disk.is_whole old, c.requires.within) in
    let whole_mid : SECTOR_BYTES * c.args.size ≤ length mid =
    omega (
      arith,
      g.met.D.Disk.is_whole c.write_sectors.new.disk,
      c.write_sectors.ensures.setup.same_sectors,
      c.requires.within,
    ) in
    laid_behind c.args.size (D.content old) mid (D.content new) _ c.args.frame.now c.gate_bytes.result c.requires.big
    whole
    c.requires.frame c.requires.room c.in_ok-write_sectors.ensures.written whole_mid bytes.long bytes.names written

pub returns-clause-settled : goal.returns-clause-settled
returns-clause-settled g c =
    let D = g.D.Disk in
    let old = c.args.disk.now in
    let mid = D.content c.write_sectors.new.disk in
    let new = c.recount.new.self in
    let seen = c.recount.ensures.quiet.same ∙ c.make_sure.ensures.looks.quiet.same in
    let written =
    subst (λ l. IsOverwritten mid 0 c.gate_bytes.result l) (sym seen) c.in_ok-write_sectors-2.ensures.written in
    let bytes = c.gate_bytes.ensures in
    let whole : SECTOR_BYTES * c.args.size ≤ length (D.content old) =
    omega (arith, g.met.D.Disk.is_whole old, c.requires.within) in
    let whole_mid : SECTOR_BYTES * c.args.size ≤ length mid =
    omega (
      arith,
      g.met.D.Disk.is_whole c.write_sectors.new.disk,
      c.write_sectors.ensures.setup.same_sectors,
      c.requires.within,
    ) in
    laid_settled c.args.size (D.content old) mid (D.content new) _ c.args.frame.now c.gate_bytes.result c.requires.big
    whole
    c.requires.frame c.requires.room c.in_ok-write_sectors.ensures.written whole_mid bytes.long bytes.names written
    (D.may_leave new)
    (λ f left. c.in_ok-make_sure.ensures.durable f (c.recount.ensures.quiet.no_more f left)
    ∙ sym c.recount.ensures.quiet.same)

pub returns-clause-gate : goal.returns-clause-gate
returns-clause-gate g c =
    let D = g.D.Disk in
    let mid = D.content c.write_sectors.new.disk in
    let seen = c.recount.ensures.quiet.same ∙ c.make_sure.ensures.looks.quiet.same in
    let written =
    subst (λ l. IsOverwritten mid 0 c.gate_bytes.result l) (sym seen) c.in_ok-write_sectors-2.ensures.written in
    gate_written _ _ _ _ c.gate_bytes.ensures.long c.gate_bytes.ensures.names written
