use Rattle.std.proofs.Common.{◌≤◌, ◌*◌, length, subst, arith}
use Rattle.sector_disk.specs.Clock.{LeavesOnly}
use Rattle.sector_disk.specs.Disk.{SameOutside}
use Rattle.sector_disk.specs.declared.TheConstants.{SECTOR_BYTES}
use Rattle.gate_cell.proofs.OnePut.{then_settled, then_value, then_frame}
use Rattle.gate_cell.proofs.OnePut.{gate_written}
use Rattle.gate_cell.proofs.PutMoves.{put_setting, first_left, both_left}
use Rattle.std.proofs.lemmas.Grind.{elements}
use Rattle.gate_cell.proofs.gated.put_value.Goals as goal

pub returns-in_err-write_through-clause-any_moment : goal.returns-in_err-write_through-clause-any_moment
returns-in_err-write_through-clause-any_moment g c =
    let D = g.D.Disk in
    let old = c.args.disk.now in
    let s = put_setting c.args.size c.args.active _ (D.content old) c.args.frame.now (D.sector_count old)
    c.requires.big c.requires.which c.requires.gate (g.met.D.Disk.is_whole old) c.requires.within c.requires.frame
    c.requires.room c.area_of.ensures in
    first_left D.moment D.left_since old c.write_through.new.disk _ _ _ _ _ _ s c.write_through.ensures.any_moment

pub returns-in_err-write_through-2-clause-any_moment : goal.returns-in_err-write_through-2-clause-any_moment
returns-in_err-write_through-2-clause-any_moment g c =
    let D = g.D.Disk in
    let old = c.args.disk.now in
    let mid = c.write_through.new.disk in
    let new = c.write_through-2.new.disk in
    let s = put_setting c.args.size c.args.active _ (D.content old) c.args.frame.now (D.sector_count old)
    c.requires.big c.requires.which c.requires.gate (g.met.D.Disk.is_whole old) c.requires.within c.requires.frame
    c.requires.room c.area_of.ensures in
    let gate =
    subst (λ n. LeavesOnly D.moment D.left_since mid new (SameOutside 0 n (D.content mid)))
    c.gate_bytes.ensures.long c.write_through-2.ensures.any_moment in
    both_left D.moment D.left_since old mid new _ _ _ _ _ _ s (D.content mid) c.in_ok-write_through.ensures.written
    c.write_through.ensures.any_moment gate

pub returns-clause-any_moment : goal.returns-clause-any_moment
returns-clause-any_moment g c =
    let D = g.D.Disk in
    let old = c.args.disk.now in
    let mid = c.write_through.new.disk in
    let new = c.write_through-2.new.disk in
    let s = put_setting c.args.size c.args.active _ (D.content old) c.args.frame.now (D.sector_count old)
    c.requires.big c.requires.which c.requires.gate (g.met.D.Disk.is_whole old) c.requires.within c.requires.frame
    c.requires.room c.area_of.ensures in
    let gate =
    subst (λ n. LeavesOnly D.moment D.left_since mid new (SameOutside 0 n (D.content mid)))
    c.gate_bytes.ensures.long c.write_through-2.ensures.any_moment in
    both_left D.moment D.left_since old mid new _ _ _ _ _ _ s (D.content mid) c.in_ok-write_through.ensures.written
    c.write_through.ensures.any_moment gate

pub returns-clause-settled : goal.returns-clause-settled
returns-clause-settled g c =
    let D = g.D.Disk in
    let old = c.args.disk.now in
    let mid = c.write_through.new.disk in
    let new = c.write_through-2.new.disk in
    let s = put_setting c.args.size c.args.active _ (D.content old) c.args.frame.now (D.sector_count old)
    c.requires.big c.requires.which c.requires.gate (g.met.D.Disk.is_whole old) c.requires.within c.requires.frame
    c.requires.room c.area_of.ensures in
    let bytes = c.gate_bytes.ensures in
    let whole : SECTOR_BYTES * c.args.size ≤ length (D.content mid) =
    omega (arith, g.met.D.Disk.is_whole mid, c.write_through.ensures.setup.same_sectors, c.requires.within) in
    then_settled _ _ _ _ _ _ s (D.content mid) c.in_ok-write_through.ensures.written c.gate_bytes.result
    (D.content new) bytes.long bytes.names.names c.in_ok-write_through-2.ensures.written whole (D.may_leave new)
    c.in_ok-write_through-2.ensures.durable

pub returns-clause-value : goal.returns-clause-value
returns-clause-value g c =
    let D = g.D.Disk in
    let old = c.args.disk.now in
    let mid = c.write_through.new.disk in
    let new = c.write_through-2.new.disk in
    let s = put_setting c.args.size c.args.active _ (D.content old) c.args.frame.now (D.sector_count old)
    c.requires.big c.requires.which c.requires.gate (g.met.D.Disk.is_whole old) c.requires.within c.requires.frame
    c.requires.room c.area_of.ensures in
    let bytes = c.gate_bytes.ensures in
    let whole : SECTOR_BYTES * c.args.size ≤ length (D.content mid) =
    omega (arith, g.met.D.Disk.is_whole mid, c.write_through.ensures.setup.same_sectors, c.requires.within) in
    then_value _ _ _ _ _ _ s (D.content mid) c.in_ok-write_through.ensures.written c.gate_bytes.result (D.content new)
    bytes.long bytes.names.names c.in_ok-write_through-2.ensures.written whole

pub returns-clause-frame : goal.returns-clause-frame
returns-clause-frame g c =
    let D = g.D.Disk in
    let old = c.args.disk.now in
    let mid = c.write_through.new.disk in
    let new = c.write_through-2.new.disk in
    let s = put_setting c.args.size c.args.active _ (D.content old) c.args.frame.now (D.sector_count old)
    c.requires.big c.requires.which c.requires.gate (g.met.D.Disk.is_whole old) c.requires.within c.requires.frame
    c.requires.room c.area_of.ensures in
    let bytes = c.gate_bytes.ensures in
    let whole : SECTOR_BYTES * c.args.size ≤ length (D.content mid) =
    omega (arith, g.met.D.Disk.is_whole mid, c.write_through.ensures.setup.same_sectors, c.requires.within) in
    then_frame _ _ _ _ _ _ s (D.content mid) c.in_ok-write_through.ensures.written c.gate_bytes.result (D.content new)
    bytes.long bytes.names.names c.in_ok-write_through-2.ensures.written whole

pub returns-clause-gate : goal.returns-clause-gate
returns-clause-gate g c =
    gate_written _ _ _ _ c.gate_bytes.ensures.long c.gate_bytes.ensures.names c.in_ok-write_through-2.ensures.written

pub overflow_add-other : goal.overflow_add-other
overflow_add-other g c = grind (arith, elements)

pub overflow_mul-other : goal.overflow_mul-other
overflow_mul-other g c = grind (arith, elements)

pub write_through-requires-clause-in_range : goal.write_through-requires-clause-in_range
write_through-requires-clause-in_range g c = grind (arith, elements)
