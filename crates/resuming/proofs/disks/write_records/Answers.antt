use Rattle.std.proofs.Common.{inr, length, sym, ap, subst, ◌∙◌, rules, arith}
use Rattle.std.specs.Prelude.{IsTrue}
use Rattle.std.specs.Vec.Iter.{into_iter_items}
use Rattle.protocol.specs.Node.Common.{image_length, IsRecord, MAX_RETAINED_ITEMS, RecordView}
use Rattle.ckpt_codec.specs.SizeLaws.{IsRecordWithin}
use Rattle.protocol_laws.specs.Node.PlaceLaws.{nodes_few}
use Rattle.rerun.specs.Whole.{inputs_in, net_in, table_in}
use Rattle.resuming.specs.Disks.{IsWritten}
use Rattle.resuming.specs.Images.{KeepsShares, record_of}
use Rattle.resuming.proofs.Begun.{has_no_place, not_written}
use Rattle.resuming.proofs.Written.{as_many_each, below_all, bounded, one_more, writable}
use Rattle.resuming.proofs.disks.write_records.Goals as goal

pub overflow_cast-len : goal.overflow_cast-len
overflow_cast-len g c =
    let rerun = c.args.rerun.now in
    let so_far = c.loop-disk.invariant.2 in
    let count = as_many_each _ 0 so_far.0 c.loop-disk.written.items so_far.2 in
    let below = below_all c.args.disks.items so_far.0 (into_iter_items c.loop-disk.disk-iterator)
    (into_iter_items c.next.new.self) c.in-Some.disk (length c.loop-disk.written.items) count c.in-Some.ensures.steps.0
    so_far.1 in
    let few = nodes_few (net_in rerun) rerun.net.value.valid in
    omega (arith, below, few, c.requires, c.len.ensures)

pub write_record-requires-clause-written : goal.write_record-requires-clause-written
write_record-requires-clause-written g c =
    let rerun = c.args.rerun.now in
    let so_far = c.loop-disk.invariant.2 in
    let count = as_many_each _ 0 so_far.0 c.loop-disk.written.items so_far.2 in
    let below = below_all c.args.disks.items so_far.0 (into_iter_items c.loop-disk.disk-iterator)
    (into_iter_items c.next.new.self) c.in-Some.disk (length c.loop-disk.written.items) count c.in-Some.ensures.steps.0
    so_far.1 in
    let is = c.in_ok-kept.ensures in
    let shares = c.keeps_shares.ensures.0 c.if-not-keeps_shares.false in
    subst IsRecord (sym is)
    (writable (net_in rerun) (inputs_in rerun) (table_in rerun) rerun.net.value.valid rerun.fits rerun.ordered
    rerun.reached _ (subst KeepsShares (ap (λ (r : RecordView). r.permanent) (c.kept.view_is ∙ is)) shares)
    (omega (arith, below, c.requires, c.len.ensures)))

pub write_record-requires-clause-bounded : goal.write_record-requires-clause-bounded
write_record-requires-clause-bounded g c =
    let rerun = c.args.rerun.now in
    let is = c.in_ok-kept.ensures in
    let shares = c.keeps_shares.ensures.0 c.if-not-keeps_shares.false in
    subst (IsRecordWithin MAX_RETAINED_ITEMS) (sym is)
    (bounded (net_in rerun) (inputs_in rerun) (table_in rerun) rerun.net.value.valid rerun.fits rerun.ordered
    rerun.reached _ (subst KeepsShares (ap (λ (r : RecordView). r.permanent) (c.kept.view_is ∙ is)) shares))

pub loop-disk-preserved : goal.loop-disk-preserved
loop-disk-preserved g c =
    let rerun = c.args.rerun.now in
    let shares = c.keeps_shares.ensures.0 c.if-not-keeps_shares.false in
    let so_far = c.loop-disk.invariant.2 in (
      search rules,
      search rules,
      one_more _ c.args.disks.items so_far.0 (into_iter_items c.next.new.self) c.in-Some.disk
          (into_iter_items c.loop-disk.disk-iterator) c.loop-disk.written.items c.push.new.self.items c.in-Ok.disk
          c.in-Some.ensures.steps.0 c.in_ok-push-in-Ok.ensures.items
          (subst (λ (r : RecordView). IsWritten g.D.Disk.sector_count g.D.Disk.content g.D.Disk.may_leave g.D.Disk.armed
          g.D.Disk.failure_count r c.in-Some.disk c.in-Ok.disk × KeepsShares r.permanent)
          (c.in_ok-kept.ensures
          ∙ ap (record_of (net_in rerun) (table_in rerun)) (c.len.ensures ∙ c.loop-disk.written.ok.0))
          (c.in-Ok.ensures.written, subst (λ (r : RecordView). KeepsShares r.permanent) c.kept.view_is shares))
          so_far.1 so_far.2,
    )

pub returns-then-not-keeps_shares-clause-cause : goal.returns-then-not-keeps_shares-clause-cause
returns-then-not-keeps_shares-clause-cause g c =
    let rerun = c.args.rerun.now in
    let so_far = c.loop-disk.invariant.2 in
    let count = as_many_each _ 0 so_far.0 c.loop-disk.written.items so_far.2 in
    let image = ap (λ (r : RecordView). r.permanent)
    (c.kept.view_is ∙ (c.in_ok-kept.ensures ∙ ap (record_of (net_in rerun) (table_in rerun)) (c.len.ensures ∙ c.loop-disk.written.ok.0))) in
    let fails : ¬ (IsTrue c.keeps_shares.result) = search rules in
    has_no_place g.D.Disk.sector_count (net_in rerun) (table_in rerun) c.args.disks.items so_far.0
    (into_iter_items c.loop-disk.disk-iterator) (into_iter_items c.next.new.self) c.in-Some.disk
    (length c.loop-disk.written.items) count c.in-Some.ensures.steps.0 so_far.1
    (inr (λ keeps. fails (c.keeps_shares.ensures.1 (subst KeepsShares (sym image) keeps))))

pub returns-in-Err-clause-cause : goal.returns-in-Err-clause-cause
returns-in-Err-clause-cause g c =
    let rerun = c.args.rerun.now in
    let so_far = c.loop-disk.invariant.2 in
    let count = as_many_each _ 0 so_far.0 c.loop-disk.written.items so_far.2 in
    let image = ap (λ (r : RecordView). r.permanent)
    (c.in_ok-kept.ensures ∙ ap (record_of (net_in rerun) (table_in rerun)) (c.len.ensures ∙ c.loop-disk.written.ok.0)) in
    not_written g.D.Disk.sector_count (net_in rerun) (table_in rerun) c.args.disks.items so_far.0
    (into_iter_items c.loop-disk.disk-iterator) (into_iter_items c.next.new.self) c.in-Some.disk
    (length c.loop-disk.written.items) (image_length c.in_ok-kept.kept.permanent) count c.in-Some.ensures.steps.0
    so_far.1 (ap image_length image) c.in-Err.refused.fault c.in-Err.ensures.refused.why
