use Rattle.std.proofs.Common.{ℕ, ◌≡◌, ◌≤◌, List, length, sym, ap, subst, ◌∙◌, rules, arith}
use Rattle.std.specs.Prelude.{IsSome, IsTrue}
use Rattle.slot_cell.specs.SplitCell.{slot_capacity_of, is_ready_of, whole_of}
use Rattle.protocol.specs.Node.Common.{slot_room_on, DecisionView, RecordView, Spells, image_length}
use Rattle.slot_cell.specs.SplitLayout.{whole_on}
use Rattle.ckpt_codec.specs.Common.{IsImageSpelled}
use Rattle.ckpt_codec.specs.RecordText.{most_decisions}
use Rattle.ckpt_codec.specs.declared.lengths.TheConstants.{MAX_HEADER_BYTES}
use Rattle.ckpt_store.proofs.Puts.{permanent_spelled}
use Rattle.ckpt_store.specs.declared.fault.StoreFault.TheVariants.{NoMemory, TooLarge}
use Rattle.world.specs.OpeningWorld.{HasRoom}
use Rattle.world.proofs.OpeningStores.{first_spelled, opened_armed, opened_record, opened_failures, opened_holds, opened_header, opened_room, first_header}
use Rattle.world.proofs.OpeningStores.{room_missing, format_refusal, fill_refusal, open_refusal, not_touched, format_back, fill_back, load_back}
use Rattle.world.proofs.opening.open_store.Goals as goal

pub has_room-requires : goal.has_room-requires
has_room-requires g c =
    subst (λ (r : RecordView). IsImageSpelled r.permanent) (sym c.kept.view_is)
    (permanent_spelled c.args.kept.now c.requires.written)

pub write_image-requires : goal.write_image-requires
write_image-requires g c =
    subst (λ (r : RecordView). IsImageSpelled r.permanent) (sym c.kept.view_is)
    (permanent_spelled c.args.kept.now c.requires.written)

pub write_header_in-requires-clause-few : goal.write_header_in-requires-clause-few
write_header_in-requires-clause-few g c =
    subst (λ (decisions : List DecisionView). length decisions ≤ most_decisions c.args.version)
    (sym c.requires.settled) (omega arith)

pub returns-then-not-has_room-clause-refused : goal.returns-then-not-has_room-clause-refused
returns-then-not-has_room-clause-refused g c =
    let sectors = g.D.Disk.sector_count c.args.disk in
    let missing : ¬ (IsTrue c.has_room.result) = search rules in
    not_touched g.D.Disk.sector_count g.D.Disk.failure_count (image_length c.args.kept.now.permanent) c.args.disk
    TooLarge
    (room_missing sectors (image_length c.args.kept.now.permanent)
    (λ room. missing (c.has_room.ensures.1
    (subst (λ (r : RecordView). HasRoom sectors (image_length r.permanent)) (sym c.kept.view_is) room))))
    (λ device. cc)

pub returns-in_default-clause-refused : goal.returns-in_default-clause-refused
returns-in_default-clause-refused g c =
    not_touched g.D.Disk.sector_count g.D.Disk.failure_count (image_length c.args.kept.now.permanent) c.args.disk
    NoMemory tt (λ device. cc)

pub returns-in-Err-clause-refused : goal.returns-in-Err-clause-refused
returns-in-Err-clause-refused g c =
    let sectors = g.D.Disk.sector_count c.args.disk in
    let image_len = image_length c.args.kept.now.permanent in
    let room : HasRoom sectors image_len =
    subst (λ (r : RecordView). HasRoom sectors (image_length r.permanent)) c.kept.view_is
    (c.has_room.ensures.0 c.if-not-has_room.false) in
    let long = ap (length {A = ℕ}) c.as_slice.ensures.value in
    let short : length c.as_slice.result.now ≤ MAX_HEADER_BYTES = omega (arith, long, c.in-Ok-Ok.ensures.short) in
    format_back g.D.Disk.sector_count g.D.Disk.failure_count image_len c.args.disk c.in-Err.disk c.in-Err.fault
    c.from.result
    (format_refusal sectors image_len (length c.as_slice.result.now) c.in-Err.fault c.from.result room short
    c.from.ensures c.in-Err.ensures.reopen c.in-Err.ensures.no_room)
    c.from.ensures c.in-Err.ensures.setup_err.same_sectors c.in-Err.ensures.device c.in-Err.ensures.unchanged

pub returns-in-Err-fill-clause-refused : goal.returns-in-Err-fill-clause-refused
returns-in-Err-fill-clause-refused g c =
    let sectors = g.D.Disk.sector_count c.args.disk in
    let image_len = image_length c.args.kept.now.permanent in
    let room : HasRoom sectors image_len =
    subst (λ (r : RecordView). HasRoom sectors (image_length r.permanent)) c.kept.view_is (c.has_room.ensures.0 c.if-not-has_room.false) in
    let long : length c.as_slice-2.result.now ≡ image_len =
    ap (length {A = ℕ}) c.as_slice-2.ensures.value
    ∙ (c.in-Ok-Ok.ensures'.long ∙ ap (λ (r : RecordView). image_length r.permanent) c.kept.view_is) in
    fill_back g.D.Disk.sector_count g.D.Disk.failure_count image_len c.args.disk c.close.result _ _
    (is_ready_of c.in-Ok.cell) _ c.in-Err-fill.fault c.from-in-Err-fill.result
    (fill_refusal sectors image_len (slot_capacity_of c.in-Ok.cell) (length c.as_slice-2.result.now) _ _
    (is_ready_of c.in-Ok.cell) _ c.in-Err-fill.fault c.from-in-Err-fill.result room
    (ap slot_room_on c.in-Ok.ensures.setup.same_sectors) long c.in-Ok.ensures.formatted.ready
    c.from-in-Err-fill.ensures c.in-Err-fill.ensures.too_large c.in-Err-fill.ensures.cause)
    c.from-in-Err-fill.ensures
    (ap (λ disk. slot_room_on (g.D.Disk.sector_count disk)) c.close.ensures
    ∙ (c.in-Err-fill.ensures.same_slot_room ∙ ap slot_room_on c.in-Ok.ensures.setup.same_sectors))
    c.in-Ok.ensures.failures (ap g.D.Disk.failure_count (sym c.close.ensures)) c.in-Err-fill.ensures.cause

pub returns-in-Err-open-clause-refused : goal.returns-in-Err-open-clause-refused
returns-in-Err-open-clause-refused g c =
    let sectors = g.D.Disk.sector_count c.args.disk in
    let image_len = image_length c.args.kept.now.permanent in
    let fill = c.in_default-fill.ensures in
    load_back _ _ g.D.Disk.sector_count g.D.Disk.failure_count image_len c.args.disk c.close-in-Err-open.result
    c.fill.new.self c.in-Err-open.refused.cell c.in-Err-open.refused.fault
    (open_refusal _ _ c.args.kept.now c.fill.new.self c.in-Err-open.refused.cell c.in-Err-open.refused.fault sectors
    image_len c.in-Err-open.ensures.opens
    (first_spelled c.args.version c.args.kept.now _ _ _
    (whole_on (g.D.Disk.sector_count c.args.disk) (g.D.Disk.content c.args.disk)) _ _ c.as_slice.result.now
    c.as_slice-2.result.now c.kept.view_is c.in-Ok.ensures.formatted.holds fill.ok c.as_slice.ensures.value
    c.as_slice-2.ensures.value c.in-Ok-Ok.ensures.text c.in-Ok-Ok.ensures'.text c.requires.written c.requires.alone
    c.requires.bounded)
    (fill.cause.stays_ready ∙ c.in-Ok.ensures.formatted.ready)
    (subst (λ (r : RecordView). HasRoom sectors (image_length r.permanent)) c.kept.view_is (c.has_room.ensures.0 c.if-not-has_room.false)))
    c.in-Err-open.ensures.opens
    (fill.same_slot_room ∙ ap slot_room_on c.in-Ok.ensures.setup.same_sectors)
    (ap (λ disk. slot_room_on (g.D.Disk.sector_count disk)) (sym c.close-in-Err-open.ensures))
    (fill.cause.otherwise (λ e. absurd cc) ∙ c.in-Ok.ensures.failures)
    (ap g.D.Disk.failure_count (sym c.close-in-Err-open.ensures))

pub returns-clause-opened : goal.returns-clause-opened
returns-clause-opened g c =
    let kept = c.args.kept.now in
    let sectors = g.D.Disk.sector_count c.args.disk in
    let fill = c.in_default-fill.ensures in
    let opens = c.in-Ok-open.ensures.opens in
    let same = c.recount.ensures.untouched in
    let spelled : Spells kept (whole_of c.fill.new.self) =
    first_spelled c.args.version kept _ _ _ (whole_on sectors (g.D.Disk.content c.args.disk)) _ _
    c.as_slice.result.now c.as_slice-2.result.now c.kept.view_is c.in-Ok.ensures.formatted.holds fill.ok
    c.as_slice.ensures.value c.as_slice-2.ensures.value c.in-Ok-Ok.ensures.text c.in-Ok-Ok.ensures'.text
    c.requires.written c.requires.alone c.requires.bounded in
    record {
      shows = opened_record _ _ kept c.fill.new.self c.in-Ok-open.store c.recount.new.self opens same spelled;
      known = subst IsSome (sym same.same_record) c.in-Ok-open.ensures.ready;
      failures = opened_failures _ _ kept c.fill.new.self c.in-Ok-open.store c.recount.new.self opens same
          c.in-Ok-open.ensures.ready
          ∙ (fill.cause.otherwise (λ e. absurd cc) ∙ c.in-Ok.ensures.failures);
      armed = opened_armed _ _ kept c.fill.new.self c.in-Ok-open.store c.recount.new.self opens same
          c.recount.ensures.same_faults
          ∙ (fill.same_setup.same_faults ∙ c.in-Ok.ensures.setup.same_faults);
      counted = c.recount.ensures.none_counted;
      holds = opened_holds _ _ kept c.fill.new.self c.in-Ok-open.store c.recount.new.self opens same spelled;
      formatted = opened_header _ _ kept c.fill.new.self c.in-Ok-open.store c.recount.new.self opens same
          c.args.version
          (first_header c.args.version kept _ _ (whole_on sectors (g.D.Disk.content c.args.disk)) _
          c.as_slice.result.now c.as_slice-2.result.now c.in-Ok.ensures.formatted.holds fill.ok
          c.as_slice.ensures.value c.in-Ok-Ok.ensures.text);
      room = opened_room _ _ kept c.fill.new.self c.in-Ok-open.store c.recount.new.self opens same
          ∙ (fill.same_slot_room ∙ ap slot_room_on c.in-Ok.ensures.setup.same_sectors);
      fits = subst (λ (r : RecordView). HasRoom sectors (image_length r.permanent)) c.kept.view_is
          (c.has_room.ensures.0 c.if-not-has_room.false);
    }
