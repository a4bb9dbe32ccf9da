use Rattle.std.proofs.Common.{◌≡◌, ◌≤◌, ◌-◌, ◌∙◌, ℕ, List, length, true, Some, Ok, Err, sym, subst, ap, rules}
use Rattle.std.specs.Prelude.{IsTrue}
use Rattle.std.specs.Option.{ForSome}
use Rattle.std.proofs.lemmas.Result.{err_from_is_err_and}
use Rattle.sector_disk.specs.Clock.{LeavesOnly}
use Rattle.gate_cell.specs.Layout.{value_in, IsFrame}
use Rattle.gate_cell.specs.ValueCall.{Puts}
use Rattle.gate_cell.specs.declared.TheConstants.{MAX_VALUE_BYTES}
use Rattle.slot_cell.specs.Whole.{with_slot, LeftByFill}
use Rattle.ckpt_codec.specs.Common.{RecordView, Tentative, header_of, image_length, IsImageSpelled}
use Rattle.ckpt_codec.specs.HeaderText.{IsHeaderTextIn}
use Rattle.ckpt_codec.specs.declared.lengths.TheConstants.{MAX_HEADER_BYTES}
use Rattle.ckpt_codec.specs.declared.version.TheConstants.{VERSION}
use Rattle.ckpt_store.specs.Spelling.{Spells, SpellsAt, StandIn, fits_in}
use Rattle.ckpt_store.specs.Putting.{IsHeldWritten, IsHeldFramed}
use Rattle.ckpt_store.proofs.Spelled.{named_by, still_spelled, stand_filled}
use Rattle.ckpt_store.proofs.Puts.{fits_short, header_short, held_short, held_within, held_spelled, held_allowed, by_fill, fill_refused, header_was_put}
use Rattle.ckpt_store.proofs.putting.put_image.Goals as goal

pub held_frame-requires-clause-spelled : goal.held_frame-requires-clause-spelled
held_frame-requires-clause-spelled g c =
    subst (λ (r : RecordView). ForSome r.tentative (λ (t : Tentative). IsImageSpelled t.image)) (sym c.next.view_is)
    (held_spelled c.args.next.now c.requires.record)

pub held_frame-requires-clause-short : goal.held_frame-requires-clause-short
held_frame-requires-clause-short g c =
    let S = g.C.SlotCell in
    let next = c.args.next.now in
    let old = c.args.cell.now in
    let found : c.fits.result ≡ true = search rules in
    let fits : fits_in (S.slot_capacity old) next ≡ true = sym c.fits.ensures ∙ found in
    subst (λ (r : RecordView). ForSome r.tentative (λ (t : Tentative). image_length t.image ≤ MAX_VALUE_BYTES))
    (sym c.next.view_is) (held_within (S.slot_capacity old) next (g.met.C.SlotCell.slot_room_is_bounded old) fits)

pub fill_framed-requires-clause-frame : goal.fill_framed-requires-clause-frame
fill_framed-requires-clause-frame g c =
    subst (λ (f : List ℕ). IsFrame (value_in f) f) (sym c.as_slice.ensures.value) c.in_ok-frame.ensures.is_frame

pub returns-in_err-fill_framed : goal.returns-in_err-fill_framed
returns-in_err-fill_framed g c = λ kept spelled none same.
    let C = g.C.StableCell in
    let S = g.C.SlotCell in
    let laws = g.met.C.SlotCell in
    let next = c.args.next.now in
    let slot = c.args.slot in
    let old = c.args.cell.now in
    let new = c.fill_framed.new.self in
    let fill = c.in_err-fill_framed.ensures in
    let frame = c.as_slice.result.now in
    let bytes = value_in frame in
    let p = err_from_is_err_and c.from_residual-in_err-fill_framed.result c.from_residual-in_err-fill_framed.ensures.1 in
    let is : IsHeldFramed next.tentative frame =
    subst (IsHeldFramed next.tentative) (sym c.as_slice.ensures.value)
    (subst (λ (r : RecordView). IsHeldFramed r.tentative c.in_ok-frame.frame.items) c.next.view_is
    c.in_ok-frame.ensures) in
    let written : IsHeldWritten next.tentative bytes = is.written in
    let found : c.fits.result ≡ true = search rules in
    let fits : fits_in (S.slot_capacity old) next ≡ true = sym c.fits.ensures ∙ found in
    let other : c.from.result ≡ 1 - slot = search rules in
    let any_moment : LeavesOnly C.moment S.left_since_whole old new (LeftByFill (S.may_leave_whole old) (1 - slot)) =
    subst (λ (k : ℕ). LeavesOnly C.moment S.left_since_whole old new (LeftByFill (S.may_leave_whole old) k)) other
    fill.any_moment in
    rw (p.1, p.2) (fill_refused C S kept next slot old new bytes c.in_err-fill_framed.field-0.0 c.requires.ready fits
    (held_short (S.slot_capacity old) next bytes written fits) fill.too_large fill.memory fill.cause
    (by_fill C S kept next slot old new (laws.settled_whole old c.requires.ready) spelled none any_moment)
    fill.same_setup fill.same_slot_room)

pub returns-in_err-put : goal.returns-in_err-put
returns-in_err-put g c = λ kept spelled none same.
    let C = g.C.StableCell in
    let S = g.C.SlotCell in
    let laws = g.met.C.SlotCell in
    let next = c.args.next.now in
    let slot = c.args.slot in
    let old = c.args.cell.now in
    let mid = c.fill_framed.new.self in
    let new = c.put.new.self in
    let fill = c.in_ok-fill_framed.ensures in
    let put = c.in_err-put.ensures in
    let frame = c.as_slice.result.now in
    let bytes = value_in frame in
    let value = c.as_slice-2.result.now in
    let p = err_from_is_err_and c.from_residual-in_err-put.result c.from_residual-in_err-put.ensures.1 in
    let is : IsHeldFramed next.tentative frame =
    subst (IsHeldFramed next.tentative) (sym c.as_slice.ensures.value)
    (subst (λ (r : RecordView). IsHeldFramed r.tentative c.in_ok-frame.frame.items) c.next.view_is
    c.in_ok-frame.ensures) in
    let written : IsHeldWritten next.tentative bytes = is.written in
    let text : IsHeaderTextIn VERSION (header_of slot next) value =
    subst (IsHeaderTextIn VERSION (header_of slot next)) (sym c.as_slice-2.ensures.value) c.in_ok-header.ensures.text in
    let few : length value ≤ MAX_HEADER_BYTES =
    subst (λ (b : List ℕ). length b ≤ MAX_HEADER_BYTES) (sym c.as_slice-2.ensures.value) c.in_ok-header.ensures.short in
    let found : c.fits.result ≡ true = search rules in
    let fits : fits_in (S.slot_capacity old) next ≡ true = sym c.fits.ensures ∙ found in
    let other : c.from.result ≡ 1 - slot = search rules in
    let any_moment : LeavesOnly C.moment S.left_since_whole old mid (LeftByFill (S.may_leave_whole old) (1 - slot)) =
    subst (λ (k : ℕ). LeavesOnly C.moment S.left_since_whole old mid (LeftByFill (S.may_leave_whole old) k)) other
    fill.any_moment in
    let filled : S.whole mid ≡ with_slot (1 - slot) (Some bytes) (S.whole old) =
    fill.ok ∙ ap (λ (k : ℕ). with_slot k (Some bytes) (S.whole old)) other in
    let ready : IsTrue (C.is_ready mid) = fill.cause.stays_ready ∙ c.requires.ready in
    let stand : StandIn slot next.permanent next.tentative (S.whole mid) =
    subst (StandIn slot next.permanent next.tentative) (sym filled)
    (stand_filled slot kept next (S.whole old) bytes spelled same (held_allowed next c.requires.record) written) in
    let held : Spells kept (S.whole mid) =
    (slot, subst (SpellsAt slot kept) (sym filled) (still_spelled slot kept (S.whole old) (Some bytes) spelled none)) in
    rw (p.1, p.2) (header_was_put C S kept next slot old mid new value ready (laws.settled_whole mid ready) held
    (named_by slot next (S.whole mid) value stand text (fits_short (S.slot_capacity old) next fits))
    (by_fill C S kept next slot old mid (laws.settled_whole old c.requires.ready) spelled none any_moment)
    (laws.stands (Puts value) mid new put.beside) (laws.whole_may_stay new)
    (λ t left le might. laws.includes_now_whole new t left le might) (laws.shows new) (laws.asks_none mid)
    (header_short (C.capacity mid) value few (laws.has_header_room mid)) fits (fill.cause.otherwise (λ e. absurd cc))
    fill.same_setup put.same_setup fill.same_slot_room (Err c.in_err-put.field-0.0) tt put.memory put.too_large
    put.cause)

pub returns : goal.returns
returns g c = λ kept spelled none same.
    let C = g.C.StableCell in
    let S = g.C.SlotCell in
    let laws = g.met.C.SlotCell in
    let next = c.args.next.now in
    let slot = c.args.slot in
    let old = c.args.cell.now in
    let mid = c.fill_framed.new.self in
    let new = c.put.new.self in
    let fill = c.in_ok-fill_framed.ensures in
    let put = c.in_ok-put.ensures in
    let frame = c.as_slice.result.now in
    let bytes = value_in frame in
    let value = c.as_slice-2.result.now in
    let is : IsHeldFramed next.tentative frame =
    subst (IsHeldFramed next.tentative) (sym c.as_slice.ensures.value)
    (subst (λ (r : RecordView). IsHeldFramed r.tentative c.in_ok-frame.frame.items) c.next.view_is
    c.in_ok-frame.ensures) in
    let written : IsHeldWritten next.tentative bytes = is.written in
    let text : IsHeaderTextIn VERSION (header_of slot next) value =
    subst (IsHeaderTextIn VERSION (header_of slot next)) (sym c.as_slice-2.ensures.value) c.in_ok-header.ensures.text in
    let few : length value ≤ MAX_HEADER_BYTES =
    subst (λ (b : List ℕ). length b ≤ MAX_HEADER_BYTES) (sym c.as_slice-2.ensures.value) c.in_ok-header.ensures.short in
    let found : c.fits.result ≡ true = search rules in
    let fits : fits_in (S.slot_capacity old) next ≡ true = sym c.fits.ensures ∙ found in
    let other : c.from.result ≡ 1 - slot = search rules in
    let any_moment : LeavesOnly C.moment S.left_since_whole old mid (LeftByFill (S.may_leave_whole old) (1 - slot)) =
    subst (λ (k : ℕ). LeavesOnly C.moment S.left_since_whole old mid (LeftByFill (S.may_leave_whole old) k)) other
    fill.any_moment in
    let filled : S.whole mid ≡ with_slot (1 - slot) (Some bytes) (S.whole old) =
    fill.ok ∙ ap (λ (k : ℕ). with_slot k (Some bytes) (S.whole old)) other in
    let ready : IsTrue (C.is_ready mid) = fill.cause.stays_ready ∙ c.requires.ready in
    let stand : StandIn slot next.permanent next.tentative (S.whole mid) =
    subst (StandIn slot next.permanent next.tentative) (sym filled)
    (stand_filled slot kept next (S.whole old) bytes spelled same (held_allowed next c.requires.record) written) in
    let held : Spells kept (S.whole mid) =
    (slot, subst (SpellsAt slot kept) (sym filled) (still_spelled slot kept (S.whole old) (Some bytes) spelled none)) in
    header_was_put C S kept next slot old mid new value ready (laws.settled_whole mid ready) held
    (named_by slot next (S.whole mid) value stand text (fits_short (S.slot_capacity old) next fits))
    (by_fill C S kept next slot old mid (laws.settled_whole old c.requires.ready) spelled none any_moment)
    (laws.stands (Puts value) mid new put.beside) (laws.whole_may_stay new)
    (λ t left le might. laws.includes_now_whole new t left le might) (laws.shows new) (laws.asks_none mid)
    (header_short (C.capacity mid) value few (laws.has_header_room mid)) fits (fill.cause.otherwise (λ e. absurd cc))
    fill.same_setup put.same_setup fill.same_slot_room (Ok tt) put.ok put.memory put.too_large put.cause
