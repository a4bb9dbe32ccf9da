use Rattle.std.proofs.Common.{◌≡◌, ◌≤◌, ◌∙◌, ℕ, List, length, true, Ok, Err, sym, subst, refl, rules}
use Rattle.std.proofs.lemmas.Result.{err_from_is_err_and}
use Rattle.gate_cell.specs.ValueCall.{Puts}
use Rattle.gate_cell.specs.Setup.{setup_stays}
use Rattle.ckpt_codec.specs.Common.{header_of}
use Rattle.ckpt_codec.specs.HeaderText.{IsHeaderTextIn}
use Rattle.ckpt_codec.specs.declared.lengths.TheConstants.{MAX_HEADER_BYTES}
use Rattle.ckpt_codec.specs.declared.version.TheConstants.{VERSION}
use Rattle.ckpt_store.specs.Spelling.{fits_in}
use Rattle.ckpt_store.proofs.Spelled.{named_by}
use Rattle.ckpt_store.proofs.Puts.{fits_short, header_short, still, header_was_put}
use Rattle.ckpt_store.proofs.putting.put_header.Goals as goal

pub returns-in_err-put : goal.returns-in_err-put
returns-in_err-put g c = λ kept held stand.
    let C = g.C.StableCell in
    let S = g.C.SlotCell in
    let laws = g.met.C.SlotCell in
    let next = c.args.next.now in
    let slot = c.args.slot in
    let old = c.args.cell.now in
    let new = c.put.new.self in
    let put = c.in_err-put.ensures in
    let value = c.as_slice.result.now in
    let p = err_from_is_err_and c.from_residual-in_err-put.result c.from_residual-in_err-put.ensures.1 in
    let text : IsHeaderTextIn VERSION (header_of slot next) value =
    subst (IsHeaderTextIn VERSION (header_of slot next)) (sym c.as_slice.ensures.value) c.in_ok-header.ensures.text in
    let few : length value ≤ MAX_HEADER_BYTES =
    subst (λ (b : List ℕ). length b ≤ MAX_HEADER_BYTES) (sym c.as_slice.ensures.value) c.in_ok-header.ensures.short in
    let found : c.fits.result ≡ true = search rules in
    let fits : fits_in (S.slot_capacity old) next ≡ true = sym c.fits.ensures ∙ found in
    let only = laws.settled_whole old c.requires.ready in
    rw (p.1, p.2) (header_was_put C S kept next slot old old new value c.requires.ready only held
    (named_by slot next (S.whole old) value stand text (fits_short (S.slot_capacity old) next fits))
    (still C S kept next slot old only held (laws.only_now_whole old))
    (laws.stands (Puts value) old new put.beside) (laws.whole_may_stay new)
    (λ t left le might. laws.includes_now_whole new t left le might) (laws.shows new) (laws.asks_none old)
    (header_short (C.capacity old) value few (laws.has_header_room old)) fits refl
    (setup_stays C.capacity C.armed C.call_count old) put.same_setup refl (Err c.in_err-put.field-0.0) tt put.memory
    put.too_large put.cause)

pub returns : goal.returns
returns g c = λ kept held stand.
    let C = g.C.StableCell in
    let S = g.C.SlotCell in
    let laws = g.met.C.SlotCell in
    let next = c.args.next.now in
    let slot = c.args.slot in
    let old = c.args.cell.now in
    let new = c.put.new.self in
    let put = c.in_ok-put.ensures in
    let value = c.as_slice.result.now in
    let text : IsHeaderTextIn VERSION (header_of slot next) value =
    subst (IsHeaderTextIn VERSION (header_of slot next)) (sym c.as_slice.ensures.value) c.in_ok-header.ensures.text in
    let few : length value ≤ MAX_HEADER_BYTES =
    subst (λ (b : List ℕ). length b ≤ MAX_HEADER_BYTES) (sym c.as_slice.ensures.value) c.in_ok-header.ensures.short in
    let found : c.fits.result ≡ true = search rules in
    let fits : fits_in (S.slot_capacity old) next ≡ true = sym c.fits.ensures ∙ found in
    let only = laws.settled_whole old c.requires.ready in
    header_was_put C S kept next slot old old new value c.requires.ready only held
    (named_by slot next (S.whole old) value stand text (fits_short (S.slot_capacity old) next fits))
    (still C S kept next slot old only held (laws.only_now_whole old))
    (laws.stands (Puts value) old new put.beside) (laws.whole_may_stay new)
    (λ t left le might. laws.includes_now_whole new t left le might) (laws.shows new) (laws.asks_none old)
    (header_short (C.capacity old) value few (laws.has_header_room old)) fits refl
    (setup_stays C.capacity C.armed C.call_count old) put.same_setup refl (Ok tt) put.ok put.memory put.too_large
    put.cause
