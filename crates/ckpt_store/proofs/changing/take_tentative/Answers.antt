use Rattle.std.proofs.Common.{◌≡◌, Some, None, Err, refl, sym, subst, ap, ◌∙◌}
use Rattle.ckpt_codec.specs.Common.{RecordView, with_tentative, IsRecord}
use Rattle.ckpt_store.specs.Refusals.{refusal_to_take}
use Rattle.ckpt_store.specs.Spelling.{kept_in}
use Rattle.ckpt_store.specs.Putting.{IsChange}
use Rattle.ckpt_store.proofs.Allowed.{allowed_tentative}
use Rattle.ckpt_store.proofs.Changes.{change_refused, kept_at, change_of}
use Rattle.ckpt_store.proofs.Spelled.{spelled_is_record}
use Rattle.ckpt_store.proofs.Undone.{may_take, take_of_record, free_to_take}
use Rattle.std.proofs.Common.{arith}
use Rattle.std.proofs.lemmas.Grind.{elements}
use Rattle.ckpt_store.proofs.changing.take_tentative.Goals as goal

pub returns-in-Some-refusal_to_take-clause-change : goal.returns-in-Some-refusal_to_take-clause-change
returns-in-Some-refusal_to_take-clause-change g c =
    let kept = c.in-Some.held.kept in
    let fault = c.in-Some-refusal_to_take.fault in
    let is = sym c.in-Some.ensures.value in
    let due = sym c.refusal_to_take.ensures ∙ c.in-Some-refusal_to_take.is in
    subst (λ o. IsChange g.C.StableCell g.C.SlotCell (refusal_to_take c.args.initiator c.args.number)
    (with_tentative c.args.initiator c.args.number c.args.image) c.args.cell.now c.args.cell.now (kept_in o) (Some kept)
    {T = Unit {0}} (Err fault)) (sym is)
    (change_refused g.C.StableCell g.C.SlotCell (refusal_to_take c.args.initiator c.args.number)
    (with_tentative c.args.initiator c.args.number c.args.image) c.args.cell.now (Some kept) fault
    (g.met.C.SlotCell.only_now_whole c.args.cell.now) (take_of_record c.args.initiator c.args.number kept fault due)
    due)

pub take-undo-requires-clause-record : goal.take-undo-requires-clause-record
take-undo-requires-clause-record g c =
    let held = c.in-Some.held in
    spelled_is_record held.kept held.slot _ (c.requires.kept.holds held (sym c.in-Some.ensures.value))

pub put_taken-requires-clause-record : goal.put_taken-requires-clause-record
put_taken-requires-clause-record g c =
    let held = c.in-Some.held in
    let kept = held.kept in
    let is = sym c.in-Some.ensures.value in
    let fine : refusal_to_take c.args.initiator c.args.number kept ≡ None =
    sym c.refusal_to_take.ensures ∙ c.in_default-refusal_to_take.is in
    let may = may_take c.args.initiator c.args.number kept fine in
    let known : kept_in c.args.known.now ≡ Some kept = ap kept_in is in
    subst IsRecord (sym c.take-undo.ensures.next)
    (allowed_tentative kept c.args.initiator c.args.number c.args.image
    (spelled_is_record kept held.slot _ (c.requires.kept.holds held is))
    (c.requires.listed kept known) may.above may.fits (c.requires.like kept known).allowed)

pub put_taken-requires-clause-free : goal.put_taken-requires-clause-free
put_taken-requires-clause-free g c =
    let held = c.in-Some.held in
    let kept = held.kept in
    let fine : refusal_to_take c.args.initiator c.args.number kept ≡ None =
    sym c.refusal_to_take.ensures ∙ c.in_default-refusal_to_take.is in
    ap (λ (r : RecordView). r.tentative) c.take-undo.ensures.back.gives
    ∙ free_to_take c.args.initiator c.args.number kept
    (spelled_is_record kept held.slot _ (c.requires.kept.holds held (sym c.in-Some.ensures.value)))
    (may_take c.args.initiator c.args.number kept fine)

pub put_taken-requires-clause-same : goal.put_taken-requires-clause-same
put_taken-requires-clause-same g c =
    ap (λ (r : RecordView). r.permanent) c.take-undo.ensures.next
    ∙ sym (ap (λ (r : RecordView). r.permanent) c.take-undo.ensures.back.gives)

pub returns-in-Some-refusal_to_take-clause-kept : goal.returns-in-Some-refusal_to_take-clause-kept
returns-in-Some-refusal_to_take-clause-kept g c =
    let held = c.in-Some.held in
    kept_at g.C.StableCell g.C.SlotCell c.args.cell.now c.args.known.now held held.kept (sym c.in-Some.ensures.value)
    refl c.requires.kept

pub put_taken-requires-clause-kept : goal.put_taken-requires-clause-kept
put_taken-requires-clause-kept g c =
    let held = c.in-Some.held in
    kept_at g.C.StableCell g.C.SlotCell c.args.cell.now c.args.known.now held _ (sym c.in-Some.ensures.value)
    c.take-undo.ensures.back.gives c.requires.kept

pub returns-clause-change : goal.returns-clause-change
returns-clause-change g c =
    let held = c.in-Some.held in
    let none : refusal_to_take c.args.initiator c.args.number held.kept ≡ None = sym c.refusal_to_take.ensures ∙ c.in_default-refusal_to_take.is in
    change_of g.C.StableCell g.C.SlotCell (refusal_to_take c.args.initiator c.args.number) (with_tentative c.args.initiator c.args.number c.args.image) c.args.cell.now _ c.args.known.now held _ _ _ _
    (sym c.in-Some.ensures.value) none c.take-undo.ensures.next c.take-undo.ensures.back.gives c.put_taken.ensures.change

pub returns-in_default-clause-kept : goal.returns-in_default-clause-kept
returns-in_default-clause-kept g c = grind (arith, elements)

pub returns-in_default-clause-change : goal.returns-in_default-clause-change
returns-in_default-clause-change g c = grind (arith, elements)
