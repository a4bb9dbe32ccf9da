use Rattle.std.proofs.Common.{◌≡◌, List, refl, rules, sym, subst, ◌∙◌, ap}
use Rattle.ckpt_codec.specs.Common.{DecisionView, RecordView, confirmed, with_confirmed, IsRecord}
use Rattle.ckpt_codec.specs.Lengths.{with_decided}
use Rattle.ckpt_store.specs.Spelling.{StandIn}
use Rattle.ckpt_store.proofs.Allowed.{allowed_confirmed}
use Rattle.ckpt_store.proofs.Spelled.{spelled_is_record, images_stand}
use Rattle.ckpt_store.proofs.Changes.{kept_at, change_of}
use Rattle.ckpt_store.specs.Refusals.{no_refusal}
use Rattle.std.proofs.Common.{arith}
use Rattle.std.proofs.lemmas.Grind.{elements, pieces}
use Rattle.ckpt_store.proofs.changing.confirm.Goals as goal

pub confirmed_length-requires : goal.confirmed_length-requires
confirmed_length-requires g c =
    let held = c.in-Some.held in
    spelled_is_record held.kept held.slot _ (c.requires.holds held (sym c.in-Some.ensures.value))

pub has_room-requires : goal.has_room-requires
has_room-requires g c =
    let held = c.in-Some.held in
    spelled_is_record held.kept held.slot _ (c.requires.holds held (sym c.in-Some.ensures.value))

pub put_changed-requires-clause-record : goal.put_changed-requires-clause-record
put_changed-requires-clause-record g c =
    let held = c.in-Some.held in
    let made : c.settle-undo.new.kept ≡ with_confirmed c.args.number c.args.node held.kept =
    c.settle-undo.ensures.next ∙ ap (λ (ds : List DecisionView). with_decided ds held.kept) decisions_are in
    subst IsRecord (sym made)
    (allowed_confirmed held.kept c.args.number c.args.node
    (spelled_is_record held.kept held.slot _ (c.requires.holds held (sym c.in-Some.ensures.value))))
  where
    decisions_are : c.in-Ok.decisions.items ≡ confirmed c.args.number c.args.node c.in-Some.held.kept.decisions
    decisions_are = search rules

pub put_changed-requires-clause-stand : goal.put_changed-requires-clause-stand
put_changed-requires-clause-stand g c =
    let held = c.in-Some.held in
    let w = g.C.SlotCell.whole c.args.cell.now in
    subst (λ (r : RecordView). StandIn held.slot r.permanent r.tentative w) (sym c.settle-undo.ensures.next)
    (images_stand held.kept held.slot w (c.requires.holds held (sym c.in-Some.ensures.value)))

pub returns-then-not-is_named-clause-kept : goal.returns-then-not-is_named-clause-kept
returns-then-not-is_named-clause-kept g c =
    let held = c.in-Some.held in
    kept_at g.C.StableCell g.C.SlotCell c.args.cell.now c.args.known.now held held.kept (sym c.in-Some.ensures.value)
    refl c.requires

pub returns-then-not-has_room-clause-kept : goal.returns-then-not-has_room-clause-kept
returns-then-not-has_room-clause-kept g c =
    let held = c.in-Some.held in
    kept_at g.C.StableCell g.C.SlotCell c.args.cell.now c.args.known.now held held.kept (sym c.in-Some.ensures.value)
    refl c.requires

pub returns-in-Err-clause-kept : goal.returns-in-Err-clause-kept
returns-in-Err-clause-kept g c =
    let held = c.in-Some.held in
    kept_at g.C.StableCell g.C.SlotCell c.args.cell.now c.args.known.now held held.kept (sym c.in-Some.ensures.value)
    refl c.requires

pub returns-in-Ok-clause-change : goal.returns-in-Ok-clause-change
returns-in-Ok-clause-change g c = λ effect.
    let held = c.in-Some.held in
    let made : c.settle-undo.new.kept ≡ with_confirmed c.args.number c.args.node held.kept =
    c.settle-undo.ensures.next ∙ ap (λ (ds : List DecisionView). with_decided ds held.kept) decisions_are in
    change_of g.C.StableCell g.C.SlotCell no_refusal (with_confirmed c.args.number c.args.node) c.args.cell.now _
    c.args.known.now held _ _ _ _ (sym c.in-Some.ensures.value) refl made c.settle-undo.ensures.back.gives
    c.put_changed.ensures.change
  where
    decisions_are : c.in-Ok.decisions.items ≡ confirmed c.args.number c.args.node c.in-Some.held.kept.decisions
    decisions_are = search rules

pub returns-in-Ok-clause-idle : goal.returns-in-Ok-clause-idle
returns-in-Ok-clause-idle g c = grind (arith, elements)

pub returns-in-Err-clause-idle : goal.returns-in-Err-clause-idle
returns-in-Err-clause-idle g c = grind (arith, elements)

pub returns-in-Err-clause-change : goal.returns-in-Err-clause-change
returns-in-Err-clause-change g c = grind (arith, elements)

pub put_changed-requires-clause-kept : goal.put_changed-requires-clause-kept
put_changed-requires-clause-kept g c = search (pieces, arith) depth 5 fits 300

pub returns-then-not-is_named-clause-idle : goal.returns-then-not-is_named-clause-idle
returns-then-not-is_named-clause-idle g c = grind (arith, elements)

pub returns-then-not-has_room-clause-change : goal.returns-then-not-has_room-clause-change
returns-then-not-has_room-clause-change g c = grind (arith, elements)

pub returns-then-not-has_room-clause-idle : goal.returns-then-not-has_room-clause-idle
returns-then-not-has_room-clause-idle g c = grind (arith, elements)

pub returns-then-not-is_named-clause-change : goal.returns-then-not-is_named-clause-change
returns-then-not-is_named-clause-change g c = grind (arith, elements)

pub returns-in_default-clause-change : goal.returns-in_default-clause-change
returns-in_default-clause-change g c = grind (arith, elements)
