use Rattle.std.proofs.Common.{◌≡◌, ℕ, ◌-◌, ◌∙◌, List, [], ◌∷◌, Some, None, length, refl, rules, sym, subst, ap, arith}
use Rattle.std.specs.Vec.{vec_len}
use Rattle.std.proofs.lemmas.Bool.{eqb-false}
use Rattle.ckpt_codec.specs.Common.{DecisionView, RecordView, decided_by, with_decision, with_permanent, IsRecord}
use Rattle.ckpt_codec.specs.Lengths.{with_decided}
use Rattle.ckpt_store.specs.Refusals.{refusal_to_decide}
use Rattle.ckpt_store.specs.Spelling.{StandIn, kept_in}
use Rattle.ckpt_store.proofs.Allowed.{allowed_permanent, decision_may_be, decisions_few, others_few}
use Rattle.ckpt_store.proofs.Spelled.{spelled_is_record}
use Rattle.ckpt_store.proofs.Stands.{promoted_stands, held_to_decide}
use Rattle.ckpt_store.proofs.Changes.{kept_at, refused_of, decide_of_record, change_of}
use Rattle.std.proofs.lemmas.Grind.{common_steps, elements}
use Rattle.ckpt_store.proofs.changing.decide.Goals as goal

pub refusal_to_decide-requires : goal.refusal_to_decide-requires
refusal_to_decide-requires g c =
    let held = c.in-Some.held in
    decisions_few held.kept
    (spelled_is_record held.kept held.slot _ (c.requires.kept.holds held (sym c.in-Some.ensures.value)))

pub decided_length-requires-clause-record : goal.decided_length-requires-clause-record
decided_length-requires-clause-record g c =
    let held = c.in-Some.held in
    spelled_is_record held.kept held.slot _ (c.requires.kept.holds held (sym c.in-Some.ensures.value))

pub has_room_once_permanent-requires : goal.has_room_once_permanent-requires
has_room_once_permanent-requires g c =
    let held = c.in-Some.held in
    spelled_is_record held.kept held.slot _ (c.requires.kept.holds held (sym c.in-Some.ensures.value))

pub decided_length-requires-clause-some : goal.decided_length-requires-clause-some
decided_length-requires-clause-some g c =
    let held = c.in-Some.held in
    let kept = held.kept in
    let is = sym c.in-Some.ensures.value in
    let nodes = c.args.participants.items in
    let long : c.len.result ≡ length nodes = search rules in
    let few = others_few kept nodes (spelled_is_record kept held.slot _ (c.requires.kept.holds held is))
    (c.requires.others kept (ap kept_in is)).allowed in
    let some = eqb-false (vec_len c.args.participants) 0 (sym c.is_empty.ensures ∙ c.if-is_empty.false) in
    let count = c.len.ensures in
    (omega (arith, some, count), omega (arith, few, long))

-- with nobody to confirm it
pub put_changed-requires-clause-record : goal.put_changed-requires-clause-record
put_changed-requires-clause-record g c =
    let held = c.in-Some.held in
    subst IsRecord (sym c.promote-undo.ensures.next)
    (allowed_permanent held.kept
    (spelled_is_record held.kept held.slot _ (c.requires.kept.holds held (sym c.in-Some.ensures.value))))

pub put_changed-requires-clause-stand : goal.put_changed-requires-clause-stand
put_changed-requires-clause-stand g c =
    let held = c.in-Some.held in
    let w = g.C.SlotCell.whole c.args.cell.now in
    let fine : refusal_to_decide c.args.number c.args.participants.items held.kept ≡ None = search rules in
    subst (λ (r : RecordView). StandIn (1 - held.slot) r.permanent r.tentative w) (sym c.promote-undo.ensures.next)
    (promoted_stands held.slot held.kept w held.kept.node c.args.number
    (c.requires.kept.holds held (sym c.in-Some.ensures.value))
    (held_to_decide c.args.number c.args.participants.items held.kept fine))

pub put_changed-requires-in-Ok-clause-record : goal.put_changed-requires-in-Ok-clause-record
put_changed-requires-in-Ok-clause-record g c =
    let held = c.in-Some.held in
    let kept = held.kept in
    let is = sym c.in-Some.ensures.value in
    let nodes = c.args.participants.items in
    let made : c.decide-undo.new.kept ≡ with_decision c.args.number nodes kept =
    c.decide-undo.ensures.next
    ∙ ap (λ (ds : List DecisionView). with_decided ds (with_permanent kept)) decisions_are in
    let fine : refusal_to_decide c.args.number nodes kept ≡ None = search rules in
    subst IsRecord (sym made)
    (decision_may_be kept c.args.number nodes
    (spelled_is_record kept held.slot _ (c.requires.kept.holds held is)) fine
    (c.requires.others kept (ap kept_in is)).allowed)
  where
    decisions_are : c.in-Ok.decisions.items
        ≡ decided_by c.args.number c.args.participants.items c.in-Some.held.kept.decisions
    decisions_are = search rules

pub put_changed-requires-in-Ok-clause-stand : goal.put_changed-requires-in-Ok-clause-stand
put_changed-requires-in-Ok-clause-stand g c =
    let held = c.in-Some.held in
    let w = g.C.SlotCell.whole c.args.cell.now in
    let fine : refusal_to_decide c.args.number c.args.participants.items held.kept ≡ None = search rules in
    subst (λ (r : RecordView). StandIn (1 - held.slot) r.permanent r.tentative w) (sym c.decide-undo.ensures.next)
    (promoted_stands held.slot held.kept w held.kept.node c.args.number
    (c.requires.kept.holds held (sym c.in-Some.ensures.value))
    (held_to_decide c.args.number c.args.participants.items held.kept fine))

pub returns-in-Some-refusal_to_decide-clause-kept : goal.returns-in-Some-refusal_to_decide-clause-kept
returns-in-Some-refusal_to_decide-clause-kept g c =
    let held = c.in-Some.held in
    kept_at g.C.StableCell g.C.SlotCell c.args.cell.now c.args.known.now held held.kept (sym c.in-Some.ensures.value)
    refl c.requires.kept

pub returns-then-not-has_room_once_permanent-clause-kept : goal.returns-then-not-has_room_once_permanent-clause-kept
returns-then-not-has_room_once_permanent-clause-kept g c =
    let held = c.in-Some.held in
    kept_at g.C.StableCell g.C.SlotCell c.args.cell.now c.args.known.now held held.kept (sym c.in-Some.ensures.value)
    refl c.requires.kept

pub returns-in-Err-clause-kept : goal.returns-in-Err-clause-kept
returns-in-Err-clause-kept g c =
    let held = c.in-Some.held in
    kept_at g.C.StableCell g.C.SlotCell c.args.cell.now c.args.known.now held held.kept (sym c.in-Some.ensures.value)
    refl c.requires.kept

pub overflow_sub-slot : goal.overflow_sub-slot
overflow_sub-slot g c = (c.requires.kept.holds c.in-Some.held (sym c.in-Some.ensures.value)).one

pub overflow_sub-slot-in-Ok : goal.overflow_sub-slot-in-Ok
overflow_sub-slot-in-Ok g c = (c.requires.kept.holds c.in-Some.held (sym c.in-Some.ensures.value)).one

pub put_changed-requires-clause-kept : goal.put_changed-requires-clause-kept
put_changed-requires-clause-kept g c =
    let held = c.in-Some.held in
    kept_at g.C.StableCell g.C.SlotCell c.args.cell.now c.args.known.now held _ (sym c.in-Some.ensures.value)
    c.promote-undo.ensures.back.gives c.requires.kept

pub put_changed-requires-in-Ok-clause-kept : goal.put_changed-requires-in-Ok-clause-kept
put_changed-requires-in-Ok-clause-kept g c =
    let held = c.in-Some.held in
    kept_at g.C.StableCell g.C.SlotCell c.args.cell.now c.args.known.now held _ (sym c.in-Some.ensures.value)
    c.decide-undo.ensures.back.gives c.requires.kept

pub returns-in-Some-refusal_to_decide-clause-change : goal.returns-in-Some-refusal_to_decide-clause-change
returns-in-Some-refusal_to_decide-clause-change g c =
    let held = c.in-Some.held in
    let nodes = c.args.participants.items in
    let fault = c.in-Some-refusal_to_decide.fault in
    let due : refusal_to_decide c.args.number nodes held.kept ≡ Some fault = search rules in
    refused_of g.C.StableCell g.C.SlotCell (refusal_to_decide c.args.number nodes) (with_decision c.args.number nodes)
    c.args.cell.now c.args.known.now held fault (sym c.in-Some.ensures.value)
    (g.met.C.SlotCell.only_now_whole c.args.cell.now) (decide_of_record c.args.number nodes held.kept fault due) due

-- with no nodes nothing is decided
no_nodes : (nodes : List ℕ) (number : ℕ) (kept : RecordView) → length nodes ≡ 0
    → with_permanent kept ≡ with_decision number nodes kept
no_nodes [] number kept none = refl
no_nodes (p ∷ ps) number kept none = absurd (omega (arith, none))

pub returns-then-is_empty-clause-change : goal.returns-then-is_empty-clause-change
returns-then-is_empty-clause-change g c =
    let held = c.in-Some.held in
    let nodes = c.args.participants.items in
    let fine : refusal_to_decide c.args.number nodes held.kept ≡ None = search rules in
    let none : length nodes ≡ 0 = search rules in
    change_of g.C.StableCell g.C.SlotCell (refusal_to_decide c.args.number nodes) (with_decision c.args.number nodes)
    c.args.cell.now _ c.args.known.now held _ _ _ _ (sym c.in-Some.ensures.value) fine
    (c.promote-undo.ensures.next ∙ no_nodes nodes c.args.number held.kept none) c.promote-undo.ensures.back.gives
    c.put_changed.ensures.change

pub returns-in-Ok-clause-change : goal.returns-in-Ok-clause-change
returns-in-Ok-clause-change g c =
    let held = c.in-Some.held in
    let nodes = c.args.participants.items in
    let fine : refusal_to_decide c.args.number nodes held.kept ≡ None = search rules in
    let made : c.decide-undo.new.kept ≡ with_decision c.args.number nodes held.kept =
    c.decide-undo.ensures.next
    ∙ ap (λ (ds : List DecisionView). with_decided ds (with_permanent held.kept)) decisions_are in
    change_of g.C.StableCell g.C.SlotCell (refusal_to_decide c.args.number nodes) (with_decision c.args.number nodes)
    c.args.cell.now _ c.args.known.now held _ _ _ _ (sym c.in-Some.ensures.value) fine made
    c.decide-undo.ensures.back.gives c.put_changed-in-Ok.ensures.change
  where
    decisions_are : c.in-Ok.decisions.items
        ≡ decided_by c.args.number c.args.participants.items c.in-Some.held.kept.decisions
    decisions_are = search rules

pub returns-in_default-clause-change : goal.returns-in_default-clause-change
returns-in_default-clause-change g c = grind (arith, elements)

pub returns-in-Err-clause-change : goal.returns-in-Err-clause-change
returns-in-Err-clause-change g c = grind (arith, common_steps)

pub returns-then-not-has_room_once_permanent-clause-change : goal.returns-then-not-has_room_once_permanent-clause-change
returns-then-not-has_room_once_permanent-clause-change g c = grind (arith, common_steps)

pub returns-in_default-clause-kept : goal.returns-in_default-clause-kept
returns-in_default-clause-kept g c = grind (arith, elements)
