use Rattle.std.proofs.Common.{◌≡◌, ◌-◌, true, None, refl, rules, sym, subst}
use Rattle.ckpt_codec.specs.Common.{RecordView, IsRecord, with_permanent}
use Rattle.ckpt_store.specs.Refusals.{is_held, refusal_unless_held}
use Rattle.ckpt_store.specs.Spelling.{StandIn}
use Rattle.ckpt_store.proofs.Allowed.{allowed_permanent}
use Rattle.ckpt_store.proofs.Spelled.{spelled_is_record}
use Rattle.ckpt_store.proofs.Stands.{promoted_stands}
use Rattle.ckpt_store.proofs.Changes.{kept_at, change_of}
use Rattle.std.proofs.Common.{arith}
use Rattle.std.proofs.lemmas.Grind.{elements}
use Rattle.ckpt_store.proofs.changing.make_permanent.Goals as goal

pub put_changed-requires-clause-record : goal.put_changed-requires-clause-record
put_changed-requires-clause-record g c =
    let held = c.in-Some.held in
    subst IsRecord (sym c.promote-undo.ensures.next)
    (allowed_permanent held.kept
    (spelled_is_record held.kept held.slot _ (c.requires.holds held (sym c.in-Some.ensures.value))))

pub put_changed-requires-clause-stand : goal.put_changed-requires-clause-stand
put_changed-requires-clause-stand g c =
    let held = c.in-Some.held in
    let w = g.C.SlotCell.whole c.args.cell.now in
    let is : is_held c.args.initiator c.args.number held.kept.tentative ≡ true = search rules in
    subst (λ (r : RecordView). StandIn (1 - held.slot) r.permanent r.tentative w) (sym c.promote-undo.ensures.next)
    (promoted_stands held.slot held.kept w c.args.initiator c.args.number
    (c.requires.holds held (sym c.in-Some.ensures.value)) is)

pub returns-then-not-is_held-clause-kept : goal.returns-then-not-is_held-clause-kept
returns-then-not-is_held-clause-kept g c =
    let held = c.in-Some.held in
    kept_at g.C.StableCell g.C.SlotCell c.args.cell.now c.args.known.now held held.kept (sym c.in-Some.ensures.value)
    refl c.requires

pub put_changed-requires-clause-kept : goal.put_changed-requires-clause-kept
put_changed-requires-clause-kept g c =
    let held = c.in-Some.held in
    kept_at g.C.StableCell g.C.SlotCell c.args.cell.now c.args.known.now held _ (sym c.in-Some.ensures.value)
    c.promote-undo.ensures.back.gives c.requires

pub overflow_sub-slot : goal.overflow_sub-slot
overflow_sub-slot g c = (c.requires.holds c.in-Some.held (sym c.in-Some.ensures.value)).one

pub returns-clause-change : goal.returns-clause-change
returns-clause-change g c =
    let held = c.in-Some.held in
    let none : refusal_unless_held c.args.initiator c.args.number held.kept ≡ None = search rules in
    change_of g.C.StableCell g.C.SlotCell (refusal_unless_held c.args.initiator c.args.number) (with_permanent) c.args.cell.now _ c.args.known.now held _ _ _ _
    (sym c.in-Some.ensures.value) none c.promote-undo.ensures.next c.promote-undo.ensures.back.gives c.put_changed.ensures.change

pub returns-then-not-is_held-clause-change : goal.returns-then-not-is_held-clause-change
returns-then-not-is_held-clause-change g c = grind (arith, elements)

pub returns-in_default-clause-change : goal.returns-in_default-clause-change
returns-in_default-clause-change g c = grind (arith, elements)
