use Rattle.std.proofs.Common.{◌≡◌, None, refl, rules, sym, subst}
use Rattle.ckpt_codec.specs.Common.{RecordView, IsRecord, without_tentative}
use Rattle.ckpt_store.specs.Spelling.{StandIn}
use Rattle.ckpt_store.proofs.Allowed.{allowed_without}
use Rattle.ckpt_store.proofs.Spelled.{spelled_is_record, stand_without}
use Rattle.ckpt_store.proofs.Changes.{kept_at, change_of}
use Rattle.ckpt_store.specs.Refusals.{refusal_unless_held}
use Rattle.std.proofs.Common.{arith}
use Rattle.std.proofs.lemmas.Grind.{elements}
use Rattle.ckpt_store.proofs.changing.drop_tentative.Goals as goal

pub put_changed-requires-clause-record : goal.put_changed-requires-clause-record
put_changed-requires-clause-record g c =
    let held = c.in-Some.held in
    subst IsRecord (sym c.give_up-undo.ensures.next)
    (allowed_without held.kept
    (spelled_is_record held.kept held.slot _ (c.requires.holds held (sym c.in-Some.ensures.value))))

pub put_changed-requires-clause-stand : goal.put_changed-requires-clause-stand
put_changed-requires-clause-stand g c =
    let held = c.in-Some.held in
    let w = g.C.SlotCell.whole c.args.cell.now in
    subst (λ (r : RecordView). StandIn held.slot r.permanent r.tentative w) (sym c.give_up-undo.ensures.next)
    (stand_without held.slot held.kept w (c.requires.holds held (sym c.in-Some.ensures.value)))

pub returns-then-not-is_held-clause-kept : goal.returns-then-not-is_held-clause-kept
returns-then-not-is_held-clause-kept g c =
    let held = c.in-Some.held in
    kept_at g.C.StableCell g.C.SlotCell c.args.cell.now c.args.known.now held held.kept (sym c.in-Some.ensures.value)
    refl c.requires

pub put_changed-requires-clause-kept : goal.put_changed-requires-clause-kept
put_changed-requires-clause-kept g c =
    let held = c.in-Some.held in
    kept_at g.C.StableCell g.C.SlotCell c.args.cell.now c.args.known.now held _ (sym c.in-Some.ensures.value)
    c.give_up-undo.ensures.back.gives c.requires

pub returns-clause-change : goal.returns-clause-change
returns-clause-change g c =
    let held = c.in-Some.held in
    let none : refusal_unless_held c.args.initiator c.args.number held.kept ≡ None = search rules in
    change_of g.C.StableCell g.C.SlotCell (refusal_unless_held c.args.initiator c.args.number) (without_tentative) c.args.cell.now _ c.args.known.now held _ _ _ _
    (sym c.in-Some.ensures.value) none c.give_up-undo.ensures.next c.give_up-undo.ensures.back.gives c.put_changed.ensures.change

pub returns-then-not-is_held-clause-change : goal.returns-then-not-is_held-clause-change
returns-then-not-is_held-clause-change g c = grind (arith, elements)

pub returns-in_default-clause-change : goal.returns-in_default-clause-change
returns-in_default-clause-change g c = grind (arith, elements)
