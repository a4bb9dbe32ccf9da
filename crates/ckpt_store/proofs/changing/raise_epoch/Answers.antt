use Rattle.std.proofs.Common.{◌≡◌, ◌<◌, None, refl, rules, sym, subst, ap}
use Rattle.ckpt_codec.specs.Common.{MAX_COUNT, RecordView, IsRecord, with_epoch}
use Rattle.ckpt_store.specs.Spelling.{StandIn}
use Rattle.ckpt_store.proofs.Allowed.{allowed_epoch}
use Rattle.ckpt_store.proofs.Spelled.{spelled_is_record}
use Rattle.ckpt_store.proofs.Stands.{own_stands}
use Rattle.ckpt_store.proofs.Changes.{kept_at, change_of}
use Rattle.ckpt_store.specs.Refusals.{refusal_to_raise}
use Rattle.std.proofs.Common.{arith}
use Rattle.std.proofs.lemmas.Grind.{elements}
use Rattle.ckpt_store.proofs.changing.raise_epoch.Goals as goal

pub put_changed-requires-clause-record : goal.put_changed-requires-clause-record
put_changed-requires-clause-record g c =
    let held = c.in-Some.held in
    let less =
    subst (λ n. n < MAX_COUNT) (ap (λ (r : RecordView). r.epoch) c.kept.view_is) c.if-kept-ge-MAX_COUNT.false in
    subst IsRecord (sym c.raise-undo.ensures.next)
    (allowed_epoch held.kept
    (spelled_is_record held.kept held.slot _ (c.requires.holds held (sym c.in-Some.ensures.value))) less)

pub put_changed-requires-clause-stand : goal.put_changed-requires-clause-stand
put_changed-requires-clause-stand g c =
    let held = c.in-Some.held in
    let w = g.C.SlotCell.whole c.args.cell.now in
    subst (λ (r : RecordView). StandIn held.slot r.permanent r.tentative w) (sym c.raise-undo.ensures.next)
    (own_stands held.slot held.kept w (c.requires.holds held (sym c.in-Some.ensures.value)))

pub returns-then-kept-ge-MAX_COUNT-clause-kept : goal.returns-then-kept-ge-MAX_COUNT-clause-kept
returns-then-kept-ge-MAX_COUNT-clause-kept g c =
    let held = c.in-Some.held in
    kept_at g.C.StableCell g.C.SlotCell c.args.cell.now c.args.known.now held held.kept (sym c.in-Some.ensures.value)
    refl c.requires

pub returns-clause-change : goal.returns-clause-change
returns-clause-change g c =
    let held = c.in-Some.held in
    let none : refusal_to_raise held.kept ≡ None = search rules in
    change_of g.C.StableCell g.C.SlotCell (refusal_to_raise) (with_epoch) c.args.cell.now _ c.args.known.now held _ _ _ _
    (sym c.in-Some.ensures.value) none c.raise-undo.ensures.next c.raise-undo.ensures.back.gives c.put_changed.ensures.change

pub returns-in_default-clause-change : goal.returns-in_default-clause-change
returns-in_default-clause-change g c = grind (arith, elements)
