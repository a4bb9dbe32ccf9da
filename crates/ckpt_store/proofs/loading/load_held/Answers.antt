use Rattle.std.proofs.Common.{◌≡◌, ◌-◌, true, Option, Some, None, Result, Ok, Err, subst}
use Rattle.std.specs.Option.{is_some}
use Rattle.slot_cell.specs.Whole.{slot_in}
use Rattle.ckpt_codec.specs.Common.{ImageView, HeaderView}
use Rattle.ckpt_codec.specs.declared.header.Instance.{Instance}
use Rattle.ckpt_store.specs.declared.fault.StoreFault.{StoreFault}
use Rattle.ckpt_store.specs.Loading.{IsRead, IsHeldOf, IsHeldWrong}
use Rattle.ckpt_store.proofs.Loads.{held_found, held_not_found}
use Rattle.std.proofs.Common.{arith}
use Rattle.std.proofs.lemmas.Grind.{elements}
use Rattle.ckpt_store.proofs.loading.load_held.Goals as goal

some_in : (o : Option Instance) → is_some o ≡ true → ¬ (o ≡ None)
some_in None is = absurd (cc)
some_in (Some i) is = λ none. cc

pub returns-in-Ok-clause-read : goal.returns-in-Ok-clause-read
returns-in-Ok-clause-read g c =
    let w = g.C.SlotCell.whole c.args.cell.now in
    let permanent = c.args.permanent.now in
    let result : Result (Option ImageView) StoreFault = Ok (Some c.in-Ok.image) in
    subst (λ (h : HeaderView). IsRead (IsHeldOf permanent h.tentative (slot_in (1 - h.slot) w))
    (IsHeldWrong permanent h.tentative (slot_in (1 - h.slot) w)) result) c.header.view_is
    (held_found permanent c.header.inside.tentative (slot_in (1 - c.header.inside.slot) w) c.in-Ok.image (some_in c.header.inside.tentative c.if-is_none.ensures)
    c.in-Ok.ensures.read)

pub returns-in-Err-clause-read : goal.returns-in-Err-clause-read
returns-in-Err-clause-read g c =
    let w = g.C.SlotCell.whole c.args.cell.now in
    let permanent = c.args.permanent.now in
    let result : Result (Option ImageView) StoreFault = Err c.in-Err.fault in
    subst (λ (h : HeaderView). IsRead (IsHeldOf permanent h.tentative (slot_in (1 - h.slot) w))
    (IsHeldWrong permanent h.tentative (slot_in (1 - h.slot) w)) result) c.header.view_is
    (held_not_found permanent c.header.inside.tentative (slot_in (1 - c.header.inside.slot) w) c.in-Err.fault
    (some_in c.header.inside.tentative c.if-is_none.ensures) c.in-Err.ensures.read)

pub returns-in-Ok-clause-look : goal.returns-in-Ok-clause-look
returns-in-Ok-clause-look g c = grind (arith, elements)

pub returns-in-Err-clause-look : goal.returns-in-Err-clause-look
returns-in-Err-clause-look g c = grind (arith, elements)

pub returns-then-is_none-clause-look : goal.returns-then-is_none-clause-look
returns-then-is_none-clause-look g c = grind (arith, elements)

pub returns-then-is_none-clause-read : goal.returns-then-is_none-clause-read
returns-then-is_none-clause-read g c = grind (arith, elements)
