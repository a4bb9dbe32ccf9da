use Rattle.std.proofs.Common.{Option, Some, Result, refl, sym, subst}
use Rattle.ckpt_store.specs.declared.known.Known.{Known}
use Rattle.ckpt_store.specs.declared.fault.StoreFault.{StoreFault}
use Rattle.ckpt_store.specs.Refusals.{no_refusal}
use Rattle.ckpt_store.specs.Spelling.{IsKept, kept_in, known_as}
use Rattle.ckpt_store.specs.Putting.{IsChange}
use Rattle.ckpt_store.specs.Undoing.{undone}
use Rattle.ckpt_store.proofs.Puts.{kept_after, changed_after}
use Rattle.ckpt_store.proofs.putting.put_taken.Goals as goal

pub put_image-put-requires-clause-slot : goal.put_image-put-requires-clause-slot
put_image-put-requires-clause-slot g c =
    (c.requires.kept.holds (known_as (undone c.args.undo c.args.next) c.args.slot) refl).one

pub returns-clause-kept : goal.returns-clause-kept
returns-clause-kept g c =
    let C = g.C.StableCell in
    let S = g.C.SlotCell in
    let laws = g.met.C.SlotCell in
    let next = c.args.next in
    let kept = undone c.args.undo next in
    let slot = c.args.slot in
    let new = c.put_image-put.new.cell in
    let spelled = c.requires.kept.holds (known_as kept slot) refl in
    subst (λ k. IsKept C.is_ready S.whole S.may_leave_whole new k) (sym c.note.ensures.known)
    (kept_after C S kept next slot slot c.args.cell.now new (laws.whole_may_stay new)
    (λ t left le might. laws.includes_now_whole new t left le might) c.requires.kept c.put_image-put.result
    (c.put_image-put.ensures kept spelled c.requires.free c.requires.same))

pub returns-clause-change : goal.returns-clause-change
returns-clause-change g c =
    let C = g.C.StableCell in
    let S = g.C.SlotCell in
    let laws = g.met.C.SlotCell in
    let next = c.args.next in
    let kept = undone c.args.undo next in
    let slot = c.args.slot in
    let old = c.args.cell.now in
    let new = c.put_image-put.new.cell in
    let spelled = c.requires.kept.holds (known_as kept slot) refl in
    let put = c.put_image-put.result in
    subst (λ (r : Result (Unit {0}) StoreFault). IsChange C S no_refusal (λ before. next) old new (Some kept)
    (kept_in c.note.new.known) r) (sym c.note.ensures.same)
    (subst (λ (k : Option Known). IsChange C S no_refusal (λ before. next) old new (Some kept) (kept_in k) put)
    (sym c.note.ensures.known)
    (changed_after C S kept next slot slot old new (laws.whole_may_stay new)
    (λ t left le might. laws.includes_now_whole new t left le might) c.requires.kept put
    (c.put_image-put.ensures kept spelled c.requires.free c.requires.same)))
