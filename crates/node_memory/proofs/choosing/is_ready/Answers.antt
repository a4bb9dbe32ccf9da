use Rattle.std.proofs.Common.{◌≡◌, ℕ, ◌<◌, List, length, get_or, Some, refl, sym, subst, ◌∙◌}
use Rattle.std.specs.Prelude.{slice_get}
use Rattle.protocol.specs.Node.Common.{code_of, network_of, standing_of}
use Rattle.kahn_net.specs.declared.program.Program.{Program}
use Rattle.kahn_net.specs.declared.program.Process.{Process}
use Rattle.protocol.specs.Node.Sharing.{share_in}
use Rattle.node_memory.proofs.Choices.{code_found, code_not_found, ready_at, not_ready, item_on, room_on}
use Rattle.node_memory.proofs.choosing.is_ready.Goals as goal

there : (program : Program) (ps : List Process) (n again : ℕ) (p : Process) → ps ≡ program.processes.items
    → n < length ps → p ≡ get_or ps n p → n ≡ again → slice_get (network_of program).codes again ≡ Some (code_of p)
there program ps n again p same within is one =
    subst (λ (k : ℕ). slice_get (network_of program).codes k ≡ Some (code_of p)) one
    (code_found program ps n n p same refl within is)

pub returns-in-Begin : goal.returns-in-Begin
returns-in-Begin c =
    ready_at c.args.net.now.program c.args.inputs.now.came (share_in c.args.rooms.now c.args.share) c.args.image.now c.args.inboxes.now
    c.deref.result.now
    c.from.result c.saved.inside.number c.in-Some.field-0.now (standing_of c.saved.inside.state)
    _ c.next_act.result _
    c.deref.ensures.value c.from.ensures c.in-Some.ensures.lookup.3.0 c.in-Some.ensures.lookup.1
    (c.next_act.ensures (code_of c.in-Some.field-0.now)
    (there c.args.net.now.program c.deref.result.now c.from.result c.from-in-Some.result c.in-Some.field-0.now
    c.deref.ensures.value c.in-Some.ensures.lookup.3.0 c.in-Some.ensures.lookup.1
    (c.from.ensures ∙ sym c.from-in-Some.ensures)))
    c.in-Begin.is c.saved.view_is

pub returns-in-Get : goal.returns-in-Get
returns-in-Get c =
    item_on _ (network_of c.args.net.now.program) _ c.args.image.now c.args.inboxes.now _ _ c.has_item.ensures
    c.deref-in-Get.ensures.value
    ∙ ready_at c.args.net.now.program c.args.inputs.now.came (share_in c.args.rooms.now c.args.share) c.args.image.now c.args.inboxes.now
    c.deref.result.now
    c.from.result c.saved.inside.number c.in-Some.field-0.now (standing_of c.saved.inside.state)
    _ c.next_act.result _
    c.deref.ensures.value c.from.ensures c.in-Some.ensures.lookup.3.0 c.in-Some.ensures.lookup.1
    (c.next_act.ensures (code_of c.in-Some.field-0.now)
    (there c.args.net.now.program c.deref.result.now c.from.result c.from-in-Some.result c.in-Some.field-0.now
    c.deref.ensures.value c.in-Some.ensures.lookup.3.0 c.in-Some.ensures.lookup.1
    (c.from.ensures ∙ sym c.from-in-Some.ensures)))
    c.in-Get.is c.saved.view_is

pub returns-in-Put : goal.returns-in-Put
returns-in-Put c =
    room_on _ (network_of c.args.net.now.program) (share_in c.args.rooms.now c.args.share) c.args.image.now _ _ c.has_room.ensures
    c.deref-in-Put.ensures.value
    ∙ ready_at c.args.net.now.program c.args.inputs.now.came (share_in c.args.rooms.now c.args.share) c.args.image.now c.args.inboxes.now
    c.deref.result.now
    c.from.result c.saved.inside.number c.in-Some.field-0.now (standing_of c.saved.inside.state)
    _ c.next_act.result _
    c.deref.ensures.value c.from.ensures c.in-Some.ensures.lookup.3.0 c.in-Some.ensures.lookup.1
    (c.next_act.ensures (code_of c.in-Some.field-0.now)
    (there c.args.net.now.program c.deref.result.now c.from.result c.from-in-Some.result c.in-Some.field-0.now
    c.deref.ensures.value c.in-Some.ensures.lookup.3.0 c.in-Some.ensures.lookup.1
    (c.from.ensures ∙ sym c.from-in-Some.ensures)))
    c.in-Put.is c.saved.view_is

pub returns-in-Nothing : goal.returns-in-Nothing
returns-in-Nothing c =
    ready_at c.args.net.now.program c.args.inputs.now.came (share_in c.args.rooms.now c.args.share) c.args.image.now c.args.inboxes.now
    c.deref.result.now
    c.from.result c.saved.inside.number c.in-Some.field-0.now (standing_of c.saved.inside.state)
    _ c.next_act.result _
    c.deref.ensures.value c.from.ensures c.in-Some.ensures.lookup.3.0 c.in-Some.ensures.lookup.1
    (c.next_act.ensures (code_of c.in-Some.field-0.now)
    (there c.args.net.now.program c.deref.result.now c.from.result c.from-in-Some.result c.in-Some.field-0.now
    c.deref.ensures.value c.in-Some.ensures.lookup.3.0 c.in-Some.ensures.lookup.1
    (c.from.ensures ∙ sym c.from-in-Some.ensures)))
    c.in-Nothing.is c.saved.view_is

pub returns-in-None : goal.returns-in-None
returns-in-None c =
    not_ready (network_of c.args.net.now.program) c.args.inputs.now.came (share_in c.args.rooms.now c.args.share) c.args.image.now c.args.inboxes.now
    c.saved.inside.number (standing_of c.saved.inside.state) _
    (code_not_found c.args.net.now.program c.deref.result.now c.from.result c.saved.inside.number c.deref.ensures.value
    c.from.ensures c.in-None.ensures.lookup.3)
    c.saved.view_is
