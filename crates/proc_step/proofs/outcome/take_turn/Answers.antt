use Rattle.std.proofs.Common.{List, ℤ, ap, sym, subst, ◌∙◌}
use Rattle.kahn_net.specs.Common.{Standing, trace_from, standing_of}
use Rattle.proc_code.specs.Translation.{FlatCode}
use Rattle.proc_step.specs.Parts.{Played, taken_of}
use Rattle.proc_step.proofs.Coded.{runs_at}
use Rattle.proc_step.proofs.Lifting.{can_stand, lifted_at}
use Rattle.proc_step.proofs.Stages.{played_as}
use Rattle.std.proofs.lemmas.Grind.{elements}
use Rattle.std.proofs.Common.{arith}
use Rattle.proc_step.proofs.outcome.take_turn.Goals as goal

pub returns : goal.returns
returns c process passing within compiled inputs m stands next =
    let items = c.args.items.now in
    let room = c.args.room.now in
    let state = c.args.state.now in
    let before = standing_of state in
    let start = c.in_ok-machine.machine in
    let at = c.in_ok-machine.ensures in
    let end = c.play.new.self in
    let flow = c.in_ok-flow.flow in
    let t = trace_from process before start.unread.items in
    let part = c.in_ok-flow.ensures t
    (runs_at process c.deref.result.now start state.mode state.variables.items items passing within
    (c.deref.ensures.value ∙ ap (λ (f : FlatCode). f.instructions) compiled) (at.place process compiled) at.empty
    at.passes at.variables at.untaken (can_stand process inputs m before stands)) in
    let played =
    subst (λ (s : Standing). Played t room start.unread.items start.sent.items s end.unread.items end.sent.items)
    (sym (c.mode_of.ensures end.variables.items))
    (played_as t room start.unread.items start.sent.items flow end part) in
    lifted_at process before items room start.unread.items start.sent.items _ end.unread.items end.sent.items
    c.in_ok-taken.taken.items passing at.untaken at.unsent played
    (c.in_ok-taken.ensures ∙ ap (λ (l : List (List ℤ)). taken_of items l) c.deref-2.ensures.value) inputs m stands next

pub play-requires : goal.play-requires
play-requires c = grind (arith, elements)
