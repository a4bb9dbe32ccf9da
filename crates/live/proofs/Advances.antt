-- Steps, one after another: whatever they are, the world goes on.
use Rattle.std.proofs.Common.{◌≡◌, ◌∙◌, ℕ, zero, suc, Bool, ℤ, List, [], Option, Some, None, sym, ap, subst}
use Rattle.std.specs.Prelude.{IfSome}
use Rattle.growing.proofs.GoingOn.{goes_on, goes_on_then, goes_on_whatever_comes}
use Rattle.growing.specs.LaterInputs.{AreLaterInputs, with_inputs}
use Rattle.growing.specs.WhateverComes.{ByEvent, ByInputs, ByRooms, HasGoneOn}
use Rattle.protocol.specs.Node.Common.{JobView, RecordView}
use Rattle.protocol.specs.World.Common.{choice, EventView, Install, IsStep, ReplyView, WorldInvariant, WorldView}
use Rattle.replay.specs.Rests.{next_turn}
use Rattle.replay.specs.declared.kept.NextTurn.{NextTurn}
use Rattle.replay.specs.declared.kept.NextTurn.TheVariants as next
use Rattle.world.specs.Applied.{IfRefused}
use Rattle.live.specs.Steps.{AreSteps, IsLiveStep, IsLiveStepBy, IsTurn, IsTurnBy, LiveView}

-- a world comes to itself
pub stays_on : (old new : WorldView) → WorldInvariant old → new ≡ old → HasGoneOn old new
stays_on old new inv same = subst (HasGoneOn old) (sym same) (goes_on_whatever_comes old [] inv tt)

by_turn : (turn : NextTurn) (fits : List (RecordView → Bool)) (node : ℕ) (old new : WorldView) (job : Option JobView)
    → WorldInvariant old → IsTurnBy turn fits node old job new → HasGoneOn old new
by_turn next.Rest fits node old new job inv is = stays_on old new inv is.1
by_turn (next.Widen channel) fits node old new job inv is = goes_on old new inv (ByRooms _ is.1)
by_turn next.Make fits node old new job inv is = goes_on old new inv (ByEvent fits (choice old node) is.answer is.step)

turn_goes_on : (fits : List (RecordView → Bool)) (node : ℕ) (old new : WorldView) (job : Option JobView) → WorldInvariant old
    → IsTurn fits node old job new → HasGoneOn old new
turn_goes_on fits node old new job inv is = by_turn (next_turn old node) fits node old new job inv is

by_out : (out : Option JobView) (fits : List (RecordView → Bool)) (nodes : ℕ) (old new : LiveView) → WorldInvariant old.world
    → IsLiveStepBy out fits nodes old new → HasGoneOn old.world new.world
by_out (Some job) fits nodes old new inv is =
    goes_on old.world new.world inv (ByEvent fits (Install is.0.done) is.0.answer is.0.step)
by_out None fits nodes old new inv is = turn_goes_on fits old.node old.world new.world new.out inv is.0

step_goes_on : (fits : List (RecordView → Bool)) (nodes : ℕ) (old new : LiveView) → WorldInvariant old.world
    → IsLiveStep fits nodes old new → HasGoneOn old.world new.world
step_goes_on fits nodes old new inv is = by_out old.out fits nodes old new inv is

pub steps_go_on : (fits : List (RecordView → Bool)) (nodes steps : ℕ) (old new : LiveView) → WorldInvariant old.world
    → AreSteps fits nodes steps old new → HasGoneOn old.world new.world
steps_go_on fits nodes zero old new inv are = stays_on old.world new.world inv (ap (λ (live : LiveView). live.world) are)
steps_go_on fits nodes (suc steps) old new inv are =
    let before = steps_go_on fits nodes steps old are.0 inv are.1 in
    goes_on_then old.world are.0.world new.world before (step_goes_on fits nodes are.0 new before.sound are.3)

-- ---- no step brings items on an input

inputs_by_turn : (turn : NextTurn) (fits : List (RecordView → Bool)) (node : ℕ) (old new : WorldView) (job : Option JobView)
    → IsTurnBy turn fits node old job new → new.inputs ≡ old.inputs
inputs_by_turn next.Rest fits node old new job is = ap (λ (world : WorldView). world.inputs) is.1
inputs_by_turn (next.Widen channel) fits node old new job is = ap (λ (world : WorldView). world.inputs) is.1
inputs_by_turn next.Make fits node old new job is = is.step.inputs

inputs_by_out : (out : Option JobView) (fits : List (RecordView → Bool)) (nodes : ℕ) (old new : LiveView)
    → IsLiveStepBy out fits nodes old new → new.world.inputs ≡ old.world.inputs
inputs_by_out (Some job) fits nodes old new is = is.0.step.inputs
inputs_by_out None fits nodes old new is = inputs_by_turn (next_turn old.world old.node) fits old.node old.world new.world new.out is.0

pub inputs_stay : (fits : List (RecordView → Bool)) (nodes steps : ℕ) (old new : LiveView) → AreSteps fits nodes steps old new
    → new.world.inputs ≡ old.world.inputs
inputs_stay fits nodes zero old new are = ap (λ (live : LiveView). live.world.inputs) are
inputs_stay fits nodes (suc steps) old new are =
    inputs_by_out are.0.out fits nodes are.0 new are.3 ∙ inputs_stay fits nodes steps old are.0 are.1

-- a view that is the same has the same inputs
pub inputs_then_same : (inputs : List (List ℤ)) (old new : LiveView) → old.world.inputs ≡ inputs → new ≡ old
    → new.world.inputs ≡ inputs
inputs_then_same inputs old new are same = ap (λ (live : LiveView). live.world.inputs) same ∙ are

-- and so by an event, made or refused
pub applied : (fits : List (RecordView → Bool)) (event : EventView) (old new : WorldView) (answer : Option ReplyView)
    → WorldInvariant old → IfSome answer (λ reply. IsStep fits event old reply new) → IfRefused answer (new ≡ old)
    → HasGoneOn old new
applied fits event old new (Some reply) inv step refused = goes_on old new inv (ByEvent fits event reply step)
applied fits event old new None inv step refused = stays_on old new inv refused

-- more came on the inputs
pub came_on : (old new : WorldView) (inputs : List (List ℤ)) → WorldInvariant old → new ≡ with_inputs inputs old
    → AreLaterInputs old.net old.inputs new.inputs → HasGoneOn old new
came_on old new inputs inv fed later =
    let same = sym (ap (λ (world : WorldView). world.inputs) fed) in
    goes_on old new inv (ByInputs new.inputs later (fed ∙ ap (λ (lists : List (List ℤ)). with_inputs lists old) same))

-- a view that is the same has the same world
pub then_same : (world : WorldView) (old new : LiveView) → HasGoneOn world old.world → new ≡ old → HasGoneOn world new.world
then_same world old new gone same = subst (λ (live : LiveView). HasGoneOn world live.world) (sym same) gone
