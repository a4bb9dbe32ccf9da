-- What is noted of nodes that rest holds behind an event.
use Rattle.std.proofs.Common.{◌≡◌, ◌∙◌, inl, inr, ℕ, Bool, true, false, eqb, List, sym, ap, subst}
use Rattle.std.proofs.lemmas.Bool.{eqb-true}
use Rattle.protocol.specs.Node.Common.{RecordView}
use Rattle.protocol.specs.World.Common.{EventView, ReplyView, WorldInvariant, WorldView, choice, event_node}
use Rattle.protocol.specs.declared.reply.Reply.TheVariants.{Idled}
use Rattle.replay.specs.Armed.{ArmCrash, ArmedEvent, ArmedView, IsArmedStep, OfWorld}
use Rattle.replay.specs.Replay.{IsEventOf}
use Rattle.replay.specs.Rests.{AllRest, is_idle, rest_after}
use Rattle.replay.proofs.Choices.{choice_at_home}
use Rattle.replay.proofs.Rests.{noted, passing_rests, rests_stay}
use Rattle.replay.specs.declared.kept.Maker.TheVariants.{Node}
use Rattle.replay.specs.declared.kept.ScriptedEvent.{ScriptedEvent}

abbrev world_event : EventView → ArmedEvent → EventView
world_event other (OfWorld event) = event
world_event other (ArmCrash crash) = other

node_of_own : (script : List ScriptedEvent) (node passed : ℕ) (world : WorldView) (event : EventView) → WorldInvariant world
    → IsEventOf script (Node node) passed world (OfWorld event) → event_node event ≡ node
node_of_own script node passed world event inv (inl chosen) =
    ap (λ (e : ArmedEvent). event_node (world_event event e)) chosen.1 ∙ choice_at_home world inv node
node_of_own script node passed world event inv (inr back) =
    ap (λ (e : ArmedEvent). event_node (world_event event e)) back.1 ∙ back.2

chosen_idle : (script : List ScriptedEvent) (node passed : ℕ) (world : WorldView) (event : EventView) → is_idle event ≡ true
    → IsEventOf script (Node node) passed world (OfWorld event) → event ≡ choice world node
chosen_idle script node passed world event idle (inl chosen) = ap (λ (e : ArmedEvent). world_event event e) chosen.1
chosen_idle script node passed world event idle (inr back) = absurd (no (sym idle ∙ ap (λ (e : ArmedEvent). is_idle (world_event event e)) back.1))
  where
    no : true ≡ false → ⊥
    no never = absurd (cc)

pub noted_event : (fits : List (RecordView → Bool)) (script : List ScriptedEvent) (node passed round : ℕ) (event : EventView)
    (old new : ArmedView) (answer : ReplyView) (resting later : List Bool) (alone idles passes : Bool) → WorldInvariant old.world
    → IsEventOf script (Node node) passed old.world (OfWorld event) → IsArmedStep fits (OfWorld event) old answer new
    → round ≡ old.world.round → alone ≡ eqb new.world.round round → idles ≡ is_idle event
    → (passes ≡ true → (idles ≡ true) × (answer ≡ Idled)) → AllRest resting old.world
    → later ≡ rest_after alone node passes resting → AllRest later new.world
noted_event fits script node passed round event old new answer resting later alone idles passes inv own step before is idle pass all noting =
    subst (λ (list : List Bool). AllRest list new.world) (sym noting)
    (noted resting old.world new.world node alone passes all
    (λ yes k other rests. rests_stay fits event old new answer k step (same yes) (λ e. other (e ∙ here)) rests)
    (λ yes turn. let told = pass turn in
    let idling : is_idle event ≡ true = sym idle ∙ told.0 in
    passing_rests fits event old new answer node inv (chosen_idle script node passed old.world event idling own) idling told.1 step
    (same yes)))
  where
    here : event_node event ≡ node
    here = node_of_own script node passed old.world event inv own

    same : alone ≡ true → new.world.round ≡ old.world.round
    same told = eqb-true new.world.round round (sym is ∙ told) ∙ before
