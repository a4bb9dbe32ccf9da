-- What a history keeps of the world.
use Rattle.std.proofs.Common.{◌≡◌, ◌∙◌, ℕ, Bool, List, [], ◌∷◌, ◌++◌, Option, Some, None, refl, sym, ap, subst}
use mathlib.Core.Logic.{∥∥₁_map}
use Rattle.protocol.specs.Node.Common.{RecordView}
use Rattle.protocol.specs.World.Common.{ByNode, WorldInvariant, ReplyView, WorldView}
use Rattle.protocol.specs.declared.event.Deed.TheVariants as event
use Rattle.protocol.specs.Node.Sharing.{wider_at}
use Rattle.protocol_laws.specs.World.StepKeeps.{rooms_keep_world, step_keeps}
use Rattle.replay.specs.Armed.{ArmedEvent, ArmedView, OfWorld, ArmCrash, IsArmedStep, EndsWith}
use Rattle.replay.specs.Armed.{crash_after, delivered_to}
use Rattle.replay.specs.Laws.{ReplaysKeep, ReplaysStay, rooms_after}
use Rattle.replay.specs.Replay.{Happening, Made, Silent, Widened, Happens, IsReplay, at_first, and_then}
use Rattle.replay.specs.declared.kept.ArmedCrash.{ArmedCrash}
use Rattle.replay.specs.declared.kept.ScriptedEvent.{ScriptedEvent}

-- ---- the invariant

end_keeps : (fits : List (RecordView → Bool)) (crash : Option ArmedCrash) (said answer : ReplyView)
    (between new : WorldView) → WorldInvariant between → EndsWith fits crash said between answer new
    → WorldInvariant new
end_keeps fits None said answer between new inv ends = subst WorldInvariant (sym ends.1) inv
end_keeps fits (Some crash) said answer between new inv ends =
    step_keeps fits (ByNode crash.node (event.Crash crash.fill crash.rounds)) between answer new inv ends

armed_keeps : (fits : List (RecordView → Bool)) (event : ArmedEvent) (old : ArmedView) (answer : ReplyView)
    (new : ArmedView) → WorldInvariant old.world → IsArmedStep fits event old answer new → WorldInvariant new.world
armed_keeps fits (OfWorld event) old answer new inv step =
    end_keeps fits (crash_after (delivered_to event) step.said new.deliveries old.crashes) step.said answer step.between
    new.world (step_keeps fits event old.world step.said step.between inv step.step) step.ends
armed_keeps fits (ArmCrash crash) old answer new inv step =
    subst WorldInvariant (sym (ap (λ (a : ArmedView). a.world) step.1)) inv

happens_keeps : (fits : List (RecordView → Bool)) (script : List ScriptedEvent) (next : Happening) (passed : ℕ)
    (old new : ArmedView) → WorldInvariant old.world → Happens fits script next passed old new
    → WorldInvariant new.world
happens_keeps fits script (Made maker kept said) passed old new inv made =
    armed_keeps fits made.event old made.answer new inv made.step
happens_keeps fits script (Silent reason) passed old new inv silent =
    subst WorldInvariant (sym (ap (λ (a : ArmedView). a.world) silent.1)) inv
happens_keeps fits script (Widened channel) passed old new inv wide =
    subst WorldInvariant (sym (ap (λ (a : ArmedView). a.world) wide.1))
    (rooms_keep_world old.world (wider_at channel old.world.rooms) inv)

pub replays_keep : ReplaysKeep
replays_keep fits script opening _ _ _ inv (at_first armed same) =
    subst WorldInvariant (sym (ap (λ (a : ArmedView). a.world) same)) inv
replays_keep fits script opening _ _ _ inv (and_then before all next passed after old new run happens longer count) =
    happens_keeps fits script next passed old new
    (replays_keep fits script opening before passed old inv run) happens

-- ---- what stays

abbrev StaysFrom : WorldView → WorldView → Type 0
StaysFrom opening world =
    (world.net ≡ opening.net) × (world.inputs ≡ opening.inputs) × (world.rooms ≡ opening.rooms)

stays_through : (first next last : WorldView) → StaysFrom first next → StaysFrom next last → StaysFrom first last
stays_through first next last before then =
    (then.0 ∙ before.0, then.1 ∙ before.1, then.2 ∙ before.2)

stays_same : (opening world : WorldView) → world ≡ opening → StaysFrom opening world
stays_same opening world same = (
  ap (λ (w : WorldView). w.net) same,
  ap (λ (w : WorldView). w.inputs) same,
  ap (λ (w : WorldView). w.rooms) same,
)

-- but for the rooms, where this happens
abbrev StaysBut : List Happening → WorldView → WorldView → Type 0
StaysBut happened opening world =
    (world.net ≡ opening.net) × (world.inputs ≡ opening.inputs) × (world.rooms ≡ rooms_after happened opening.rooms)

-- the rooms behind one more
rooms_then : (before : List Happening) (next : Happening) (rooms : List ℕ)
    → rooms_after (before ++ next ∷ []) rooms ≡ rooms_after (next ∷ []) (rooms_after before rooms)
rooms_then [] next rooms = refl
rooms_then (Made maker event answer ∷ before) next rooms = rooms_then before next rooms
rooms_then (Silent reason ∷ before) next rooms = rooms_then before next rooms
rooms_then (Widened channel ∷ before) next rooms = rooms_then before next (wider_at channel rooms)

stays_more : (before all : List Happening) (next : Happening) (opening old new : WorldView)
    → StaysBut before opening old → StaysBut (next ∷ []) old new → all ≡ before ++ next ∷ []
    → StaysBut all opening new
stays_more before all next opening old new so_far then longer = (
  then.0 ∙ so_far.0,
  then.1 ∙ so_far.1,
  then.2
      ∙ (ap (rooms_after (next ∷ [])) so_far.2
      ∙ (sym (rooms_then before next opening.rooms)
      ∙ ap (λ (happened : List Happening). rooms_after happened opening.rooms) (sym longer))),
)

end_stays : (fits : List (RecordView → Bool)) (crash : Option ArmedCrash) (said answer : ReplyView)
    (between new : WorldView) → EndsWith fits crash said between answer new → StaysFrom between new
end_stays fits None said answer between new ends = stays_same between new ends.1
end_stays fits (Some crash) said answer between new ends = (ends.net, ends.inputs, ends.rooms)

armed_stays : (fits : List (RecordView → Bool)) (event : ArmedEvent) (old : ArmedView) (answer : ReplyView)
    (new : ArmedView) → IsArmedStep fits event old answer new → StaysFrom old.world new.world
armed_stays fits (OfWorld event) old answer new step =
    stays_through old.world step.between new.world (step.step.net, step.step.inputs, step.step.rooms)
    (end_stays fits (crash_after (delivered_to event) step.said new.deliveries old.crashes) step.said answer step.between
    new.world step.ends)
armed_stays fits (ArmCrash crash) old answer new step =
    stays_same old.world new.world (ap (λ (a : ArmedView). a.world) step.1)

happens_stays : (fits : List (RecordView → Bool)) (script : List ScriptedEvent) (next : Happening) (passed : ℕ)
    (old new : ArmedView) → Happens fits script next passed old new → StaysBut (next ∷ []) old.world new.world
happens_stays fits script (Made maker kept said) passed old new made =
    armed_stays fits made.event old made.answer new made.step
happens_stays fits script (Silent reason) passed old new silent =
    stays_same old.world new.world (ap (λ (a : ArmedView). a.world) silent.1)
happens_stays fits script (Widened channel) passed old new wide = (
  ap (λ (a : ArmedView). a.world.net) wide.1,
  ap (λ (a : ArmedView). a.world.inputs) wide.1,
  ap (λ (a : ArmedView). a.world.rooms) wide.1,
)

replay_stays : (fits : List (RecordView → Bool)) (script : List ScriptedEvent) (opening : WorldView)
    (happened : List Happening) (passed : ℕ) (armed : ArmedView)
    → IsReplay fits script opening happened passed armed → StaysBut happened opening armed.world
replay_stays fits script opening _ _ _ (at_first armed same) =
    stays_same opening armed.world (ap (λ (a : ArmedView). a.world) same)
replay_stays fits script opening _ _ _ (and_then before all next passed after old new run happens longer count) =
    stays_more before all next opening old.world new.world (replay_stays fits script opening before passed old run)
    (happens_stays fits script next passed old new happens) longer

pub replays_stay : ReplaysStay
replays_stay fits script opening happened world leads =
    ∥∥₁_map leads (λ run.
    subst (StaysBut happened opening) run.3 (replay_stays fits script opening happened run.0 run.1 run.2))
