-- What a history of a run says is a run.
use Rattle.std.proofs.Common.{◌≡◌, ℕ, zero, suc, Bool, List, [], ◌∷◌, ◌++◌, Option, Some, None, refl, sym, ap, subst, ◌∙◌}
use Rattle.std.proofs.Math.Logic.{∥∥₁_map}
use Rattle.live.specs.Steps.{AreSteps, IsLiveStepBy, IsTurnBy, LiveView}
use Rattle.protocol.specs.Node.Common.{JobView, RecordView}
use Rattle.protocol.specs.Node.Sharing.{wider_at}
use Rattle.protocol.specs.World.Common.{ByNode, choice, Install, ReplyView, WorldView}
use Rattle.protocol.specs.World.Coordination.{last_of}
use Rattle.protocol.specs.declared.event.Deed.TheVariants as event
use Rattle.replay.specs.Armed.{ArmCrash, ArmedEvent, ArmedView, crash_after, delivered_to, EndsWith, IsArmedStep}
use Rattle.replay.specs.Armed.{OfWorld}
use Rattle.replay.specs.Replay.{and_then, at_first, Happening, Happens, IsReplay, Made, Silent, Widened}
use Rattle.replay.specs.declared.kept.ArmedCrash.{ArmedCrash}
use Rattle.replay.specs.Rests.{next_turn}
use Rattle.replay.specs.declared.kept.NextTurn.{NextTurn}
use Rattle.replay.specs.declared.kept.NextTurn.TheVariants as next
use Rattle.replay.specs.declared.kept.ScriptedEvent.{ScriptedEvent}
use Rattle.whole_run.specs.Histories.{HistoriesAreRuns, LiveStepsAreRuns}
use Rattle.whole_run.specs.Runs.{ByEvent, ByNothing, ByRooms, EachNext, GoesOn}

-- some worlds lead from one to another
record Leads (first last : WorldView) : Type 0 where
  pub worlds : List WorldView
  pub each : EachNext GoesOn first worlds
  pub last_is : last_of first worlds ≡ last

-- one more
behind : (first next : WorldView) (worlds : List WorldView) → EachNext GoesOn first worlds
    → GoesOn (last_of first worlds) next → EachNext GoesOn first (worlds ++ (next ∷ []))
behind first next [] each goes = (goes, tt)
behind first next (x ∷ worlds) each goes = (each.0, behind x next worlds each.1 goes)

last_behind : (first next : WorldView) (worlds : List WorldView) → last_of first (worlds ++ (next ∷ [])) ≡ next
last_behind first next [] = refl
last_behind first next (x ∷ worlds) = last_behind x next worlds

leads_on : (first last next : WorldView) → Leads first last → GoesOn last next → Leads first next
leads_on first last next leads goes = record {
  worlds = leads.worlds ++ (next ∷ []);
  each = behind first next leads.worlds leads.each (subst (λ (w : WorldView). GoesOn w next) (sym leads.last_is) goes);
  last_is = last_behind first next leads.worlds;
}

end_leads : (fits : List (RecordView → Bool)) (crash : Option ArmedCrash) (said answer : ReplyView)
    (between new : WorldView) → EndsWith fits crash said between answer new → GoesOn between new
end_leads fits None said answer between new ends = ByNothing ends.1
end_leads fits (Some crash) said answer between new ends =
    ByEvent fits (ByNode crash.node (event.Crash crash.fill crash.rounds)) answer ends

armed_leads : (fits : List (RecordView → Bool)) (e : ArmedEvent) (first : WorldView) (old : ArmedView)
    (answer : ReplyView) (new : ArmedView) → Leads first old.world → IsArmedStep fits e old answer new
    → Leads first new.world
armed_leads fits (OfWorld e) first old answer new leads step =
    leads_on first step.between new.world
    (leads_on first old.world step.between leads (ByEvent fits e step.said step.step))
    (end_leads fits (crash_after (delivered_to e) step.said new.deliveries old.crashes) step.said answer step.between
    new.world step.ends)
armed_leads fits (ArmCrash crash) first old answer new leads step =
    leads_on first old.world new.world leads (ByNothing (ap (λ (a : ArmedView). a.world) step.1))

happens_leads : (fits : List (RecordView → Bool)) (script : List ScriptedEvent) (next : Happening) (passed : ℕ)
    (first : WorldView) (old new : ArmedView) → Leads first old.world → Happens fits script next passed old new
    → Leads first new.world
happens_leads fits script (Made maker kept said) passed first old new leads made =
    armed_leads fits made.event first old made.answer new leads made.step
happens_leads fits script (Silent reason) passed first old new leads silent =
    leads_on first old.world new.world leads (ByNothing (ap (λ (a : ArmedView). a.world) silent.1))
happens_leads fits script (Widened channel) passed first old new leads wide =
    leads_on first old.world new.world leads
    (ByRooms (wider_at channel old.world.rooms) (ap (λ (a : ArmedView). a.world) wide.1))

replay_leads : (fits : List (RecordView → Bool)) (script : List ScriptedEvent) (first : WorldView)
    (happened : List Happening) (passed : ℕ) (armed : ArmedView) → IsReplay fits script first happened passed armed
    → Leads first armed.world
replay_leads fits script first _ _ _ (at_first armed is) =
    record { worlds = []; each = tt; last_is = sym (ap (λ (a : ArmedView). a.world) is) }
replay_leads fits script first _ _ _ (and_then before all next passed after old new replay happens longer count) =
    happens_leads fits script next passed first old new (replay_leads fits script first before passed old replay) happens

pub histories_are_runs : HistoriesAreRuns
histories_are_runs fits script first happened last leads =
    ∥∥₁_map leads (λ led. by (replay_leads fits script first happened led.0 led.1 led.2) led.3)
  where
    by : {armed : WorldView} → Leads first armed → armed ≡ last
        → (worlds : List WorldView) × EachNext GoesOn first worlds × (last_of first worlds ≡ last)
    by run same = (run.worlds, run.each, run.last_is ∙ same)

-- ---- a network at work

turn_leads : (by : NextTurn) (fits : List (RecordView → Bool)) (node : ℕ) (old : WorldView) (job : Option JobView)
    (new : WorldView) → IsTurnBy by fits node old job new → GoesOn old new
turn_leads next.Rest fits node old job new turn = ByNothing turn.1
turn_leads (next.Widen channel) fits node old job new turn = ByRooms (wider_at channel old.rooms) turn.1
turn_leads next.Make fits node old job new turn = ByEvent fits (choice old node) turn.answer turn.step

step_leads : (out : Option JobView) (fits : List (RecordView → Bool)) (nodes : ℕ) (old new : LiveView)
    → IsLiveStepBy out fits nodes old new → GoesOn old.world new.world
step_leads (Some job) fits nodes old new step = ByEvent fits (Install step.0.done) step.0.answer step.0.step
step_leads None fits nodes old new step =
    turn_leads (next_turn old.world old.node) fits old.node old.world new.out new.world step.0

steps_lead : (fits : List (RecordView → Bool)) (nodes steps : ℕ) (old new : LiveView) → AreSteps fits nodes steps old new
    → Leads old.world new.world
steps_lead fits nodes zero old new same =
    record { worlds = []; each = tt; last_is = sym (ap (λ (l : LiveView). l.world) same) }
steps_lead fits nodes (suc steps) old new made =
    leads_on old.world made.0.world new.world (steps_lead fits nodes steps old made.0 made.1)
    (step_leads made.0.out fits nodes made.0 new made.3)

pub live_steps_are_runs : LiveStepsAreRuns
live_steps_are_runs fits nodes steps old new made =
    let run = steps_lead fits nodes steps old new made in (run.worlds, run.each, run.last_is)
