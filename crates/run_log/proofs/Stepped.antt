-- A node's event that was made in one step.
use Rattle.std.proofs.Common.{◌≡◌, ◌∙◌, ◌⊎◌, ◌≤◌, inl, ℕ, Bool, true, false, List, Option, Some, refl, ap, subst, eqb}
use Rattle.std.specs.Prelude.{IfSome}
use Rattle.kahn_net.specs.declared.limits.TheConstants.{MAX_COUNT}
use Rattle.protocol.specs.Node.Common.{RecordView}
use Rattle.protocol.specs.World.Common.{ByNetwork, ByNode, EventView, Install, Release, ReplyView, WorldInvariant, WorldView, choice}
use Rattle.protocol.specs.World.RoomNeeds.{needed_for}
use Rattle.protocol.specs.declared.event.Deed.TheVariants as deed
use Rattle.replay.specs.Armed.{ArmedView, IsArmedStep, OfWorld}
use Rattle.replay.specs.Replay.{has_idled, is_line_late}
use Rattle.replay.specs.Rests.{AllRest, next_by, next_turn, rest_after}
use Rattle.replay.specs.Rests as rests
use Rattle.replay.specs.declared.kept.NextTurn.TheVariants as next
use Rattle.replay.specs.declared.kept.ScriptedEvent.{ScriptedEvent}
use Rattle.world.specs.Events as event_is
use Rattle.run_log.specs.Answers.{turn_kind, IsTurnWritten}
use Rattle.run_log.specs.ArmedWorlds.{armed_view}
use Rattle.run_log.specs.Calls.{IsRefused, IsTurnAnswer, IsUntouched}
use Rattle.run_log.specs.Counts.{HasFullLine}
use Rattle.run_log.specs.Numbers.{Numbers, counted}
use Rattle.run_log.specs.RunLogs.{IsFull}
use Rattle.run_log.specs.SeatCounts.{run_numbers}
use Rattle.run_log.specs.Turns.{IsTurn}
use Rattle.run_log.specs.declared.answer.HubFault.{HubFault}
use Rattle.run_log.specs.declared.answer.TurnAnswer.{TurnAnswer}
use Rattle.run_log.specs.declared.run_log.RunLog.{RunLog}
use Rattle.run_log.specs.declared.seat_count.Run.{Ghosts as RunWords}
use Rattle.gate_cell.specs.declared.cell.StableCell.{Ghosts as CellWords}
use Rattle.slot_cell.specs.declared.slot_cell.SlotCell.{Ghosts as SlotWords}
use Rattle.outlet.specs.declared.outlet.Outlet.{Ghosts as OutletWords}
use Rattle.run_log.specs.declared.history.Line.{Line}
use Rattle.run_log.proofs.Rested.{noted_event}

-- both say of an event whether a turn passes by it
same_idle : (event : EventView) → rests.is_idle event ≡ event_is.is_idle event
same_idle (ByNode node deed.Idle) = refl
same_idle (ByNode node deed.Grant) = refl
same_idle (ByNode node deed.Decide) = refl
same_idle (ByNode node deed.Start) = refl
same_idle (ByNode node deed.Send) = refl
same_idle (ByNode node deed.Recover) = refl
same_idle (ByNode node (deed.Deliver place)) = refl
same_idle (ByNode node (deed.Crash fill rounds)) = refl
same_idle (ByNode node (deed.Arm call fault)) = refl
same_idle (Install done) = refl
same_idle (Release node) = refl
same_idle (ByNetwork node place act) = refl

-- where no turn passes, the event is made that is next
pub makes_next : (world : WorldView) (node : ℕ) → event_is.is_idle (choice world node) ≡ false → next_turn world node ≡ next.Make
makes_next world node other =
    ap (λ (idle : Bool). next_by idle (has_idled world node) (needed_for world node)) (same_idle (choice world node) ∙ other)

-- and what is noted of nodes that rest holds behind it
pub noted_next : (fits : List (RecordView → Bool)) (script : List ScriptedEvent) (node passed round : ℕ) (old new : ArmedView)
    (answer : ReplyView) (resting later : List Bool) (alone : Bool) → WorldInvariant old.world
    → is_line_late script passed old.world.round ≡ false → IsArmedStep fits (OfWorld (choice old.world node)) old answer new
    → round ≡ old.world.round → alone ≡ eqb new.world.round round
    → AllRest resting old.world → later ≡ rest_after alone node false resting → AllRest later new.world
noted_next fits script node passed round old new answer resting later alone inv in_time step before is all noting =
    noted_event fits script node passed round (choice old.world node) old new answer resting later alone
    (rests.is_idle (choice old.world node)) false inv (inl (in_time, refl)) step before is refl (λ never. absurd (clash never)) all noting
  where
    clash : false ≡ true → ⊥
    clash same = absurd (cc)

-- what holds of an answer, if one was given, holds of this one
pub some_so : {R : Type 0} (P : R → Type 0) (made : Option R) (reply : R) → made ≡ Some reply → IfSome made P → P reply
some_so {R} P made reply is held = subst (λ (m : Option R). IfSome m P) is held

module _ {C O ThisRun : Type 0} {cell : CellWords C} {slots : SlotWords C} {outlet : OutletWords O} {run : RunWords ThisRun} where
  -- a count that is full behind a call by which nothing was made or counted was full before
  full_before : (old mid : RunLog C O ThisRun slots cell outlet run) → IsUntouched old mid → IsFull mid → IsFull old
  full_before old mid none full =
      subst (λ (l : List Line). (MAX_COUNT ≤ (run_numbers old.totals).entries) ⊎ (MAX_COUNT ≤ old.stops) ⊎ HasFullLine l) none.same.lines
      (subst (λ (s : ℕ). (MAX_COUNT ≤ (run_numbers old.totals).entries) ⊎ (MAX_COUNT ≤ s) ⊎ HasFullLine mid.lines.items) none.stops
      (subst (λ (n : Numbers). (MAX_COUNT ≤ n.entries) ⊎ (MAX_COUNT ≤ mid.stops) ⊎ HasFullLine mid.lines.items) none.totals full))

  -- a call that is refused behind one by which nothing was made or counted
  pub refused_before : (fault : HubFault) (old mid new : RunLog C O ThisRun slots cell outlet run) (before between after : Numbers)
      → IsUntouched old mid → between ≡ before → IsRefused fault mid new between after → IsRefused fault old new before after
  refused_before fault old mid new before between after none counts refused =
      record {
        same = record {
          world = refused.same.world ∙ none.same.world;
          lines = refused.same.lines ∙ none.same.lines;
          passed = refused.same.passed ∙ none.same.passed;
          stopped = refused.same.stopped ∙ none.same.stopped;
        };
        numbers = refused.numbers ∙ counts;
        full = λ past. full_before old mid none (refused.full past);
      }

  -- and one that is answered
  pub answered_before : (node : ℕ) (answer : TurnAnswer) (old mid new : RunLog C O ThisRun slots cell outlet run) (before between after : Numbers)
      → IsUntouched old mid → between ≡ before → IsTurnAnswer node answer mid new between after → IsTurnAnswer node answer old new before after
  answered_before node answer old mid new before between after none counts told =
      record {
        seat = record {
          counts = told.seat.counts ∙ ap (counted (turn_kind answer)) counts;
          home = told.seat.home;
          told = told.seat.told;
        };
        written = subst (λ (keeps : Bool). IsTurnWritten keeps node old.lines.items new.lines.items answer) none.keeps
            (subst (λ (lines : List Line). IsTurnWritten mid.keeps node lines new.lines.items answer) none.same.lines told.written);
        turned = subst (λ (n : ℕ). IsTurn run.rooms run.script n node answer (armed_view old.armed) (armed_view new.armed)) none.same.passed
            (subst (λ (a : ArmedView). IsTurn run.rooms run.script mid.passed node answer a (armed_view new.armed)) none.same.world told.turned);
        passed = told.passed ∙ none.same.passed;
        running = told.running ∙ none.same.stopped;
      }
