-- An event, as it would be kept.
use Rattle.std.proofs.Common.{◌≡◌, Bool, true, false, List, refl, sym, subst}
use Rattle.std.specs.Prelude.{IfOk, IfSome, Option, Some, None, Result, Ok, Err}
use Rattle.protocol.specs.World.Common.{ByNetwork, ByNode, EventView, Install, Release, ReplyView}
use Rattle.protocol.specs.declared.event.PlainEvent.TheVariants as plain_is
use Rattle.replay.specs.Armed.{ArmedEvent, OfWorld}
use Rattle.replay.specs.Plain.{run_view}
use Rattle.replay.specs.Replay.{IsKeptOf, KeptEventView, OfJob, Plainly}
use Rattle.replay.specs.declared.kept.Maker.{Maker}
use Rattle.replay.specs.declared.kept.RunEvent.{RunEvent}
use Rattle.replay.specs.declared.kept.RunEvent.TheVariants as run
use Rattle.run_log.specs.Added.{IsAdded}
use Rattle.run_log.specs.declared.history.Line.{Line}
use Rattle.world.specs.Events.{Event, done_view, event_view}
use Rattle.world.specs.EventKinds as event_is

record IsKept (event : ArmedEvent) : Type 0 where
  pub kept : KeptEventView
  pub is : IsKeptOf kept event

kept_of : (event : Event) → IsKept (OfWorld (event_view event))
kept_of (event_is.Plain event) = record { kept = Plainly (run.World event); is = refl }
kept_of (event_is.Install done) = record { kept = OfJob (done_view done).job; is = (done_view done, refl, refl) }

added_none : (keeps : Bool) (maker : Maker) (event : ArmedEvent) (answer : ReplyView) (lines : List Line) → keeps ≡ false
    → IsKept event → IsAdded keeps maker event answer lines lines
added_none keeps maker event answer lines none one = record {
  kept = one.kept;
  is_kept = one.is;
  happened = λ kept. absurd (no kept);
  counts = λ kept. absurd (no kept);
}
  where
    no : keeps ≡ true → ⊥
    no kept = absurd (cc)

-- an event of a node that isn't written
pub unwritten : (keeps : Bool) (maker : Maker) (event : Event) (answer : ReplyView) (lines : List Line) → keeps ≡ false
    → IsAdded keeps maker (OfWorld (event_view event)) answer lines lines
unwritten keeps maker event answer lines none =
    added_none keeps maker (OfWorld (event_view event)) answer lines none (kept_of event)

-- a line of the script that isn't written
pub unwritten_line : (keeps : Bool) (maker : Maker) (event : RunEvent) (answer : ReplyView) (lines : List Line) → keeps ≡ false
    → IsAdded keeps maker (run_view event) answer lines lines
unwritten_line keeps maker event answer lines none =
    added_none keeps maker (run_view event) answer lines none (record { kept = Plainly event; is = refl })

-- where what happens is written
pub written : {R : Type 0} {E : Type 0} (view : R → ReplyView) (keeps : Bool) (maker : Maker) (event : ArmedEvent) (result : Result R E)
    (before now : List Line) → keeps ≡ true → IfOk result (λ reply. IsAdded true maker event (view reply) before now)
    → IfOk result (λ reply. IsAdded keeps maker event (view reply) before now)
written view keeps maker event result before now keeping added =
    subst (λ (k : Bool). IfOk result (λ reply. IsAdded k maker event (view reply) before now)) (sym keeping) added

-- whatever came of a call that writes nothing
pub unwritten_of : {R : Type 0} {E : Type 0} (view : R → ReplyView) (keeps : Bool) (maker : Maker) (event : ArmedEvent) (result : Result R E)
    (lines : List Line) → ((answer : ReplyView) → IsAdded keeps maker event answer lines lines)
    → IfOk result (λ reply. IsAdded keeps maker event (view reply) lines lines)
unwritten_of view keeps maker event (Ok reply) lines none = none (view reply)
unwritten_of view keeps maker event (Err error) lines none = tt

-- ---- the event that is next for a node

kept_next : (event : EventView) → IsKept (OfWorld event)
kept_next (ByNode node deed) = record { kept = Plainly (run.World (plain_is.ByNode node deed)); is = refl }
kept_next (Release node) = record { kept = Plainly (run.World (plain_is.Release node)); is = refl }
kept_next (ByNetwork node place act) = record { kept = Plainly (run.World (plain_is.ByNetwork node place act)); is = refl }
kept_next (Install done) = record { kept = OfJob done.job; is = (done, refl, refl) }

pub written_next : {R : Type 0} {E : Type 0} (view : R → ReplyView) (keeps : Bool) (maker : Maker) (event : ArmedEvent)
    (result : Result (Option R) E) (before now : List Line) → keeps ≡ true
    → IfOk result (λ made. IfSome made (λ reply. IsAdded true maker event (view reply) before now))
    → IfOk result (λ made. IfSome made (λ reply. IsAdded keeps maker event (view reply) before now))
written_next view keeps maker event result before now keeping added =
    subst (λ (k : Bool). IfOk result (λ made. IfSome made (λ reply. IsAdded k maker event (view reply) before now))) (sym keeping) added

pub unwritten_next : {R : Type 0} {E : Type 0} (view : R → ReplyView) (keeps : Bool) (maker : Maker) (event : EventView)
    (result : Result (Option R) E) (lines : List Line) → keeps ≡ false
    → IfOk result (λ made. IfSome made (λ reply. IsAdded keeps maker (OfWorld event) (view reply) lines lines))
unwritten_next view keeps maker event (Ok (Some reply)) lines none = added_none keeps maker (OfWorld event) (view reply) lines none (kept_next event)
unwritten_next view keeps maker event (Ok None) lines none = tt
unwritten_next view keeps maker event (Err error) lines none = tt
