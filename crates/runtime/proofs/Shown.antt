-- What a call writes behind a history, and shows a seat.
use Rattle.std.proofs.Common.{◌≡◌, ◌∙◌, ◌⊎◌, ℕ, Bool, true, List, [], ◌∷◌, ◌++◌, refl, sym, ap, subst, inl, inr, append-nil}
use Rattle.std.specs.Prelude.{IfOk, OnErr, Result, Ok, Err}
use Rattle.std.proofs.lemmas.List.Concat.{flat_map-append}
use Rattle.std.proofs.lemmas.Result.{IfOk-weaker}
use Rattle.journal.specs.Histories.{Begins}
use Rattle.protocol.specs.World.Common.{ReplyView}
use Rattle.replay.specs.Armed.{ArmedEvent}
use Rattle.replay.specs.Replay.{Silent}
use Rattle.replay.specs.declared.kept.Maker.{Maker}
use Rattle.replay.specs.declared.kept.Silence.{Silence}
use Rattle.run_log.specs.Added.{IsAdded}
use Rattle.run_log.specs.Answers.{IsFaultWritten, IsTurnWritten}
use Rattle.run_log.specs.Lines.{happenings, happenings_of}
use Rattle.run_log.specs.declared.answer.FaultAnswer.{FaultAnswer}
use Rattle.run_log.specs.declared.answer.FaultAnswer.TheVariants as fault
use Rattle.run_log.specs.declared.answer.TurnAnswer.{TurnAnswer}
use Rattle.run_log.specs.declared.answer.TurnAnswer.TheVariants as turn
use Rattle.run_log.specs.declared.history.Line.{Line}
use Rattle.run_log.specs.declared.history.Line.TheVariants as line
use Rattle.runtime.specs.Shown.{IsShownEvent, IsShownFault, IsShownTurn}
use Rattle.station.specs.ReplyView.{Reply, reply_view}

-- ---- what was written begins what is

module _ (before now : List Line) where
  by_event : (maker : Maker) (event : ArmedEvent) (answer : ReplyView) → IsAdded true maker event answer before now → Begins before now
  by_event maker event answer added = ∣ (_, sym (added.happened refl)) ∣₁

  told : (reason : Silence)
      → ((happenings now ≡ happenings before) ⊎ (happenings now ≡ happenings before ++ Silent reason ∷ [])) → Begins before now
  told reason (inl same) = ∣ ([], append-nil (happenings before) ∙ sym same) ∣₁
  told reason (inr more) = ∣ (_, sym more) ∣₁

  pub same_lines : now ≡ before → Begins before now
  same_lines same = ∣ ([], append-nil (happenings before) ∙ sym (ap happenings same)) ∣₁

  by_turn : (node : ℕ) (answer : TurnAnswer) → IsTurnWritten true node before now answer → Begins before now
  by_turn node (turn.Reply reply) written = by_event _ written.0 _ written.1
  by_turn node turn.Nothing written = told _ (written refl).lines
  by_turn node turn.Late written = told _ (written refl).lines
  by_turn node (turn.Widened channel) written =
      ∣ (_, sym (ap happenings (written refl) ∙ flat_map-append happenings_of before (line.Widened channel ∷ []))) ∣₁
  by_turn node turn.Stopped written = same_lines written

  by_fault : (answer : FaultAnswer) → IsFaultWritten true before now answer → Begins before now
  by_fault (fault.Reply reply) written = by_event _ written.0 _ written.1
  by_fault fault.NotYet written = told _ (written refl).lines
  by_fault fault.NoMore written = told _ (written refl).lines
  by_fault fault.Stopped written = same_lines written

  either_way : {A E Same : Type 0} (result : Result A E) (P : A → Type 0) → ((a : A) → P a → Begins before now) → (Same → now ≡ before)
      → IfOk result P → OnErr result Same → Begins before now
  either_way (Ok a) P longer same done refused = longer a done
  either_way (Err e) P longer same done refused = same_lines (same refused)

-- ---- a call of a log that writes, where it is answered and where it is refused

module _ {E Same : Type 0} (before now : List Line) (writes : Bool) (writing : writes ≡ true) (same : Same → now ≡ before) where
  pub turned : (node : ℕ) (result : Result TurnAnswer E) → IfOk result (IsTurnWritten writes node before now) → OnErr result Same
      → Begins before now
  turned node result done refused =
      either_way before now result (IsTurnWritten writes node before now)
      (λ answer written. by_turn before now node answer
      (subst (λ (w : Bool). IsTurnWritten w node before now answer) writing written)) same done refused

  pub faulted : (result : Result FaultAnswer E) → IfOk result (IsFaultWritten writes before now) → OnErr result Same → Begins before now
  faulted result done refused =
      either_way before now result (IsFaultWritten writes before now)
      (λ answer written. by_fault before now answer
      (subst (λ (w : Bool). IsFaultWritten w before now answer) writing written)) same done refused

  pub installed : (maker : Maker) (event : ArmedEvent) (result : Result Reply E)
      → IfOk result (λ (reply : Reply). IsAdded writes maker event (reply_view reply) before now) → OnErr result Same → Begins before now
  installed maker event result done refused =
      either_way before now result (λ (reply : Reply). IsAdded writes maker event (reply_view reply) before now)
      (λ reply added. by_event before now maker event (reply_view reply)
      (subst (λ (w : Bool). IsAdded w maker event (reply_view reply) before now) writing added)) same done refused

-- ---- what the seat is shown

module _ {E : Type 0} (old before now new : List Line) (begins : Begins old before) (is : new ≡ now) (writes : Bool)
    (writing : writes ≡ true) where
  pub shown_turn : (node : ℕ) (result : Result TurnAnswer E) → IfOk result (IsTurnWritten writes node before now)
      → IfOk result (λ (answer : TurnAnswer). IsShownTurn node answer old new)
  shown_turn node result done =
      IfOk-weaker result _ (λ (answer : TurnAnswer). IsShownTurn node answer old new)
      (λ answer written. record {
        before = before;
        begins = begins;
        written = subst (λ (all : List Line). IsTurnWritten true node before all answer) (sym is)
            (subst (λ (w : Bool). IsTurnWritten w node before now answer) writing written);
      }) done

  pub shown_fault : (result : Result FaultAnswer E) → IfOk result (IsFaultWritten writes before now)
      → IfOk result (λ (answer : FaultAnswer). IsShownFault answer old new)
  shown_fault result done =
      IfOk-weaker result _ (λ (answer : FaultAnswer). IsShownFault answer old new)
      (λ answer written. record {
        before = before;
        begins = begins;
        written = subst (λ (all : List Line). IsFaultWritten true before all answer) (sym is)
            (subst (λ (w : Bool). IsFaultWritten w before now answer) writing written);
      }) done

  pub shown_event : (maker : Maker) (event : ArmedEvent) (result : Result Reply E)
      → IfOk result (λ (reply : Reply). IsAdded writes maker event (reply_view reply) before now)
      → IfOk result (λ (reply : Reply). IsShownEvent maker event (reply_view reply) old new)
  shown_event maker event result done =
      IfOk-weaker result _ (λ (reply : Reply). IsShownEvent maker event (reply_view reply) old new)
      (λ reply written. record {
        before = before;
        begins = begins;
        written = subst (λ (all : List Line). IsAdded true maker event (reply_view reply) before all) (sym is)
            (subst (λ (w : Bool). IsAdded w maker event (reply_view reply) before now) writing written);
      }) done
