-- What stands at the beginning of a history stays there, and how it comes to be there.
use Rattle.std.proofs.Common.{◌≡◌, ◌∙◌, ◌⊎◌, ◌&&◌, ◌+◌, ℕ, zero, suc, Bool, true, false, List, [], ◌∷◌, ◌++◌, length, refl, sym, ap, subst, arith}
use Rattle.std.proofs.Common.{inl, inr}
use Rattle.std.specs.Prelude.{IfOk, OnErr, Result, Ok, Err}
use Rattle.std.proofs.lemmas.List.{length-append}
use Rattle.std.proofs.lemmas.List.Concat.{flat_map-append}
use Rattle.protocol.specs.World.Common.{ReplyView}
use Rattle.replay.specs.Armed.{ArmedEvent}
use Rattle.replay.specs.Replay.{Happening, Silent}
use Rattle.replay.specs.declared.kept.Maker.{Maker}
use Rattle.replay.specs.declared.kept.Maker.TheVariants.{Driver}
use Rattle.replay.specs.declared.kept.Silence.{Silence}
use Rattle.run_log.specs.Added.{IsAdded}
use Rattle.run_log.specs.Answers.{IsFaultWritten, IsTurnWritten}
use Rattle.run_log.specs.Counts.{IsCounted}
use Rattle.run_log.specs.Lines.{happenings, happenings_of}
use Rattle.run_log.specs.declared.answer.FaultAnswer.{FaultAnswer}
use Rattle.run_log.specs.declared.answer.FaultAnswer.TheVariants as fault
use Rattle.run_log.specs.declared.answer.TurnAnswer.{TurnAnswer}
use Rattle.run_log.specs.declared.answer.TurnAnswer.TheVariants as turn
use Rattle.run_log.specs.declared.history.Line.{Line}
use Rattle.station.specs.ReplyView.{Reply, reply_view}
use Rattle.run_log.specs.declared.history.Line.TheVariants as line
use Rattle.replay.specs.declared.kept.ScriptedEvent.{ScriptedEvent}
use Rattle.runtime.specs.Beginning.{BeginsByDriver, HasBegun, begins_by_driver, first_lines, is_by_driver}
use Rattle.runtime.specs.declared.ending.RunEnd.{RunEnd}
use Rattle.runtime.specs.declared.ending.RunEnd.TheVariants.{Complete, Rounds, Items, Refused, Stopped}

left : (a b : Bool) → (a && b) ≡ true → a ≡ true
left true b both = refl
left false b both = both

right : (a b : Bool) → (a && b) ≡ true → b ≡ true
right true b both = both
right false b both = absurd (cc)

joined : (a b : Bool) → a ≡ true → b ≡ true → (a && b) ≡ true
joined true b one other = other
joined false b one other = one

-- whatever is put behind it
stays : (lines : ℕ) (happened more : List Happening) → BeginsByDriver lines happened → BeginsByDriver lines (happened ++ more)
stays zero happened more begun = refl
stays (suc lines) [] more begun = absurd (cc)
stays (suc lines) (next ∷ rest) more begun =
    joined (is_by_driver next) (begins_by_driver lines (rest ++ more))
    (left (is_by_driver next) (begins_by_driver lines rest) begun)
    (stays lines rest more (right (is_by_driver next) (begins_by_driver lines rest) begun))

-- one more of the driver, where there is nothing else
one_more : (lines : ℕ) (happened : List Happening) (next : Happening) → length happened ≡ lines
    → BeginsByDriver lines happened → is_by_driver next ≡ true → BeginsByDriver (suc lines) (happened ++ next ∷ [])
one_more zero [] next many begun is = joined (is_by_driver next) true is refl
one_more zero (first ∷ rest) next many begun is = absurd (omega (arith, many))
one_more (suc lines) [] next many begun is = absurd (cc)
one_more (suc lines) (first ∷ rest) next many begun is =
    let fewer : length rest ≡ lines = omega (arith, many) in
    joined (is_by_driver first) (begins_by_driver (suc lines) (rest ++ next ∷ []))
    (left (is_by_driver first) (begins_by_driver lines rest) begun)
    (one_more lines rest next fewer (right (is_by_driver first) (begins_by_driver lines rest) begun) is)

module _ (lines : ℕ) (before now : List Line) (begun : BeginsByDriver lines (happenings before)) where
  behind : (more : List Happening) → happenings now ≡ happenings before ++ more → BeginsByDriver lines (happenings now)
  behind more is = subst (BeginsByDriver lines) (sym is) (stays lines (happenings before) more begun)

  by_event : (maker : Maker) (event : ArmedEvent) (answer : ReplyView) → IsAdded true maker event answer before now
      → BeginsByDriver lines (happenings now)
  by_event maker event answer added = behind _ (added.happened refl)

  told : (reason : Silence)
      → ((happenings now ≡ happenings before) ⊎ (happenings now ≡ happenings before ++ Silent reason ∷ []))
      → BeginsByDriver lines (happenings now)
  told reason (inl same) = subst (BeginsByDriver lines) (sym same) begun
  told reason (inr more) = behind _ more

  by_silence : (reason : Silence) → IsCounted reason before now → BeginsByDriver lines (happenings now)
  by_silence reason counted = told reason counted.lines

  pub by_turn : (node : ℕ) (answer : TurnAnswer) → IsTurnWritten true node before now answer → BeginsByDriver lines (happenings now)
  by_turn node (turn.Reply reply) written = by_event _ written.0 _ written.1
  by_turn node turn.Nothing written = by_silence _ (written refl)
  by_turn node turn.Late written = by_silence _ (written refl)
  by_turn node (turn.Widened channel) written =
      behind _ (ap happenings (written refl) ∙ flat_map-append happenings_of before (line.Widened channel ∷ []))
  by_turn node turn.Stopped written = subst (λ (all : List Line). BeginsByDriver lines (happenings all)) (sym written) begun

  pub by_fault : (answer : FaultAnswer) → IsFaultWritten true before now answer → BeginsByDriver lines (happenings now)
  by_fault (fault.Reply reply) written = by_event _ written.0 _ written.1
  by_fault fault.NotYet written = by_silence _ (written refl)
  by_fault fault.NoMore written = by_silence _ (written refl)
  by_fault fault.Stopped written = subst (λ (all : List Line). BeginsByDriver lines (happenings all)) (sym written) begun

  pub by_added : (maker : Maker) (event : ArmedEvent) (answer : ReplyView) → IsAdded true maker event answer before now
      → BeginsByDriver lines (happenings now)
  by_added = by_event

-- so many events of the driver, and nothing else
abbrev pub AreAllOf : ℕ → List Line → Type 0
AreAllOf lines written = (length (happenings written) ≡ lines) × BeginsByDriver lines (happenings written)

one_event : (lines : ℕ) (before now : List Line) (event : ArmedEvent) (answer : ReplyView) → AreAllOf lines before
    → IsAdded true Driver event answer before now → AreAllOf (lines + 1) now
one_event lines before now event answer all added =
    let is = added.happened refl in
    let next : suc lines ≡ lines + 1 = omega arith in
    let longer : length (happenings now) ≡ length (happenings before) + 1 =
    ap (length {A = Happening}) is ∙ length-append (happenings before) _ in
    let many : length (happenings before) ≡ lines = all.0 in
    let counted : length (happenings now) ≡ lines + 1 = omega (arith, longer, many) in (
      counted,
      subst (λ (n : ℕ). BeginsByDriver n (happenings now)) next
          (subst (BeginsByDriver (suc lines)) (sym is) (one_more lines (happenings before) _ all.0 all.1 refl)),
    )

-- one more line was passed
pub passes : (writes : Bool) (lines : ℕ) (before now : List Line) (answer : FaultAnswer) (reply : Reply) → writes ≡ true
    → answer ≡ fault.Reply reply → IsFaultWritten writes before now answer → AreAllOf lines before → AreAllOf (lines + 1) now
passes writes lines before now answer reply writing is written all =
    let told : IsFaultWritten true before now (fault.Reply reply) =
    subst (λ (w : Bool). IsFaultWritten w before now (fault.Reply reply)) writing
    (subst (λ (a : FaultAnswer). IsFaultWritten writes before now a) is written) in
    one_event lines before now told.0 _ all told.1

-- ---- a call that may be refused, and then leaves the lines as they were

either_way : {A E Same : Type 0} (lines : ℕ) (before now : List Line) (result : Result A E) (P : A → Type 0)
    → ((a : A) → P a → BeginsByDriver lines (happenings now)) → (Same → now ≡ before)
    → BeginsByDriver lines (happenings before) → IfOk result P → OnErr result Same → BeginsByDriver lines (happenings now)
either_way lines before now (Ok a) P told same begun done refused = told a done
either_way lines before now (Err e) P told same begun done refused =
    subst (λ (all : List Line). BeginsByDriver lines (happenings all)) (sym (same refused)) begun

module _ {E Same : Type 0} (lines : ℕ) (before now : List Line) (writes : Bool) (writing : writes ≡ true)
    (begun : BeginsByDriver lines (happenings before)) (same : Same → now ≡ before) where
  pub turned : (node : ℕ) (result : Result TurnAnswer E) → IfOk result (IsTurnWritten writes node before now)
      → OnErr result Same → BeginsByDriver lines (happenings now)
  turned node result done refused =
      either_way lines before now result (IsTurnWritten writes node before now)
      (λ answer written. by_turn lines before now begun node answer
      (subst (λ (w : Bool). IsTurnWritten w node before now answer) writing written)) same begun done refused

  pub faulted : (result : Result FaultAnswer E) → IfOk result (IsFaultWritten writes before now) → OnErr result Same
      → BeginsByDriver lines (happenings now)
  faulted result done refused =
      either_way lines before now result (IsFaultWritten writes before now)
      (λ answer written. by_fault lines before now begun answer
      (subst (λ (w : Bool). IsFaultWritten w before now answer) writing written)) same begun done refused

  pub installed : (maker : Maker) (event : ArmedEvent) (result : Result Reply E)
      → IfOk result (λ (reply : Reply). IsAdded writes maker event (reply_view reply) before now) → OnErr result Same
      → BeginsByDriver lines (happenings now)
  installed maker event result done refused =
      either_way lines before now result (λ (reply : Reply). IsAdded writes maker event (reply_view reply) before now)
      (λ reply added. by_added lines before now begun maker event (reply_view reply)
      (subst (λ (w : Bool). IsAdded w maker event (reply_view reply) before now) writing added)) same begun done refused

-- however a run ended whose history begins so
pub begun_so : (script : List ScriptedEvent) (happened : List Happening) (end : RunEnd)
    → BeginsByDriver (first_lines script) happened → HasBegun script happened end
begun_so script happened Complete begun = begun
begun_so script happened Rounds begun = begun
begun_so script happened Items begun = begun
begun_so script happened (Refused fault) begun = tt
begun_so script happened Stopped begun = begun
