-- What a call shows a seat of its run's history.
use Rattle.std.specs.Prelude.{ℕ, true, List}
use Rattle.journal.specs.Histories.{Begins}
use Rattle.protocol.specs.World.Common.{ReplyView}
use Rattle.replay.specs.Armed.{ArmedEvent}
use Rattle.replay.specs.declared.kept.Maker.{Maker}
use Rattle.run_log.specs.Added.{IsAdded}
use Rattle.run_log.specs.Answers.{IsFaultWritten, IsTurnWritten}
use Rattle.run_log.specs.declared.answer.FaultAnswer.{FaultAnswer}
use Rattle.run_log.specs.declared.answer.TurnAnswer.{TurnAnswer}
use Rattle.run_log.specs.declared.history.Line.{Line}

-- A node's turn is answered so, and its seat is shown the history as it is then. That begins with what the seat was shown before. A reply
-- stands last in it, and a silence is counted there; `Stopped` isn't written.
pub record IsShownTurn (node : ℕ) (answer : TurnAnswer) (old new : List Line) : Type 0 where
  pub before : List Line
  pub begins : Begins old before
  pub written : IsTurnWritten true node before new answer

-- An event of this maker is answered so, and its seat is shown the history, which ends with it.
pub record IsShownEvent (maker : Maker) (event : ArmedEvent) (reply : ReplyView) (old new : List Line) : Type 0 where
  pub before : List Line
  pub begins : Begins old before
  pub written : IsAdded true maker event reply before new

-- The driver's turn is answered so, and its seat is shown the history as it is then, in which the answer stands as a node's does.
pub record IsShownFault (answer : FaultAnswer) (old new : List Line) : Type 0 where
  pub before : List Line
  pub begins : Begins old before
  pub written : IsFaultWritten true before new answer
