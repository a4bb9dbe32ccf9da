use Rattle.std.proofs.Common.{◌≡◌, ap, subst, sym}
use Rattle.journal.specs.Histories.{Begins, seen}
use Rattle.journal.specs.declared.journal.Reader.{Reader}
use Rattle.std.proofs.Common.{arith}
use Rattle.std.proofs.lemmas.Grind.{common_steps, elements}
use Rattle.runtime.proofs.entered.Entered.turn.Goals as goal
use Rattle.runtime.proofs.entered.Entered.turn.Goals.{in-Reply+in-Released, in-Reply+in_default, in-Widened, in-Nothing-1, in-Late-1}
use Rattle.runtime.proofs.entered.Entered.turn.Goals.{in-Stopped-1}

-- the count of the seat is what may change behind the call of the lock, and not its reader
pub returns-clause-begins : goal.returns-clause-begins
returns-clause-begins g c keeps =
    let same : c.match-answer.seat.reader ≡ c.turn.new.reader =
    elim c.match-answer.branch [
      | in-Reply+in-Released w ↦ ap (λ seat. seat.reader) w.seat-is
      | in-Reply+in_default w ↦ ap (λ seat. seat.reader) w.seat-is
      | in-Widened w ↦ ap (λ seat. seat.reader) w.seat-is
      | in-Nothing-1 w ↦ ap (λ seat. seat.reader) w.seat-is
      | in-Late-1 w ↦ ap (λ seat. seat.reader) w.seat-is
      | in-Stopped-1 w ↦ ap (λ seat. seat.reader) w.seat-is
    ] in
    subst (λ (reader : Reader). Begins (seen c.args.seat.now.reader) (seen reader)) (sym same) (c.turn.ensures.begins keeps)

pub returns-then-made-ge-MAX_COUNT-clause-begins : goal.returns-then-made-ge-MAX_COUNT-clause-begins
returns-then-made-ge-MAX_COUNT-clause-begins g c = grind (arith, common_steps)

pub returns-clause-shown : goal.returns-clause-shown
returns-clause-shown g c = grind (arith, elements)
