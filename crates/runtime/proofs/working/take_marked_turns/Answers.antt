use Rattle.std.proofs.Common.{inl, inr}
use Rattle.std.proofs.Common.{arith}
use Rattle.std.proofs.lemmas.Grind.{common_steps}
use Rattle.runtime.proofs.working.take_marked_turns.Goals as goal
use Rattle.runtime.proofs.working.take_marked_turns.Goals.{in-Ok, in-Err}

-- the marks were raised
pub returns-in_default-clause-marked : goal.returns-in_default-clause-marked
returns-in_default-clause-marked g c = ∣ inr (inl c.in_default.ensures.marked) ∣₁

-- nothing has left, or the run is stopped
pub returns-else-left-clause-marked : goal.returns-else-left-clause-marked
returns-else-left-clause-marked g c =
    elim c.match-take_turns.branch [
      | in-Ok w ↦ rw w.entered-is (∣ inl (c.take_turns.ensures.left c.if-left.false) ∣₁)
      | in-Err w ↦ rw w.entered-is (∣ inr (inr w.refuse.ensures) ∣₁)
    ]

pub returns-in-Err-raise_marks-clause-marked : goal.returns-in-Err-raise_marks-clause-marked
returns-in-Err-raise_marks-clause-marked g c = grind (arith, common_steps)
