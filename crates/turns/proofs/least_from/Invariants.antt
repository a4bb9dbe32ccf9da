use Rattle.std.proofs.Common.{◌≡◌, ℕ, ◌<◌, ◌≤◌, true, false, get_or}
use Rattle.turns.specs.Turns.{least_from}
use Rattle.turns.proofs.least_from.Given as goal

-- none was ready so far, so the least one is among those that weren't looked at yet
abbrev pub invariant-loop-number : goal.invariant-loop-number
invariant-loop-number l = record {
  same : least_from l.number l.ready ≡ least_from l.start l.ready;
  none : (k : ℕ) → l.start ≤ k → k < l.number → get_or l.ready k false ≡ true → ⊥;
}
