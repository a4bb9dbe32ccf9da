use Rattle.std.proofs.Common.{◌≡◌, ℕ, ◌-◌, List, [], ◌∷◌, ◌++◌, drop, length}
use Rattle.kahn_net.specs.Common.{block_of, rounds, trace_of}
use Rattle.stream_eq.specs.Limits.{IsWithin}
use Rattle.stream_eq.proofs.Going.{Going, GoingRound}
use Rattle.stream_eq.proofs.process.+play.Given as goal

abbrev pub invariant-play_statements-loop-statement : goal.invariant-play_statements-loop-statement
invariant-play_statements-loop-statement l = record {
  count : length l.limits ≡ length l.sent;
  within : IsWithin l.limits l.initial.sent → IsWithin l.limits l.sent;
  going : (site : ℕ) (left : List ℕ)
      → Going (trace_of site left (block_of l.statements) l.initial.variables l.initial.unread) l.initial.sent
      (block_of (drop l.statement-index l.statements)) l.variables l.unread l.sent;
}

abbrev pub invariant-play_repeated-loop : goal.invariant-play_repeated-loop
invariant-play_repeated-loop l = record {
  count : length l.limits ≡ length l.sent;
  within : IsWithin l.limits l.initial.sent → IsWithin l.limits l.sent;
  going : (site : ℕ) (left : List ℕ)
      → GoingRound (rounds l.times (λ k. trace_of site (left ++ k ∷ []) (block_of l.body)) l.initial.variables
      l.initial.unread) l.initial.sent (l.times - l.counter) (λ k. trace_of site (left ++ k ∷ []) (block_of l.body))
      l.variables l.unread l.sent;
}
