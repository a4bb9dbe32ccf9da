-- How far a channel's history has come.
use Rattle.std.specs.Prelude.{ℕ, ◌≤◌, ℤ, List, length}
use Rattle.kahn_net.specs.Common.{history_of, Network, approximation}

-- the channel's history in some approximation on these inputs has so many items
abbrev pub HistoryReaches : Network → List (List ℤ) → ℕ → ℕ → Type 0
HistoryReaches net inputs channel number =
    ∥ ((n : ℕ) × (number ≤ length (history_of (approximation net inputs n) channel))) ∥₁
