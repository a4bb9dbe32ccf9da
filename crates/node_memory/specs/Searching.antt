-- The search for the ready process with the least number from one on.
use Rattle.std.specs.Prelude.{◌≡◌, ℕ, ◌<◌, ◌≤◌, Bool, true, Option, Some, None, ⊤}
use Rattle.protocol.specs.Node.Common.{SavedProcessView}

-- this number comes before the one found so far
abbrev pub IsBefore : ℕ → Option SavedProcessView → Type 0
IsBefore number None = ⊤
IsBefore number (Some found) = number < found.number

-- a process comes first so far: from this number on, before the one found, and ready
abbrev pub ComesFirst : (SavedProcessView → Bool) → ℕ → Option SavedProcessView → SavedProcessView → Type 0
ComesFirst goes start found saved = (start ≤ saved.number) × (IsBefore saved.number found × (goes saved ≡ true))
