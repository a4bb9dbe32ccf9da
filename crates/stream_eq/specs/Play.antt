-- What the plain solver's walk over statements keeps.
use Rattle.std.specs.Prelude.{◌≡◌, ℕ, suc, Bool, true, false, List, ℤ, [], ◌∷◌, slice_get, Some}
use Rattle.kahn_net.specs.Common.{total, Block, Code, Trace, End, Ended, Waits, Stopped, HasPassingLoop, passes}
use Rattle.kahn_net.specs.Common.{process_trace, put_after}

-- whether statements ended, and with which variables and unread items
abbrev pub EndsAs : End → Bool → List ℤ → List (List ℤ) → Type 0
EndsAs (Ended vars unread) ended vars' unread' = (ended ≡ true) × (vars' ≡ vars) × (unread' ≡ unread)
EndsAs (Waits point vars channel) ended vars' unread' = ended ≡ false
EndsAs (Stopped vars) ended vars' unread' = ended ≡ false

-- the acts of a trace were made: its items were put on these histories, and it ended so
pub record IsPlayed (t : Trace) (before after : List (List ℤ)) (ended : Bool) (vars : List ℤ)
    (unread : List (List ℤ)) : Type 0 where
  pub put : after ≡ put_after t.steps before
  pub end : EndsAs t.end ended vars unread

-- what is there once a body has put what it puts, again and again
abbrev pub put_by_passes : ℕ → Block → List ℤ → List (List ℤ) → List (List ℤ) → List (List ℤ)
put_by_passes site body vars unread after = put_after (passes (suc (total unread)) site body vars unread).steps after

-- what is there once a process has put what it puts by these histories
abbrev pub put_by_process : Code → List (List ℤ) → List (List ℤ) → List (List ℤ)
put_by_process code histories after = put_after (process_trace code histories).steps after

-- what is there once each of these processes has put what it puts by these histories
abbrev pub put_by_all : List Code → List (List ℤ) → List (List ℤ) → List (List ℤ)
put_by_all [] histories after = after
put_by_all (code ∷ codes) histories after = put_by_all codes histories (put_by_process code histories after)

-- the loop's body of each of these processes passes
abbrev pub AllHavePassingLoops : List Code → Type 0
AllHavePassingLoops codes = (p : ℕ) (code : Code) → slice_get codes p ≡ Some code → HasPassingLoop code
