-- What there is where no process can move.
use Rattle.std.specs.Prelude.{◌≡◌, ◌≢◌, ◌≤◌, ℕ, ℤ, Bool, true, false, List, length, Some, slice_get}
use Rattle.kahn_net.specs.Approximations.{approximation}
use Rattle.kahn_net.specs.Fits.{Fits}
use Rattle.kahn_net.specs.NextActs.{Next, Begins, Gets, Puts, NoNext, next_of}
use Rattle.kahn_net.specs.Processes.{Standing}
use Rattle.kahn_net.specs.Streams.{history_of}
use Rattle.kahn_net.specs.Syntax.{Code, Network}
use Rattle.kahn_net.specs.Valid.{IsValid}
use Rattle.kahn_net.specs.declared.program.Channel.{Channel}
use Rattle.kahn_net.specs.declared.program.Port.TheVariants.{Process}
use Rattle.retained.specs.LogState.{log_end}
use Rattle.rerun.specs.Tables.{TableView, HasRerun, IsAtRest, log_on}

-- no process is about to put an item
abbrev pub NoneIsToPut : Network → TableView → Type 0
NoneIsToPut net t = (p c : ℕ) (code : Code) (standing : Standing) → slice_get net.codes p ≡ Some code
    → slice_get t.standings p ≡ Some standing → next_of code standing ≢ Puts c

abbrev pub is_put : Next → Bool
is_put Begins = false
is_put (Gets c) = false
is_put (Puts c) = true
is_put NoNext = false

-- some process is about to put an item
pub record IsToPut (net : Network) (t : TableView) : Type 0 where
  pub process : ℕ
  pub code : Code
  pub standing : Standing
  pub code_is : slice_get net.codes process ≡ Some code
  pub standing_is : slice_get t.standings process ≡ Some standing
  pub puts : is_put (next_of code standing) ≡ true

-- all was put that there is: in no approximation a channel on which a process puts has more
abbrev pub IsAll : Network → List (List ℤ) → TableView → Type 0
IsAll net inputs t = (n c p : ℕ) (channel : Channel) → slice_get net.channels c ≡ Some channel
    → channel.producer ≡ Process p → length (history_of (approximation net inputs n) c) ≤ log_end (log_on t c)

-- where no process can move, and none is about to put, all was put that there is
abbrev pub RestsWithAll : Type 0
RestsWithAll =
    (net : Network) (inputs : List (List ℤ)) (limits : List ℕ) (t : TableView) → IsValid net → Fits net inputs
    → HasRerun net inputs t → IsAtRest net inputs limits t → NoneIsToPut net t → IsAll net inputs t
