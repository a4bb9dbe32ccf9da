-- What a turn of a table is for stages.
use Rattle.std.specs.Prelude.{◌≡◌, ◌+◌, ◌++◌, ℕ, ℤ, List, cond, ◌==◌, slice_get}
use Rattle.kahn_net.specs.Fits.{Fits}
use Rattle.kahn_net.specs.Processes.{Standing}
use Rattle.kahn_net.specs.Syntax.{Network}
use Rattle.kahn_net.specs.Valid.{IsValid}
use Rattle.rerun.specs.Rerunning.{Stage, Goes}
use Rattle.rerun.specs.Tables.{TableView, HasRerun, IsAt, IsInOrder, Turned, items_from, room_from, taken_by, put_by}

-- this process stands so, it took so many items of each channel, and it sent these
abbrev pub stage_after : Network → Stage → ℕ → Standing → List ℕ → List (List ℤ) → Stage
stage_after net s p after taken sent = record {
  standing = λ q. cond (q == p) after (s.standing q);
  got = λ c. s.got c + taken_by p taken c (slice_get net.channels c);
  put = λ c. s.put c ++ put_by p sent c (slice_get net.channels c);
}

-- One process makes a turn from this stage, on just the items that the table hands it and with just that room, and the
-- new table is at the stage behind it.
pub record StepsTo (net : Network) (inputs : List (List ℤ)) (limits : List ℕ) (p : ℕ) (old new : TableView)
    (s : Stage) : Type 0 where
  pub stage : Stage
  pub goes : Goes net s stage
  pub process : goes.process ≡ p
  pub items : goes.items ≡ items_from inputs old p 0 net.channels
  pub room : goes.room ≡ room_from limits old p 0 net.channels
  pub is_at : IsAt net inputs new stage

-- a turn of a table is one of the stage at which the table is
abbrev pub TurnsAreSteps : Type 0
TurnsAreSteps = (net : Network) (inputs : List (List ℤ)) (limits : List ℕ) (p : ℕ) (old new : TableView) (s : Stage)
    → IsValid net → Fits net inputs → IsInOrder net inputs old → HasRerun net inputs old → IsAt net inputs old s
    → Turned net inputs limits p old new → StepsTo net inputs limits p old new s
