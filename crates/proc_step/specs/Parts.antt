-- Parts of traces: what a process's code has made so far, and how it stopped.
use Rattle.std.specs.Prelude.{◌≡◌, ◌-◌, ℕ, ℤ, List, [], ◌∷◌, ◌++◌, length}
use Rattle.kahn_net.specs.Common.{Step, Trace, End, Ended, point_at, Standing, standing_at, Code, put_after}
use Rattle.kahn_net.specs.Common.{left_after}
use Rattle.kahn_net.specs.Statements.{Stopped as StopsAt}
use Rattle.kahn_net.specs.Processes.{NotBegun as Before, At, Done}
use Rattle.kahn_net.specs.Repeats.{FitsRepeats}
use Rattle.kahn_net.specs.declared.state.Mode.{Mode}
use Rattle.kahn_net.specs.declared.state.Mode.TheVariants.{NotBegun, At as InPlace, Finished}
use Rattle.proc_step.specs.declared.machine.Flow.{Flow}
use Rattle.proc_step.specs.declared.machine.Flow.TheVariants.{RanOut, Stopped, Stands}
use Rattle.proc_code.specs.Translation.{entry_of, process_code}
use Rattle.proc_step.specs.declared.machine.Machine.{Machine}
use Rattle.proc_step.specs.Turns.{CanAllBeMade, IsNextHeldBack}

-- how a part of a trace stopped, with the machine as it is then: it was the whole, or the next act can't be made
abbrev pub StopsAs : Flow → Machine → List ℕ → End → List Step → Type 0
StopsAs RanOut m room end rest = (rest ≡ []) × (end ≡ Ended m.variables.items m.unread.items)
StopsAs Stopped m room end rest = (rest ≡ []) × (end ≡ StopsAt m.variables.items)
StopsAs (Stands site) m room end rest =
    (standing_at rest end ≡ At (point_at site m.left.items) m.variables.items)
    × IsNextHeldBack rest room m.unread.items m.sent.items

-- where a process stands that stopped so, with these passes left and these variables
abbrev pub stands_as : Flow → List ℕ → List ℤ → Standing
stands_as RanOut left vars = Done vars
stands_as Stopped left vars = Done vars
stands_as (Stands site) left vars = At (point_at site left) vars

-- a beginning of a trace was made, and then it stopped
pub record Part (t : Trace) (room : List ℕ) (unread sent : List (List ℤ)) (flow : Flow) (m : Machine) : Type 0 where
  pub done : List Step
  pub rest : List Step
  pub whole : t.steps ≡ done ++ rest
  pub made : CanAllBeMade done room unread sent
  pub left : m.unread.items ≡ left_after done unread
  pub put : m.sent.items ≡ put_after done sent
  pub stop : StopsAs flow m room t.end rest

-- a beginning of a trace was made, and this is where the process stands then
pub record Played (t : Trace) (room : List ℕ) (unread sent : List (List ℤ)) (after : Standing)
    (unread' sent' : List (List ℤ)) : Type 0 where
  pub done : List Step
  pub rest : List Step
  pub whole : t.steps ≡ done ++ rest
  pub made : CanAllBeMade done room unread sent
  pub left : unread' ≡ left_after done unread
  pub put : sent' ≡ put_after done sent
  pub stands : after ≡ standing_at rest t.end
  pub held_back : IsNextHeldBack rest room unread' sent'

-- how many items of each list were taken, where these are left, as far as both go
abbrev pub taken_of : List (List ℤ) → List (List ℤ) → List ℕ
taken_of [] left = []
taken_of (items ∷ all) [] = []
taken_of (items ∷ all) (rest ∷ left) = (length items - length rest) ∷ taken_of all left

-- the passes that remain where a process is so far
abbrev pub passes_in : Mode → List ℕ
passes_in NotBegun = []
passes_in (InPlace place) = place.left.items
passes_in Finished = []

-- the place in its code from which a process goes on that is so far
abbrev pub place_in : Code → Mode → ℕ
place_in code NotBegun = 0
place_in code (InPlace place) = entry_of code place.site
place_in code Finished = length (process_code code)

-- a process can stand so: as many passes remain as can
abbrev pub CanStand : Code → Standing → Type 0
CanStand code (At point vars) = FitsRepeats code point
CanStand code (Before vars) = Unit {0}
CanStand code (Done vars) = Unit {0}
