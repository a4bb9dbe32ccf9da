-- What came of a job is a turn of the process to which it was handed out.
use Rattle.std.proofs.Common.{◌≡◌, ℕ, List, ℤ, subst, ap, ◌∙◌}
use Rattle.std.specs.Prelude.{slice_get, Some}
use Rattle.kahn_net.specs.Processes.{Standing}
use Rattle.kahn_net.specs.States.{standing_of}
use Rattle.kahn_net.specs.Syntax.{Code, network_of}
use Rattle.kahn_net.specs.declared.program.Program.{Program}
use Rattle.kahn_net.specs.declared.state.ProcState.{ProcState}
use Rattle.proc_step.specs.Turns.{IsTurn, IsOwnTurn}
use Rattle.proc_step.specs.declared.job.Job.{Job}

pub own_turn : (program : Program) (p : ℕ) (before : Standing) (items : List (List ℤ)) (room : List ℕ) (job : Job)
    (after : ProcState) (taken : List ℕ) (sent : List (List ℤ)) (code : Code) → job.net.value.program ≡ program
    → job.process ≡ p → standing_of job.state ≡ before → job.items.items ≡ items → job.room.items ≡ room
    → slice_get (network_of program).codes p ≡ Some code
    → IsOwnTurn job.net.value.program job.process job.state job.items.items job.room.items after taken sent
    → IsTurn code before items room (standing_of after) taken sent
own_turn program p before items room job after taken sent code of_net number stands hand places there turn =
    let its : slice_get (network_of job.net.value.program).codes job.process ≡ Some code =
    ap (λ (n : ℕ). slice_get (network_of job.net.value.program).codes n) number
    ∙ (ap (λ (n : Program). slice_get (network_of n).codes p) of_net ∙ there) in
    subst (λ (s : Standing). IsTurn code s items room (standing_of after) taken sent) stands
    (subst (λ (i : List (List ℤ)). IsTurn code (standing_of job.state) i room (standing_of after) taken sent) hand
    (subst (λ (r : List ℕ). IsTurn code (standing_of job.state) job.items.items r (standing_of after) taken sent) places
    (turn code its)))
