-- What came of a job, as a turn of a process.
use Rattle.std.proofs.Common.{◌≡◌, ℕ, List, ℤ, ap, ◌∙◌, subst}
use Rattle.std.specs.Prelude.{slice_get, Some}
use Rattle.kahn_net.specs.Common.{Code, Standing, network_of, standing_of}
use Rattle.kahn_net.specs.declared.state.ProcState.{ProcState}
use Rattle.net_check.specs.declared.net.Net.{Net}
use Rattle.proc_step.specs.Turns.{IsTurn, IsOwnTurn}
use Rattle.proc_step.specs.declared.job.Job.{Job}

pub own_turn : (job job' : Job) (net : Net) (process : ℕ) (before : Standing) (items : List (List ℤ)) (room : List ℕ)
    (after : ProcState) (taken : List ℕ) (sent : List (List ℤ)) (code : Code) → job' ≡ job → job.net.value ≡ net
    → job.process ≡ process → standing_of job.state ≡ before → job.items.items ≡ items → job.room.items ≡ room
    → slice_get (network_of net.program).codes process ≡ Some code
    → IsOwnTurn job'.net.value.program job'.process job'.state job'.items.items job'.room.items after taken sent
    → IsTurn code before items room (standing_of after) taken sent
own_turn job job' net process before items room after taken sent code same of_net number stands hand places there own =
    let its =
    ap (λ (j : Job). slice_get (network_of j.net.value.program).codes j.process) same
    ∙ (ap (λ (n : Net). slice_get (network_of n.program).codes job.process) of_net
    ∙ (ap (λ (p : ℕ). slice_get (network_of net.program).codes p) number ∙ there)) in
    subst (λ (r : List ℕ). IsTurn code before items r (standing_of after) taken sent)
    (ap (λ (j : Job). j.room.items) same ∙ places)
    (subst (λ (i : List (List ℤ)). IsTurn code before i job'.room.items (standing_of after) taken sent)
    (ap (λ (j : Job). j.items.items) same ∙ hand)
    (subst (λ (s : Standing). IsTurn code s job'.items.items job'.room.items (standing_of after) taken sent)
    (ap (λ (j : Job). standing_of j.state) same ∙ stands) (own code its)))
