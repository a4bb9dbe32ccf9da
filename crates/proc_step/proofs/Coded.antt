-- The code of a process makes what the process does from where it stands.
use Rattle.std.proofs.Common.{◌≤◌, arith, ◌≡◌, ℕ, ◌+◌, ◌*◌, List, ℤ, Option, Some, None, [], length, ap}
use Rattle.std.proofs.lemmas.Option.{slice_get_past}
use Rattle.std.specs.Prelude.{IsTrue}
use Rattle.kahn_net.specs.Common.{total, Block, Code, Ended, no_steps, HasPassingLoop, trace_from, standing_in}
use Rattle.kahn_net.specs.Common.{code_repeats_within}
use Rattle.kahn_net.specs.States.{point_of}
use Rattle.kahn_net.specs.declared.limits.TheConstants.{MAX_NESTED_TIMES}
use Rattle.kahn_net.specs.declared.state.Mode.{Mode}
use Rattle.kahn_net.specs.declared.state.Mode.TheVariants.{NotBegun, At, Finished}
use Rattle.proc_code.specs.declared.instruction.Instruction.{Instruction}
use Rattle.proc_code.specs.Machine.{Runs, perform, run}
use Rattle.proc_code.specs.Translation.{process_code}
use Rattle.proc_code.specs.Laws.Processes.{most_steps, process_most, loop_most, code_made, code_resumed}
use Rattle.proc_code.specs.Laws.Resuming.{times_monotone}
use Rattle.proc_code.specs.Laws.Running.{in_more_steps}
use Rattle.proc_step.specs.Parts.{CanStand, passes_in, place_in}
use Rattle.proc_step.specs.Stepping.{RunsTo}
use Rattle.proc_step.specs.declared.machine.Machine.{Machine}
use Rattle.proc_step.proofs.Weights.{process_few}

-- the most times that a statement is made in a pass
abbrev pub MOST : ℕ
MOST = MAX_NESTED_TIMES

module _ (code : Code) (v : List ℤ) (u : List (List ℤ)) (passing : HasPassingLoop code) where
  -- behind its last instruction it has ended, in one step
  ended_there : Runs (process_code code) 1 (length (process_code code)) [] [] v u (λ go. no_steps (Ended v u))
  ended_there = record {
    steps = 1;
    within = omega arith;
    gives = λ go. ap
        (λ (o : Option Instruction). perform o (run (process_code code) 0 go) (length (process_code code)) []
        [] v u) (slice_get_past (process_code code) (length (process_code code)) (omega arith));
  }

  some_steps : (body : Option Block) → 1 ≤ loop_most body
  some_steps None = omega arith
  some_steps (Some b) = omega arith

  resumed : (mode : Mode) → CanStand code (standing_in mode v)
      → Runs (process_code code) (most_steps code u) (place_in code mode) [] (passes_in mode) v u
      (λ go. trace_from code (standing_in mode v) u)
  resumed NotBegun fits = code_made code passing v u
  resumed (At place) fits = code_resumed code passing (point_of place) v u fits
  resumed Finished fits =
      let one = some_steps code.body in
      let some : 1 ≤ process_most code = omega (arith, one) in
      let all = times_monotone 1 (process_most code) (total u + 2) some in
      let same : most_steps code u ≡ process_most code * (total u + 2) = omega arith in
      in_more_steps (process_code code) 1 (most_steps code u) (length (process_code code)) [] [] v u
      (λ go. no_steps (Ended v u)) (omega (arith, all, same)) ended_there

  -- within the passes of a turn
  runs_in : (mode : Mode) → CanStand code (standing_in mode v) → IsTrue (code_repeats_within code)
      → Runs (process_code code) ((total u + 2) * (MOST * length (process_code code))) (place_in code mode) []
      (passes_in mode) v u (λ go. trace_from code (standing_in mode v) u)
  runs_in mode fits within =
      let few : process_most code * (total u + 2) ≤ (MOST * length (process_code code)) * (total u + 2) =
      times_monotone (process_most code) (MOST * length (process_code code)) (total u + 2) (process_few code within) in
      let one : most_steps code u ≡ process_most code * (total u + 2) = omega arith in
      let other : (total u + 2) * (MOST * length (process_code code))
      ≡ (MOST * length (process_code code)) * (total u + 2) = omega arith in
      in_more_steps (process_code code) (most_steps code u) ((total u + 2) * (MOST * length (process_code code)))
      (place_in code mode) [] (passes_in mode) v u (λ go. trace_from code (standing_in mode v) u)
      (omega (arith, few, one, other)) (resumed mode fits)

-- the same of a machine that stands there
pub runs_at : (code : Code) (is : List Instruction) (m : Machine) (mode : Mode) (v : List ℤ) (items : List (List ℤ))
    → HasPassingLoop code → IsTrue (code_repeats_within code) → is ≡ process_code code
    → m.place ≡ place_in code mode → m.stack ≡ [] → m.left.items ≡ passes_in mode → m.variables.items ≡ v
    → m.unread.items ≡ items → CanStand code (standing_in mode v)
    → RunsTo is ((total items + 2) * (MOST * length is)) m (trace_from code (standing_in mode v) m.unread.items)
runs_at code is m mode v items passing within compiled place empty passes vars untaken fits =
    rw (compiled, place, empty, passes, vars, untaken) (runs_in code v items passing mode fits within)
