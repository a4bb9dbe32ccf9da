-- The code of a process performs what the process does, from the beginning and from each site.
use Rattle.std.proofs.Common.{◌≡◌, ℕ, zero, suc, ◌+◌, ◌-◌, ◌<◌, ◌≤◌, Bool, true, false, cond, List, ℤ, [], ◌∷◌, ◌++◌}
use Rattle.std.proofs.Common.{drop, ◌*◌, length, Option, Some, None, refl, ap, subst, arith}
use Rattle.std.specs.Prelude.{IsTrue, nat_lt, ◌==◌}
use Rattle.std.specs.List.{AllZip}
use Rattle.kahn_net.specs.Common.{total, Block, Nothing, GetThen, AssignThen, PutThen, StopThen, IfThen, RepeatThen}
use Rattle.kahn_net.specs.Common.{Code, is_passing, Point, Trace, Ended, no_steps, then_do, rounds, trace_of}
use Rattle.kahn_net.specs.Common.{sites_of, HasPassingLoop, passes, loop_trace, process_trace, trace_from}
use Rattle.kahn_net.specs.Repeats.{repeats_on, repeats_in_body, CanRemain, FitsRepeats}
use Rattle.kahn_net.specs.Processes.{At}
use Rattle.kahn_net.specs.Resuming.{trace_on, passes_left, body_on}
use Rattle.kahn_net.specs.Laws.Passes.{fewer_left, pass_takes, rounds_take}
use Rattle.kahn_net.specs.Laws.Traces.{one_of, ended_then}
use Rattle.proc_code.specs.declared.instruction.Instruction.{Instruction}
use Rattle.proc_code.specs.declared.instruction.Instruction.TheVariants.{Jump, End as Finish}
use Rattle.proc_code.specs.Machine.{Runs}
use Rattle.proc_code.specs.Translation.{block_code, loop_code, process_code, entry_at, loop_entry, entry_of}
use Rattle.proc_code.specs.Laws.Running.{IsCodeAt, first_part, later_part, last_part, in_more_steps, single_step}
use Rattle.proc_code.specs.Laws.Running.{first_makes}
use Rattle.proc_code.specs.Laws.Blocks.{Makes, MakesFrom, makes_and_jumps, most_of, block_made}
use Rattle.proc_code.specs.Laws.Resuming.{times_monotone, block_resumed}

-- resuming never adds to what is unread
resumed_takes : (number : ℕ) (left : List ℕ) (b : Block) (site : ℕ) (inner : List ℕ) (v : List ℤ) (u : List (List ℤ))
    (v' : List ℤ) (u' : List (List ℤ)) → (trace_on number left b site inner v u).end ≡ Ended v' u' → total u' ≤ total u
resumed_takes number left Nothing site inner v u v' u' e = let same : u ≡ u' = cc in omega (arith, ap total same)
resumed_takes number left (GetThen x c rest) site inner v u v' u' e =
    one_of (λ (t : Trace). t.end ≡ Ended v' u' → total u' ≤ total u) (number == site)
    (trace_of number left (GetThen x c rest) v u) (trace_on (number + 1) left rest site inner v u)
    (λ f. let h = pass_takes number left (GetThen x c rest) v u v' u' f in omega (arith, h))
    (λ f. resumed_takes (number + 1) left rest site inner v u v' u' f) e
resumed_takes number left (AssignThen x w rest) site inner v u v' u' e =
    resumed_takes number left rest site inner v u v' u' e
resumed_takes number left (PutThen w c rest) site inner v u v' u' e =
    one_of (λ (t : Trace). t.end ≡ Ended v' u' → total u' ≤ total u) (number == site)
    (trace_of number left (PutThen w c rest) v u) (trace_on (number + 1) left rest site inner v u)
    (λ f. let h = pass_takes number left (PutThen w c rest) v u v' u' f in omega (arith, h))
    (λ f. resumed_takes (number + 1) left rest site inner v u v' u' f) e
resumed_takes number left (StopThen rest) site inner v u v' u' e = resumed_takes number left rest site inner v u v' u' e
resumed_takes number left (IfThen test first second rest) site inner v u v' u' e =
    let past_first = number + sites_of first in
    let past_second = number + sites_of first + sites_of second in
    let go = trace_of past_second left rest in
    let in_first = trace_on number left first site inner v u in
    let in_second = trace_on past_first left second site inner v u in
    one_of (λ (t : Trace). t.end ≡ Ended v' u' → total u' ≤ total u) (nat_lt site past_first) (then_do in_first go)
    (cond (nat_lt site past_second) (then_do in_second go) (trace_on past_second left rest site inner v u))
    (λ f. let p = ended_then in_first go v' u' f in let a =
    resumed_takes number left first site inner v u p.0 p.1 p.2 in let b =
    pass_takes past_second left rest p.0 p.1 v' u' p.3 in omega (arith, a, b))
    (one_of (λ (t : Trace). t.end ≡ Ended v' u' → total u' ≤ total u) (nat_lt site past_second) (then_do in_second go)
    (trace_on past_second left rest site inner v u)
    (λ f. let p = ended_then in_second go v' u' f in let a =
    resumed_takes past_first left second site inner v u p.0 p.1 p.2 in let b =
    pass_takes past_second left rest p.0 p.1 v' u' p.3 in omega (arith, a, b))
    (λ f. resumed_takes past_second left rest site inner v u v' u' f)) e
resumed_takes number left (RepeatThen times body rest) site inner v u v' u' e =
    let past = number + sites_of body in
    let k = passes_left inner in
    let pass = λ (j : ℕ). trace_of number (left ++ j ∷ []) body in
    let at_hand = trace_on number (left ++ k ∷ []) body site (drop 1 inner) v u in
    let later = rounds (k - 1) pass in
    let go = trace_of past left rest in
    one_of (λ (t : Trace). t.end ≡ Ended v' u' → total u' ≤ total u) (nat_lt site past) (then_do (then_do at_hand later) go)
    (trace_on past left rest site inner v u)
    (λ f. let p = ended_then (then_do at_hand later) go v' u' f in let q = ended_then at_hand later p.0 p.1 p.2 in
    let a = resumed_takes number (left ++ k ∷ []) body site (drop 1 inner) v u q.0 q.1 q.2 in
    let b =
    rounds_take (k - 1) pass (is_passing body) (λ j w x w' x' g. pass_takes number (left ++ j ∷ []) body w x w' x' g) q.0
    q.1 p.0 p.1 q.3 in
    let c = pass_takes past left rest p.0 p.1 v' u' p.3 in omega (arith, a, b, c))
    (λ f. resumed_takes past left rest site inner v u v' u' f) e

-- the most instructions that a pass of a loop takes, with the way back, and those of a process
abbrev pub loop_most : Option Block → ℕ
loop_most None = 1
loop_most (Some body) = most_of body + 1

abbrev pub process_most : Code → ℕ
process_most code = most_of code.prelude + loop_most code.body

module _ (code : List Instruction) where
  -- n passes and their jumps: at most this many steps
  passes_made : (n at site : ℕ) (body : Block) (v : List ℤ) (u : List (List ℤ)) → IsTrue (is_passing body)
      → IsCodeAt code at (block_code at site body ++ Jump at ∷ []) → total u < n
      → Runs code (n * (most_of body + 1)) at [] [] v u (λ go. passes n site body v u)
  passes_made zero at site body v u passing h less = absurd (omega (arith, less))
  passes_made (suc n) at site body v u passing h less =
      let c = block_code at site body in
      let t = trace_of site [] body v u in
      let k = most_of body + 1 in
      in_more_steps code (k + n * k) (suc n * k) at [] [] v u (λ go. passes (suc n) site body v u) (omega arith)
      (first_makes code t at at [] [] [] [] v u (λ v' u' go. passes n site body v' u')
      (makes_and_jumps code (most_of body) t at (at + length c) at [] [] [] v u
      (later_part code at c (Jump at ∷ []) h).0
      (block_made code body at site [] [] v u (first_part code at c (Jump at ∷ []) h)))
      (λ v' u' e. let fewer = fewer_left site [] body v u v' u' passing e in
      passes_made n at site body v' u' passing h (omega (arith, fewer, less))))

  loop_made : (body : Option Block) (at site n : ℕ) (v : List ℤ) (u : List (List ℤ))
      → ((b : Block) → body ≡ Some b → IsTrue (is_passing b)) → IsCodeAt code at (loop_code at site body) → total u ≤ n
      → Runs code (suc n * loop_most body) at [] [] v u (λ go. loop_trace site body v u)
  loop_made None at site n v u passing h within =
      in_more_steps code 1 (suc n * 1) at [] [] v u (λ go. loop_trace site None v u) (omega arith)
      (single_step code at [] [] v u Finish h.0)
  loop_made (Some body) at site n v u passing h few =
      let k = most_of body + 1 in
      in_more_steps code (suc (total u) * k) (suc n * k) at [] [] v u (λ go. loop_trace site (Some body) v u)
      (times_monotone (suc (total u)) (suc n) k (omega (arith, few)))
      (passes_made (suc (total u)) at site body v u (passing body refl) h (omega arith))

  -- behind what was made of a pass or of the prelude, the loop
  then_loop : (m n : ℕ) (t : Trace) (from at site : ℕ) (left : List ℕ) (body : Option Block) (v : List ℤ)
      (u : List (List ℤ)) → ((b : Block) → body ≡ Some b → IsTrue (is_passing b))
      → IsCodeAt code at (loop_code at site body)
      → ((v' : List ℤ) (u' : List (List ℤ)) → t.end ≡ Ended v' u' → total u' ≤ n)
      → MakesFrom code m from [] left [] v u t at
      → Runs code (m + suc n * loop_most body) from [] left v u
      (λ go. then_do t (loop_trace site body))
  then_loop m n t from at site left body v u passing h few p =
      first_makes code t from at [] [] left [] v u (λ v' u' go. loop_trace site body v' u') p
      (λ v' u' e. loop_made body at site n v' u' passing h (few v' u' e))

  loop_resumed : (body : Option Block) (at number : ℕ) (point : Point) (v : List ℤ) (u : List (List ℤ))
      → ((b : Block) → body ≡ Some b → IsTrue (is_passing b)) → IsCodeAt code at (loop_code at number body)
      → AllZip CanRemain point.left (repeats_in_body number body point.site)
      → Runs code (loop_most body + suc (total u) * loop_most body)
      (loop_entry at number body point.site) [] point.left v u
      (λ go. then_do (body_on number body point v u) (loop_trace number body))
  loop_resumed None at number point v u passing h fits =
      in_more_steps code 1 (1 + suc (total u) * 1) at [] point.left v u (λ go. no_steps (Ended v u)) (omega arith)
      (single_step code at [] point.left v u Finish h.0)
  loop_resumed (Some body) at number point v u passing h fits =
      let c = block_code at number body in
      let t = trace_on number [] body point.site point.left v u in
      let from = entry_at at number body point.site in
      then_loop (most_of body + 1) (total u) t from at number point.left (Some body) v u passing h
      (λ v' u' e. resumed_takes number [] body point.site point.left v u v' u' e)
      (makes_and_jumps code (most_of body) t from (at + length c) at [] point.left [] v u
      (later_part code at c (Jump at ∷ []) h).0
      (block_resumed code body at number point.site [] [] point.left v u (first_part code at c (Jump at ∷ []) h) fits))

module _ (code : Code) where
  abbrev all : List Instruction
  all = process_code code

  abbrev loop_at : ℕ
  loop_at = length (block_code 0 0 code.prelude)

  abbrev loop_site : ℕ
  loop_site = sites_of code.prelude

  stands : IsCodeAt all 0 (block_code 0 0 code.prelude ++ loop_code loop_at loop_site code.body)
  stands = last_part (process_code code) []

  loop_stands : IsCodeAt all loop_at (loop_code loop_at loop_site code.body)
  loop_stands = last_part (loop_code loop_at loop_site code.body) (block_code 0 0 code.prelude)

  prelude_stands : IsCodeAt all 0 (block_code 0 0 code.prelude)
  prelude_stands = first_part all 0 (block_code 0 0 code.prelude) (loop_code loop_at loop_site code.body) stands

  -- at most so many steps: what the prelude and a pass take, and then as much once more for each item that is unread
  abbrev pub most_steps : List (List ℤ) → ℕ
  most_steps u = (total u + 2) * process_most code

  enough : (m : ℕ) (u : List (List ℤ)) → m ≤ process_most code
      → m + suc (total u) * loop_most code.body ≤ most_steps u
  enough m u h =
      let once : loop_most code.body ≤ process_most code = omega arith in
      let turns : suc (total u) * loop_most code.body ≤ suc (total u) * process_most code =
      (let a = times_monotone (loop_most code.body) (process_most code) (suc (total u)) once in
      let x : suc (total u) * loop_most code.body ≡ loop_most code.body * suc (total u) = omega arith in
      let y : suc (total u) * process_most code ≡ process_most code * suc (total u) = omega arith in
      omega (arith, a, x, y)) in
      let split : (total u + 2) * process_most code ≡ process_most code + suc (total u) * process_most code =
      omega arith in
      omega (arith, h, turns, split)

  -- from the beginning
  pub code_made : HasPassingLoop code → (v : List ℤ) (u : List (List ℤ))
      → Runs all (most_steps u) 0 [] [] v u
      (λ go. then_do (trace_of 0 [] code.prelude v u) (loop_trace loop_site code.body))
  code_made passing v u =
      let t = trace_of 0 [] code.prelude v u in
      let m = most_of code.prelude in
      in_more_steps all (m + suc (total u) * loop_most code.body) (most_steps u) 0 [] [] v u
      (λ go. then_do t (loop_trace loop_site code.body)) (enough m u (omega arith))
      (then_loop all m (total u) t 0 loop_at loop_site [] code.body v u passing loop_stands
      (λ v' u' e. let h = pass_takes 0 [] code.prelude v u v' u' e in omega (arith, h))
      (subst (λ (n : ℕ). Makes all m 0 [] [] v u t n) (let e : 0 + loop_at ≡ loop_at = omega arith in e)
      (block_made all code.prelude 0 0 [] [] v u prelude_stands)))

  -- the acts of the code are those of the process
  pub process_made : HasPassingLoop code → (inputs : List (List ℤ))
      → Runs all (most_steps inputs) 0 [] [] code.vars inputs (λ go. process_trace code inputs)
  process_made passing inputs = code_made passing code.vars inputs

  -- from a point at which it can stand
  pub code_resumed : HasPassingLoop code → (point : Point) (v : List ℤ) (u : List (List ℤ)) → FitsRepeats code point
      → Runs all (most_steps u) (entry_of code point.site) [] point.left v u (λ go. trace_from code (At point v) u)
  code_resumed passing point v u fits =
      let t = trace_on 0 [] code.prelude point.site point.left v u in
      let from = entry_at 0 0 code.prelude point.site in
      let m = most_of code.prelude in
      by (nat_lt point.site loop_site) fits
      (λ f. in_more_steps all (m + suc (total u) * loop_most code.body) (most_steps u) from [] point.left v u
      (λ go. then_do t (loop_trace loop_site code.body)) (enough m u (omega arith))
      (then_loop all m (total u) t from loop_at loop_site point.left code.body v u passing loop_stands
      (λ v' u' e. resumed_takes 0 [] code.prelude point.site point.left v u v' u' e)
      (subst (λ (n : ℕ). MakesFrom all m from [] point.left [] v u t n)
      (let e : 0 + loop_at ≡ loop_at = omega arith in e)
      (block_resumed all code.prelude 0 0 point.site [] [] point.left v u prelude_stands f))))
      (λ f. in_more_steps all (loop_most code.body + suc (total u) * loop_most code.body) (most_steps u)
      (loop_entry loop_at loop_site code.body point.site) [] point.left v u
      (λ go. then_do (body_on loop_site code.body point v u) (loop_trace loop_site code.body))
      (enough (loop_most code.body) u (omega arith))
      (loop_resumed all code.body loop_at loop_site point v u passing loop_stands f))
    where
      by : (test : Bool)
          → AllZip CanRemain point.left
          (cond test (repeats_on 0 code.prelude point.site)
          (repeats_in_body (sites_of code.prelude) code.body point.site))
          → (AllZip CanRemain point.left (repeats_on 0 code.prelude point.site)
          → Runs all (most_steps u) (entry_at 0 0 code.prelude point.site) [] point.left v u
          (λ go. then_do (trace_on 0 [] code.prelude point.site point.left v u) (loop_trace loop_site code.body)))
          → (AllZip CanRemain point.left (repeats_in_body (sites_of code.prelude) code.body point.site)
          → Runs all (most_steps u) (loop_entry loop_at loop_site code.body point.site) [] point.left v u
          (λ go. then_do (body_on loop_site code.body point v u) (loop_trace loop_site code.body)))
          → Runs all (most_steps u)
          (cond test (entry_at 0 0 code.prelude point.site) (loop_entry loop_at loop_site code.body point.site)) []
          point.left v u
          (λ go. then_do
          (cond test (trace_on 0 [] code.prelude point.site point.left v u)
          (body_on loop_site code.body point v u)) (loop_trace loop_site code.body))
      by true f p q = p f
      by false f p q = q f
