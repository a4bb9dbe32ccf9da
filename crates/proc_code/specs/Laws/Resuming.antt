-- From a site on, the code of a block performs what the block does from that site on.
use Rattle.std.proofs.Common.{◌≡◌, ℕ, zero, suc, ◌+◌, ◌-◌, ◌*◌, ◌≤◌, Bool, true, false, cond, List, ℤ, [], ◌∷◌, ◌++◌}
use Rattle.std.proofs.Common.{length, drop, Some, arith, sym, ap, subst, length-append, append_assoc}
use Rattle.std.specs.Prelude.{◌==◌, nat_lt, slice_get}
use Rattle.std.specs.List.{AllZip}
use Rattle.std.proofs.lemmas.List.{append-nil}
use Rattle.kahn_net.specs.Common.{Block, Nothing, GetThen, AssignThen, PutThen, StopThen, IfThen, RepeatThen, Trace}
use Rattle.kahn_net.specs.Common.{Ended, no_steps, then_do, rounds, trace_of, sites_of}
use Rattle.kahn_net.specs.Repeats.{repeats_on, CanRemain}
use Rattle.kahn_net.specs.Resuming.{trace_on, passes_left}
use Rattle.kahn_net.specs.Laws.Traces.{then_do_then}
use Rattle.proc_code.specs.declared.instruction.Instruction.{Instruction}
use Rattle.proc_code.specs.declared.instruction.Instruction.TheVariants.{Store, Put, Again}
use Rattle.proc_code.specs.Translation.{assign_code, expr_code, operand_of, if_code, repeat_code, block_code, entry_at}
use Rattle.proc_code.specs.Laws.Running.{IsCodeAt, first_part, later_part, not_moved, in_more_steps, ends_at_from, rephrased}
use Rattle.proc_code.specs.Laws.Running.{first_makes}
use Rattle.proc_code.specs.Laws.Blocks.{MakesFrom, makes_both, makes_and_jumps, most_of, block_made, at_end}
use Rattle.proc_code.specs.Laws.Blocks.{first_stands, second_stands, again_at, behind_again, block_stands}
use Rattle.proc_code.specs.Laws.Blocks.{again_stands_at, again_made}

pub times_monotone : (a b k : ℕ) → a ≤ b → a * k ≤ b * k
times_monotone a b k h = let d : b ≡ a + (b - a) = omega (arith, h) in
    let e : (a + (b - a)) * k ≡ a * k + (b - a) * k = omega arith in let f : b * k ≡ (a + (b - a)) * k =
    ap (λ (x : ℕ). x * k) d in omega (arith, e, f)

module _ (code : List Instruction) where
  -- from one place or from another, by a test, which tells which repetitions stand round the site
  from_either : (m : ℕ) (test : Bool) (a b : ℕ) (x y : Trace) (p q : List ℕ) (inner : List ℕ) (s : List ℤ)
      (from left : List ℕ) (v : List ℤ)
      (u : List (List ℤ)) (to : ℕ) → AllZip CanRemain inner (cond test p q)
      → (AllZip CanRemain inner p → MakesFrom code m a s from left v u x to)
      → (AllZip CanRemain inner q → MakesFrom code m b s from left v u y to)
      → MakesFrom code m (cond test a b) s from left v u (cond test x y) to
  from_either m true a b x y p q inner s from left v u to fits one other = one fits
  from_either m false a b x y p q inner s from left v u to fits one other = other fits

  -- with nothing left to resume no repetition stands round the site
  none_round : (inner left : List ℕ) → AllZip CanRemain inner [] → left ++ inner ≡ left
  none_round [] left h = append-nil left
  none_round (k ∷ inner) left h = absurd h

  from_here : (m at : ℕ) (t : Trace) (inner : List ℕ) (s : List ℤ) (left : List ℕ) (v : List ℤ) (u : List (List ℤ))
      (to : ℕ) → AllZip CanRemain inner [] → MakesFrom code m at s left left v u t to
      → MakesFrom code m at s (left ++ inner) left v u t to
  from_here m at t inner s left v u to fits made =
      subst (λ (l : List ℕ). MakesFrom code m at s l left v u t to) (sym (none_round inner left fits)) made

  pub block_resumed : (b : Block) (at number site : ℕ) (s : List ℤ) (left inner : List ℕ) (v : List ℤ)
      (u : List (List ℤ)) → IsCodeAt code at (block_code at number b)
      → AllZip CanRemain inner (repeats_on number b site)
      → MakesFrom code (most_of b) (entry_at at number b site) s (left ++ inner) left v u
      (trace_on number left b site inner v u) (at + length (block_code at number b))
  block_resumed Nothing at number site s left inner v u h fits =
      from_here 0 at (no_steps (Ended v u)) inner s left v u (at + 0) fits
      (ends_at_from code 0 0 at at (at + 0) s s left left v u (no_steps (Ended v u))
      (let e : at ≡ at + 0 = omega arith in e) (omega arith) (not_moved code at s left v u))
  block_resumed (GetThen x c rest) at number site s left inner v u h fits =
      let n = length (block_code (at + 1) (number + 1) rest) in
      let m = length (block_code at number (GetThen x c rest)) in
      let most = most_of (GetThen x c rest) in
      from_either most (number == site) at (entry_at (at + 1) (number + 1) rest site)
      (trace_of number left (GetThen x c rest) v u) (trace_on (number + 1) left rest site inner v u) []
      (repeats_on (number + 1) rest site) inner s (left ++ inner) left v u (at + m) fits
      (λ f. from_here most at (trace_of number left (GetThen x c rest) v u) inner s left v u (at + m) f
      (block_made code (GetThen x c rest) at number s left v u h))
      (λ f. ends_at_from code (most_of rest) most (entry_at (at + 1) (number + 1) rest site) (at + 1 + n) (at + m) s s
      (left ++ inner) left v u
      (trace_on (number + 1) left rest site inner v u) (omega arith) (omega arith)
      (block_resumed rest (at + 1) (number + 1) site s left inner v u h.1 f))
  block_resumed (AssignThen x e rest) at number site s left inner v u h fits =
      let c = assign_code x e in
      let r = block_code (at + length c) number rest in
      let long : length (c ++ r) ≡ length c + length r = length-append c r in
      ends_at_from code (most_of rest) (most_of (AssignThen x e rest)) (entry_at (at + length c) number rest site)
      (at + length c + length r)
      (at + length (c ++ r)) s s (left ++ inner) left v u (trace_on number left rest site inner v u)
      (omega (arith, long)) (omega arith)
      (block_resumed rest (at + length c) number site s left inner v u (later_part code at c r h) fits)
  block_resumed (PutThen e d rest) at number site s left inner v u h fits =
      let c = expr_code e ++ Put d number (operand_of e) ∷ [] in
      let r = block_code (at + length c) (number + 1) rest in
      let long : length (c ++ r) ≡ length c + length r = length-append c r in
      let most = most_of (PutThen e d rest) in
      from_either most (number == site) at (entry_at (at + length c) (number + 1) rest site)
      (trace_of number left (PutThen e d rest) v u) (trace_on (number + 1) left rest site inner v u) []
      (repeats_on (number + 1) rest site) inner s (left ++ inner) left v u (at + length (c ++ r)) fits
      (λ f. from_here most at (trace_of number left (PutThen e d rest) v u) inner s left v u (at + length (c ++ r)) f
      (block_made code (PutThen e d rest) at number s left v u h))
      (λ f. ends_at_from code (most_of rest) most (entry_at (at + length c) (number + 1) rest site)
      (at + length c + length r) (at + length (c ++ r)) s s (left ++ inner) left v u
      (trace_on (number + 1) left rest site inner v u) (omega (arith, long)) (omega arith)
      (block_resumed rest (at + length c) (number + 1) site s left inner v u (later_part code at c r h) f))
  block_resumed (StopThen rest) at number site s left inner v u h fits =
      let n = length (block_code (at + 1) number rest) in
      let m = length (block_code at number (StopThen rest)) in
      ends_at_from code (most_of rest) (most_of (StopThen rest)) (entry_at (at + 1) number rest site) (at + 1 + n)
      (at + m) s s (left ++ inner) left v u
      (trace_on number left rest site inner v u) (omega arith) (omega arith)
      (block_resumed rest (at + 1) number site s left inner v u h.1 fits)
  block_resumed (IfThen test first second rest) at number site s left inner v u h fits =
      let past_first = number + sites_of first in
      let past_second = number + sites_of first + sites_of second in
      let one = λ (n : ℕ). block_code n number first in
      let two = λ (n : ℕ). block_code n past_first second in
      let c = if_code at (expr_code test) (operand_of test) one two in
      let r = block_code (at + length c) past_second rest in
      let mine = first_part code at c r h in
      let one_place = at + length (expr_code test) + 1 in
      let two_place = one_place + length (one one_place) + 1 in
      let end_place = two_place + length (two two_place) in
      let from = left ++ inner in
      let to = at + length (c ++ r) in
      let rest_at = entry_at (at + length c) past_second rest site in
      let behind = trace_of past_second left rest in
      let stands = later_part code at c r h in
      let all_long : length (c ++ r) ≡ length c + length r = length-append c r in
      let same : at + length c + length r ≡ to = omega (arith, all_long) in
      let in_first = trace_on number left first site inner v u in
      let in_second = trace_on past_first left second site inner v u in
      let ends : end_place ≡ at + length c = at_end code at (expr_code test) (operand_of test) one two in
      let most = most_of (IfThen test first second rest) in
      from_either most (nat_lt site past_first) (entry_at one_place number first site)
      (cond (nat_lt site past_second) (entry_at two_place past_first second site) rest_at)
      (then_do in_first behind)
      (cond (nat_lt site past_second) (then_do in_second behind) (trace_on past_second left rest site inner v u))
      (repeats_on number first site)
      (cond (nat_lt site past_second) (repeats_on past_first second site) (repeats_on past_second rest site))
      inner s from left v u to fits
      (λ f. ends_at_from code (most_of first + 1 + most_of rest) most (entry_at one_place number first site)
      (at + length c + length r) to s s from left v u (then_do in_first behind) same (omega arith)
      (makes_both code (most_of first + 1) (most_of rest) in_first behind (entry_at one_place number first site)
      (at + length c) (at + length c + length r) s from left v u
      (ends_at_from code (most_of first + 1) (most_of first + 1) (entry_at one_place number first site) end_place
      (at + length c) s s from left v u in_first ends (omega arith)
      (makes_and_jumps code (most_of first) in_first (entry_at one_place number first site)
      (one_place + length (one one_place)) end_place s from left v u
      (second_stands code at (expr_code test) (operand_of test) one two mine).0
      (block_resumed first one_place number site s left inner v u
      (first_stands code at (expr_code test) (operand_of test) one two mine) f)))
      (λ v' u'. block_made code rest (at + length c) past_second s left v' u' stands)))
      (λ g. from_either most (nat_lt site past_second) (entry_at two_place past_first second site) rest_at
      (then_do in_second behind) (trace_on past_second left rest site inner v u) (repeats_on past_first second site)
      (repeats_on past_second rest site) inner s from left v u to g
      (λ f. ends_at_from code (most_of second + most_of rest) most (entry_at two_place past_first second site)
      (at + length c + length r) to s s from left v u (then_do in_second behind) same (omega arith)
      (makes_both code (most_of second) (most_of rest) in_second behind (entry_at two_place past_first second site)
      (at + length c) (at + length c + length r) s from left v u
      (ends_at_from code (most_of second) (most_of second) (entry_at two_place past_first second site) end_place
      (at + length c) s s from left v u
      in_second ends (omega arith)
      (block_resumed second two_place past_first site s left inner v u
      (second_stands code at (expr_code test) (operand_of test) one two mine).1 f))
      (λ v' u'. block_made code rest (at + length c) past_second s left v' u' stands)))
      (λ f. ends_at_from code (most_of rest) most rest_at (at + length c + length r) to s s from left v u
      (trace_on past_second left rest site inner v u) same (omega arith)
      (block_resumed rest (at + length c) past_second site s left inner v u stands f)))
  block_resumed (RepeatThen times body rest) at number site s left inner v u h fits =
      let past = number + sites_of body in
      let block = λ (n : ℕ). block_code n number body in
      let c = repeat_code at times block in
      let r = block_code (at + length c) past rest in
      let mine = first_part code at c r h in
      let jump = again_at code at times block in
      let to = at + length (c ++ r) in
      let from = left ++ inner in
      let m = most_of body in
      let rest_at = entry_at (at + length c) past rest site in
      let behind = trace_of past left rest in
      let pass = λ (k : ℕ). trace_of number (left ++ k ∷ []) body in
      let at_hand = trace_on number (left ++ passes_left inner ∷ []) body site (drop 1 inner) v u in
      let whole = then_do at_hand (rounds (passes_left inner - 1) pass) in
      let stands = later_part code at c r h in
      let all_long : length (c ++ r) ≡ length c + length r = length-append c r in
      let same : at + length c + length r ≡ to = omega (arith, all_long) in
      let ends : jump + 1 ≡ at + length c = behind_again code at times block in
      let most = most_of (RepeatThen times body rest) in
      let entry = entry_at (at + 1) number body site in
      from_either most (nat_lt site past) entry rest_at (then_do whole behind)
      (trace_on past left rest site inner v u) (times ∷ repeats_on number body site) (repeats_on past rest site) inner
      s from left v u to fits
      (λ f. ends_at_from code (1 + times * (m + 1) + most_of rest) most entry (at + length c + length r) to s s from
      left v u (then_do whole behind) same (omega arith)
      (makes_both code (1 + times * (m + 1)) (most_of rest) whole behind entry (at + length c)
      (at + length c + length r) s from left v u
      (ends_at_from code (1 + times * (m + 1)) (1 + times * (m + 1)) entry (jump + 1) (at + length c) s s from left v u
      whole ends (omega arith)
      (pass_resumed times number m (at + 1) jump entry body site s left inner v u (repeats_on number body site)
      (again_stands_at code at times block mine)
      (λ k v' u'. block_made code body (at + 1) number s (left ++ k ∷ []) v' u' (block_stands code at times block mine))
      f
      (λ k deeper g. block_resumed body (at + 1) number site s (left ++ k ∷ []) deeper v u
      (block_stands code at times block mine) g)))
      (λ v' u'. block_made code rest (at + length c) past s left v' u' stands)))
      (λ f. ends_at_from code (most_of rest) most rest_at (at + length c + length r) to s s from left v u
      (trace_on past left rest site inner v u) same (omega arith)
      (block_resumed rest (at + length c) past site s left inner v u stands f))
    where
      -- the rest of the pass at hand, and the passes that remain past it
      pass_resumed : (times number m inside jump entry : ℕ) (body : Block) (site : ℕ) (s : List ℤ)
          (left inner : List ℕ) (v : List ℤ) (u : List (List ℤ)) (deeper_round : List ℕ)
          → slice_get code jump ≡ Some (Again inside)
          → ((k : ℕ) (v' : List ℤ) (u' : List (List ℤ))
          → MakesFrom code m inside s (left ++ k ∷ []) (left ++ k ∷ []) v' u' (trace_of number (left ++ k ∷ []) body v' u')
          jump)
          → AllZip CanRemain inner (times ∷ deeper_round)
          → ((k : ℕ) (deeper : List ℕ) → AllZip CanRemain deeper deeper_round
          → MakesFrom code m entry s ((left ++ k ∷ []) ++ deeper) (left ++ k ∷ []) v u
          (trace_on number (left ++ k ∷ []) body site deeper v u) jump)
          → MakesFrom code (1 + times * (m + 1)) entry s (left ++ inner) left v u
          (then_do (trace_on number (left ++ passes_left inner ∷ []) body site (drop 1 inner) v u)
          (rounds (passes_left inner - 1) (λ k. trace_of number (left ++ k ∷ []) body))) (jump + 1)
      pass_resumed times number m inside jump entry body site s left [] v u deeper_round again made fits resumed =
          absurd fits
      pass_resumed times number m inside jump entry body site s left (zero ∷ deeper) v u deeper_round again made fits
          resumed = absurd (omega (arith, fits.0.0))
      pass_resumed times number m inside jump entry body site s left (suc k ∷ deeper) v u deeper_round again made fits
          resumed =
          let at_hand = trace_on number (left ++ suc k ∷ []) body site deeper v u in
          let pass = λ (j : ℕ). trace_of number (left ++ j ∷ []) body in
          let one_less : suc k - 1 ≡ k = omega arith in
          let few : (1 + k) * (m + 1) ≤ times * (m + 1) = times_monotone (1 + k) times (m + 1) (omega (arith, fits.0.1)) in
          let split : (1 + k) * (m + 1) ≡ m + (1 + k * (m + 1)) = omega arith in
          subst (λ (n : ℕ). MakesFrom code (1 + times * (m + 1)) entry s (left ++ suc k ∷ deeper) left v u
          (then_do at_hand (rounds n pass)) (jump + 1)) (sym one_less)
          (subst (λ (l : List ℕ). MakesFrom code (1 + times * (m + 1)) entry s l left v u
          (then_do at_hand (rounds k pass)) (jump + 1)) (append_assoc left (suc k ∷ []) deeper)
          (in_more_steps code (m + (1 + k * (m + 1))) (1 + times * (m + 1)) entry s ((left ++ suc k ∷ []) ++ deeper) v u
          _ (omega (arith, few, split))
          (rephrased code entry s ((left ++ suc k ∷ []) ++ deeper) v u
          _ _ (λ go. sym (then_do_then at_hand (rounds k pass) (λ v' u'. go (jump + 1) s left v' u')))
          (first_makes code at_hand entry jump s s ((left ++ suc k ∷ []) ++ deeper) (left ++ suc k ∷ []) v u
          (λ v' u' go. then_do (rounds k pass v' u') (λ w x. go (jump + 1) s left w x))
          (resumed (suc k) deeper fits.1)
          (λ v' u' e. again_made code number body inside jump m s left again made k v' u')))))
