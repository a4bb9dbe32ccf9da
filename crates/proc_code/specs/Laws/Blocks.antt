-- The code of a block performs what the block does, and goes on behind it.
use Rattle.std.proofs.Common.{◌≡◌, ℕ, zero, suc, ◌+◌, ◌-◌, ◌*◌, ◌≤◌, Bool, true, false, cond, List, ℤ, pos, [], ◌∷◌, ◌++◌, set, length}
use Rattle.std.proofs.Common.{Some, refl, sym, ap, ◌∙◌, subst, arith, append-nil, length-append}
use Rattle.std.specs.Prelude.{slice_get, nat_lt, ◌==◌}
use Rattle.std.proofs.lemmas.Bool.{lt-ltb, ne_eqb}
use Rattle.std.specs.Ordering.{int_eq}
use Rattle.std.specs.Int.{int_wrapping_neg, w64}
use Rattle.kahn_net.specs.Common.{history_of, Tree, Number, Name, Minus, Chain, Links, NoLinks, LinkThen, Block}
use Rattle.kahn_net.specs.Common.{Nothing, GetThen, AssignThen, PutThen, StopThen, IfThen, RepeatThen, Got, Sent}
use Rattle.kahn_net.specs.Common.{Step, Trace, Ended, no_steps, point_at, on_get, then_do, trace_of, rounds, value_of}
use Rattle.kahn_net.specs.Common.{sites_of}
use Rattle.kahn_net.specs.Statements.{after_step}
use Rattle.kahn_net.specs.Statements.{choose, value_along, apply}
use Rattle.kahn_net.specs.declared.program.Operator.{Operator}
use Rattle.kahn_net.specs.Laws.Traces.{then_do_then}
use Rattle.proc_code.specs.declared.instruction.Instruction.{Instruction}
use Rattle.proc_code.specs.declared.instruction.Instruction.TheVariants.{Store, Negate, Apply, Get, Put}
use Rattle.proc_code.specs.declared.instruction.Instruction.TheVariants.{Jump, JumpIfZero, Repeat, Again, Stop}
use Rattle.proc_code.specs.declared.instruction.Destination.{Destination}
use Rattle.proc_code.specs.declared.instruction.Destination.TheVariants.{Stack, Variable as Into}
use Rattle.proc_code.specs.declared.instruction.Operand.{Operand}
use Rattle.proc_code.specs.declared.instruction.Operand.TheVariants.{Top, Variable, Literal}
use Rattle.proc_code.specs.Machine.{Continuation, behind_value, innermost, round_it, perform, Runs, stack_with, value_in, vars_with}
use Rattle.proc_code.specs.Translation.{assign_code, code_to, count_links, expr_code, link_to, links_code, if_code, operand_behind, operand_of}
use Rattle.proc_code.specs.Translation.{repeat_code, block_code, with_store}
use Rattle.proc_code.specs.Laws.Running.{IsCodeAt, first_part, later_part, rephrased, in_more_steps, single_step}
use Rattle.proc_code.specs.Laws.Running.{not_moved, first_moves, first_makes, ends_at}

-- The most instructions that statements take: each of theirs once, and those of a repetition's block, with the way back,
-- as often as it is made.
abbrev pub most_of : Block → ℕ
most_of Nothing = 0
most_of (GetThen x channel rest) = 1 + most_of rest
most_of (AssignThen x e rest) = length (assign_code x e) + most_of rest
most_of (PutThen e channel rest) = length (expr_code e) + 1 + most_of rest
most_of (StopThen rest) = 1 + most_of rest
most_of (IfThen test first second rest) =
    length (expr_code test) + (1 + (most_of first + (1 + most_of second))) + most_of rest
most_of (RepeatThen times body rest) = 1 + times * (most_of body + 1) + most_of rest

-- the innermost repetition, and those round it
pub innermost_is : (left : List ℕ) (k : ℕ) → innermost (left ++ k ∷ []) ≡ k
innermost_is [] k = refl
innermost_is (j ∷ []) k = refl
innermost_is (j ∷ i ∷ deeper) k = innermost_is (i ∷ deeper) k

pub round_it_is : (left : List ℕ) (k : ℕ) → round_it (left ++ k ∷ []) ≡ left
round_it_is [] k = refl
round_it_is (j ∷ []) k = refl
round_it_is (j ∷ i ∷ deeper) k = ap (λ (l : List ℕ). j ∷ l) (round_it_is (i ∷ deeper) k)

-- the stack of a machine that has this value there
abbrev pub with_value : Operand → ℤ → List ℤ → List ℤ
with_value Top x stack = x ∷ stack
with_value (Variable y) x stack = stack
with_value (Literal n) x stack = stack

-- behind the value the stack is as it was
stack_behind : (o : Operand) (x : ℤ) (s : List ℤ) → behind_value o (with_value o x s) ≡ s
stack_behind Top x s = refl
stack_behind (Variable y) x s = refl
stack_behind (Literal n) x s = refl

-- where the value of an expression goes to the stack, so does that of each of its links
link_stack : (to : Destination) (later : ℕ) → to ≡ Stack → link_to to later ≡ Stack
link_stack to zero is = is
link_stack to (suc later) is = refl

-- a value that is found there, whatever the stack is like else
abbrev IsThere : Operand → ℤ → List ℤ → Type 0
IsThere o x v = (s : List ℤ) → value_in o (with_value o x s) v ≡ x

mutual
  expr_is_there : (e : Tree) (v : List ℤ) → IsThere (operand_of e) (value_of e v) v
  expr_is_there (Number n) v s = refl
  expr_is_there (Name x) v s = refl
  expr_is_there (Minus e) v s = refl
  expr_is_there (Chain first links) v s =
      links_are_there links (operand_of first) (value_of first v) v (expr_is_there first v) s

  links_are_there : (links : Links) (o : Operand) (x : ℤ) (v : List ℤ) → IsThere o x v
      → IsThere (operand_behind o links) (value_along links v x) v
  links_are_there NoLinks o x v there s = there s
  links_are_there (LinkThen operator e rest) o x v there s = refl

-- behind a link the value is on the stack
on_top : (links : Links) → operand_behind Top links ≡ Top
on_top NoLinks = refl
on_top (LinkThen operator e rest) = refl

-- what takes an expression's value takes that of the expression, and leaves the stack as it was before its code
value_taken : {A : Type 0} (e : Tree) (v s : List ℤ) (f : ℤ → List ℤ → A)
    → f (value_in (operand_of e) (with_value (operand_of e) (value_of e v) s) v)
    (behind_value (operand_of e) (with_value (operand_of e) (value_of e v) s))
    ≡ f (value_of e v) s
value_taken e v s f =
    ap (λ (x : ℤ). f x (behind_value (operand_of e) (with_value (operand_of e) (value_of e v) s))) (expr_is_there e v s)
    ∙ ap (f (value_of e v)) (stack_behind (operand_of e) (value_of e v) s)

module _ (code : List Instruction) where
  -- the machine comes to another place, with another stack, in at most so many steps
  abbrev Reaches : ℕ → ℕ → List ℤ → List ℕ → List ℤ → List (List ℤ) → ℕ → List ℤ → Type 0
  Reaches m at stack left v u at' stack' = Runs code m at stack left v u (λ go. go at' stack' left v u)

  reaches_further : (m n at at1 at2 : ℕ) (s s1 s2 : List ℤ) (left : List ℕ) (v : List ℤ) (u : List (List ℤ))
      → Reaches m at s left v u at1 s1 → Reaches n at1 s1 left v u at2 s2 → Reaches (m + n) at s left v u at2 s2
  reaches_further m n at at1 at2 s s1 s2 left v u a b =
      first_moves code (λ t. t) at at1 s s1 left left v v u u (λ go. go at2 s2 left v u) a b

  reaches_same : (m m' at at1 at2 : ℕ) (s s1 : List ℤ) (left : List ℕ) (v : List ℤ) (u : List (List ℤ)) → at1 ≡ at2
      → m ≤ m' → Reaches m at s left v u at1 s1 → Reaches m' at s left v u at2 s1
  reaches_same m m' at at1 at2 s s1 left v u e h d =
      in_more_steps code m m' at s left v u (λ go. go at2 s1 left v u) h
      (subst (λ (n : ℕ). Reaches m at s left v u n s1) e d)

  -- an instruction behind an expression's code
  reaches_past : (m at at1 at2 : ℕ) (s s1 s2 : List ℤ) (left : List ℕ) (v : List ℤ) (u : List (List ℤ))
      (i : Instruction) → Reaches m at s left v u at1 s1 → slice_get code at1 ≡ Some i
      → ((go : Continuation) → perform (Some i) go at1 s1 left v u ≡ go (at1 + 1) s2 left v u) → at1 + 1 ≡ at2
      → Reaches (m + 1) at s left v u at2 s2
  reaches_past m at at1 at2 s s1 s2 left v u i a h same e =
      reaches_further m 1 at at1 at2 s s1 s2 left v u a
      (reaches_same 1 1 at1 (at1 + 1) at2 s1 s2 left v u e (omega arith)
      (rephrased code at1 s1 left v u _ _ same (single_step code at1 s1 left v u i h)))

  nothing_done : (at : ℕ) (s : List ℤ) (left : List ℕ) (v : List ℤ) (u : List (List ℤ))
      → Reaches 0 at s left v u (at + 0) s
  nothing_done at s left v u =
      reaches_same 0 0 at at (at + 0) s s left v u (let e : at ≡ at + 0 = omega arith in e) (omega arith)
      (not_moved code at s left v u)

  -- a value goes to the stack
  gone_there : (to : Destination) (x : ℤ) (at : ℕ) (s : List ℤ) (left : List ℕ) (v : List ℤ) (u : List (List ℤ))
      (go : Continuation) → to ≡ Stack → go at (stack_with to x s) left (vars_with to x v) u ≡ go at (x ∷ s) left v u
  gone_there to x at s left v u go is =
      ap (λ (t : Destination). go at (stack_with t x s) left (vars_with t x v) u) is

  -- what a link does, where the value before it is there
  applied : (operator : Operator) (e : Tree) (o : Operand) (t : Destination) (here : ℕ) (x : ℤ) (s : List ℤ)
      (left : List ℕ) (v : List ℤ) (u : List (List ℤ)) (go : Continuation) → IsThere o x v
      → perform (Some (Apply operator o (operand_of e) t)) go here
      (with_value (operand_of e) (value_of e v) (with_value o x s)) left v u
      ≡ go (here + 1) (stack_with t (apply operator x (value_of e v)) s) left
      (vars_with t (apply operator x (value_of e v)) v) u
  applied operator e o t here x s left v u go there =
      let from = with_value o x s in
      let ends = λ (y : ℤ) (r : List ℤ). go (here + 1) (stack_with t y r) left (vars_with t y v) u in
      value_taken e v from (λ z r. ends (apply operator (value_in o r v) z) (behind_value o r))
      ∙ (ap (λ (w : ℤ). ends (apply operator w (value_of e v)) (behind_value o from)) (there s)
      ∙ ap (ends (apply operator x (value_of e v))) (stack_behind o x s))

  mutual
    pub expr_reached : (e : Tree) (to : Destination) (at : ℕ) (s : List ℤ) (left : List ℕ) (v : List ℤ)
        (u : List (List ℤ)) → to ≡ Stack → IsCodeAt code at (code_to to e)
        → Reaches (length (code_to to e)) at s left v u (at + length (code_to to e))
        (with_value (operand_of e) (value_of e v) s)
    expr_reached (Number n) to at s left v u is h = nothing_done at s left v u
    expr_reached (Name x) to at s left v u is h = nothing_done at s left v u
    expr_reached (Minus e) to at s left v u is h =
        let o = operand_of e in
        let i = Negate o to in
        let m = length (expr_code e) in
        let here = at + m in
        let whole = length (expr_code e ++ i ∷ []) in
        let last = later_part code at (expr_code e) (i ∷ []) h in
        let long : whole ≡ m + 1 = length-append (expr_code e) (i ∷ []) in
        reaches_same (m + 1) whole at (here + 1) (at + whole) s (int_wrapping_neg w64 (value_of e v) ∷ s) left v u
        (omega (arith, long)) (omega (arith, long))
        (reaches_past m at here (here + 1) s (with_value o (value_of e v) s) (int_wrapping_neg w64 (value_of e v) ∷ s)
        left v u i
        (expr_reached e Stack at s left v u refl (first_part code at (expr_code e) (i ∷ []) h)) last.0
        (λ go. value_taken e v s (λ x r. go (here + 1) (stack_with to (int_wrapping_neg w64 x) r) left
        (vars_with to (int_wrapping_neg w64 x) v) u)
        ∙ gone_there to (int_wrapping_neg w64 (value_of e v)) (here + 1) s left v u go is) refl)
    expr_reached (Chain first links) to at s left v u is h =
        let o = operand_of first in
        let t = link_to to (count_links links) in
        let m = length (code_to t first) in
        let n = length (links_code to o links) in
        let here = at + m in
        let whole = length (code_to t first ++ links_code to o links) in
        let long : whole ≡ m + n = length-append (code_to t first) (links_code to o links) in
        let end = with_value (operand_behind o links) (value_along links v (value_of first v)) s in
        reaches_same (m + n) whole at (here + n) (at + whole) s end left v u (omega (arith, long)) (omega (arith, long))
        (reaches_further m n at here (here + n) s (with_value o (value_of first v) s) end left v u
        (expr_reached first t at s left v u (link_stack to (count_links links) is)
        (first_part code at (code_to t first) (links_code to o links) h))
        (links_reached links o to here (value_of first v) s left v u is (expr_is_there first v)
        (later_part code at (code_to t first) (links_code to o links) h)))

    pub links_reached : (links : Links) (o : Operand) (to : Destination) (at : ℕ) (x : ℤ) (s : List ℤ) (left : List ℕ)
        (v : List ℤ) (u : List (List ℤ)) → to ≡ Stack → IsThere o x v → IsCodeAt code at (links_code to o links)
        → Reaches (length (links_code to o links)) at (with_value o x s) left v u
        (at + length (links_code to o links)) (with_value (operand_behind o links) (value_along links v x) s)
    links_reached NoLinks o to at x s left v u is there h = nothing_done at (with_value o x s) left v u
    links_reached (LinkThen operator e rest) o to at x s left v u is there h =
        let t = link_to to (count_links rest) in
        let i = Apply operator o (operand_of e) t in
        let m = length (expr_code e) in
        let n = length (links_code to Top rest) in
        let here = at + m in
        let later = later_part code at (expr_code e) (i ∷ links_code to Top rest) h in
        let y = apply operator x (value_of e v) in
        let whole = length (expr_code e ++ i ∷ links_code to Top rest) in
        let long : whole ≡ m + (n + 1) =
        length-append (expr_code e) (i ∷ links_code to Top rest)
        ∙ (let k : m + suc n ≡ m + (n + 1) = omega arith in k) in
        let from = with_value o x s in
        let end = with_value (operand_behind Top rest) (value_along rest v y) s in
        let same : operand_behind Top rest ≡ Top = on_top rest in
        reaches_same (m + 1 + n) whole at (here + 1 + n) (at + whole) from (value_along rest v y ∷ s) left v u
        (omega (arith, long)) (omega (arith, long))
        (subst (λ (p : Operand). Reaches (m + 1 + n) at from left v u (here + 1 + n) (with_value p (value_along rest v y) s))
        same
        (reaches_further (m + 1) n at (here + 1) (here + 1 + n) from (y ∷ s) end left v u
        (reaches_past m at here (here + 1) from (with_value (operand_of e) (value_of e v) from) (y ∷ s) left v u i
        (expr_reached e Stack at from left v u refl (first_part code at (expr_code e) (i ∷ links_code to Top rest) h)) later.0
        (λ go. applied operator e o t here x s left v u go there ∙ gone_there t y (here + 1) s left v u go (link_stack to (count_links rest) is))
        refl)
        (links_reached rest Top to (here + 1) y s left v u is (λ r. refl) later.1)))

  -- The value of an expression goes to a variable.
  abbrev Assigned : List Instruction → ℕ → ℕ → ℤ → List ℤ → List ℕ → List ℤ → List (List ℤ) → Type 0
  Assigned c at x y s left v u =
      IsCodeAt code at c → Runs code (length c) at s left v u (λ go. go (at + length c) s left (set v x y) u)

  links_assigned : (rest : Links) (operator : Operator) (e : Tree) (o : Operand) (at var : ℕ) (x : ℤ) (s : List ℤ)
      (left : List ℕ) (v : List ℤ) (u : List (List ℤ)) → IsThere o x v
      → IsCodeAt code at (links_code (Into var) o (LinkThen operator e rest))
      → Runs code (length (links_code (Into var) o (LinkThen operator e rest))) at (with_value o x s) left v u
      (λ go. go (at + length (links_code (Into var) o (LinkThen operator e rest))) s left
      (set v var (value_along rest v (apply operator x (value_of e v)))) u)
  links_assigned NoLinks operator e o at var x s left v u there h =
      let i = Apply operator o (operand_of e) (Into var) in
      let m = length (expr_code e) in
      let here = at + m in
      let y = apply operator x (value_of e v) in
      let whole = length (expr_code e ++ i ∷ []) in
      let long : whole ≡ m + 1 = length-append (expr_code e) (i ∷ []) in
      let from = with_value o x s in
      let reached = with_value (operand_of e) (value_of e v) from in
      in_more_steps code (m + 1) whole at from left v u (λ go. go (at + whole) s left (set v var y) u) (omega (arith, long))
      (subst (λ (n : ℕ). Runs code (m + 1) at from left v u (λ go. go n s left (set v var y) u))
      (let ends : here + 1 ≡ at + whole = omega (arith, long) in ends)
      (first_moves code (λ t. t) at here from reached left left v v u u (λ go. go (here + 1) s left (set v var y) u)
      (expr_reached e Stack at from left v u refl (first_part code at (expr_code e) (i ∷ []) h))
      (rephrased code here reached left v u _ _ (λ go. applied operator e o (Into var) here x s left v u go there)
      (single_step code here reached left v u i (later_part code at (expr_code e) (i ∷ []) h).0))))
  links_assigned (LinkThen next f rest) operator e o at var x s left v u there h =
      let i = Apply operator o (operand_of e) Stack in
      let more = links_code (Into var) Top (LinkThen next f rest) in
      let m = length (expr_code e) in
      let n = length more in
      let here = at + m in
      let y = apply operator x (value_of e v) in
      let later = later_part code at (expr_code e) (i ∷ more) h in
      let whole = length (expr_code e ++ i ∷ more) in
      let long : whole ≡ m + (n + 1) =
      length-append (expr_code e) (i ∷ more) ∙ (let k : m + suc n ≡ m + (n + 1) = omega arith in k) in
      let from = with_value o x s in
      let end = set v var (value_along rest v (apply next y (value_of f v))) in
      in_more_steps code (m + 1 + n) whole at from left v u (λ go. go (at + whole) s left end u) (omega (arith, long))
      (subst (λ (k : ℕ). Runs code (m + 1 + n) at from left v u (λ go. go k s left end u))
      (let ends : here + 1 + n ≡ at + whole = omega (arith, long) in ends)
      (first_moves code (λ t. t) at (here + 1) from (y ∷ s) left left v v u u (λ go. go (here + 1 + n) s left end u)
      (reaches_past m at here (here + 1) from (with_value (operand_of e) (value_of e v) from) (y ∷ s) left v u i
      (expr_reached e Stack at from left v u refl (first_part code at (expr_code e) (i ∷ more) h)) later.0
      (λ go. applied operator e o Stack here x s left v u go there) refl)
      (links_assigned rest next f Top (here + 1) var y s left v u (λ r. refl) later.1)))

  expr_assigned : (e : Tree) (at x : ℕ) (s : List ℤ) (left : List ℕ) (v : List ℤ) (u : List (List ℤ))
      → Assigned (assign_code x e) at x (value_of e v) s left v u
  expr_assigned (Number n) at x s left v u h = single_step code at s left v u (Store x (Literal n)) h.0
  expr_assigned (Name y) at x s left v u h = single_step code at s left v u (Store x (Variable y)) h.0
  expr_assigned (Minus e) at x s left v u h =
      let i = Negate (operand_of e) (Into x) in
      let m = length (expr_code e) in
      let here = at + m in
      let y = int_wrapping_neg w64 (value_of e v) in
      let whole = length (expr_code e ++ i ∷ []) in
      let long : whole ≡ m + 1 = length-append (expr_code e) (i ∷ []) in
      let reached = with_value (operand_of e) (value_of e v) s in
      in_more_steps code (m + 1) whole at s left v u (λ go. go (at + whole) s left (set v x y) u) (omega (arith, long))
      (subst (λ (n : ℕ). Runs code (m + 1) at s left v u (λ go. go n s left (set v x y) u))
      (let ends : here + 1 ≡ at + whole = omega (arith, long) in ends)
      (first_moves code (λ t. t) at here s reached left left v v u u (λ go. go (here + 1) s left (set v x y) u)
      (expr_reached e Stack at s left v u refl (first_part code at (expr_code e) (i ∷ []) h))
      (rephrased code here reached left v u _ _
      (λ go. value_taken e v s (λ z r. go (here + 1) r left (set v x (int_wrapping_neg w64 z)) u))
      (single_step code here reached left v u i (later_part code at (expr_code e) (i ∷ []) h).0))))
  expr_assigned (Chain first NoLinks) at x s left v u h =
      subst (λ (c : List Instruction). Assigned (with_store (operand_of first) x c) at x (value_of first v) s left v u)
      (sym (append-nil (code_to (Into x) first))) (λ k. expr_assigned first at x s left v u k) h
  expr_assigned (Chain first (LinkThen operator e rest)) at x s left v u h =
      let o = operand_of first in
      let more = links_code (Into x) o (LinkThen operator e rest) in
      let m = length (expr_code first) in
      let n = length more in
      let here = at + m in
      let whole = length (expr_code first ++ more) in
      let long : whole ≡ m + n = length-append (expr_code first) more in
      let end = set v x (value_along rest v (apply operator (value_of first v) (value_of e v))) in
      in_more_steps code (m + n) whole at s left v u (λ go. go (at + whole) s left end u) (omega (arith, long))
      (subst (λ (k : ℕ). Runs code (m + n) at s left v u (λ go. go k s left end u))
      (let ends : here + n ≡ at + whole = omega (arith, long) in ends)
      (first_moves code (λ t. t) at here s (with_value o (value_of first v) s) left left v v u u
      (λ go. go (here + n) s left end u)
      (expr_reached first Stack at s left v u refl (first_part code at (expr_code first) more h))
      (links_assigned rest operator e o here x (value_of first v) s left v u (expr_is_there first v)
      (later_part code at (expr_code first) more h))))

  -- What statements do, and then what stands at this place. Where it begins, other repetitions may be open.
  abbrev pub MakesFrom : ℕ → ℕ → List ℤ → List ℕ → List ℕ → List ℤ → List (List ℤ) → Trace → ℕ → Type 0
  MakesFrom m at s from left v u t at' = Runs code m at s from v u (λ go. then_do t (λ v' u'. go at' s left v' u'))

  abbrev pub Makes : ℕ → ℕ → List ℤ → List ℕ → List ℤ → List (List ℤ) → Trace → ℕ → Type 0
  Makes m at s left v u t at' = MakesFrom m at s left left v u t at'

  -- one after the other
  pub makes_both : (m n : ℕ) (t : Trace) (f : List ℤ → List (List ℤ) → Trace) (at at1 at2 : ℕ) (s : List ℤ)
      (from left : List ℕ) (v : List ℤ) (u : List (List ℤ)) → MakesFrom m at s from left v u t at1
      → ((v' : List ℤ) (u' : List (List ℤ)) → Makes n at1 s left v' u' (f v' u') at2)
      → MakesFrom (m + n) at s from left v u (then_do t f) at2
  makes_both m n t f at at1 at2 s from left v u a b =
      rephrased code at s from v u _ _ (λ go. sym (then_do_then t f (λ v' u'. go at2 s left v' u')))
      (first_makes code t at at1 s s from left v u (λ v' u' go. then_do (f v' u') (λ v2 u2. go at2 s left v2 u2)) a
      (λ v' u' e. b v' u'))

  -- and then a jump
  pub makes_and_jumps : (m : ℕ) (t : Trace) (at at1 to : ℕ) (s : List ℤ) (from left : List ℕ) (v : List ℤ)
      (u : List (List ℤ)) → slice_get code at1 ≡ Some (Jump to) → MakesFrom m at s from left v u t at1
      → MakesFrom (m + 1) at s from left v u t to
  makes_and_jumps m t at at1 to s from left v u h a =
      first_makes code t at at1 s s from left v u (λ v' u' go. go to s left v' u') a
      (λ v' u' e. single_step code at1 s left v' u' (Jump to) h)

  -- a choice: its parts, and where they stand
  module _ (at : ℕ) (test : List Instruction) (value : Operand) (first second : ℕ → List Instruction) where
    abbrev one_at : ℕ
    one_at = at + length test + 1

    abbrev jump_at : ℕ
    jump_at = one_at + length (first one_at)

    abbrev two_at : ℕ
    two_at = one_at + length (first one_at) + 1

    abbrev end_at : ℕ
    end_at = two_at + length (second two_at)

    pub at_end : end_at ≡ at + length (if_code at test value first second)
    at_end =
        omega (
          arith,
          length-append test (JumpIfZero two_at value ∷ (first one_at ++ Jump end_at ∷ second two_at)),
          length-append (first one_at) (Jump end_at ∷ second two_at),
        )

    behind_test : IsCodeAt code at (if_code at test value first second)
        → IsCodeAt code (at + length test) (JumpIfZero two_at value ∷ (first one_at ++ Jump end_at ∷ second two_at))
    behind_test h = later_part code at test (JumpIfZero two_at value ∷ (first one_at ++ Jump end_at ∷ second two_at)) h

    pub first_stands : IsCodeAt code at (if_code at test value first second) → IsCodeAt code one_at (first one_at)
    first_stands h = first_part code one_at (first one_at) (Jump end_at ∷ second two_at) (behind_test h).1

    -- the jump past the second block, and that block
    pub second_stands : IsCodeAt code at (if_code at test value first second)
        → IsCodeAt code jump_at (Jump end_at ∷ second two_at)
    second_stands h = later_part code one_at (first one_at) (Jump end_at ∷ second two_at) (behind_test h).1

    abbrev if_length : ℕ
    if_length = length (if_code at test value first second)

    choice_made : (m1 m2 : ℕ) (x : ℤ) (a b : Trace) (s : List ℤ) (left : List ℕ) (v : List ℤ) (u : List (List ℤ))
        → IsCodeAt code at (if_code at test value first second)
        → Reaches (length test) at s left v u (at + length test) (with_value value x s) → IsThere value x v
        → (IsCodeAt code one_at (first one_at) → Makes m1 one_at s left v u a jump_at)
        → (IsCodeAt code two_at (second two_at) → Makes m2 two_at s left v u b end_at)
        → Makes (length test + (1 + (m1 + (1 + m2)))) at s left v u (choose x a b) (at + if_length)
    choice_made m1 m2 x a b s left v u h tested there p q =
        ends_at code (length test + (1 + (m1 + (1 + m2)))) (length test + (1 + (m1 + (1 + m2)))) at end_at
        (at + if_length) s s left v u (choose x a b) at_end (omega arith)
        (by (int_eq x (pos 0)) refl)
      where
        tests : Runs code (length test + 1) at s left v u
            (λ go. cond (int_eq x (pos 0)) (go two_at s left v u) (go one_at s left v u))
        tests = first_moves code (λ t. t) at (at + length test) s (with_value value x s) left left v v u u
            (λ go. cond (int_eq x (pos 0)) (go two_at s left v u) (go one_at s left v u)) tested
            (rephrased code (at + length test) (with_value value x s) left v u _ _
            (λ go. ap (λ (y : ℤ). cond (int_eq y (pos 0)) (go two_at (behind_value value (with_value value x s)) left v u)
            (go one_at (behind_value value (with_value value x s)) left v u)) (there s)
            ∙ ap (λ (r : List ℤ). cond (int_eq x (pos 0)) (go two_at r left v u) (go one_at r left v u))
            (stack_behind value x s))
            (single_step code (at + length test) (with_value value x s) left v u (JumpIfZero two_at value) (behind_test h).0))

        by : (zero_is : Bool) → int_eq x (pos 0) ≡ zero_is
            → Makes (length test + (1 + (m1 + (1 + m2)))) at s left v u (cond (int_eq x (pos 0)) b a) end_at
        by true is =
            in_more_steps code (length test + 1 + m2) (length test + (1 + (m1 + (1 + m2)))) at s left v u
            _ (omega arith)
            (rephrased code at s left v u
            _ _ (λ go. ap (λ (z : Bool). then_do (cond z b a) (λ v' u'. go end_at s left v' u')) (sym is))
            (first_moves code (λ t. t) at two_at s s left left v v u u
            (λ go. then_do b (λ v' u'. go end_at s left v' u'))
            (rephrased code at s left v u
            _ _ (λ go. ap (λ (z : Bool). cond z (go two_at s left v u) (go one_at s left v u)) is) tests)
            (q (second_stands h).1)))
        by false is =
            in_more_steps code (length test + 1 + (m1 + 1)) (length test + (1 + (m1 + (1 + m2)))) at s left v u
            _ (omega arith)
            (rephrased code at s left v u
            _ _ (λ go. ap (λ (z : Bool). then_do (cond z b a) (λ v' u'. go end_at s left v' u')) (sym is))
            (first_moves code (λ t. t) at one_at s s left left v v u u
            (λ go. then_do a (λ v' u'. go end_at s left v' u'))
            (rephrased code at s left v u
            _ _ (λ go. ap (λ (z : Bool). cond z (go two_at s left v u) (go one_at s left v u)) is) tests)
            (makes_and_jumps m1 a one_at jump_at end_at s left left v u (second_stands h).0
            (p (first_stands h)))))

  -- a repetition: where its block is through, it goes back or on
  module _ (site : ℕ) (body : Block) (inside jump m : ℕ) (s : List ℤ) (left : List ℕ)
      (again_stands : slice_get code jump ≡ Some (Again inside))
      (pass_made : (k : ℕ) (v : List ℤ) (u : List (List ℤ))
      → Makes m inside s (left ++ k ∷ []) v u (trace_of site (left ++ k ∷ []) body v u) jump) where
    abbrev pass : ℕ → List ℤ → List (List ℤ) → Trace
    pass k = trace_of site (left ++ k ∷ []) body

    goes_on : (v : List ℤ) (u : List (List ℤ))
        → Runs code 1 jump s (left ++ 1 ∷ []) v u (λ go. go (jump + 1) s left v u)
    goes_on v u =
        rephrased code jump s (left ++ 1 ∷ []) v u _ (λ go. go (jump + 1) s left v u)
        (λ go. ap (λ (k : ℕ). cond (nat_lt 1 k) (go inside s (round_it (left ++ 1 ∷ []) ++ (k - 1) ∷ []) v u)
        (go (jump + 1) s (round_it (left ++ 1 ∷ [])) v u)) (innermost_is left 1)
        ∙ ap (λ (l : List ℕ). go (jump + 1) s l v u) (round_it_is left 1))
        (single_step code jump s (left ++ 1 ∷ []) v u (Again inside) again_stands)

    goes_back : (k : ℕ) (v : List ℤ) (u : List (List ℤ))
        → Runs code 1 jump s (left ++ suc (suc k) ∷ []) v u (λ go. go inside s (left ++ suc k ∷ []) v u)
    goes_back k v u =
        let from = left ++ suc (suc k) ∷ [] in
        let more : nat_lt 1 (suc (suc k)) ≡ true = lt-ltb 1 (suc (suc k)) (omega arith) in
        let one_less : suc (suc k) - 1 ≡ suc k = omega arith in
        rephrased code jump s from v u _ (λ go. go inside s (left ++ suc k ∷ []) v u)
        (λ go. ap (λ (j : ℕ). cond (nat_lt 1 j) (go inside s (round_it from ++ (j - 1) ∷ []) v u)
        (go (jump + 1) s (round_it from) v u)) (innermost_is left (suc (suc k)))
        ∙ (ap (λ (b : Bool). cond b (go inside s (round_it from ++ (suc (suc k) - 1) ∷ []) v u)
        (go (jump + 1) s (round_it from) v u)) more
        ∙ (ap (λ (l : List ℕ). go inside s (l ++ (suc (suc k) - 1) ∷ []) v u) (round_it_is left (suc (suc k)))
        ∙ ap (λ (j : ℕ). go inside s (left ++ j ∷ []) v u) one_less)))
        (single_step code jump s from v u (Again inside) again_stands)

    -- behind a pass, those that remain past it
    pub again_made : (k : ℕ) (v : List ℤ) (u : List (List ℤ))
        → MakesFrom (1 + k * (m + 1)) jump s (left ++ suc k ∷ []) left v u (rounds k pass v u) (jump + 1)
    again_made zero v u =
        in_more_steps code 1 (1 + 0 * (m + 1)) jump s (left ++ 1 ∷ []) v u
        (λ go. then_do (no_steps (Ended v u)) (λ v' u'. go (jump + 1) s left v' u')) (omega arith) (goes_on v u)
    again_made (suc k) v u =
        in_more_steps code (1 + (m + (1 + k * (m + 1)))) (1 + suc k * (m + 1)) jump s (left ++ suc (suc k) ∷ []) v u
        (λ go. then_do (rounds (suc k) pass v u) (λ v' u'. go (jump + 1) s left v' u')) (omega arith)
        (first_moves code (λ t. t) jump inside s s (left ++ suc (suc k) ∷ []) (left ++ suc k ∷ []) v v u u
        (λ go. then_do (rounds (suc k) pass v u) (λ v' u'. go (jump + 1) s left v' u')) (goes_back k v u)
        (rephrased code inside s (left ++ suc k ∷ []) v u
        _ _ (λ go. sym (then_do_then (pass (suc k) v u) (rounds k pass) (λ v' u'. go (jump + 1) s left v' u')))
        (first_makes code (pass (suc k) v u) inside jump s s (left ++ suc k ∷ []) (left ++ suc k ∷ []) v u
        (λ v' u' go. then_do (rounds k pass v' u') (λ w x. go (jump + 1) s left w x)) (pass_made (suc k) v u)
        (λ v' u' e. again_made k v' u'))))

    -- all of its passes, from where it is opened
    pub rounds_made : (at times : ℕ) (v : List ℤ) (u : List (List ℤ))
        → slice_get code at ≡ Some (Repeat times (jump + 1)) → at + 1 ≡ inside
        → Makes (1 + times * (m + 1)) at s left v u (rounds times pass v u) (jump + 1)
    rounds_made at zero v u here next =
        in_more_steps code 1 (1 + 0 * (m + 1)) at s left v u
        (λ go. then_do (no_steps (Ended v u)) (λ v' u'. go (jump + 1) s left v' u')) (omega arith)
        (single_step code at s left v u (Repeat 0 (jump + 1)) here)
    rounds_made at (suc k) v u here next =
        in_more_steps code (1 + (m + (1 + k * (m + 1)))) (1 + suc k * (m + 1)) at s left v u
        (λ go. then_do (rounds (suc k) pass v u) (λ v' u'. go (jump + 1) s left v' u')) (omega arith)
        (first_moves code (λ t. t) at inside s s left (left ++ suc k ∷ []) v v u u
        (λ go. then_do (rounds (suc k) pass v u) (λ v' u'. go (jump + 1) s left v' u'))
        (rephrased code at s left v u _ (λ go. go inside s (left ++ suc k ∷ []) v u)
        (λ go. ap (λ (b : Bool). cond b (go (jump + 1) s left v u) (go (at + 1) s (left ++ suc k ∷ []) v u)) some
        ∙ ap (λ (n : ℕ). go n s (left ++ suc k ∷ []) v u) next)
        (single_step code at s left v u (Repeat (suc k) (jump + 1)) here))
        (rephrased code inside s (left ++ suc k ∷ []) v u
        _ _ (λ go. sym (then_do_then (pass (suc k) v u) (rounds k pass) (λ v' u'. go (jump + 1) s left v' u')))
        (first_makes code (pass (suc k) v u) inside jump s s (left ++ suc k ∷ []) (left ++ suc k ∷ []) v u
        (λ v' u' go. then_do (rounds k pass v' u') (λ w x. go (jump + 1) s left w x)) (pass_made (suc k) v u)
        (λ v' u' e. again_made k v' u'))))
      where
        some : (suc k == 0) ≡ false
        some = ne_eqb (suc k) 0 (λ e. let no : ⊥ = omega (arith, e) in no)

  -- its parts, and where they stand
  module _ (at times : ℕ) (block : ℕ → List Instruction) where
    abbrev inside_at : ℕ
    inside_at = at + 1

    abbrev pub again_at : ℕ
    again_at = inside_at + length (block inside_at)

    abbrev repeat_length : ℕ
    repeat_length = length (repeat_code at times block)

    pub behind_again : again_at + 1 ≡ at + repeat_length
    behind_again = omega (arith, length-append (block inside_at) (Again inside_at ∷ []))

    pub block_stands : IsCodeAt code at (repeat_code at times block) → IsCodeAt code inside_at (block inside_at)
    block_stands h = first_part code inside_at (block inside_at) (Again inside_at ∷ []) h.1

    pub again_stands_at : IsCodeAt code at (repeat_code at times block)
        → slice_get code again_at ≡ Some (Again inside_at)
    again_stands_at h = (later_part code inside_at (block inside_at) (Again inside_at ∷ []) h.1).0

  -- the code of statements performs what they do
  pub block_made : (b : Block) (at site : ℕ) (s : List ℤ) (left : List ℕ) (v : List ℤ) (u : List (List ℤ))
      → IsCodeAt code at (block_code at site b)
      → Makes (most_of b) at s left v u (trace_of site left b v u) (at + length (block_code at site b))
  block_made Nothing at site s left v u h =
      ends_at code 0 0 at at (at + 0) s s left v u (no_steps (Ended v u)) (let e : at ≡ at + 0 = omega arith in e)
      (omega arith) (not_moved code at s left v u)
  block_made (GetThen x c rest) at site s left v u h =
      by (history_of u c) (single_step code at s left v u (Get x c site) h.0)
      (λ w x. block_made rest (at + 1) (site + 1) s left w x h.1)
    where
      by : (all : List ℤ)
          → Runs code 1 at s left v u
          (λ go. on_get all (point_at site left) c v (λ item later. go (at + 1) s left (set v x item) (set u c later)))
          → ((w : List ℤ) (y : List (List ℤ))
          → Makes (most_of rest) (at + 1) s left w y
          (trace_of (site + 1) left rest w y) (at + 1 + length (block_code (at + 1) (site + 1) rest)))
          → Makes (most_of (GetThen x c rest)) at s left v u
          (on_get all (point_at site left) c v
          (λ item later. trace_of (site + 1) left rest (set v x item) (set u c later)))
          (at + length (block_code at site (GetThen x c rest)))
      by [] a more =
          in_more_steps code 1 (most_of (GetThen x c rest)) at s left v u _ (omega arith) a
      by (item ∷ later) a more =
          let n = most_of rest in
          let t = trace_of (site + 1) left rest (set v x item) (set u c later) in
          let to = at + length (block_code at site (GetThen x c rest)) in
          first_moves code (after_step (record { point = point_at site left; vars = v; act = Got c item })) at
          (at + 1) s s left left v (set v x item) u (set u c later)
          (λ go. then_do t (λ v' u'. go to s left v' u')) a
          (ends_at code n n (at + 1) (at + 1 + length (block_code (at + 1) (site + 1) rest)) to s s left
          (set v x item) (set u c later) t (omega arith) (omega arith)
          (more (set v x item) (set u c later)))
  block_made (AssignThen x e rest) at site s left v u h =
      let c = assign_code x e in
      let r = block_code (at + length c) site rest in
      let w = set v x (value_of e v) in
      let all_long : length (c ++ r) ≡ length c + length r = length-append c r in
      (first_moves code (λ t. t) at (at + length c) s s left left v w u u
      (λ go. then_do (trace_of site left rest w u) (λ v' u'. go (at + length (c ++ r)) s left v' u'))
      (expr_assigned e at x s left v u (first_part code at c r h))
      (ends_at code (most_of rest) (most_of rest) (at + length c) (at + length c + length r) (at + length (c ++ r)) s s left w
      u (trace_of site left rest w u) (omega (arith, all_long)) (omega arith)
      (block_made rest (at + length c) site s left w u (later_part code at c r h))))
  block_made (PutThen e d rest) at site s left v u h =
      let m = length (expr_code e) in
      let c = expr_code e ++ Put d site (operand_of e) ∷ [] in
      let r = block_code (at + length c) (site + 1) rest in
      let mine = first_part code at c r h in
      let here = at + m in
      let reached = with_value (operand_of e) (value_of e v) s in
      let step : ℤ → Step = λ y. record { point = point_at site left; vars = v; act = Sent d y } in
      let puts = after_step (step (value_of e v)) in
      let c_long : length c ≡ m + 1 = length-append (expr_code e) (Put d site (operand_of e) ∷ []) in
      let all_long : length (c ++ r) ≡ length c + length r = length-append c r in
      (first_moves code puts at (at + length c) s s left left v v u u
      (λ go. then_do (trace_of (site + 1) left rest v u) (λ v' u'. go (at + length (c ++ r)) s left v' u'))
      (first_moves code (λ t. t) at here s reached left left v v u u
      (λ go. puts (go (at + length c) s left v u))
      (expr_reached e Stack at s left v u refl (first_part code at (expr_code e) (Put d site (operand_of e) ∷ []) mine))
      (subst (λ (n : ℕ). Runs code 1 here reached left v u (λ go. puts (go n s left v u)))
      (let e1 : here + 1 ≡ at + length c = omega (arith, c_long) in e1)
      (rephrased code here reached left v u _ _
      (λ go. value_taken e v s (λ y r. after_step (step y) (go (here + 1) r left v u)))
      (single_step code here reached left v u (Put d site (operand_of e))
      (later_part code at (expr_code e) (Put d site (operand_of e) ∷ []) mine).0))))
      (ends_at code (most_of rest) (most_of rest) (at + length c) (at + length c + length r) (at + length (c ++ r)) s s left v
      u (trace_of (site + 1) left rest v u) (omega (arith, all_long)) (omega arith)
      (block_made rest (at + length c) (site + 1) s left v u (later_part code at c r h))))
  block_made (StopThen rest) at site s left v u h =
      in_more_steps code 1 (most_of (StopThen rest)) at s left v u _ (omega arith)
      (single_step code at s left v u Stop h.0)
  block_made (IfThen test first second rest) at site s left v u h =
      let one = λ (n : ℕ). block_code n site first in
      let two = λ (n : ℕ). block_code n (site + sites_of first) second in
      let c = if_code at (expr_code test) (operand_of test) one two in
      let r = block_code (at + length c) (site + sites_of first + sites_of second) rest in
      let x = value_of test v in
      let mine = first_part code at c r h in
      let one_place = at + length (expr_code test) + 1 in
      let two_place = one_place + length (one one_place) + 1 in
      let all_long : length (c ++ r) ≡ length c + length r = length-append c r in
      let most = length (expr_code test) + (1 + (most_of first + (1 + most_of second))) in
      ends_at code (most + most_of rest) (most_of (IfThen test first second rest)) at (at + length c + length r)
      (at + length (c ++ r)) s s
      left v u (trace_of site left (IfThen test first second rest) v u) (omega (arith, all_long))
      (omega arith)
      (makes_both most (most_of rest)
      (choose x (trace_of site left first v u) (trace_of (site + sites_of first) left second v u))
      (trace_of (site + sites_of first + sites_of second) left rest)
      at (at + length c) (at + length c + length r) s left left v u
      (choice_made at (expr_code test) (operand_of test) one two (most_of first) (most_of second) x (trace_of site left first v u)
      (trace_of (site + sites_of first) left second v u) s left v u mine
      (expr_reached test Stack at s left v u refl
      (first_part code at (expr_code test)
      (JumpIfZero two_place (operand_of test) ∷ (one one_place ++ Jump (two_place + length (two two_place)) ∷ two two_place))
      mine))
      (expr_is_there test v)
      (λ k. block_made first one_place site s left v u k)
      (λ k. block_made second two_place (site + sites_of first) s left v u k))
      (λ v' u'. block_made rest (at + length c) (site + sites_of first + sites_of second) s left v' u'
      (later_part code at c r h)))
  block_made (RepeatThen times body rest) at site s left v u h =
      let block = λ (n : ℕ). block_code n site body in
      let c = repeat_code at times block in
      let r = block_code (at + length c) (site + sites_of body) rest in
      let mine = first_part code at c r h in
      let jump = again_at at times block in
      let all_long : length (c ++ r) ≡ length c + length r = length-append c r in
      let m = most_of body in
      let pass = λ (k : ℕ). trace_of site (left ++ k ∷ []) body in
      let go = trace_of (site + sites_of body) left rest in
      let ends : jump + 1 ≡ at + length c = behind_again at times block in
      ends_at code (1 + times * (m + 1) + most_of rest) (most_of (RepeatThen times body rest)) at
      (at + length c + length r) (at + length (c ++ r)) s s left v u
      (trace_of site left (RepeatThen times body rest) v u) (omega (arith, all_long)) (omega arith)
      (makes_both (1 + times * (m + 1)) (most_of rest) (rounds times pass v u) go at (at + length c)
      (at + length c + length r) s left left v u
      (ends_at code (1 + times * (m + 1)) (1 + times * (m + 1)) at (jump + 1) (at + length c) s s left v u
      (rounds times pass v u) ends (omega arith)
      (rounds_made site body (at + 1) jump m s left (again_stands_at at times block mine)
      (λ k v' u'. block_made body (at + 1) site s (left ++ k ∷ []) v' u' (block_stands at times block mine))
      at times v u mine.0 refl))
      (λ v' u'. block_made rest (at + length c) (site + sites_of body) s left v' u' (later_part code at c r h)))
