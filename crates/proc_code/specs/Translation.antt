-- The code of a process, and the table of its sites.
use Rattle.std.specs.Prelude.{ℕ, zero, suc, ◌+◌, ◌-◌, List, [], ◌∷◌, ◌++◌, length, Option, Some, None, cond, ◌==◌}
use Rattle.std.specs.Prelude.{nat_lt}
use Rattle.std.specs.Prelude.{max}
use Rattle.kahn_net.specs.Common.{Tree, Number, Name, Minus, Chain, Links, NoLinks, LinkThen, Block, Nothing, GetThen}
use Rattle.kahn_net.specs.Common.{AssignThen, PutThen, StopThen, IfThen, RepeatThen, Code, Next, Gets, Puts, sites_of}
use Rattle.proc_code.specs.declared.instruction.Instruction.{Instruction}
use Rattle.proc_code.specs.declared.instruction.Instruction.TheVariants.{Store, Negate, Apply, Get, Put}
use Rattle.proc_code.specs.declared.instruction.Instruction.TheVariants.{Jump, JumpIfZero, Repeat, Again, Stop}
use Rattle.proc_code.specs.declared.instruction.Instruction.TheVariants.{End}
use Rattle.proc_code.specs.declared.instruction.Destination.{Destination}
use Rattle.proc_code.specs.declared.instruction.Destination.TheVariants.{Stack, Variable as Into}
use Rattle.proc_code.specs.declared.instruction.Operand.{Operand}
use Rattle.proc_code.specs.declared.instruction.Operand.TheVariants.{Top, Variable, Literal}
use Rattle.proc_code.specs.declared.instruction.Site.{Site}
use Rattle.proc_code.specs.declared.instruction.SiteAct.{SiteAct}
use Rattle.proc_code.specs.declared.instruction.SiteAct.TheVariants.{Get as GetAct, Put as PutAct}

-- Where the value of an expression is behind its code: a variable's and a number stand where they are, and any other is
-- on the stack.
abbrev mutual
  pub operand_of : Tree → Operand
  operand_of (Number n) = Literal n
  operand_of (Name x) = Variable x
  operand_of (Minus value) = Top
  operand_of (Chain first links) = operand_behind (operand_of first) links

  -- and behind links, where it was there before them
  pub operand_behind : Operand → Links → Operand
  operand_behind value NoLinks = value
  operand_behind value (LinkThen operator right rest) = Top

-- where a value goes that so many links follow: the last one's to where that of the expression does
abbrev pub link_to : Destination → ℕ → Destination
link_to to zero = to
link_to to (suc later) = Stack

abbrev pub count_links : Links → ℕ
count_links NoLinks = 0
count_links (LinkThen operator right rest) = suc (count_links rest)

-- The code of an expression. Behind it its value is where `operand_of` says; but where that is the stack it has gone there.
abbrev mutual
  pub code_to : Destination → Tree → List Instruction
  code_to to (Number n) = []
  code_to to (Name x) = []
  code_to to (Minus value) = code_to Stack value ++ Negate (operand_of value) to ∷ []
  code_to to (Chain first links) = code_to (link_to to (count_links links)) first ++ links_code to (operand_of first) links

  -- and of links, where the value before them is there
  pub links_code : Destination → Operand → Links → List Instruction
  links_code to left NoLinks = []
  links_code to left (LinkThen operator right rest) =
      code_to Stack right
      ++ Apply operator left (operand_of right) (link_to to (count_links rest)) ∷ links_code to Top rest

abbrev pub expr_code : Tree → List Instruction
expr_code e = code_to Stack e

-- the code by which a variable takes a value that is there, behind what was written so far
abbrev pub with_store : Operand → ℕ → List Instruction → List Instruction
with_store Top x code = code
with_store (Variable y) x code = code ++ Store x (Variable y) ∷ []
with_store (Literal n) x code = code ++ Store x (Literal n) ∷ []

-- the code by which a variable takes an expression's value
abbrev pub assign_code : ℕ → Tree → List Instruction
assign_code x e = with_store (operand_of e) x (code_to (Into x) e)

-- An if whose code begins at this place: its test, whose value is then there, a jump to the second block where that is 0, the first block, a
-- jump behind the second one, and the second block. Where a block's code begins, it says what it is.
abbrev pub if_code : ℕ → List Instruction → Operand → (ℕ → List Instruction) → (ℕ → List Instruction)
    → List Instruction
if_code at test value first second =
    let one = at + length test + 1 in
    let two = one + length (first one) + 1 in
    test ++ JumpIfZero two value ∷ (first one ++ Jump (two + length (second two)) ∷ second two)

-- A repetition whose code begins at this place: it is opened, and behind its block it goes back there or on. Where its
-- block's code begins, it says what it is.
abbrev pub repeat_code : ℕ → ℕ → (ℕ → List Instruction) → List Instruction
repeat_code at times body =
    let inside = at + 1 in
    Repeat times (inside + length (body inside) + 1) ∷ (body inside ++ Again inside ∷ [])

-- statements whose code begins at this place, and whose first get or put has this site
abbrev pub block_code : ℕ → ℕ → Block → List Instruction
block_code at site Nothing = []
block_code at site (GetThen x channel rest) = Get x channel site ∷ block_code (at + 1) (site + 1) rest
block_code at site (AssignThen x e rest) =
    let assign = assign_code x e in
    assign ++ block_code (at + length assign) site rest
block_code at site (PutThen e channel rest) =
    let put = expr_code e ++ Put channel site (operand_of e) ∷ [] in
    put ++ block_code (at + length put) (site + 1) rest
block_code at site (StopThen rest) = Stop ∷ block_code (at + 1) site rest
block_code at site (IfThen test first second rest) =
    let choice = if_code at (expr_code test) (operand_of test) (λ n. block_code n site first)
    (λ n. block_code n (site + sites_of first) second) in
    choice ++ block_code (at + length choice) (site + sites_of first + sites_of second) rest
block_code at site (RepeatThen times body rest) =
    let repeated = repeat_code at times (λ n. block_code n site body) in
    repeated ++ block_code (at + length repeated) (site + sites_of body) rest

-- a loop's body, and a jump back to it; where there is no loop, the end
abbrev pub loop_code : ℕ → ℕ → Option Block → List Instruction
loop_code at site None = End ∷ []
loop_code at site (Some body) = block_code at site body ++ Jump at ∷ []

-- a process: its prelude, and then its loop
abbrev pub process_code : Code → List Instruction
process_code code =
    block_code 0 0 code.prelude ++ loop_code (length (block_code 0 0 code.prelude)) (sites_of code.prelude) code.body

-- Where the code of a site begins, among statements whose first site has the number `number`: of a get at its own
-- instruction, of a put at the first one of its expression. Of a site past theirs it is where their code ends.
abbrev pub entry_at : ℕ → ℕ → Block → ℕ → ℕ
entry_at at number Nothing site = at
entry_at at number (GetThen x channel rest) site =
    cond (number == site) at (entry_at (at + 1) (number + 1) rest site)
entry_at at number (AssignThen x e rest) site = entry_at (at + length (assign_code x e)) number rest site
entry_at at number (PutThen e channel rest) site =
    cond (number == site) at
    (entry_at (at + length (expr_code e ++ Put channel number (operand_of e) ∷ [])) (number + 1) rest site)
entry_at at number (StopThen rest) site = entry_at (at + 1) number rest site
entry_at at number (IfThen test first second rest) site =
    let one = at + length (expr_code test) + 1 in
    let two = one + length (block_code one number first) + 1 in
    let choice = if_code at (expr_code test) (operand_of test) (λ n. block_code n number first)
    (λ n. block_code n (number + sites_of first) second) in
    cond (nat_lt site (number + sites_of first)) (entry_at one number first site)
    (cond (nat_lt site (number + sites_of first + sites_of second)) (entry_at two (number + sites_of first) second site)
    (entry_at (at + length choice) (number + sites_of first + sites_of second) rest site))
entry_at at number (RepeatThen times body rest) site =
    let repeated = repeat_code at times (λ n. block_code n number body) in
    cond (nat_lt site (number + sites_of body)) (entry_at (at + 1) number body site)
    (entry_at (at + length repeated) (number + sites_of body) rest site)

abbrev pub loop_entry : ℕ → ℕ → Option Block → ℕ → ℕ
loop_entry at number None site = at
loop_entry at number (Some body) site = entry_at at number body site

-- where the code of a site of a process begins
abbrev pub entry_of : Code → ℕ → ℕ
entry_of code site =
    cond (nat_lt site (sites_of code.prelude)) (entry_at 0 0 code.prelude site)
    (loop_entry (length (block_code 0 0 code.prelude)) (sites_of code.prelude) code.body site)

abbrev pub get_site : ℕ → ℕ → Site
get_site channel entry = record { act = GetAct channel; entry = entry }

abbrev pub put_site : ℕ → ℕ → Site
put_site channel entry = record { act = PutAct channel; entry = entry }

-- the sites of statements whose code begins at this place, in order of the text
abbrev pub sites_at : ℕ → ℕ → Block → List Site
sites_at at number Nothing = []
sites_at at number (GetThen x channel rest) = get_site channel at ∷ sites_at (at + 1) (number + 1) rest
sites_at at number (AssignThen x e rest) = sites_at (at + length (assign_code x e)) number rest
sites_at at number (PutThen e channel rest) =
    put_site channel at ∷ sites_at (at + length (expr_code e ++ Put channel number (operand_of e) ∷ [])) (number + 1) rest
sites_at at number (StopThen rest) = sites_at (at + 1) number rest
sites_at at number (IfThen test first second rest) =
    let one = at + length (expr_code test) + 1 in
    let two = one + length (block_code one number first) + 1 in
    let choice = if_code at (expr_code test) (operand_of test) (λ n. block_code n number first)
    (λ n. block_code n (number + sites_of first) second) in
    (sites_at one number first ++ sites_at two (number + sites_of first) second)
    ++ sites_at (at + length choice) (number + sites_of first + sites_of second) rest
sites_at at number (RepeatThen times body rest) =
    let repeated = repeat_code at times (λ n. block_code n number body) in
    sites_at (at + 1) number body ++ sites_at (at + length repeated) (number + sites_of body) rest

abbrev pub loop_sites : ℕ → ℕ → Option Block → List Site
loop_sites at number None = []
loop_sites at number (Some body) = sites_at at number body

abbrev pub process_sites : Code → List Site
process_sites code =
    sites_at 0 0 code.prelude
    ++ loop_sites (length (block_code 0 0 code.prelude)) (sites_of code.prelude) code.body

-- what a process does next that stands there
abbrev pub next_by : SiteAct → Next
next_by (GetAct channel) = Gets channel
next_by (PutAct channel) = Puts channel

-- how many values are on the stack once this one was taken, where so many were before
abbrev pub height_behind : Operand → ℕ → ℕ
height_behind Top height = height - 1
height_behind (Variable x) height = height
height_behind (Literal n) height = height

-- how many values are on the stack once one went there, where so many were before
abbrev pub height_with : Destination → ℕ → ℕ
height_with Stack height = height + 1
height_with (Into x) height = height

-- how many values are on the stack behind an instruction, where so many were before it
abbrev pub height_after : Instruction → ℕ → ℕ
height_after (Store x value) height = height_behind value height
height_after (Negate value to) height = height_with to (height_behind value height)
height_after (Apply operator left right to) height = height_with to (height_behind left (height_behind right height))
height_after (Get x channel site) height = height
height_after (Put channel site value) height = height_behind value height
height_after (Jump target) height = height
height_after (JumpIfZero target value) height = height_behind value height
height_after (Repeat times behind) height = height
height_after (Again target) height = height
height_after Stop height = height
height_after End height = height

-- The most values that are on the stack at once: so many before these instructions, where so many are on it now, or as
-- many as one of them leaves there. Jumps don't count, since there is nothing on the stack between statements.
abbrev pub greatest_height : ℕ → ℕ → List Instruction → ℕ
greatest_height greatest height [] = greatest
greatest_height greatest height (i ∷ code) =
    greatest_height (max greatest (height_after i height)) (height_after i height) code

-- how many repetitions are open behind an instruction, where so many were before it
abbrev pub nesting_after : Instruction → ℕ → ℕ
nesting_after (Repeat times behind) nesting = nesting + 1
nesting_after (Again target) nesting = nesting - 1
nesting_after (Store x value) nesting = nesting
nesting_after (Negate value to) nesting = nesting
nesting_after (Apply operator left right to) nesting = nesting
nesting_after (Get x channel site) nesting = nesting
nesting_after (Put channel site value) nesting = nesting
nesting_after (Jump target) nesting = nesting
nesting_after (JumpIfZero target value) nesting = nesting
nesting_after Stop nesting = nesting
nesting_after End nesting = nesting

-- the most repetitions that are open at once, as the greatest height is counted
abbrev pub greatest_nesting : ℕ → ℕ → List Instruction → ℕ
greatest_nesting greatest nesting [] = greatest
greatest_nesting greatest nesting (i ∷ code) =
    greatest_nesting (max greatest (nesting_after i nesting)) (nesting_after i nesting) code

-- a process's code as data: its instructions, its sites in order, and the room that its stacks of values and of passes
-- take
pub record FlatCode : Type 0 where
  pub instructions : List Instruction
  pub sites : List Site
  pub deepest : ℕ
  pub nesting : ℕ

abbrev pub flat_code : Code → FlatCode
flat_code code = record {
  instructions = process_code code;
  sites = process_sites code;
  deepest = greatest_height 0 0 (process_code code);
  nesting = greatest_nesting 0 0 (process_code code);
}
