-- What the compiler writes, over plain lists.
use Rattle.std.proofs.Common.{◌≡◌, ℕ, suc, ◌+◌, List, [], ◌∷◌, ◌++◌, length, set, drop, refl, sym, ap, ◌∙◌, arith}
use Rattle.std.proofs.Common.{append_assoc, length-append, Vec, Box, Global}
use Rattle.std.proofs.Math.Seq.{set-append_seam}
use Rattle.kahn_net.specs.Common.{Tree, Chain, Block, IfThen, RepeatThen, links_of, tree_of, then_of, block_of, sites_of}
use Rattle.kahn_net.specs.Laws.Syntax.{chain_of, if_of, repeat_of}
use Rattle.kahn_net.specs.declared.program.Link.{Link}
use Rattle.kahn_net.specs.declared.program.Expr.{Expr}
use Rattle.kahn_net.specs.declared.program.Expr.TheViews as view
use Rattle.kahn_net.specs.declared.program.Statement.{Statement}
use Rattle.kahn_net.specs.declared.program.Statement.TheViews as statement
use Rattle.proc_code.specs.declared.instruction.Instruction.{Instruction}
use Rattle.proc_code.specs.declared.instruction.Destination.{Destination}
use Rattle.proc_code.specs.declared.instruction.Operand.{Operand}
use Rattle.proc_code.specs.declared.instruction.Site.{Site}
use Rattle.proc_code.specs.declared.instruction.Instruction.TheVariants.{Jump, JumpIfZero, Repeat, Again}
use Rattle.proc_code.specs.Translation.{code_to, count_links, expr_code, link_to, links_code, if_code, operand_behind, operand_of}
use Rattle.proc_code.specs.Translation.{repeat_code, block_code, sites_at}
use Rattle.proc_code.specs.Laws.Sites.{length_sites}
use Rattle.proc_code.specs.Emitting.{Emits}

-- as many links as there are
pub counted_links : (items : List Link) → count_links (links_of items) ≡ length items
counted_links [] = refl
counted_links (link ∷ items) = ap suc (counted_links items)

-- a chain, before its links are reached
pub chain_starts : (e : Expr) (first : Box Expr Global) (links : Vec Link Global) (items : List Link)
    (code code' : List Instruction) (to : Destination) (left : Operand) (later : ℕ) → e ≡ view.Chain first links
    → items ≡ links.items → left ≡ operand_of (tree_of first.value) → later ≡ length links.items
    → code' ≡ code ++ code_to (link_to to later) (tree_of first.value)
    → (code' ++ links_code to left (links_of (drop 0 items)) ≡ code ++ code_to to (tree_of e))
    × (operand_behind left (links_of (drop 0 items)) ≡ operand_of (tree_of e))
    × (later ≡ count_links (links_of (drop 0 items)))
chain_starts e first links items code code' to left later h k o many t =
    let f = tree_of first.value in
    let whole : tree_of e ≡ Chain f (links_of links.items) = ap tree_of h ∙ chain_of first links in
    let count : later ≡ count_links (links_of links.items) = many ∙ sym (counted_links links.items) in (
      ap (λ (l : List Instruction). l ++ links_code to left (links_of items)) t
          ∙ append_assoc code (code_to (link_to to later) f) (links_code to left (links_of items))
          ∙ ap (λ (l : Operand). code ++ (code_to (link_to to later) f ++ links_code to l (links_of items))) o
          ∙ ap (λ (is : List Link). code ++ (code_to (link_to to later) f ++ links_code to (operand_of f) (links_of is))) k
          ∙ ap (λ (n : ℕ). code ++ (code_to (link_to to n) f ++ links_code to (operand_of f) (links_of links.items))) count
          ∙ sym (ap (λ (x : Tree). code ++ code_to to x) whole),
      ap (λ (l : Operand). operand_behind l (links_of items)) o
          ∙ ap (λ (is : List Link). operand_behind (operand_of f) (links_of is)) k ∙ sym (ap operand_of whole),
      count ∙ ap (λ (is : List Link). count_links (links_of is)) (sym k),
    )

-- something written behind
pub emits : (code : List Instruction) (table : List Site) (code' : List Instruction) (table' : List Site)
    (c : List Instruction) (es : List Site) (sites : ℕ) (before : Block → Block) → code' ≡ code ++ c
    → table' ≡ table ++ es → length es ≡ sites
    → ((rest : Block)
    → block_code (length code) (length table) (before rest)
    ≡ c ++ block_code (length code + length c) (length table + sites) rest)
    → ((rest : Block)
    → sites_at (length code) (length table) (before rest)
    ≡ es ++ sites_at (length code + length c) (length table + sites) rest)
    → Emits code table code' table' before
emits code table code' table' c es sites before e f k p q =
    let at : length code' ≡ length code + length c = ap length e ∙ length-append code c in
    let number : length table' ≡ length table + sites =
    ap (length {A = Site}) f ∙ length-append table es ∙ ap (λ (n : ℕ). length table + n) k in
    record {
      code_is = λ rest.
          ap (λ (l : List Instruction). l ++ block_code (length code') (length table') rest) e
          ∙ ap (λ (n : ℕ). (code ++ c) ++ block_code n (length table') rest) at
          ∙ ap (λ (n : ℕ). (code ++ c) ++ block_code (length code + length c) n rest) number
          ∙ append_assoc code c (block_code (length code + length c) (length table + sites) rest)
          ∙ ap (λ (l : List Instruction). code ++ l) (sym (p rest));
      sites_are = λ rest.
          ap (λ (l : List Site). l ++ sites_at (length code') (length table') rest) f
          ∙ ap (λ (n : ℕ). (table ++ es) ++ sites_at n (length table') rest) at
          ∙ ap (λ (n : ℕ). (table ++ es) ++ sites_at (length code + length c) n rest) number
          ∙ append_assoc table es (sites_at (length code + length c) (length table + sites) rest)
          ∙ ap (λ (l : List Site). table ++ l) (sym (q rest));
    }

pub emits_as : (code : List Instruction) (table : List Site) (code' : List Instruction) (table' : List Site)
    (s t : Statement) → s ≡ t → Emits code table code' table' (then_of t) → Emits code table code' table' (then_of s)
emits_as code table code' table' s t e h = record {
  code_is =
      λ rest. h.code_is rest
      ∙ ap (λ (x : Statement). code ++ block_code (length code) (length table) (then_of x rest)) (sym e);
  sites_are =
      λ rest. h.sites_are rest
      ∙ ap (λ (x : Statement). table ++ sites_at (length code) (length table) (then_of x rest)) (sym e);
}

-- two jumps are written once it is known where they go
jump_written : (c b : List Instruction) (x i : Instruction) (n : ℕ) → n ≡ length c → set (c ++ x ∷ b) n i ≡ c ++ i ∷ b
jump_written c b x i n e = ap (λ (k : ℕ). set (c ++ x ∷ b) k i) e ∙ set-append_seam c x b i

if_written : (base test c1 c2 c3 c4 c5 : List Instruction) (value : Operand) (first second : ℕ → List Instruction) (x y : Instruction)
    (n1 n2 n3 : ℕ) → c1 ≡ base ++ test → n1 ≡ length c1 → c2 ≡ c1 ++ x ∷ [] → c3 ≡ c2 ++ first (length c2)
    → n2 ≡ length c3
    → c4 ≡ c3 ++ y ∷ [] → c5 ≡ c4 ++ second (length c4) → n3 ≡ length c5
    → set (set c5 n1 (JumpIfZero (n2 + 1) value)) n2 (Jump n3) ≡ base ++ if_code (length base) test value first second
if_written base test c1 c2 c3 c4 c5 value first second x y n1 n2 n3 e1 m1 e2 e3 m2 e4 e5 m3 =
    let one = length base + length test + 1 in
    let l1 = ap length e1 ∙ length-append base test in
    let at1 : length c2 ≡ one =
    ap length e2 ∙ length-append c1 (x ∷ []) ∙ (let s : length c1 + 1 ≡ one = omega (arith, l1) in s) in
    let a = first one in
    let e3' : c3 ≡ c2 ++ a = e3 ∙ ap (λ (n : ℕ). c2 ++ first n) at1 in
    let l3 = ap length e3' ∙ length-append c2 a in
    let two = one + length a + 1 in
    let at2 : length c4 ≡ two =
    ap length e4 ∙ length-append c3 (y ∷ []) ∙ (let s : length c3 + 1 ≡ two = omega (arith, l3, at1) in s) in
    let b = second two in
    let e5' : c5 ≡ c4 ++ b = e5 ∙ ap (λ (n : ℕ). c4 ++ second n) at2 in
    let l5 = ap length e5' ∙ length-append c4 b in
    let to1 : n2 + 1 ≡ two = omega (arith, m2, l3, at1) in
    let to2 : n3 ≡ two + length b = omega (arith, m3, l5, at2) in
    let i = JumpIfZero (n2 + 1) value in
    let j = Jump n3 in
    let at : n2 ≡ length (c1 ++ i ∷ a) = omega (arith, m2, l3, at1, l1, length-append c1 (i ∷ a)) in
    let all : c5 ≡ c1 ++ x ∷ (a ++ y ∷ b) =
    e5' ∙ ap (λ (l : List Instruction). l ++ b)
    (e4 ∙ ap (λ (l : List Instruction). l ++ y ∷ [])
    (e3' ∙ ap (λ (l : List Instruction). l ++ a) e2 ∙ append_assoc c1 (x ∷ []) a))
    ∙ append_assoc (c1 ++ x ∷ a) (y ∷ []) b ∙ append_assoc c1 (x ∷ a) (y ∷ b) in
    let first_jump : set c5 n1 i ≡ (c1 ++ i ∷ a) ++ y ∷ b =
    ap (λ (l : List Instruction). set l n1 i) all ∙ jump_written c1 (a ++ y ∷ b) x i n1 m1
    ∙ sym (append_assoc c1 (i ∷ a) (y ∷ b)) in
    let both : set (set c5 n1 i) n2 j ≡ (c1 ++ i ∷ a) ++ j ∷ b =
    ap (λ (l : List Instruction). set l n2 j) first_jump ∙ jump_written (c1 ++ i ∷ a) b y j n2 at in
    let placed : (c1 ++ i ∷ a) ++ j ∷ b ≡ base ++ (test ++ i ∷ (a ++ j ∷ b)) =
    append_assoc c1 (i ∷ a) (j ∷ b) ∙ ap (λ (l : List Instruction). l ++ i ∷ (a ++ j ∷ b)) e1
    ∙ append_assoc base test (i ∷ (a ++ j ∷ b)) in
    both ∙ (placed
    ∙ (ap (λ (k : Instruction). base ++ (test ++ k ∷ (a ++ j ∷ b))) (ap (λ (n : ℕ). JumpIfZero n value) to1)
    ∙ ap (λ (k : Instruction). base ++ (test ++ JumpIfZero two value ∷ (a ++ k ∷ b))) (ap Jump to2)))

pub if_emits : (s : Statement) (test : Expr) (first second : Vec Statement Global)
    (one_block two_block : List Statement) (code c1 c2 c3 c4 c5 : List Instruction) (table es3 es5 : List Site)
    (x y : Instruction) (value : Operand) (n1 n2 n3 : ℕ) → s ≡ statement.If test first second → one_block ≡ first.items
    → two_block ≡ second.items → value ≡ operand_of (tree_of test)
    → c1 ≡ code ++ expr_code (tree_of test) → n1 ≡ length c1 → c2 ≡ c1 ++ x ∷ []
    → c3 ≡ c2 ++ block_code (length c2) (length table) (block_of one_block)
    → es3 ≡ table ++ sites_at (length c2) (length table) (block_of one_block) → n2 ≡ length c3
    → c4 ≡ c3 ++ y ∷ []
    → c5 ≡ c4 ++ block_code (length c4) (length es3) (block_of two_block)
    → es5 ≡ es3 ++ sites_at (length c4) (length es3) (block_of two_block) → n3 ≡ length c5
    → Emits code table (set (set c5 n1 (JumpIfZero (n2 + 1) value)) n2 (Jump n3)) es5 (then_of s)
if_emits s test first second one_block two_block code c1 c2 c3 c4 c5 table es3 es5 x y value n1 n2 n3 is one_is two_is
    there e1 m1 e2 e3 f3 m2 e4 e5 f5 m3 =
    let tc = expr_code (tree_of test) in
    let p = block_of one_block in
    let q = block_of two_block in
    let number = length table in
    let number2 = number + sites_of p in
    let one = length code + length tc + 1 in
    let one_code = λ (n : ℕ). block_code n number p in
    let two_code = λ (n : ℕ). block_code n number2 q in
    let two = one + length (one_code one) + 1 in
    let choice = if_code (length code) tc (operand_of (tree_of test)) one_code two_code in
    let first_sites = sites_at one number p in
    let second_sites = sites_at two number2 q in
    let l1 = ap length e1 ∙ length-append code tc in
    let at1 : length c2 ≡ one =
    ap length e2 ∙ length-append c1 (x ∷ []) ∙ (let k : length c1 + 1 ≡ one = omega (arith, l1) in k) in
    let e3' : c3 ≡ c2 ++ one_code one = e3 ∙ ap (λ (n : ℕ). c2 ++ one_code n) at1 in
    let l3 = ap length e3' ∙ length-append c2 (one_code one) in
    let at2 : length c4 ≡ two =
    ap length e4 ∙ length-append c3 (y ∷ []) ∙ (let k : length c3 + 1 ≡ two = omega (arith, l3, at1) in k) in
    let f3' : es3 ≡ table ++ first_sites = f3 ∙ ap (λ (n : ℕ). table ++ sites_at n number p) at1 in
    let many : length es3 ≡ number2 =
    ap (length {A = Site}) f3' ∙ length-append table first_sites
    ∙ ap (λ (n : ℕ). number + n) (length_sites p one number) in
    let e5' : c5 ≡ c4 ++ two_code (length c4) = e5 ∙ ap (λ (n : ℕ). c4 ++ block_code (length c4) n q) many in
    let f5' : es5 ≡ table ++ (first_sites ++ second_sites) =
    f5 ∙ ap (λ (n : ℕ). es3 ++ sites_at n (length es3) q) at2 ∙ ap (λ (n : ℕ). es3 ++ sites_at two n q) many
    ∙ ap (λ (l : List Site). l ++ second_sites) f3' ∙ append_assoc table first_sites second_sites in
    let sites = sites_of p + sites_of q in
    let counted : length (first_sites ++ second_sites) ≡ sites =
    omega (arith, length-append first_sites second_sites, length_sites p one number, length_sites q two number2) in
    let whole : (rest : Block) → then_of (statement.If test first second) rest ≡ IfThen (tree_of test) p q rest =
    λ rest. if_of test first second rest
    ∙ ap (λ (l : List Statement). IfThen (tree_of test) (block_of l) (block_of second.items) rest) (sym one_is)
    ∙ ap (λ (l : List Statement). IfThen (tree_of test) p (block_of l) rest) (sym two_is) in
    let sum : number + sites_of p + sites_of q ≡ number + sites = omega arith in
    let done = set (set c5 n1 (JumpIfZero (n2 + 1) value)) n2 (Jump n3) in
    let written : done ≡ code ++ choice =
    if_written code tc c1 c2 c3 c4 c5 value one_code two_code x y n1 n2 n3 e1 m1 e2 e3 m2 e4 e5' m3
    ∙ ap (λ (o : Operand). code ++ if_code (length code) tc o one_code two_code) there in
    emits_as code table done es5 s (statement.If test first second) is
    (emits code table done es5 choice (first_sites ++ second_sites) sites (then_of (statement.If test first second)) written f5' counted
    (λ rest. ap (block_code (length code) number) (whole rest)
    ∙ ap (λ (n : ℕ). choice ++ block_code (length code + length choice) n rest) sum)
    (λ rest. ap (sites_at (length code) number) (whole rest)
    ∙ ap (λ (n : ℕ). (first_sites ++ second_sites) ++ sites_at (length code + length choice) n rest) sum))

-- a repetition is written once it is known where it ends
repeat_written : (base c1 c2 c3 : List Instruction) (times : ℕ) (block : ℕ → List Instruction) (x : Instruction)
    (n0 n1 : ℕ) → n0 ≡ length base → c1 ≡ base ++ x ∷ [] → c2 ≡ c1 ++ block (length c1)
    → c3 ≡ c2 ++ Again (n0 + 1) ∷ [] → n1 ≡ length c3
    → set c3 n0 (Repeat times n1) ≡ base ++ repeat_code (length base) times block
repeat_written base c1 c2 c3 times block x n0 n1 m0 e1 e2 e3 m1 =
    let inside = length base + 1 in
    let at1 : length c1 ≡ inside = ap length e1 ∙ length-append base (x ∷ []) in
    let b = block inside in
    let e2' : c2 ≡ c1 ++ b = e2 ∙ ap (λ (n : ℕ). c1 ++ block n) at1 in
    let l2 = ap length e2' ∙ length-append c1 b in
    let y = Again (n0 + 1) in
    let l3 = ap length e3 ∙ length-append c2 (y ∷ []) in
    let to : n1 ≡ inside + length b + 1 = omega (arith, m1, l3, l2, at1) in
    let back : n0 + 1 ≡ inside = omega (arith, m0) in
    let all : c3 ≡ base ++ x ∷ (b ++ y ∷ []) =
    e3 ∙ ap (λ (l : List Instruction). l ++ y ∷ [])
    (e2' ∙ ap (λ (l : List Instruction). l ++ b) e1 ∙ append_assoc base (x ∷ []) b)
    ∙ append_assoc base (x ∷ b) (y ∷ []) in
    ap (λ (l : List Instruction). set l n0 (Repeat times n1)) all
    ∙ jump_written base (b ++ y ∷ []) x (Repeat times n1) n0 m0
    ∙ ap (λ (n : ℕ). base ++ Repeat times n ∷ (b ++ y ∷ [])) to
    ∙ ap (λ (n : ℕ). base ++ Repeat times (inside + length b + 1) ∷ (b ++ Again n ∷ [])) back

pub repeat_emits : (s : Statement) (times : ℕ) (body : Vec Statement Global) (block : List Statement)
    (code c1 c2 c3 : List Instruction) (table es2 : List Site) (x : Instruction) (n0 n1 : ℕ)
    → s ≡ statement.Repeat times body → block ≡ body.items → n0 ≡ length code → c1 ≡ code ++ x ∷ []
    → c2 ≡ c1 ++ block_code (length c1) (length table) (block_of block)
    → es2 ≡ table ++ sites_at (length c1) (length table) (block_of block)
    → c3 ≡ c2 ++ Again (n0 + 1) ∷ [] → n1 ≡ length c3
    → Emits code table (set c3 n0 (Repeat times n1)) es2 (then_of s)
repeat_emits s times body block code c1 c2 c3 table es2 x n0 n1 is block_is m0 e1 e2 f2 e3 m1 =
    let p = block_of block in
    let number = length table in
    let inside = length code + 1 in
    let block_at = λ (n : ℕ). block_code n number p in
    let repeated = repeat_code (length code) times block_at in
    let inner_sites = sites_at inside number p in
    let at1 : length c1 ≡ inside = ap length e1 ∙ length-append code (x ∷ []) in
    let f2' : es2 ≡ table ++ inner_sites = f2 ∙ ap (λ (n : ℕ). table ++ sites_at n number p) at1 in
    let whole : (rest : Block) → then_of (statement.Repeat times body) rest ≡ RepeatThen times p rest =
    λ rest. repeat_of times body rest
    ∙ ap (λ (l : List Statement). RepeatThen times (block_of l) rest) (sym block_is) in
    let written = repeat_written code c1 c2 c3 times block_at x n0 n1 m0 e1 e2 e3 m1 in
    emits_as code table (set c3 n0 (Repeat times n1)) es2 s (statement.Repeat times body) is
    (emits code table (set c3 n0 (Repeat times n1)) es2 repeated inner_sites (sites_of p)
    (then_of (statement.Repeat times body)) written f2' (length_sites p inside number)
    (λ rest. ap (block_code (length code) number) (whole rest))
    (λ rest. ap (sites_at (length code) number) (whole rest)))
