-- A network without the pointers of its boxes and vectors: two networks that read alike are equal here.
use Rattle.std.specs.Prelude.{ℕ, ℤ, List, [], ◌∷◌, map, Option, Some, None, Vec}
use Rattle.kahn_net.specs.declared.program.Operator.{Operator}
use Rattle.kahn_net.specs.declared.program.Expr.{Expr, Literal, Variable, Negate', Chain', Row_of-Link, end_of-Link}
use Rattle.kahn_net.specs.declared.program.Expr.{more_of-Link}
use Rattle.kahn_net.specs.declared.program.Link.{Link}
use Rattle.kahn_net.specs.declared.program.Statement.{Statement, Get, Assign, Put, Stop, If', Repeat', Row_of-Statement}
use Rattle.kahn_net.specs.declared.program.Statement.{end_of-Statement, more_of-Statement}
use Rattle.kahn_net.specs.declared.program.Process.{Process}
use Rattle.kahn_net.specs.declared.program.Channel.{Channel}
use Rattle.kahn_net.specs.declared.program.Program.{Program}

mutual
  -- an expression
  pub data Tree : Type 0 where
    Number : (value : ℤ) → Tree
    Name : (variable : ℕ) → Tree
    Minus : (value : Tree) → Tree
    Chain : (first : Tree) (links : Links) → Tree

  -- the links of a chain of operators, each with those after it
  pub data Links : Type 0 where
    NoLinks : Links
    LinkThen : (operator : Operator) (value : Tree) (rest : Links) → Links

-- statements in a row: each one with those after it
pub data Block : Type 0 where
  Nothing : Block
  GetThen : (variable channel : ℕ) (rest : Block) → Block
  AssignThen : (variable : ℕ) (value : Tree) (rest : Block) → Block
  PutThen : (value : Tree) (channel : ℕ) (rest : Block) → Block
  StopThen : (rest : Block) → Block
  IfThen : (test : Tree) (first second rest : Block) → Block
  RepeatThen : (times : ℕ) (body rest : Block) → Block

-- the code of a process: its node, the first values of its variables, its prelude and the body of its loop
pub record Code : Type 0 where
  pub node : ℕ
  pub vars : List ℤ
  pub prelude : Block
  pub body : Option Block

-- a network as data without pointers: its channels, by what stands at their two ends, and the code of its processes
pub record Network : Type 0 where
  pub channels : List Channel
  pub codes : List Code

abbrev mutual
  pub tree_of : Expr → Tree
  tree_of (Literal n) = Number n
  tree_of (Variable x) = Name x
  tree_of (Negate' p value) = Minus (tree_of value)
  tree_of (Chain' p first shape links) = Chain (tree_of first) (row_of links)

  pub row_of : {m : _} → Row_of-Link m → Links
  row_of end_of-Link = NoLinks
  row_of (more_of-Link operator value rest) = LinkThen operator (tree_of value) (row_of rest)

abbrev pub links_of : List Link → Links
links_of [] = NoLinks
links_of (l ∷ ls) = LinkThen l.operator (tree_of l.value) (links_of ls)

abbrev mutual
  pub then_of : Statement → Block → Block
  then_of (Get x channel) rest = GetThen x channel rest
  then_of (Assign x e) rest = AssignThen x (tree_of e) rest
  then_of (Put e channel) rest = PutThen (tree_of e) channel rest
  then_of Stop rest = StopThen rest
  then_of (If' test shape first shape' second) rest = IfThen (tree_of test) (row_block first) (row_block second) rest
  then_of (Repeat' times shape body) rest = RepeatThen times (row_block body) rest

  pub row_block : {m : _} → Row_of-Statement m → Block
  row_block end_of-Statement = Nothing
  row_block (more_of-Statement s rest) = then_of s (row_block rest)

abbrev pub block_of : List Statement → Block
block_of [] = Nothing
block_of (s ∷ statements) = then_of s (block_of statements)

abbrev pub body_of : {Z : Type 0} → Option (Vec Statement Z) → Option Block
body_of None = None
body_of (Some body) = Some (block_of body.items)

abbrev pub code_of : Process → Code
code_of p =
    record { node = p.node; vars = p.variables.items; prelude = block_of p.prelude.items; body = body_of p.body }

-- the network of a `Program`, without the pointers of its boxes and vectors
abbrev pub network_of : Program → Network
network_of n = record { channels = n.channels.items; codes = map code_of n.processes.items }
