-- When a network is the resolution of a text: each name replaced by a number, in order of declaration, from 0.
use Rattle.std.specs.Prelude.{◌≡◌, ◌↔◌, ℕ, ℤ, List, [], ◌∷◌, map, length, slice_get, Option, Some, None}
use Rattle.net_text.specs.Names.{NameTree}
use Rattle.net_text.specs.Trees.{ExprTree, LiteralTree, VariableTree, MinusTree, ChainTree, LinksTree, NoLinksTree}
use Rattle.net_text.specs.Trees.{LinkThenTree, BlockTree, NothingTree, GetTree, AssignTree, PutTree, StopTree, IfTree}
use Rattle.net_text.specs.Trees.{RepeatTree, LoopTree, ProcessTree, DeclarationTree, ChannelTree, ProcessDeclared}
use Rattle.net_text.specs.declared.tree.ChannelText.{ChannelText}
use Rattle.net_text.specs.declared.tree.VariableText.{VariableText}
use Rattle.net_text.specs.declared.tree.Role.TheVariants.{Input, Output}
use Rattle.kahn_net.specs.declared.program.Channel.{Channel}
use Rattle.kahn_net.specs.declared.program.Port.TheVariants.{Outside}
use Rattle.kahn_net.specs.Common.{Tree, Number, Name, Minus, Chain, Links, NoLinks, LinkThen, Block, Nothing, GetThen}
use Rattle.kahn_net.specs.Common.{AssignThen, PutThen, StopThen, IfThen, RepeatThen, Code, Network}

-- the channels that a text declares, in order
abbrev pub channels_of : List DeclarationTree → List ChannelText
channels_of [] = []
channels_of (ChannelTree c ∷ rest) = c ∷ channels_of rest
channels_of (ProcessDeclared p ∷ rest) = channels_of rest

-- the processes that a text declares, in order
abbrev pub processes_of : List DeclarationTree → List ProcessTree
processes_of [] = []
processes_of (ChannelTree c ∷ rest) = processes_of rest
processes_of (ProcessDeclared p ∷ rest) = p ∷ processes_of rest

abbrev pub channel_names : List ChannelText → List NameTree
channel_names cs = map (λ (c : ChannelText). c.name) cs

abbrev pub process_names : List ProcessTree → List NameTree
process_names ps = map (λ (p : ProcessTree). p.name) ps

abbrev pub variable_names : List VariableText → List NameTree
variable_names vs = map (λ (v : VariableText). v.name) vs

-- the first values of variables
abbrev pub initials : List VariableText → List ℤ
initials vs = map (λ (v : VariableText). v.initial) vs

-- name number i has these bytes
abbrev pub Reads : List NameTree → ℕ → List ℕ → Type 0
Reads names i text = slice_get (map (λ (n : NameTree). n.text) names) i ≡ Some text

-- no two of these names read alike
abbrev pub AllDifferent : List NameTree → Type 0
AllDifferent names = (i j : ℕ) (text : List ℕ) → Reads names i text → Reads names j text → i ≡ j

-- a variable stands for the name that its number has among the variables
abbrev mutual
  pub ResolvesExpr : List NameTree → ExprTree → Tree → Type 0
  ResolvesExpr variables (LiteralTree n) (Number m) = n ≡ m
  ResolvesExpr variables (VariableTree name) (Name x) = Reads variables x name.text
  ResolvesExpr variables (MinusTree a) (Minus b) = ResolvesExpr variables a b
  ResolvesExpr variables (ChainTree a links) (Chain b more) =
      ResolvesExpr variables a b × ResolvesLinks variables links more
  ResolvesExpr variables _ _ = ⊥

  pub ResolvesLinks : List NameTree → LinksTree → Links → Type 0
  ResolvesLinks variables NoLinksTree NoLinks = Unit {0}
  ResolvesLinks variables (LinkThenTree o a rest) (LinkThen p b more) =
      (o ≡ p) × ResolvesExpr variables a b × ResolvesLinks variables rest more
  ResolvesLinks variables _ _ = ⊥

-- statement by statement, and in an if or a repetition block by block; a channel stands for the name that its number has among the
-- channels
abbrev pub ResolvesBlock : List NameTree → List NameTree → BlockTree → Block → Type 0
ResolvesBlock channels variables NothingTree Nothing = Unit {0}
ResolvesBlock channels variables (GetTree v c rest) (GetThen x k more) =
    Reads variables x v.text × Reads channels k c.text × ResolvesBlock channels variables rest more
ResolvesBlock channels variables (AssignTree v e rest) (AssignThen x t more) =
    Reads variables x v.text × ResolvesExpr variables e t × ResolvesBlock channels variables rest more
ResolvesBlock channels variables (PutTree e c rest) (PutThen t k more) =
    ResolvesExpr variables e t × Reads channels k c.text × ResolvesBlock channels variables rest more
ResolvesBlock channels variables (StopTree rest) (StopThen more) = ResolvesBlock channels variables rest more
ResolvesBlock channels variables (IfTree e first second rest) (IfThen t one other more) =
    ResolvesExpr variables e t × ResolvesBlock channels variables first one
    × ResolvesBlock channels variables second other × ResolvesBlock channels variables rest more
ResolvesBlock channels variables (RepeatTree times line body rest) (RepeatThen n one more) =
    (times ≡ n) × ResolvesBlock channels variables body one × ResolvesBlock channels variables rest more
ResolvesBlock channels variables _ _ = ⊥

abbrev pub ResolvesLoop : List NameTree → List NameTree → Option LoopTree → Option Block → Type 0
ResolvesLoop channels variables None None = Unit {0}
ResolvesLoop channels variables (Some repeated) (Some body) = ResolvesBlock channels variables repeated.body body
ResolvesLoop channels variables _ _ = ⊥

-- a process of the text, and the code that it is resolved to
pub record ResolvesProcess (channels : List NameTree) (process : ProcessTree) (code : Code) : Type 0 where
  pub node : code.node ≡ process.node.number
  pub vars : code.vars ≡ initials process.variables
  pub prelude : ResolvesBlock channels (variable_names process.variables) process.prelude code.prelude
  pub body : ResolvesLoop channels (variable_names process.variables) process.repeated code.body

-- in the declarations of a text, the names of its channels and processes are replaced by their numbers, which gives
-- this network
pub record Resolves (text : List DeclarationTree) (channels processes : List NameTree) (net : Network) : Type 0 where
  pub channels_named : channels ≡ channel_names (channels_of text)
  pub processes_named : processes ≡ process_names (processes_of text)
  pub channels_differ : AllDifferent channels
  pub processes_differ : AllDifferent processes
  pub variables_differ : (p : ℕ) (process : ProcessTree) → slice_get (processes_of text) p ≡ Some process
      → AllDifferent (variable_names process.variables)
  pub channel_count : length net.channels ≡ length channels
  pub process_count : length net.codes ≡ length processes
  -- the channels whose items come from outside are the inputs, and those whose items go outside the outputs
  pub inputs : (c : ℕ) (declared : ChannelText) (channel : Channel) → slice_get (channels_of text) c ≡ Some declared
      → slice_get net.channels c ≡ Some channel → (declared.role ≡ Input) ↔ (channel.producer ≡ Outside)
  pub outputs : (c : ℕ) (declared : ChannelText) (channel : Channel) → slice_get (channels_of text) c ≡ Some declared
      → slice_get net.channels c ≡ Some channel → (declared.role ≡ Output) ↔ (channel.consumer ≡ Outside)
  pub codes : (p : ℕ) (process : ProcessTree) (code : Code) → slice_get (processes_of text) p ≡ Some process
      → slice_get net.codes p ≡ Some code → ResolvesProcess channels process code
