-- The tree of a network's text without the pointers of its boxes and vectors: two texts that read alike, line by line,
-- are equal here.
use Rattle.std.specs.Prelude.{ℕ, ℤ, List, [], ◌∷◌, map, Option, Some, None}
use Rattle.net_text.specs.Names.{NameTree}
use Rattle.kahn_net.specs.declared.program.Operator.{Operator}
use Rattle.net_text.specs.declared.tree.ExprText.{ExprText, Literal, Variable, Negate', Chain', Row_of-LinkText}
use Rattle.net_text.specs.declared.tree.ExprText.{end_of-LinkText, more_of-LinkText}
use Rattle.net_text.specs.declared.tree.LinkText.{LinkText}
use Rattle.net_text.specs.declared.tree.StatementText.{StatementText, Get, Assign, Put, Stop, If', Repeat'}
use Rattle.net_text.specs.declared.tree.StatementText.{Row_of-StatementText, end_of-StatementText}
use Rattle.net_text.specs.declared.tree.StatementText.{more_of-StatementText}
use Rattle.net_text.specs.declared.tree.ChannelText.{ChannelText}
use Rattle.net_text.specs.declared.tree.VariableText.{VariableText}
use Rattle.net_text.specs.declared.tree.NodeText.{NodeText}
use Rattle.net_text.specs.declared.tree.LoopText.{LoopText}
use Rattle.net_text.specs.declared.tree.ProcessText.{ProcessText}
use Rattle.net_text.specs.declared.tree.Declaration.{Declaration}
use Rattle.net_text.specs.declared.tree.Declaration.TheVariants.{Channel, Process}
use Rattle.net_text.specs.declared.tree.NetText.{NetText}
use Rattle.net_text.specs.declared.raw_inputs.InputLine.{InputLine}
use Rattle.net_text.specs.declared.raw_inputs.RawInputs.{RawInputs}

-- an expression, and the links of a chain, each with those after it
mutual
  pub data ExprTree : Type 0 where
    LiteralTree : (value : ℤ) → ExprTree
    VariableTree : (name : NameTree) → ExprTree
    MinusTree : (value : ExprTree) → ExprTree
    ChainTree : (first : ExprTree) (links : LinksTree) → ExprTree

  pub data LinksTree : Type 0 where
    NoLinksTree : LinksTree
    LinkThenTree : (operator : Operator) (value : ExprTree) (rest : LinksTree) → LinksTree

-- a link alone
pub record LinkTree : Type 0 where
  pub operator : Operator
  pub value : ExprTree

-- statements, each with those after it
pub data BlockTree : Type 0 where
  NothingTree : BlockTree
  GetTree : (variable channel : NameTree) (rest : BlockTree) → BlockTree
  AssignTree : (variable : NameTree) (value : ExprTree) (rest : BlockTree) → BlockTree
  PutTree : (value : ExprTree) (channel : NameTree) (rest : BlockTree) → BlockTree
  StopTree : (rest : BlockTree) → BlockTree
  IfTree : (test : ExprTree) (first second rest : BlockTree) → BlockTree
  RepeatTree : (times line : ℕ) (body rest : BlockTree) → BlockTree

pub record LoopTree : Type 0 where
  pub body : BlockTree
  pub line : ℕ

pub record ProcessTree : Type 0 where
  pub name : NameTree
  pub node : NodeText
  pub variables : List VariableText
  pub prelude : BlockTree
  pub repeated : Option LoopTree
  pub line : ℕ

pub data DeclarationTree : Type 0 where
  ChannelTree : (channel : ChannelText) → DeclarationTree
  ProcessDeclared : (process : ProcessTree) → DeclarationTree

abbrev mutual
  pub expr_tree : ExprText → ExprTree
  expr_tree (Literal n) = LiteralTree n
  expr_tree (Variable name) = VariableTree name
  expr_tree (Negate' p value) = MinusTree (expr_tree value)
  expr_tree (Chain' p first shape links) = ChainTree (expr_tree first) (row_tree links)

  pub row_tree : {m : _} → Row_of-LinkText m → LinksTree
  row_tree end_of-LinkText = NoLinksTree
  row_tree (more_of-LinkText operator value rest) = LinkThenTree operator (expr_tree value) (row_tree rest)

abbrev pub link_tree : LinkText → LinkTree
link_tree l = record { operator = l.operator; value = expr_tree l.value }

-- links one after another
abbrev pub links_tree : List LinkTree → LinksTree
links_tree [] = NoLinksTree
links_tree (l ∷ ls) = LinkThenTree l.operator l.value (links_tree ls)

abbrev mutual
  pub then_tree : StatementText → BlockTree → BlockTree
  then_tree (Get variable channel) rest = GetTree variable channel rest
  then_tree (Assign variable value) rest = AssignTree variable (expr_tree value) rest
  then_tree (Put value channel) rest = PutTree (expr_tree value) channel rest
  then_tree Stop rest = StopTree rest
  then_tree (If' test shape first shape' second) rest =
      IfTree (expr_tree test) (row_block first) (row_block second) rest
  then_tree (Repeat' times line shape body) rest = RepeatTree times line (row_block body) rest

  pub row_block : {m : _} → Row_of-StatementText m → BlockTree
  row_block end_of-StatementText = NothingTree
  row_block (more_of-StatementText s rest) = then_tree s (row_block rest)

abbrev pub block_tree : List StatementText → BlockTree
block_tree [] = NothingTree
block_tree (s ∷ statements) = then_tree s (block_tree statements)

abbrev pub loop_tree : LoopText → LoopTree
loop_tree l = record { body = block_tree l.body.items; line = l.line }

abbrev pub repeated_tree : Option LoopText → Option LoopTree
repeated_tree None = None
repeated_tree (Some l) = Some (loop_tree l)

abbrev pub process_tree : ProcessText → ProcessTree
process_tree p =
    record {
      name = p.name;
      node = p.node;
      variables = p.variables.items;
      prelude =
          block_tree p.prelude.items;
      repeated = repeated_tree p.repeated;
      line = p.line;
    }

abbrev pub declaration_tree : Declaration → DeclarationTree
declaration_tree (Channel c) = ChannelTree c
declaration_tree (Process p) = ProcessDeclared (process_tree p)

-- the declarations of a text, in order
abbrev pub net_tree : NetText → List DeclarationTree
net_tree t = map declaration_tree t.declarations.items

-- a line of an inputs text
pub record InputTree : Type 0 where
  pub name : NameTree
  pub items : List ℤ

abbrev pub input_tree : InputLine → InputTree
input_tree l = record { name = l.name; items = l.items.items }

abbrev pub inputs_tree : RawInputs → List InputTree
inputs_tree r = map input_tree r.lines.items
