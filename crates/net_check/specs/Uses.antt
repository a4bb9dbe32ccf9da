-- What the statements of a text use, in order of the text.
use Rattle.std.specs.Prelude.{◌≡◌, List, [], ◌∷◌, ◌++◌, Option, Some, None, ◌⊎◌}
use Rattle.net_text.specs.Names.{NameTree}
use Rattle.net_text.specs.Trees.{ExprTree, LiteralTree, VariableTree, MinusTree, ChainTree, LinksTree, NoLinksTree}
use Rattle.net_text.specs.Trees.{LinkThenTree, BlockTree, NothingTree, GetTree, AssignTree, PutTree, StopTree, IfTree}
use Rattle.net_text.specs.Trees.{RepeatTree, LoopTree, ProcessTree}

-- a variable that is read or written, a channel from which an item is got, a channel on which one is put
pub data Use : Type 0 where
  OfVariable : (name : NameTree) → Use
  GetFrom : (name : NameTree) → Use
  PutOn : (name : NameTree) → Use

abbrev mutual
  pub expr_uses : ExprTree → List Use
  expr_uses (LiteralTree n) = []
  expr_uses (VariableTree name) = OfVariable name ∷ []
  expr_uses (MinusTree value) = expr_uses value
  expr_uses (ChainTree first links) = expr_uses first ++ links_uses links

  pub links_uses : LinksTree → List Use
  links_uses NoLinksTree = []
  links_uses (LinkThenTree operator value rest) = expr_uses value ++ links_uses rest

abbrev pub block_uses : BlockTree → List Use
block_uses NothingTree = []
block_uses (GetTree variable channel rest) = OfVariable variable ∷ GetFrom channel ∷ block_uses rest
block_uses (AssignTree variable value rest) = OfVariable variable ∷ (expr_uses value ++ block_uses rest)
block_uses (PutTree value channel rest) = expr_uses value ++ (PutOn channel ∷ block_uses rest)
block_uses (StopTree rest) = block_uses rest
block_uses (IfTree test first second rest) =
    expr_uses test ++ (block_uses first ++ (block_uses second ++ block_uses rest))
block_uses (RepeatTree times line body rest) = block_uses body ++ block_uses rest

abbrev pub loop_uses : Option LoopTree → List Use
loop_uses None = []
loop_uses (Some repeated) = block_uses repeated.body

-- what a process uses
abbrev pub process_uses : ProcessTree → List Use
process_uses p = block_uses p.prelude ++ loop_uses p.repeated

-- one of these uses is this one
abbrev pub Has : List Use → Use → Type 0
Has [] use' = ⊥
Has (u ∷ uses) use' = (u ≡ use') ⊎ Has uses use'
