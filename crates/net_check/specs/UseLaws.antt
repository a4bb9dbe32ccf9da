-- Laws of the uses of a text.
use Rattle.std.proofs.Common.{List, [], ◌∷◌, ◌++◌, ◌⊎◌, inl, inr}
use Rattle.net_text.specs.Names.{NameTree}
use Rattle.net_text.specs.Trees.{ExprTree, LiteralTree, VariableTree, MinusTree, ChainTree, LinksTree, NoLinksTree}
use Rattle.net_text.specs.Trees.{LinkThenTree}
use Rattle.net_check.specs.Uses.{Use, GetFrom, PutOn, expr_uses, links_uses, Has}

pub has_left : (xs ys : List Use) (u : Use) → Has xs u → Has (xs ++ ys) u
has_left [] ys u h = absurd h
has_left (x ∷ xs) ys u h = elim h [ inl e ↦ inl e | inr k ↦ inr (has_left xs ys u k) ]

pub has_right : (xs ys : List Use) (u : Use) → Has ys u → Has (xs ++ ys) u
has_right [] ys u h = h
has_right (x ∷ xs) ys u h = inr (has_right xs ys u h)

pub has_cases : (xs ys : List Use) (u : Use) → Has (xs ++ ys) u → Has xs u ⊎ Has ys u
has_cases [] ys u h = inr h
has_cases (x ∷ xs) ys u h =
    elim h [ inl e ↦ inl (inl e) | inr k ↦ elim (has_cases xs ys u k) [ inl a ↦ inl (inr a) | inr b ↦ inr b ] ]

-- an if uses what its test, its blocks and what comes after it use
pub has_first : (test first second rest : List Use) (u : Use) → Has first u
    → Has (test ++ (first ++ (second ++ rest))) u
has_first test first second rest u h =
    has_right test (first ++ (second ++ rest)) u (has_left first (second ++ rest) u h)

pub has_second : (test first second rest : List Use) (u : Use) → Has second u
    → Has (test ++ (first ++ (second ++ rest))) u
has_second test first second rest u h =
    has_right test (first ++ (second ++ rest)) u (has_right first (second ++ rest) u (has_left second rest u h))

pub has_after : (test first second rest : List Use) (u : Use) → Has rest u → Has (test ++ (first ++ (second ++ rest))) u
has_after test first second rest u h =
    has_right test (first ++ (second ++ rest)) u (has_right first (second ++ rest) u (has_right second rest u h))

-- which of them uses it
pub data IfUse (test first second rest : List Use) (u : Use) : Type 0 where
  by_test : Has test u → IfUse test first second rest u
  by_first : Has first u → IfUse test first second rest u
  by_second : Has second u → IfUse test first second rest u
  by_rest : Has rest u → IfUse test first second rest u

pub if_cases : (test first second rest : List Use) (u : Use) → Has (test ++ (first ++ (second ++ rest))) u
    → IfUse test first second rest u
if_cases test first second rest u h = elim (has_cases test (first ++ (second ++ rest)) u h) [
  | inl a ↦ by_test a
  | inr a ↦ elim (has_cases first (second ++ rest) u a) [
    | inl b ↦ by_first b
    | inr b ↦ elim (has_cases second rest u b) [ inl k ↦ by_second k | inr k ↦ by_rest k ]
  ]
]

-- an expression uses variables alone
mutual
  pub expr_no_put : (e : ExprTree) (name : NameTree) → Has (expr_uses e) (PutOn name) → ⊥
  expr_no_put (LiteralTree n) name h = h
  expr_no_put (VariableTree v) name h = elim h [ inl e ↦ cc | inr k ↦ k ]
  expr_no_put (MinusTree a) name h = expr_no_put a name h
  expr_no_put (ChainTree a links) name h =
      elim (has_cases (expr_uses a) (links_uses links) (PutOn name) h)
      [ inl k ↦ expr_no_put a name k | inr k ↦ links_no_put links name k ]

  links_no_put : (links : LinksTree) (name : NameTree) → Has (links_uses links) (PutOn name) → ⊥
  links_no_put NoLinksTree name h = h
  links_no_put (LinkThenTree o a rest) name h =
      elim (has_cases (expr_uses a) (links_uses rest) (PutOn name) h)
      [ inl k ↦ expr_no_put a name k | inr k ↦ links_no_put rest name k ]

mutual
  pub expr_no_get : (e : ExprTree) (name : NameTree) → Has (expr_uses e) (GetFrom name) → ⊥
  expr_no_get (LiteralTree n) name h = h
  expr_no_get (VariableTree v) name h = elim h [ inl e ↦ cc | inr k ↦ k ]
  expr_no_get (MinusTree a) name h = expr_no_get a name h
  expr_no_get (ChainTree a links) name h =
      elim (has_cases (expr_uses a) (links_uses links) (GetFrom name) h)
      [ inl k ↦ expr_no_get a name k | inr k ↦ links_no_get links name k ]

  links_no_get : (links : LinksTree) (name : NameTree) → Has (links_uses links) (GetFrom name) → ⊥
  links_no_get NoLinksTree name h = h
  links_no_get (LinkThenTree o a rest) name h =
      elim (has_cases (expr_uses a) (links_uses rest) (GetFrom name) h)
      [ inl k ↦ expr_no_get a name k | inr k ↦ links_no_get rest name k ]
