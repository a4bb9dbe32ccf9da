-- Uses among more uses, and faults of uses with them.
use Rattle.std.proofs.Common.{◌≡◌, ℕ, List, [], ◌∷◌, ◌++◌, length, get_or, map, subst, arith, inl, inr, suc, zero, ◌<◌}
use Rattle.net_text.specs.Names.{NameTree}
use Rattle.net_text.specs.Trees.{BlockTree, NothingTree, block_tree, row_block, then_tree, expr_tree, link_tree}
use Rattle.net_text.specs.Trees.{links_tree}
use Rattle.net_text.specs.declared.tree.ChannelText.{ChannelText}
use Rattle.net_text.specs.declared.tree.StatementText.{StatementText, Get, Assign, Put, Stop, If', Repeat'}
use Rattle.net_text.specs.declared.tree.LinkText.{LinkText}
use Rattle.net_text.specs.declared.tree.Role.{Role}
use Rattle.net_check.specs.declared.fault.NetFault.{NetFault}
use Rattle.net_check.specs.declared.fault.NetFault.TheVariants.{NoMemory, UnknownName, TwoProducers, TwoConsumers}
use Rattle.kahn_net.specs.declared.program.Port.{Port}
use Rattle.net_check.specs.Claims.{IsUnknown, IsRefused, stands_outside, is_taken, UseFault, NameFault}
use Rattle.net_check.specs.Resolution.{channel_names, variable_names}
use Rattle.net_text.specs.declared.tree.VariableText.{VariableText}
use Rattle.net_check.specs.UseLaws.{has_left, has_right, has_cases, has_after}
use Rattle.net_check.specs.Uses.{Use, OfVariable, GetFrom, PutOn, Has, expr_uses, links_uses, block_uses}

-- these uses are among those
pub record Within (few many : List Use) : Type 0 where
  pub all : (u : Use) → Has few u → Has many u

pub within_left : (xs ys : List Use) → Within xs (xs ++ ys)
within_left xs ys = record { all = has_left xs ys }

pub within_right : (xs ys : List Use) → Within ys (xs ++ ys)
within_right xs ys = record { all = has_right xs ys }

pub within_same : (xs : List Use) → Within xs xs
within_same xs = record { all = λ u h. h }

pub within_next : (x : Use) (few many : List Use) → Within few many → Within few (x ∷ many)
within_next x few many w = record { all = λ u h. inr (w.all u h) }

pub within_then : (few more many : List Use) → Within few more → Within more many → Within few many
within_then few more many v w = record { all = λ u h. w.all u (v.all u h) }

pub unknown_more : (channels variables : List NameTree) (few many : List Use) (line : ℕ) → Within few many
    → IsUnknown channels variables few line → IsUnknown channels variables many line
unknown_more channels variables few many line w h =
    record { use' = h.use'; used = w.all h.use' h.used; undeclared = h.undeclared; at = h.at }

pub name_more : (channels variables : List NameTree) (few many : List Use) (f : NetFault) → Within few many
    → NameFault channels variables few f → NameFault channels variables many f
name_more channels variables few many NoMemory w h = tt
name_more channels variables few many (UnknownName line) w h = unknown_more channels variables few many line w h
name_more channels variables few many _ w h = absurd h

pub refused_more : {channels : List ChannelText} {role : Role} {use' : NameTree → Use} {p : ℕ} {ports : List Port}
    {few : List Use} {line : ℕ} (many : List Use) → Within few many → IsRefused channels role use' p ports few line
    → IsRefused channels role use' p ports many line
refused_more {use'} many w (stands_outside name c channel used at here same is) =
    stands_outside name c channel (w.all (use' name) used) at here same is
refused_more {use'} many w (is_taken name c used at reads taken) =
    is_taken name c (w.all (use' name) used) at reads taken

pub use_more : (channels : List ChannelText) (variables : List NameTree) (p : ℕ) (producers consumers : List Port)
    (few many : List Use) (f : NetFault) → Within few many → UseFault channels variables p producers consumers few f
    → UseFault channels variables p producers consumers many f
use_more channels variables p producers consumers few many NoMemory w h = tt
use_more channels variables p producers consumers few many (UnknownName line) w h =
    unknown_more _ variables few many line w h
use_more channels variables p producers consumers few many (TwoProducers line) w h = refused_more many w h
use_more channels variables p producers consumers few many (TwoConsumers line) w h = refused_more many w h
use_more channels variables p producers consumers few many _ w h = absurd h

-- names alone, among uses
pub use_from_name : (channels : List ChannelText) (variables : List NameTree) (p : ℕ) (producers consumers : List Port)
    (few many : List Use) (f : NetFault) → Within few many → NameFault (channel_names channels) variables few f
    → UseFault channels variables p producers consumers many f
use_from_name channels variables p producers consumers few many NoMemory w h = tt
use_from_name channels variables p producers consumers few many (UnknownName line) w h =
    unknown_more _ variables few many line w h
use_from_name channels variables p producers consumers few many _ w h = absurd h

pub within_left_at : (xs xs' ys : List Use) → xs' ≡ xs → Within xs' (xs ++ ys)
within_left_at xs xs' ys e = record { all = λ u h. has_left xs ys u (subst (λ (zs : List Use). Has zs u) e h) }

has_front : (xs ys : List Use) (u : Use) → Has (xs ++ []) u → Has (xs ++ ys) u
has_front xs ys u h = elim (has_cases xs [] u h) [ inl k ↦ has_left xs ys u k | inr k ↦ absurd k ]

has_seam : (xs ys : List Use) (x u : Use) → Has (xs ++ x ∷ []) u → Has (xs ++ x ∷ ys) u
has_seam xs ys x u h =
    elim (has_cases xs (x ∷ []) u h)
    [ inl k ↦ has_left xs (x ∷ ys) u k | inr k ↦ has_right xs (x ∷ ys) u (elim k [ inl e ↦ inl e | inr a ↦ absurd a ]) ]

within_under : (xs ys zs : List Use) → Within ys zs → Within (xs ++ ys) (xs ++ zs)
within_under xs ys zs w =
    record {
      all =
          λ u h. elim (has_cases xs ys u h) [ inl k ↦ has_left xs zs u k | inr k ↦ has_right xs zs u (w.all u k) ];
    }

within_none : (xs : List Use) → Within [] xs
within_none xs = record { all = λ u h. absurd h }

within_statement_first : (t : StatementText) (rest : BlockTree)
    → Within (block_uses (then_tree t NothingTree)) (block_uses (then_tree t rest))
within_statement_first (Get v c) rest =
    record { all = λ u h. has_front (OfVariable v ∷ GetFrom c ∷ []) (block_uses rest) u h }
within_statement_first (Assign v e) rest =
    record { all = λ u h. has_front (OfVariable v ∷ expr_uses (expr_tree e)) (block_uses rest) u h }
within_statement_first (Put e c) rest =
    record { all = λ u h. has_seam (expr_uses (expr_tree e)) (block_uses rest) (PutOn c) u h }
within_statement_first Stop rest = within_none (block_uses rest)
within_statement_first (If' test p first q second) rest =
    within_under (expr_uses (expr_tree test))
    _ _ (within_under (block_uses (row_block first))
    _ _ (within_under (block_uses (row_block second)) [] (block_uses rest) (within_none (block_uses rest))))
within_statement_first (Repeat' times line p body) rest =
    within_under (block_uses (row_block body)) [] (block_uses rest) (within_none (block_uses rest))

within_statement_after : (t : StatementText) (rest : BlockTree)
    → Within (block_uses rest) (block_uses (then_tree t rest))
within_statement_after (Get v c) rest = record { all = λ u h. inr (inr h) }
within_statement_after (Assign v e) rest =
    record { all = λ u h. inr (has_right (expr_uses (expr_tree e)) (block_uses rest) u h) }
within_statement_after (Put e c) rest =
    record { all = λ u h. has_right (expr_uses (expr_tree e)) (PutOn c ∷ block_uses rest) u (inr h) }
within_statement_after Stop rest = within_same (block_uses rest)
within_statement_after (If' test p first q second) rest =
    record {
      all =
          has_after (expr_uses (expr_tree test)) (block_uses (row_block first)) (block_uses (row_block second))
          (block_uses rest);
    }
within_statement_after (Repeat' times line p body) rest = within_right (block_uses (row_block body)) (block_uses rest)

-- what a statement uses, its block uses
pub within_statement : (ts : List StatementText) (i : ℕ) (t : StatementText) → i < length ts → t ≡ get_or ts i t
    → Within (block_uses (then_tree t NothingTree)) (block_uses (block_tree ts))
within_statement [] i t lt e = absurd (omega arith)
within_statement (s ∷ ss) zero t lt e =
    subst (λ (x : StatementText). Within (block_uses (then_tree t NothingTree))
    (block_uses (then_tree x (block_tree ss)))) e (within_statement_first t (block_tree ss))
within_statement (s ∷ ss) (suc i) t lt e =
    within_then _ _ _ (within_statement ss i t (omega arith) e) (within_statement_after s (block_tree ss))

-- what a link uses, its chain uses
pub within_link : (ls : List LinkText) (i : ℕ) (l : LinkText) → i < length ls → l ≡ get_or ls i l
    → Within (expr_uses (expr_tree l.value)) (links_uses (links_tree (map link_tree ls)))
within_link [] i l lt e = absurd (omega arith)
within_link (m ∷ ls) zero l lt e =
    subst (λ (x : LinkText). Within (expr_uses (expr_tree l.value))
    (expr_uses (expr_tree x.value) ++ links_uses (links_tree (map link_tree ls)))) e
    (within_left (expr_uses (expr_tree l.value)) (links_uses (links_tree (map link_tree ls))))
within_link (m ∷ ls) (suc i) l lt e =
    within_then _ _ _ (within_link ls i l (omega arith) e)
    (within_right (expr_uses (expr_tree m.value)) (links_uses (links_tree (map link_tree ls))))

-- the same faults, where the variables are the same and more is used
pub use_as : (channels : List ChannelText) (xs ys : List VariableText) (p : ℕ) (producers consumers : List Port)
    (few many : List Use) (f : NetFault) → xs ≡ ys → Within few many
    → UseFault channels (variable_names xs) p producers consumers few f
    → UseFault channels (variable_names ys) p producers consumers many f
use_as channels xs ys p producers consumers few many f e w h =
    subst (λ (zs : List VariableText). UseFault channels (variable_names zs) p producers consumers many f) e
    (use_more channels (variable_names xs) p producers consumers few many f w h)
