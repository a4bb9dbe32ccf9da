-- Statements resolved one after another, and the ends of channels that they take.
use Rattle.std.proofs.Common.{◌≡◌, ℕ, List, [], ◌∷◌, ◌++◌, length, get_or, map, take, Some, refl, sym, ap, ◌∙◌, subst}
use Rattle.std.proofs.Common.{◌⊎◌, inl, inr, Bool, true, false, eqb, ◌||◌, ◌<◌, ◌+◌}
use Rattle.std.proofs.lemmas.Bool.{false≢true}
use Rattle.std.proofs.lemmas.List.{take_more}
use Rattle.net_text.specs.Names.{NameTree}
use Rattle.net_text.specs.Trees.{NothingTree, block_tree, then_tree, expr_tree, link_tree, links_tree}
use Rattle.net_text.specs.declared.tree.ChannelText.{ChannelText}
use Rattle.net_text.specs.declared.tree.StatementText.{StatementText, Get, Assign, Put, Stop, If', Repeat'}
use Rattle.net_text.specs.declared.tree.LinkText.{LinkText}
use Rattle.net_text.specs.declared.tree.Role.{Role}
use Rattle.net_text.specs.declared.tree.Role.TheVariants.{Input, Output}
use Rattle.net_check.specs.declared.fault.NetFault.{NetFault}
use Rattle.net_check.specs.declared.fault.NetFault.TheVariants.{NoMemory, UnknownName, TwoProducers, TwoConsumers}
use Rattle.kahn_net.specs.declared.program.Port.{Port}
use Rattle.kahn_net.specs.declared.program.Port.TheVariants.{Process}
use Rattle.kahn_net.specs.declared.program.Link.{Link}
use Rattle.kahn_net.specs.declared.program.Statement.{Statement, Get as Gets, Assign as Assigns, Put as Puts}
use Rattle.kahn_net.specs.declared.program.Statement.{Stop as Stops, If' as Ifs, Repeat' as Repeats}
use Rattle.kahn_net.specs.Common.{Nothing, block_of, links_of, then_of, tree_of, block_gets, block_puts}
use Rattle.kahn_net.specs.Syntax.{row_block}
use Rattle.net_check.specs.Claims.{IsTaken, Claims, IsRefused, stands_outside, is_taken, UseFault}
use Rattle.net_check.specs.Resolution.{ResolvesBlock, ResolvesExpr, ResolvesLinks}
use Rattle.net_check.specs.Uses.{Use}

-- a statement more
pub resolves_push : (cs vs : List NameTree) (ts : List StatementText) (ss : List Statement) (t : StatementText)
    (s : Statement) → ResolvesBlock cs vs (block_tree ts) (block_of ss)
    → ResolvesBlock cs vs (then_tree t NothingTree) (then_of s Nothing)
    → ResolvesBlock cs vs (block_tree (ts ++ t ∷ [])) (block_of (ss ++ s ∷ []))
resolves_push cs vs [] [] t s h k = k
resolves_push cs vs [] (Stops ∷ ss) t s h k = absurd h
resolves_push cs vs (Stop ∷ ts) [] t s h k = absurd h
resolves_push cs vs (Get v c ∷ ts) (Gets x d ∷ ss) t s h k = (h.0, h.1, resolves_push cs vs ts ss t s h.2 k)
resolves_push cs vs (Assign v e ∷ ts) (Assigns x f ∷ ss) t s h k = (h.0, h.1, resolves_push cs vs ts ss t s h.2 k)
resolves_push cs vs (Put e c ∷ ts) (Puts f d ∷ ss) t s h k = (h.0, h.1, resolves_push cs vs ts ss t s h.2 k)
resolves_push cs vs (Stop ∷ ts) (Stops ∷ ss) t s h k = resolves_push cs vs ts ss t s h k
resolves_push cs vs (If' e p first q second ∷ ts) (Ifs f p' one q' other ∷ ss) t s h k =
    (h.0, h.1, h.2, resolves_push cs vs ts ss t s h.3 k)
resolves_push cs vs (Repeat' n line p body ∷ ts) (Repeats m q one ∷ ss) t s h k =
    (h.0, h.1, resolves_push cs vs ts ss t s h.2 k)
resolves_push cs vs _ _ t s h k = absurd h

-- a link more
links_push : (vs : List NameTree) (ts : List LinkText) (ls : List Link) (t : LinkText) (l : Link)
    → ResolvesLinks vs (links_tree (map link_tree ts)) (links_of ls) → t.operator ≡ l.operator
    → ResolvesExpr vs (expr_tree t.value) (tree_of l.value)
    → ResolvesLinks vs (links_tree (map link_tree (ts ++ t ∷ []))) (links_of (ls ++ l ∷ []))
links_push vs [] [] t l h same k = (same, k, tt)
links_push vs [] (m ∷ ls) t l h same k = absurd h
links_push vs (u ∷ ts) [] t l h same k = absurd h
links_push vs (u ∷ ts) (m ∷ ls) t l h same k = (h.0, h.1, links_push vs ts ls t l h.2 same k)

pub links_more : (vs : List NameTree) (ts : List LinkText) (i : ℕ) (ls : List Link) (t : LinkText) (l : Link)
    → i < length ts → t ≡ get_or ts i t → ResolvesLinks vs (links_tree (map link_tree (take i ts))) (links_of ls)
    → t.operator ≡ l.operator → ResolvesExpr vs (expr_tree t.value) (tree_of l.value)
    → ResolvesLinks vs (links_tree (map link_tree (take (i + 1) ts))) (links_of (ls ++ l ∷ []))
links_more vs ts i ls t l lt e h same k =
    let w : take (i + 1) ts ≡ take i ts ++ t ∷ [] =
    take_more ts i t lt ∙ ap (λ (x : LinkText). take i ts ++ x ∷ []) (sym e) in
    subst (λ (xs : List LinkText). ResolvesLinks vs (links_tree (map link_tree xs)) (links_of (ls ++ l ∷ []))) (sym w)
    (links_push vs (take i ts) ls t l h same k)

or_assoc : (a b c : Bool) → a || (b || c) ≡ (a || b) || c
or_assoc true b c = refl
or_assoc false b c = refl

or_assoc_last : (a b c d : Bool) → a || (b || (c || d)) ≡ (a || (b || c)) || d
or_assoc_last true b c d = refl
or_assoc_last false b c d = or_assoc b c d

pub puts_push : (c : ℕ) (ss : List Statement) (s : Statement)
    → block_puts c (block_of (ss ++ s ∷ [])) ≡ block_puts c (block_of ss) || block_puts c (then_of s Nothing)
puts_push c [] s = refl
puts_push c (Gets x d ∷ ss) s = puts_push c ss s
puts_push c (Assigns x e ∷ ss) s = puts_push c ss s
puts_push c (Puts e d ∷ ss) s = ap (λ (b : Bool). eqb d c || b) (puts_push c ss s) ∙ or_assoc (eqb d c) _ _
puts_push c (Stops ∷ ss) s = puts_push c ss s
puts_push c (Ifs e p one q other ∷ ss) s =
    ap (λ (b : Bool). block_puts c (row_block one) || (block_puts c (row_block other) || b)) (puts_push c ss s)
    ∙ or_assoc_last (block_puts c (row_block one)) (block_puts c (row_block other)) _ _
puts_push c (Repeats n p one ∷ ss) s =
    ap (λ (b : Bool). block_puts c (row_block one) || b) (puts_push c ss s)
    ∙ or_assoc (block_puts c (row_block one)) _ _

pub gets_push : (c : ℕ) (ss : List Statement) (s : Statement)
    → block_gets c (block_of (ss ++ s ∷ [])) ≡ block_gets c (block_of ss) || block_gets c (then_of s Nothing)
gets_push c [] s = refl
gets_push c (Gets x d ∷ ss) s = ap (λ (b : Bool). eqb d c || b) (gets_push c ss s) ∙ or_assoc (eqb d c) _ _
gets_push c (Assigns x e ∷ ss) s = gets_push c ss s
gets_push c (Puts e d ∷ ss) s = gets_push c ss s
gets_push c (Stops ∷ ss) s = gets_push c ss s
gets_push c (Ifs e p one q other ∷ ss) s =
    ap (λ (b : Bool). block_gets c (row_block one) || (block_gets c (row_block other) || b)) (gets_push c ss s)
    ∙ or_assoc_last (block_gets c (row_block one)) (block_gets c (row_block other)) _ _
gets_push c (Repeats n p one ∷ ss) s =
    ap (λ (b : Bool). block_gets c (row_block one) || b) (gets_push c ss s)
    ∙ or_assoc (block_gets c (row_block one)) _ _

pub bool_cases : (b : Bool) → (b ≡ true) ⊎ (b ≡ false)
bool_cases true = inl refl
bool_cases false = inr refl

pub or_true : (a b : Bool) → a || b ≡ true → (a ≡ true) ⊎ ((a ≡ false) × (b ≡ true))
or_true true b h = inl refl
or_true false b h = inr (refl, h)

pub or_true_last : (a b : Bool) → a || b ≡ true → (b ≡ true) ⊎ ((b ≡ false) × (a ≡ true))
or_true_last true true h = inl refl
or_true_last true false h = inr (refl, refl)
or_true_last false true h = inl refl
or_true_last false false h = absurd (false≢true h)

pub or_false : (a b : Bool) → a || b ≡ false → (a ≡ false) × (b ≡ false)
or_false true b h = absurd (false≢true (sym h))
or_false false b h = (refl, h)

pub claims_then : (channels : List ChannelText) (role : Role) (p : ℕ) (f g h : ℕ → Bool) (old mid new : List Port)
    → ((c : ℕ) → h c ≡ f c || g c) → Claims channels role p f old mid → Claims channels role p g mid new
    → Claims channels role p h old new
claims_then channels role p f g h old mid new is a b = record {
  count = b.count ∙ a.count;
  claimed =
      λ c e. elim (or_true_last (f c) (g c) (sym (is c) ∙ e))
      [ inl k ↦ b.claimed c k | inr k ↦ b.kept c k.0 ∙ a.claimed c k.1 ];
  kept = λ c e. let k = or_false (f c) (g c) (sym (is c) ∙ e) in b.kept c k.1 ∙ a.kept c k.0;
  free = λ c port e here. elim (or_true (f c) (g c) (sym (is c) ∙ e))
      [ inl k ↦ a.free c port k here | inr k ↦ b.free c port k.1 (a.kept c k.0 ∙ here) ];
  allowed =
      λ c channel e here. elim (or_true (f c) (g c) (sym (is c) ∙ e))
      [ inl k ↦ a.allowed c channel k here | inr k ↦ b.allowed c channel k.1 here ];
}

taken_earlier : (channels : List ChannelText) (role : Role) (p c : ℕ) (uses : ℕ → Bool) (old new : List Port)
    → Claims channels role p uses old new → IsTaken p c new → IsTaken p c old
taken_earlier channels role p c uses old new a t = elim (bool_cases (uses c)) [
  | inl k ↦ absurd (t.other (let e : Some (Process t.q) ≡ Some (Process p) = sym t.here ∙ a.claimed c k in cc))
  | inr k ↦ record { q = t.q; here = sym (a.kept c k) ∙ t.here; other = t.other }
]

refused_earlier : (channels : List ChannelText) (role role' : Role) (use' : NameTree → Use) (p : ℕ) (uses : ℕ → Bool)
    (old new : List Port) (all : List Use) (line : ℕ) → Claims channels role p uses old new
    → IsRefused channels role' use' p new all line → IsRefused channels role' use' p old all line
refused_earlier channels role role' use' p uses old new all line a
    (stands_outside name c channel used at here same is) = stands_outside name c channel used at here same is
refused_earlier channels role role' use' p uses old new all line a (is_taken name c used at reads taken) =
    is_taken name c used at reads (taken_earlier channels role p c uses old new a taken)

-- a fault found after some uses was there before them
pub use_earlier : (channels : List ChannelText) (variables : List NameTree) (p : ℕ) (f g : ℕ → Bool)
    (producers consumers producers' consumers' : List Port) (all : List Use) (fault : NetFault)
    → Claims channels Input p f producers producers' → Claims channels Output p g consumers consumers'
    → UseFault channels variables p producers' consumers' all fault
    → UseFault channels variables p producers consumers all fault
use_earlier channels variables p f g producers consumers producers' consumers' all NoMemory a b h = tt
use_earlier channels variables p f g producers consumers producers' consumers' all (UnknownName line) a b h = h
use_earlier channels variables p f g producers consumers producers' consumers' all (TwoProducers line) a b h =
    refused_earlier channels Input Input _ p f producers producers' all line a h
use_earlier channels variables p f g producers consumers producers' consumers' all (TwoConsumers line) a b h =
    refused_earlier channels Output Output _ p g consumers consumers' all line b h
use_earlier channels variables p f g producers consumers producers' consumers' all _ a b h = absurd h

pub resolves_more : (cs vs : List NameTree) (ts : List StatementText) (i : ℕ) (ss : List Statement) (t : StatementText)
    (s : Statement) → i < length ts → t ≡ get_or ts i t → ResolvesBlock cs vs (block_tree (take i ts)) (block_of ss)
    → ResolvesBlock cs vs (then_tree t NothingTree) (then_of s Nothing)
    → ResolvesBlock cs vs (block_tree (take (i + 1) ts)) (block_of (ss ++ s ∷ []))
resolves_more cs vs ts i ss t s lt e h k =
    let w : take (i + 1) ts ≡ take i ts ++ t ∷ [] =
    take_more ts i t lt ∙ ap (λ (x : StatementText). take i ts ++ x ∷ []) (sym e) in
    subst (λ (xs : List StatementText). ResolvesBlock cs vs (block_tree xs) (block_of (ss ++ s ∷ []))) (sym w)
    (resolves_push cs vs (take i ts) ss t s h k)
