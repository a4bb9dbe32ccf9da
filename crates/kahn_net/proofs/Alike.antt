-- Lists of statements and of links that read alike.
use Rattle.std.proofs.Common.{◌≡◌, ◌↔◌, ℕ, suc, ◌+◌, ◌<◌, List, [], ◌∷◌, length, drop, get_or, refl, ap, Box}
use Rattle.std.proofs.Common.{Vec, Global}
use Rattle.kahn_net.specs.declared.program.Link.{Link}
use Rattle.kahn_net.specs.declared.program.Statement.{Statement, Get, Assign, Put, Stop, If', Repeat'}
use Rattle.kahn_net.specs.declared.program.Expr.{Expr}
use Rattle.kahn_net.specs.declared.program.Expr.TheViews as view
use Rattle.kahn_net.specs.declared.program.Statement.TheViews as statement
use Rattle.kahn_net.specs.Laws.Syntax.{chain_of, if_of, repeat_of, block_at}
use Rattle.kahn_net.specs.Syntax.{links_of, tree_of, then_of, Block, Nothing, block_of}

-- Two statements with what comes after them are the same: then what comes after them is, and so are the two with anything
-- else after them.
swapped : (s t : Statement) (rest more rest' more' : Block) → then_of s rest ≡ then_of t more → rest' ≡ more'
    → (then_of s rest' ≡ then_of t more') × (rest ≡ more)
swapped (Get x c) (Get y d) rest more rest' more' e f = (cc, cc)
swapped (Assign x a) (Assign y b) rest more rest' more' e f = (cc, cc)
swapped (Put a c) (Put b d) rest more rest' more' e f = (cc, cc)
swapped Stop Stop rest more rest' more' e f = (cc, cc)
swapped (If' a p first q second) (If' b p' first' q' second') rest more rest' more' e f = (cc, cc)
swapped (Repeat' m p body) (Repeat' n p' body') rest more rest' more' e f = (cc, cc)
swapped s t rest more rest' more' e f = absurd cc

-- lists that read alike have as many statements
pub as_many : (xs ys : List Statement) → block_of xs ≡ block_of ys → length xs ≡ length ys
as_many [] [] e = refl
as_many (s ∷ xs) (t ∷ ys) e = ap suc (as_many xs ys (swapped s t (block_of xs) (block_of ys) Nothing Nothing e refl).1)
as_many [] (Stop ∷ ys) e = absurd cc
as_many [] (t ∷ ys) e = absurd cc
as_many (Stop ∷ xs) [] e = absurd cc
as_many (s ∷ xs) [] e = absurd cc

-- whether the rests from here are the same decides whether the wholes are
abbrev pub Decide : List Statement → List Statement → ℕ → Type 0
Decide xs ys i = (block_of (drop i xs) ≡ block_of (drop i ys)) ↔ (block_of xs ≡ block_of ys)

-- lists that read alike have as many links
pub as_many_links : (xs ys : List Link) → links_of xs ≡ links_of ys → length xs ≡ length ys
as_many_links [] [] e = refl
as_many_links (x ∷ xs) (y ∷ ys) e = ap suc (as_many_links xs ys (cc))
as_many_links [] (y ∷ ys) e = absurd cc
as_many_links (x ∷ xs) [] e = absurd cc

abbrev pub LinksDecide : List Link → List Link → ℕ → Type 0
LinksDecide xs ys i = (links_of (drop i xs) ≡ links_of (drop i ys)) ↔ (links_of xs ≡ links_of ys)

-- two chains are the same where their first values and their links are
pub chains_same : (a b : Expr) (first other : Box Expr Global) (links others : Vec Link Global)
    → a ≡ view.Chain first links → b ≡ view.Chain other others
    → (tree_of a ≡ tree_of b)
    ↔ ((tree_of first.value ≡ tree_of other.value) × (links_of links.items ≡ links_of others.items))
chains_same a b first other links others ha hb =
    rw (ha, hb, chain_of first links, chain_of other others) (λ e. (cc, cc), λ p. rw (p.0, p.1) refl)

-- two ifs are the same where their tests and both their blocks are
pub ifs_same : (a b : Statement) (test test' : Expr) (first second first' second' : Vec Statement Global)
    → a ≡ statement.If test first second → b ≡ statement.If test' first' second'
    → (then_of a Nothing ≡ then_of b Nothing)
    ↔ ((tree_of test ≡ tree_of test') × (block_of first.items ≡ block_of first'.items)
    × (block_of second.items ≡ block_of second'.items))
ifs_same a b test test' first second first' second' ha hb =
    rw (ha, hb, if_of test first second Nothing, if_of test' first' second' Nothing)
    (λ e. (cc, cc, cc), λ p. rw (p.0, p.1, p.2) refl)

-- two repetitions are the same where they are made as often and their blocks are the same
pub repeats_same : (a b : Statement) (times times' : ℕ) (body body' : Vec Statement Global)
    → a ≡ statement.Repeat times body → b ≡ statement.Repeat times' body'
    → (then_of a Nothing ≡ then_of b Nothing) ↔ ((times ≡ times') × (block_of body.items ≡ block_of body'.items))
repeats_same a b times times' body body' ha hb =
    rw (ha, hb, repeat_of times body Nothing, repeat_of times' body' Nothing) (λ e. (cc, cc), λ p. rw (p.0, p.1) refl)

-- statements with those after them are the same where they and those after them are
pub thens_same : (s t : Statement) (rest more : Block)
    → (then_of s rest ≡ then_of t more) ↔ ((then_of s Nothing ≡ then_of t Nothing) × (rest ≡ more))
thens_same s t rest more =
    (λ e. swapped s t rest more Nothing Nothing e refl, λ p. (swapped s t Nothing Nothing rest more p.0 p.1).0)

-- at a place of two lists of statements
pub same_at : (xs ys : List Statement) (i : ℕ) (x y : Statement) → i < length xs → i < length ys → x ≡ get_or xs i x
    → y ≡ get_or ys i y
    → (block_of (drop i xs) ≡ block_of (drop i ys))
    ↔ ((then_of x Nothing ≡ then_of y Nothing) × (block_of (drop (i + 1) xs) ≡ block_of (drop (i + 1) ys)))
same_at xs ys i x y lx ly hx hy =
    rw (block_at xs i x lx hx, block_at ys i y ly hy)
    (thens_same x y (block_of (drop (i + 1) xs)) (block_of (drop (i + 1) ys)))
