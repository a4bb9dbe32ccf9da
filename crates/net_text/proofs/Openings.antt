-- Readers of what nests, as the parser goes through them: a symbol that opens, and what stands behind it.
use Rattle.std.proofs.Common.{◌≡◌, ℕ, zero, suc, ◌-◌, Bool, true, false, cond, List, [], ◌∷◌, Ok, Err, refl, sym, ◌∙◌}
use Rattle.std.proofs.Common.{sub-one}
use Rattle.net_text.specs.Trees.{MinusTree}
use Rattle.net_text.specs.Tokens.{Lexeme}
use Rattle.net_text.specs.Reading.{Read, Reader, has_symbol, begins, pair_at, as_at, symbol_at, unopened_at, opening_at}
use Rattle.net_text.specs.Reading.{atom_at, expr_of, factor_of, factor_at, parenthesised_at, minus_at, expr_at}
use Rattle.net_text.specs.Reading.{statement_at, statements_at, block_at}
use Rattle.net_text.specs.Editions.{Counts}
use Rattle.net_text.specs.declared.edition.Edition.{Edition}
use Rattle.net_text.proofs.Laws.{cond_true, cond_false}
use Rattle.net_text.specs.declared.parser.Stuck.TheVariants.{At, TooDeep}
use Rattle.net_text.specs.declared.token.Symbol.{Symbol}
use Rattle.net_text.specs.declared.token.Symbol.TheVariants as symbol
use Rattle.net_text.specs.Results.{◌>>=◌}

-- what can't be opened is all the same
stuck_same : {B : Type 0} (next : Unit {0} × List Lexeme → Read B) (b : Bool) (line : ℕ)
    → (let left : Read B = cond b (Err (TooDeep line)) (Err (At line)) in
    left ≡ (cond {A = Read (Unit {0})} b (Err (TooDeep line)) (Err (At line)) >>= next))
stuck_same next true line = refl
stuck_same next false line = refl

unopened_same : (B : Type 0) (s : Symbol) (next : Unit {0} × List Lexeme → Read B) (ts : List Lexeme)
    → unopened_at {A = B} s ts ≡ (unopened_at {A = Unit {0}} s ts >>= next)
unfolding unopened_at
unopened_same B s next [] = refl
unopened_same B s next (t ∷ ts) = stuck_same next (has_symbol s t.kind) t.line

abbrev with_opening : {A : Type 0} → Reader A → Read (Unit {0}) → Read (Unit {0} × A)
with_opening value o = o >>= λ a. value a.1 >>= λ b. Ok ((a.0, b.0), b.1)

abbrev seen_so : {A B : Type 0} → (A → B) → Read A → Read B
seen_so view o = o >>= λ x. Ok (view x.0, x.1)

abbrev behind : {A B : Type 0} → (Unit {0} × A → B) → Reader A → Unit {0} × List Lexeme → Read B
behind view value a = seen_so view (with_opening value (Ok a))

seen_assoc : {A B : Type 0} (view : Unit {0} × A → B) (value : Reader A) (o : Read (Unit {0}))
    → seen_so view (with_opening value o) ≡ (o >>= behind view value)
seen_assoc view value (Ok x) = refl
seen_assoc view value (Err s) = refl

pub unopened_steps : {A B : Type 0} (s : Symbol) (view : Unit {0} × A → B) (value : Reader A) (ts : List Lexeme)
    → unopened_at {A = B} s ts ≡ as_at view (pair_at (unopened_at s) value) ts
unopened_steps {A} {B} s view value ts =
    unopened_same B s (behind view value) ts ∙ sym (seen_assoc view value (unopened_at s ts))

pub parenthesised_steps : (edition : Edition) (left : ℕ) (ts : List Lexeme)
    → parenthesised_at edition left ts
    ≡ as_at (λ x. x.1.0)
    (pair_at (opening_at symbol.LeftParenthesis left)
    (pair_at (expr_at edition (left - 1)) (symbol_at symbol.RightParenthesis))) ts
unfolding parenthesised_at expr_at
parenthesised_steps edition zero ts =
    unopened_steps symbol.LeftParenthesis (λ x. x.1.0)
    (pair_at (expr_of edition (factor_at edition (0 - 1))) (symbol_at symbol.RightParenthesis)) ts
parenthesised_steps edition (suc left) ts = rw sub-one refl

pub minus_steps : (edition : Edition) (left : ℕ) (ts : List Lexeme)
    → minus_at edition left ts
    ≡ as_at (λ x. MinusTree x.1) (pair_at (opening_at symbol.Minus left) (factor_at edition (left - 1))) ts
unfolding minus_at
minus_steps edition zero ts = unopened_steps symbol.Minus (λ x. MinusTree x.1) (factor_at edition (0 - 1)) ts
minus_steps edition (suc left) ts = rw sub-one refl

pub block_steps : (edition : Edition) (counts : Counts) (left : ℕ) (ts : List Lexeme)
    → block_at edition counts left ts
    ≡ as_at (λ x. x.1.0)
    (pair_at (opening_at symbol.LeftBrace left)
    (pair_at (statements_at edition counts (left - 1)) (symbol_at symbol.RightBrace))) ts
unfolding block_at statements_at statement_at
block_steps edition counts zero ts =
    unopened_steps symbol.LeftBrace (λ x. x.1.0)
    (pair_at (statements_at edition counts (0 - 1)) (symbol_at symbol.RightBrace)) ts
block_steps edition counts (suc left) ts = rw sub-one refl

factor_is : (edition : Edition) (left : ℕ) (ts : List Lexeme)
    → factor_at edition left ts ≡ factor_of (parenthesised_at edition left) (minus_at edition left) ts
unfolding factor_at parenthesised_at minus_at
factor_is edition zero ts = refl
factor_is edition (suc left) ts = refl

pub factor_parenthesised : (edition : Edition) (left : ℕ) (ts : List Lexeme)
    → begins (has_symbol symbol.LeftParenthesis) ts ≡ true
    → factor_at edition left ts ≡ parenthesised_at edition left ts
factor_parenthesised edition left ts h =
    factor_is edition left ts ∙ cond_true (begins (has_symbol symbol.LeftParenthesis) ts) _ _ h

pub factor_minus : (edition : Edition) (left : ℕ) (ts : List Lexeme)
    → begins (has_symbol symbol.LeftParenthesis) ts ≡ false
    → begins (has_symbol symbol.Minus) ts ≡ true → factor_at edition left ts ≡ minus_at edition left ts
factor_minus edition left ts h k =
    factor_is edition left ts ∙ cond_false (begins (has_symbol symbol.LeftParenthesis) ts) _ _ h
    ∙ cond_true (begins (has_symbol symbol.Minus) ts) _ _ k

pub factor_atom : (edition : Edition) (left : ℕ) (ts : List Lexeme)
    → begins (has_symbol symbol.LeftParenthesis) ts ≡ false
    → begins (has_symbol symbol.Minus) ts ≡ false → factor_at edition left ts ≡ atom_at ts
factor_atom edition left ts h k =
    factor_is edition left ts ∙ cond_false (begins (has_symbol symbol.LeftParenthesis) ts) _ _ h
    ∙ cond_false (begins (has_symbol symbol.Minus) ts) _ _ k
