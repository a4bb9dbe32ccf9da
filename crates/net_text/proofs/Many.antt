-- Reading one thing after another, as a loop does.
use Rattle.std.proofs.Common.{◌≡◌, ℕ, zero, suc, ◌≤◌, Bool, true, false, cond, List, [], ◌∷◌, ◌++◌, length, Ok, refl}
use Rattle.std.proofs.Common.{ap, arith}
use Rattle.net_text.specs.Trees.{BlockTree}
use Rattle.net_text.specs.Tokens.{Lexeme}
use Rattle.net_text.specs.Reading.{Read, begins, many, append_block}
use Rattle.net_text.specs.declared.token.TokenKind.{TokenKind}
use Rattle.net_text.proofs.Sequences.{same_on}
use Rattle.net_text.proofs.Laws.{IsShortening, with_first}
use Rattle.net_text.specs.Results.{◌>>=◌}

-- what was read before, and what is read now
abbrev pub after_items : {A : Type 0} → List A → Read (List A) → Read (List A)
after_items front read = read >>= λ x. Ok (front ++ x.0, x.1)

abbrev pub after_block : BlockTree → Read BlockTree → Read BlockTree
after_block front read = read >>= λ x. Ok (append_block front x.0, x.1)

cond_same : {A : Type 0} (b : Bool) (x y z : A) → x ≡ y → cond b x z ≡ cond b y z
cond_same true x y z e = e
cond_same false x y z e = refl

abbrev turn : {A : Type 0} → (TokenKind → Bool) → (List Lexeme → Read A) → ℕ → A × List Lexeme → Read (List A)
turn starts item i first = with_first first.0 (many starts item i first.1)

-- more turns than there are tokens change nothing
pub many_same : {A : Type 0} (starts : TokenKind → Bool) (item : List Lexeme → Read A) → IsShortening item
    → (n m : ℕ) (ts : List Lexeme) → length ts ≤ n → length ts ≤ m → many starts item n ts ≡ many starts item m ts
many_same starts item shorter zero zero ts h k = refl
many_same starts item shorter zero (suc m) [] h k = refl
many_same starts item shorter zero (suc m) (t ∷ ts) h k = absurd (omega arith)
many_same starts item shorter (suc n) zero [] h k = refl
many_same starts item shorter (suc n) zero (t ∷ ts) h k = absurd (omega arith)
many_same starts item shorter (suc n) (suc m) ts h k =
    cond_same (begins starts ts) (item ts >>= turn starts item n) (item ts >>= turn starts item m) (Ok ([], ts))
    (same_on (item ts) (turn starts item n) (turn starts item m) (λ x e.
    let less = shorter ts x e in
    ap (with_first x.0) (many_same starts item shorter n m x.1 (omega arith) (omega arith))))

-- one turn
pub many_step : {A : Type 0} (starts : TokenKind → Bool) (item : List Lexeme → Read A) → IsShortening item
    → (ts : List Lexeme) (x : A × List Lexeme) → begins starts ts ≡ true → item ts ≡ Ok x
    → many starts item (length ts) ts ≡ (many starts item (length x.1) x.1 >>= λ others. Ok (x.0 ∷ others.0, others.1))
many_step starts item shorter [] x b e = absurd cc
many_step starts item shorter (t ∷ ts) x b e =
    let less = shorter (t ∷ ts) x e in
    rw (b, e)
    (ap (with_first x.0) (many_same starts item shorter (length ts) (length x.1) x.1 (omega arith) (omega arith)))

-- the last
pub many_stop : {A : Type 0} (starts : TokenKind → Bool) (item : List Lexeme → Read A) (ts : List Lexeme)
    → begins starts ts ≡ false → many starts item (length ts) ts ≡ Ok ([], ts)
many_stop starts item [] b = refl
many_stop starts item (t ∷ ts) b = rw b refl
