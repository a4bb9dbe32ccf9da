-- A symbol has one byte or two.
use Rattle.std.proofs.Common.{◌≡◌, ℕ, zero, suc, ◌<◌, ◌≤◌, List, [], ◌∷◌, length, take, get_or, ap, sym, ◌∙◌, arith}
use Rattle.std.proofs.Common.{length-take, inl, inr, ◌⊎◌, refl}
use Rattle.net_text.specs.Spellings.{symbol_spelling, IsLongestSymbol}
use Rattle.net_text.specs.declared.token.Symbol.{Symbol}
use Rattle.net_text.specs.declared.token.Symbol.TheVariants as symbol

pub spelling_length : (s : Symbol) → (1 ≤ length (symbol_spelling s)) × (length (symbol_spelling s) ≤ 2)
spelling_length symbol.Semicolon = (omega arith, omega arith)
spelling_length symbol.LeftBrace = (omega arith, omega arith)
spelling_length symbol.RightBrace = (omega arith, omega arith)
spelling_length symbol.LeftParenthesis = (omega arith, omega arith)
spelling_length symbol.RightParenthesis = (omega arith, omega arith)
spelling_length symbol.Assign = (omega arith, omega arith)
spelling_length symbol.Equal = (omega arith, omega arith)
spelling_length symbol.NotEqual = (omega arith, omega arith)
spelling_length symbol.Less = (omega arith, omega arith)
spelling_length symbol.LessOrEqual = (omega arith, omega arith)
spelling_length symbol.Greater = (omega arith, omega arith)
spelling_length symbol.GreaterOrEqual = (omega arith, omega arith)
spelling_length symbol.Plus = (omega arith, omega arith)
spelling_length symbol.Minus = (omega arith, omega arith)
spelling_length symbol.Star = (omega arith, omega arith)

-- so a front that is a symbol has one byte or two
pub front_length : (s : Symbol) (n : ℕ) (bytes : List ℕ) → n ≤ length bytes → take n bytes ≡ symbol_spelling s
    → (n ≡ 1) ⊎ (n ≡ 2)
front_length s n bytes within is =
    let limits = spelling_length s in
    let len = length-take n bytes in
    let same = ap length is in
    one_or_two n (omega arith) (omega arith)
  where
    one_or_two : (n : ℕ) → 1 ≤ n → n ≤ 2 → (n ≡ 1) ⊎ (n ≡ 2)
    one_or_two zero h k = inl (omega arith)
    one_or_two (suc zero) h k = inl refl
    one_or_two (suc (suc n)) h k = inr (omega arith)

take_one : (bytes : List ℕ) → 0 < length bytes → take 1 bytes ≡ get_or bytes 0 0 ∷ []
take_one [] h = absurd (omega arith)
take_one (b ∷ bytes) h = refl

pub two_longest : (s : Symbol) (bytes : List ℕ) → 2 ≤ length bytes → take 2 bytes ≡ symbol_spelling s
    → IsLongestSymbol s 2 bytes
two_longest s bytes within is = record {
  within = within;
  spelled = is;
  longest =
      λ t n le front. elim (front_length t n bytes le front) as (λ _. n ≤ 2)
      [ inl e ↦ omega arith | inr e ↦ omega arith ];
}

pub one_longest : (s : Symbol) (bytes : List ℕ) → 0 < length bytes → symbol_spelling s ≡ get_or bytes 0 0 ∷ []
    → ((t : Symbol) → 2 ≤ length bytes → take 2 bytes ≡ symbol_spelling t → ⊥) → IsLongestSymbol s 1 bytes
one_longest s bytes within is no_double = record {
  within = within;
  spelled = take_one bytes within ∙ sym is;
  longest =
      λ t n le front. elim (front_length t n bytes le front) as (λ _. n ≤ 1) [
        | inl e ↦ omega arith
        | inr e ↦ absurd (no_double t (omega arith) (ap (λ (k : ℕ). take k bytes) (sym e) ∙ front))
      ];
}

pub no_symbol : (bytes : List ℕ) → 0 < length bytes → ((s : Symbol) → symbol_spelling s ≡ get_or bytes 0 0 ∷ [] → ⊥)
    → ((t : Symbol) → 2 ≤ length bytes → take 2 bytes ≡ symbol_spelling t → ⊥) → (s : Symbol) (n : ℕ)
    → n ≤ length bytes → take n bytes ≡ symbol_spelling s → ⊥
no_symbol bytes within no_single no_double s n le front =
    elim (front_length s n bytes le front) as (λ _. ⊥) [
      | inl e ↦ no_single s (sym front ∙ ap (λ (k : ℕ). take k bytes) e ∙ take_one bytes within)
      | inr e ↦ no_double s (omega arith) (ap (λ (k : ℕ). take k bytes) (sym e) ∙ front)
    ]
