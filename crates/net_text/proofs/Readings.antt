-- A text has one reading.
use Rattle.std.proofs.Common.{◌≡◌, ℕ, suc, ◌+◌, ◌^◌, ◌<◌, ◌≤◌, Bool, true, false, cond, List, [], ◌∷◌, ◌++◌, length}
use Rattle.std.proofs.Common.{take, drop, get_or, Option, Some, None, ap, sym, refl, ◌∙◌, subst, arith, length-take}
use Rattle.std.proofs.Common.{length-drop, inl, inr}
use Rattle.std.specs.Prelude.{◌==◌}
use Rattle.std.specs.Str.{bytes_eq}
use Rattle.net_text.specs.Numbers.{is_numeral, numeral_value}
use Rattle.net_text.specs.Spellings.{keyword_spelling, symbol_spelling, is_word, IsLexeme, IsLongest, Spells}
use Rattle.net_text.proofs.Steps.{lexeme_line}
use Rattle.net_text.specs.Tokens.{line_at, is_white, after_gap_in, Lexeme, IsTokenFrom, AreTokensTo, EndsAt, IsBadAt}
use Rattle.net_text.specs.Tokens.{IsBadFrom, StopsAt}
use Rattle.net_text.proofs.Lexemes.{digit_bounds, starts_bounds, first_of_word, first_of_numeral, first_of_symbol}
use Rattle.net_text.proofs.Lexemes.{lexeme_some}
use Rattle.net_text.specs.declared.lexer.End.{End}
use Rattle.net_text.specs.declared.lexer.End.TheVariants as end
use Rattle.net_text.specs.declared.fault.TextFault.{TextFault}
use Rattle.net_text.specs.declared.fault.TextFault.TheVariants.{NoMemory, BadToken, Unexpected, NumberRange, TooLong}
use Rattle.net_text.specs.declared.token.Keyword.{Keyword}
use Rattle.net_text.specs.declared.token.Keyword.TheVariants as keyword
use Rattle.net_text.specs.declared.token.Symbol.{Symbol}
use Rattle.net_text.specs.declared.token.Symbol.TheVariants as symbol
use Rattle.net_text.specs.declared.token.TokenKind.{TokenKind}
use Rattle.net_text.specs.declared.token.TokenKind.TheVariants as kind
use Rattle.net_text.specs.declared.limits.TheConstants.{MAX_NAME_BYTES}

-- one more token
pub tokens_push : (text : List ℕ) (place : ℕ) (ts : List Lexeme) (last : ℕ) (t : Lexeme)
    → AreTokensTo text place ts last → IsTokenFrom text last t
    → AreTokensTo text place (ts ++ t ∷ []) (t.start + length t.text)
tokens_push text place [] last t e token = (subst (λ (p : ℕ). IsTokenFrom text p t) (sym e) token, refl)
tokens_push text place (u ∷ ts) last t read token =
    (read.0, tokens_push text (u.start + length u.text) ts last t read.1 token)

keywords : List Keyword
keywords =
    keyword.Kahn ∷ keyword.Input ∷ keyword.Chan ∷ keyword.Output ∷ keyword.Process ∷ keyword.On ∷ keyword.Var
    ∷ keyword.Loop ∷ keyword.Get ∷ keyword.Put ∷ keyword.To ∷ keyword.If ∷ keyword.Else ∷ keyword.Stop ∷ keyword.Repeat
    ∷ keyword.Div ∷ keyword.Mod ∷ []

-- the first of these keywords that is spelled so
spelled_among : List Keyword → List ℕ → Option Keyword
spelled_among [] bs = None
spelled_among (w ∷ ws) bs = cond (bytes_eq (keyword_spelling w) bs) (Some w) (spelled_among ws bs)

-- no two keywords are spelled alike
keyword_back : (w : Keyword) → spelled_among keywords (keyword_spelling w) ≡ Some w
unfolding spelled_among keywords
keyword_back keyword.Kahn = refl
keyword_back keyword.Input = refl
keyword_back keyword.Chan = refl
keyword_back keyword.Output = refl
keyword_back keyword.Process = refl
keyword_back keyword.On = refl
keyword_back keyword.Var = refl
keyword_back keyword.Loop = refl
keyword_back keyword.Get = refl
keyword_back keyword.Put = refl
keyword_back keyword.To = refl
keyword_back keyword.If = refl
keyword_back keyword.Else = refl
keyword_back keyword.Stop = refl
keyword_back keyword.Repeat = refl
keyword_back keyword.Div = refl
keyword_back keyword.Mod = refl

pub one_keyword : (v w : Keyword) → keyword_spelling v ≡ keyword_spelling w → v ≡ w
one_keyword v w e = let both : Some v ≡ Some w =
    sym (keyword_back v) ∙ ap (spelled_among keywords) e ∙ keyword_back w in cc

symbols : List Symbol
symbols =
    symbol.Semicolon ∷ symbol.LeftBrace ∷ symbol.RightBrace ∷ symbol.LeftParenthesis ∷ symbol.RightParenthesis
    ∷ symbol.Assign ∷ symbol.Equal ∷ symbol.NotEqual ∷ symbol.Less ∷ symbol.LessOrEqual ∷ symbol.Greater
    ∷ symbol.GreaterOrEqual ∷ symbol.Plus ∷ symbol.Minus ∷ symbol.Star ∷ []

symbol_among : List Symbol → List ℕ → Option Symbol
symbol_among [] bs = None
symbol_among (w ∷ ws) bs = cond (bytes_eq (symbol_spelling w) bs) (Some w) (symbol_among ws bs)

symbol_back : (s : Symbol) → symbol_among symbols (symbol_spelling s) ≡ Some s
unfolding symbol_among symbols
symbol_back symbol.Semicolon = refl
symbol_back symbol.LeftBrace = refl
symbol_back symbol.RightBrace = refl
symbol_back symbol.LeftParenthesis = refl
symbol_back symbol.RightParenthesis = refl
symbol_back symbol.Assign = refl
symbol_back symbol.Equal = refl
symbol_back symbol.NotEqual = refl
symbol_back symbol.Less = refl
symbol_back symbol.LessOrEqual = refl
symbol_back symbol.Greater = refl
symbol_back symbol.GreaterOrEqual = refl
symbol_back symbol.Plus = refl
symbol_back symbol.Minus = refl
symbol_back symbol.Star = refl

pub one_symbol : (s t : Symbol) → symbol_spelling s ≡ symbol_spelling t → s ≡ t
one_symbol s t e = let both : Some s ≡ Some t = sym (symbol_back s) ∙ ap (symbol_among symbols) e ∙ symbol_back t in cc

-- a keyword is a word of at most 64 bytes
keyword_is_word : (w : Keyword) → (is_word (keyword_spelling w) ≡ true) × (length (keyword_spelling w) ≤ MAX_NAME_BYTES)
keyword_is_word keyword.Kahn = (refl, omega arith)
keyword_is_word keyword.Input = (refl, omega arith)
keyword_is_word keyword.Chan = (refl, omega arith)
keyword_is_word keyword.Output = (refl, omega arith)
keyword_is_word keyword.Process = (refl, omega arith)
keyword_is_word keyword.On = (refl, omega arith)
keyword_is_word keyword.Var = (refl, omega arith)
keyword_is_word keyword.Loop = (refl, omega arith)
keyword_is_word keyword.Get = (refl, omega arith)
keyword_is_word keyword.Put = (refl, omega arith)
keyword_is_word keyword.To = (refl, omega arith)
keyword_is_word keyword.If = (refl, omega arith)
keyword_is_word keyword.Else = (refl, omega arith)
keyword_is_word keyword.Stop = (refl, omega arith)
keyword_is_word keyword.Repeat = (refl, omega arith)
keyword_is_word keyword.Div = (refl, omega arith)
keyword_is_word keyword.Mod = (refl, omega arith)

keyword_word : (w : Keyword) (bs : List ℕ) → bs ≡ keyword_spelling w → is_word bs ≡ true
keyword_word w bs e = ap is_word e ∙ (keyword_is_word w).0

-- the three shapes exclude one another
pub word_no_numeral : (bs : List ℕ) → is_word bs ≡ true → is_numeral bs ≡ true → ⊥
word_no_numeral bs word numeral =
    let d = digit_bounds (get_or bs 0 0) (first_of_numeral bs numeral) in
    let w = starts_bounds (get_or bs 0 0) (first_of_word bs word) in
    omega arith

word_no_symbol : (bs : List ℕ) (s : Symbol) → is_word bs ≡ true → bs ≡ symbol_spelling s → ⊥
word_no_symbol bs s word is =
    let w = starts_bounds (get_or bs 0 0) (first_of_word bs word) in
    let e = ap (λ (t : List ℕ). get_or t 0 0) is in
    elim (first_of_symbol s).1 as (λ _. ⊥) [ inl low ↦ omega arith | inr high ↦ omega arith ]

numeral_no_symbol : (bs : List ℕ) (s : Symbol) → is_numeral bs ≡ true → bs ≡ symbol_spelling s → ⊥
numeral_no_symbol bs s numeral is =
    let w = digit_bounds (get_or bs 0 0) (first_of_numeral bs numeral) in
    let e = ap (λ (t : List ℕ). get_or t 0 0) is in
    elim (first_of_symbol s).0 as (λ _. ⊥) [ inl low ↦ omega arith | inr high ↦ omega arith ]

-- bytes are a token of one kind at most
one_kind : (k l : TokenKind) (bs : List ℕ) → Spells k bs → Spells l bs → k ≡ l
one_kind kind.Name kind.Name bs h g = refl
one_kind kind.Name (kind.Number n) bs h g = absurd (word_no_numeral bs h.0 g.0)
one_kind kind.Name (kind.Word w) bs h g = absurd (h.1 w g)
one_kind kind.Name (kind.Symbol s) bs h g = absurd (word_no_symbol bs s h.0 g)
one_kind (kind.Number n) kind.Name bs h g = absurd (word_no_numeral bs g.0 h.0)
one_kind (kind.Number n) (kind.Number m) bs h g = ap kind.Number (h.1 ∙ sym g.1)
one_kind (kind.Number n) (kind.Word w) bs h g = absurd (word_no_numeral bs (keyword_word w bs g) h.0)
one_kind (kind.Number n) (kind.Symbol s) bs h g = absurd (numeral_no_symbol bs s h.0 g)
one_kind (kind.Word w) kind.Name bs h g = absurd (g.1 w h)
one_kind (kind.Word w) (kind.Number n) bs h g = absurd (word_no_numeral bs (keyword_word w bs h) g.0)
one_kind (kind.Word v) (kind.Word w) bs h g = ap kind.Word (one_keyword v w (sym h ∙ g))
one_kind (kind.Word w) (kind.Symbol s) bs h g = absurd (word_no_symbol bs s (keyword_word w bs h) g)
one_kind (kind.Symbol s) kind.Name bs h g = absurd (word_no_symbol bs s g.0 h)
one_kind (kind.Symbol s) (kind.Number n) bs h g = absurd (numeral_no_symbol bs s g.0 h)
one_kind (kind.Symbol s) (kind.Word w) bs h g = absurd (word_no_symbol bs s (keyword_word w bs g) h)
one_kind (kind.Symbol s) (kind.Symbol t) bs h g = ap kind.Symbol (one_symbol s t (sym h ∙ g))

pub one_place : (text : List ℕ) (p q : ℕ) → p ≤ length text → q ≤ length text → drop p text ≡ drop q text → p ≡ q
one_place text p q h k e = let a = length-drop p text in let b = length-drop q text in let c = ap length e in
    omega arith

pub longest_within : (front bytes : List ℕ) → IsLongest front bytes → length front ≤ length bytes
longest_within front bytes l = let e = ap length l.front_of in let t = length-take (length front) bytes in omega arith

pub one_longest_front : (a b bytes : List ℕ) → IsLongest a bytes → IsLongest b bytes → a ≡ b
one_longest_front a b bytes h g =
    let first = g.longest (length a) (longest_within a bytes h) (subst IsLexeme h.front_of h.lexeme) in
    let second = h.longest (length b) (longest_within b bytes g) (subst IsLexeme g.front_of g.lexeme) in
    let same : length a ≡ length b = omega arith in
    h.front_of ∙ ap (λ (n : ℕ). take n bytes) same ∙ sym g.front_of

pub one_token : (text : List ℕ) (place : ℕ) (t u : Lexeme) → IsTokenFrom text place t → IsTokenFrom text place u → t ≡ u
one_token text place t u h g =
    let start : t.start ≡ u.start = one_place text t.start u.start h.within g.within (h.after ∙ sym g.after) in
    let longest : IsLongest t.text (drop u.start text) =
    subst (λ (p : ℕ). IsLongest t.text (drop p text)) start h.longest in
    let same : t.text ≡ u.text = one_longest_front t.text u.text (drop u.start text) longest g.longest in
    let kinds : t.kind ≡ u.kind = one_kind t.kind u.kind u.text (subst (Spells t.kind) same h.spelled) g.spelled in
    let lines : t.line ≡ u.line = h.line_is ∙ ap (line_at text) start ∙ sym g.line_is in
    λ i. record { kind = kinds i; text = same i; start = start i; line = lines i }

-- where a token stands the text doesn't end
pub token_no_end : (text : List ℕ) (place : ℕ) (t : Lexeme) → IsTokenFrom text place t → EndsAt text place → ⊥
token_no_end text place t h e =
    let some = lexeme_some t.text h.longest.lexeme in
    let within = longest_within t.text (drop t.start text) h.longest in
    let none = ap length (h.after ∙ e) in
    omega arith

pub bad_no_end : (text : List ℕ) (place : ℕ) (fault : TextFault) → IsBadFrom text place fault → EndsAt text place → ⊥
bad_no_end text place fault h e = let none = ap length (h.after ∙ e) in let l = length-drop h.start text in let lt =
    h.within in omega arith

-- nor is what stands there bad
spelled_no_numeral : (k : TokenKind) (bs : List ℕ) → Spells k bs → is_numeral bs ≡ true → 2 ^ 63 ≤ numeral_value bs → ⊥
spelled_no_numeral kind.Name bs h numeral large = word_no_numeral bs h.0 numeral
spelled_no_numeral (kind.Number n) bs h numeral large = let e = h.1 in let lt = h.2 in omega arith
spelled_no_numeral (kind.Word w) bs h numeral large = word_no_numeral bs (keyword_word w bs h) numeral
spelled_no_numeral (kind.Symbol s) bs h numeral large = numeral_no_symbol bs s numeral h

spelled_no_word : (k : TokenKind) (bs : List ℕ) → Spells k bs → is_word bs ≡ true → MAX_NAME_BYTES < length bs → ⊥
spelled_no_word kind.Name bs h word long = let le = h.2 in omega arith
spelled_no_word (kind.Number n) bs h word long = word_no_numeral bs word h.0
spelled_no_word (kind.Word w) bs h word long = let e = ap length h in let le = (keyword_is_word w).1 in omega arith
spelled_no_word (kind.Symbol s) bs h word long = word_no_symbol bs s word h

token_no_bad_at : (text : List ℕ) (place start : ℕ) (t : Lexeme) (fault : TextFault) → IsTokenFrom text place t
    → t.start ≡ start → IsBadAt text start fault → ⊥
token_no_bad_at text place start t (BadToken line) h e bad =
    let longest : IsLongest t.text (drop start text) = subst (λ (p : ℕ). IsLongest t.text (drop p text)) e h.longest in
    bad.1 (length t.text) (longest_within t.text (drop start text) longest)
    (subst IsLexeme longest.front_of longest.lexeme)
token_no_bad_at text place start t (NumberRange line) h e bad =
    let longest : IsLongest t.text (drop start text) = subst (λ (p : ℕ). IsLongest t.text (drop p text)) e h.longest in
    let same : t.text ≡ bad.1.0 = one_longest_front t.text bad.1.0 (drop start text) longest bad.1.1 in
    spelled_no_numeral t.kind bad.1.0 (subst (Spells t.kind) same h.spelled) bad.1.2 bad.1.3
token_no_bad_at text place start t (TooLong line) h e bad =
    let longest : IsLongest t.text (drop start text) = subst (λ (p : ℕ). IsLongest t.text (drop p text)) e h.longest in
    let same : t.text ≡ bad.1.0 = one_longest_front t.text bad.1.0 (drop start text) longest bad.1.1 in
    spelled_no_word t.kind bad.1.0 (subst (Spells t.kind) same h.spelled) bad.1.2 bad.1.3
token_no_bad_at text place start t NoMemory h e bad = bad
token_no_bad_at text place start t (Unexpected line) h e bad = bad

pub token_no_bad : (text : List ℕ) (place : ℕ) (t : Lexeme) (fault : TextFault) → IsTokenFrom text place t
    → IsBadFrom text place fault → ⊥
token_no_bad text place t fault h bad =
    token_no_bad_at text place bad.start t fault h
    (let lt = bad.within in one_place text t.start bad.start h.within (omega arith) (h.after ∙ sym bad.after))
    bad.bad

-- where a token stands nothing else stops the reading
token_no_stop : (text : List ℕ) (place : ℕ) (t : Lexeme) (stop : End) → IsTokenFrom text place t
    → StopsAt text place stop → ⊥
token_no_stop text place t (end.Text line) h stops = token_no_end text place t h stops.0
token_no_stop text place t (end.Bad fault) h stops = token_no_bad text place t fault h stops

end_stops : (text : List ℕ) (place : ℕ) (stop : End) → EndsAt text place → StopsAt text place stop
    → stop ≡ end.Text (line_at text (length text))
end_stops text place (end.Text line) h stops = ap end.Text stops.1
end_stops text place (end.Bad fault) h stops = absurd (bad_no_end text place fault stops h)

-- the tokens of a text that can be read whole are those that are read, and its end stops the reading
pub one_reading : (text : List ℕ) (place : ℕ) (ts us : List Lexeme) (p q : ℕ) (stop : End)
    → AreTokensTo text place ts p → EndsAt text p → AreTokensTo text place us q → StopsAt text q stop
    → (ts ≡ us) × (stop ≡ end.Text (line_at text (length text)))
one_reading text place [] [] p q stop h ends g stops =
    (refl, end_stops text p stop ends (subst (λ (r : ℕ). StopsAt text r stop) (sym g ∙ h) stops))
one_reading text place [] (u ∷ us) p q stop h ends g stops =
    absurd (token_no_end text place u g.0 (subst (EndsAt text) (sym h) ends))
one_reading text place (t ∷ ts) [] p q stop h ends g stops =
    absurd (token_no_stop text place t stop h.0 (subst (λ (r : ℕ). StopsAt text r stop) (sym g) stops))
one_reading text place (t ∷ ts) (u ∷ us) p q stop h ends g stops =
    let same : t ≡ u = one_token text place t u h.0 g.0 in
    let rest =
    one_reading text (u.start + length u.text) ts us p q stop
    (subst (λ (x : Lexeme). AreTokensTo text (x.start + length x.text) ts p) same h.1) ends g.1 stops in
    (λ i. same i ∷ rest.0 i, rest.1)

-- over a token: the text goes on after it, on its line, and nearer to its end
pub record IsStep (text : List ℕ) (place : ℕ) (t : Lexeme) : Type 0 where
  pub within : t.start + length t.text ≤ length text
  pub line_is : t.line ≡ line_at text (t.start + length t.text)
  pub nearer : place < t.start + length t.text

pick_shorter : (c : Bool) (xs ys : List ℕ) (n : ℕ) → length xs ≤ n → length ys ≤ n → length (cond c xs ys) ≤ n
pick_shorter true xs ys n h k = h
pick_shorter false xs ys n h k = k

after_gap_shorter : (in_comment : Bool) (bs : List ℕ) → length (after_gap_in in_comment bs) ≤ length bs
after_gap_shorter true [] = omega arith
after_gap_shorter false [] = omega arith
after_gap_shorter true (b ∷ bs) =
    let h = after_gap_shorter false bs in
    let k = after_gap_shorter true bs in
    pick_shorter (b == 10) (after_gap_in false bs) (after_gap_in true bs) (suc (length bs)) (omega arith) (omega arith)
after_gap_shorter false (b ∷ bs) =
    let h = after_gap_shorter true bs in
    let k = after_gap_shorter false bs in
    let inner =
    pick_shorter (is_white b) (after_gap_in false bs) (b ∷ bs) (suc (length bs)) (omega arith) (omega arith) in
    pick_shorter (b == 35) (after_gap_in true bs) (cond (is_white b) (after_gap_in false bs) (b ∷ bs))
    (suc (length bs)) (omega arith) inner

pub token_step : (text : List ℕ) (place : ℕ) (t : Lexeme) → place ≤ length text → IsTokenFrom text place t
    → IsStep text place t
token_step text place t le h =
    let some = lexeme_some t.text h.longest.lexeme in
    let within = longest_within t.text (drop t.start text) h.longest in
    let len = length-drop t.start text in
    let len' = length-drop place text in
    let shorter = after_gap_shorter false (drop place text) in
    let same = ap length h.after in
    let start = h.within in
    record {
      within = omega arith;
      line_is =
          h.line_is
          ∙ sym (lexeme_line text t.start (length t.text) (subst IsLexeme h.longest.front_of h.longest.lexeme));
      nearer = omega arith;
    }
