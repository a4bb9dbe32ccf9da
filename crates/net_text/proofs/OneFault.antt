-- A text has one fault: it goes on up to one place alone, and what comes there is one.
use Rattle.std.proofs.Common.{◌≡◌, ℕ, suc, ◌+◌, ◌<◌, ◌≤◌, ◌⊎◌, inl, inr, true, List, [], ◌∷◌, ◌++◌, length, take, drop}
use Rattle.std.proofs.Common.{refl, sym, ap, subst, ◌∙◌, append_assoc, arith}
use Rattle.net_text.specs.Trees.{DeclarationTree}
use Rattle.net_text.specs.Numbers.{is_numeral}
use Rattle.net_text.specs.Spellings.{IsLexeme, IsLongest, is_word}
use Rattle.net_text.specs.Tokens.{Lexeme, AreTokensTo, IsTokenFrom, EndsAt, IsBadAt, IsBadFrom}
use Rattle.net_text.specs.Grammar.{Whole, IsText, IsTextOf, Begins}
use Rattle.net_text.specs.Texts.{BeginsTo, IsStrayToken, IsOneTooDeep, IsCountPastLimits, IsCutShort, IsParseFault}
use Rattle.net_text.specs.Editions.{Ranged, Unranged}
use Rattle.net_text.specs.declared.token.TokenKind.TheVariants as kind
use Rattle.net_text.proofs.Readings.{one_token, token_no_end, token_no_bad, bad_no_end, one_place, one_longest_front}
use Rattle.net_text.proofs.Readings.{longest_within, word_no_numeral}
use Rattle.net_text.proofs.Rules.{text_goes_on}
use Rattle.net_text.proofs.Texts.{begins_cut}
use Rattle.net_text.specs.declared.fault.TextFault.{TextFault}
use Rattle.net_text.specs.declared.fault.TextFault.TheVariants.{NoMemory, BadToken, Unexpected, NumberRange, TooLong}
use Rattle.net_text.specs.declared.limits.TheConstants.{MAX_TEXT_BYTES, MAX_NESTING}

-- ---- what stops a text at a place

-- why a text doesn't go on behind these tokens, which end at this place
IsStopBy : List ℕ → List Lexeme → ℕ → TextFault → Type 0
IsStopBy text ts place NoMemory = ⊥
IsStopBy text ts place (BadToken line) = IsBadFrom text place (BadToken line)
IsStopBy text ts place (NumberRange line) =
    IsBadFrom text place (NumberRange line) ⊎ IsCountPastLimits text ts place line
IsStopBy text ts place (TooLong line) = IsBadFrom text place (TooLong line) ⊎ IsOneTooDeep text ts place line
IsStopBy text ts place (Unexpected line) = IsStrayToken text ts place line ⊎ IsCutShort text ts place line

-- a text cut before a token that is refused begins no further
no_further : (ts : List Lexeme) (t u : Lexeme) (more : List Lexeme) → t ≡ u
    → (Begins Ranged MAX_NESTING (ts ++ t ∷ []) → ⊥)
    → Begins Ranged MAX_NESTING (ts ++ u ∷ more) → ⊥
no_further ts t u more same none begins =
    none (begins_cut Ranged MAX_NESTING (ts ++ t ∷ []) more
    (subst (λ (l : List Lexeme). Begins Ranged MAX_NESTING l)
    (ap (λ (v : Lexeme). ts ++ v ∷ more) (sym same) ∙ sym (append_assoc ts (t ∷ []) more)) begins))

stops_here : (text : List ℕ) (ts : List Lexeme) (place : ℕ) (f : TextFault) → IsStopBy text ts place f
    → (t : Lexeme) (more : List Lexeme) → IsTokenFrom text place t → Begins Ranged MAX_NESTING (ts ++ t ∷ more) → ⊥
unfolding IsStopBy
stops_here text ts place NoMemory stop t more token begins = stop
stops_here text ts place (BadToken line) stop t more token begins = token_no_bad text place t (BadToken line) token stop
stops_here text ts place (NumberRange line) (inl bad) t more token begins =
    token_no_bad text place t (NumberRange line) token bad
stops_here text ts place (NumberRange line) (inr past) t more token begins =
    no_further ts past.token t more (one_token text place past.token t past.next token) past.none begins
stops_here text ts place (TooLong line) (inl bad) t more token begins =
    token_no_bad text place t (TooLong line) token bad
stops_here text ts place (TooLong line) (inr deep) t more token begins =
    no_further ts deep.token t more (one_token text place deep.token t deep.next token) deep.none begins
stops_here text ts place (Unexpected line) (inl stray) t more token begins =
    no_further ts stray.token t more (one_token text place stray.token t stray.next token) stray.none begins
stops_here text ts place (Unexpected line) (inr short) t more token begins = token_no_end text place t token short.ends

-- ---- one thing stands at a place

no_front : (text : List ℕ) (start : ℕ) (front : List ℕ)
    → ((n : ℕ) → n ≤ length (drop start text) → IsLexeme (take n (drop start text)) → ⊥)
    → IsLongest front (drop start text) → ⊥
no_front text start front never longest =
    never (length front) (longest_within front (drop start text) longest)
    (subst IsLexeme longest.front_of longest.lexeme)

no_both : (text : List ℕ) (start : ℕ) (numeral name : List ℕ) → IsLongest numeral (drop start text)
    → IsLongest name (drop start text) → is_numeral numeral ≡ true → is_word name ≡ true → ⊥
no_both text start numeral name a b is word =
    let same : numeral ≡ name = one_longest_front numeral name (drop start text) a b in
    word_no_numeral name word (ap is_numeral (sym same) ∙ is)

bad_kinds : (text : List ℕ) (start : ℕ) (f g : TextFault) → IsBadAt text start f → IsBadAt text start g → f ≡ g
bad_kinds text start NoMemory g a b = absurd a
bad_kinds text start (Unexpected n) g a b = absurd a
bad_kinds text start (BadToken n) NoMemory a b = absurd b
bad_kinds text start (BadToken n) (Unexpected m) a b = absurd b
bad_kinds text start (BadToken n) (BadToken m) a b = ap BadToken (a.0 ∙ sym b.0)
bad_kinds text start (BadToken n) (NumberRange m) a b = absurd (no_front text start b.1.0 a.1 b.1.1)
bad_kinds text start (BadToken n) (TooLong m) a b = absurd (no_front text start b.1.0 a.1 b.1.1)
bad_kinds text start (NumberRange n) NoMemory a b = absurd b
bad_kinds text start (NumberRange n) (Unexpected m) a b = absurd b
bad_kinds text start (NumberRange n) (BadToken m) a b = absurd (no_front text start a.1.0 b.1 a.1.1)
bad_kinds text start (NumberRange n) (NumberRange m) a b = ap NumberRange (a.0 ∙ sym b.0)
bad_kinds text start (NumberRange n) (TooLong m) a b = absurd (no_both text start a.1.0 b.1.0 a.1.1 b.1.1 a.1.2 b.1.2)
bad_kinds text start (TooLong n) NoMemory a b = absurd b
bad_kinds text start (TooLong n) (Unexpected m) a b = absurd b
bad_kinds text start (TooLong n) (BadToken m) a b = absurd (no_front text start a.1.0 b.1 a.1.1)
bad_kinds text start (TooLong n) (NumberRange m) a b = absurd (no_both text start b.1.0 a.1.0 b.1.1 a.1.1 b.1.2 a.1.2)
bad_kinds text start (TooLong n) (TooLong m) a b = ap TooLong (a.0 ∙ sym b.0)

one_bad : (text : List ℕ) (place : ℕ) (f g : TextFault) → IsBadFrom text place f → IsBadFrom text place g → f ≡ g
one_bad text place f g a b =
    let x = a.within in
    let y = b.within in
    let start : a.start ≡ b.start =
    one_place text a.start b.start (omega arith) (omega arith) (a.after ∙ sym b.after) in
    bad_kinds text b.start f g (subst (λ (n : ℕ). IsBadAt text n f) start a.bad) b.bad

-- a token at this place is no other thing
one_line : (t u : Lexeme) (n m : ℕ) → t ≡ u → n ≡ t.line → m ≡ u.line → n ≡ m
one_line t u n m same a b = a ∙ ap (λ (v : Lexeme). v.line) same ∙ sym b

deep_not_stray : (text : List ℕ) (ts : List Lexeme) (place n m : ℕ) → IsOneTooDeep text ts place n
    → IsStrayToken text ts place m → ⊥
deep_not_stray text ts place n m deep stray =
    let same = one_token text place deep.token stray.token deep.next stray.next in
    stray.none_deeper (subst (λ (t : Lexeme). Begins Unranged (suc MAX_NESTING) (ts ++ t ∷ [])) same deep.deeper)

past_not_stray : (text : List ℕ) (ts : List Lexeme) (place n m : ℕ) → IsCountPastLimits text ts place n
    → IsStrayToken text ts place m → ⊥
past_not_stray text ts place n m past stray =
    let same = one_token text place past.token stray.token past.next stray.next in
    stray.none_deeper (subst (λ (t : Lexeme). Begins Unranged (suc MAX_NESTING) (ts ++ t ∷ [])) same past.unranged)

past_not_deep : (text : List ℕ) (ts : List Lexeme) (place n m : ℕ) → IsCountPastLimits text ts place n
    → IsOneTooDeep text ts place m → ⊥
past_not_deep text ts place n m past deep =
    let same = one_token text place past.token deep.token past.next deep.next in
    deep.no_number past.number
    (subst (λ (t : Lexeme). t.kind ≡ kind.Number past.number) same past.number_is)

one_stop : (text : List ℕ) (ts : List Lexeme) (place : ℕ) (f g : TextFault) → IsStopBy text ts place f
    → IsStopBy text ts place g → f ≡ g
unfolding IsStopBy
one_stop text ts place NoMemory g a b = absurd a
one_stop text ts place (BadToken n) NoMemory a b = absurd b
one_stop text ts place (BadToken n) (BadToken m) a b = one_bad text place (BadToken n) (BadToken m) a b
one_stop text ts place (BadToken n) (NumberRange m) a (inl b) = one_bad text place (BadToken n) (NumberRange m) a b
one_stop text ts place (BadToken n) (NumberRange m) a (inr b) =
    absurd (token_no_bad text place b.token (BadToken n) b.next a)
one_stop text ts place (BadToken n) (TooLong m) a (inl b) = one_bad text place (BadToken n) (TooLong m) a b
one_stop text ts place (BadToken n) (TooLong m) a (inr b) =
    absurd (token_no_bad text place b.token (BadToken n) b.next a)
one_stop text ts place (BadToken n) (Unexpected m) a (inl b) =
    absurd (token_no_bad text place b.token (BadToken n) b.next a)
one_stop text ts place (BadToken n) (Unexpected m) a (inr b) = absurd (bad_no_end text place (BadToken n) a b.ends)
one_stop text ts place (NumberRange n) NoMemory a b = absurd b
one_stop text ts place (NumberRange n) (BadToken m) (inl a) b = one_bad text place (NumberRange n) (BadToken m) a b
one_stop text ts place (NumberRange n) (BadToken m) (inr a) b =
    absurd (token_no_bad text place a.token (BadToken m) a.next b)
one_stop text ts place (NumberRange n) (NumberRange m) (inl a) (inl b) =
    one_bad text place (NumberRange n) (NumberRange m) a b
one_stop text ts place (NumberRange n) (NumberRange m) (inl a) (inr b) =
    absurd (token_no_bad text place b.token (NumberRange n) b.next a)
one_stop text ts place (NumberRange n) (NumberRange m) (inr a) (inl b) =
    absurd (token_no_bad text place a.token (NumberRange m) a.next b)
one_stop text ts place (NumberRange n) (NumberRange m) (inr a) (inr b) =
    ap NumberRange
    (one_line a.token b.token n m (one_token text place a.token b.token a.next b.next) a.line_is b.line_is)
one_stop text ts place (NumberRange n) (TooLong m) (inl a) (inl b) =
    one_bad text place (NumberRange n) (TooLong m) a b
one_stop text ts place (NumberRange n) (TooLong m) (inl a) (inr b) =
    absurd (token_no_bad text place b.token (NumberRange n) b.next a)
one_stop text ts place (NumberRange n) (TooLong m) (inr a) (inl b) =
    absurd (token_no_bad text place a.token (TooLong m) a.next b)
one_stop text ts place (NumberRange n) (TooLong m) (inr a) (inr b) = absurd (past_not_deep text ts place n m a b)
one_stop text ts place (NumberRange n) (Unexpected m) (inl a) (inl b) =
    absurd (token_no_bad text place b.token (NumberRange n) b.next a)
one_stop text ts place (NumberRange n) (Unexpected m) (inl a) (inr b) =
    absurd (bad_no_end text place (NumberRange n) a b.ends)
one_stop text ts place (NumberRange n) (Unexpected m) (inr a) (inl b) = absurd (past_not_stray text ts place n m a b)
one_stop text ts place (NumberRange n) (Unexpected m) (inr a) (inr b) =
    absurd (token_no_end text place a.token a.next b.ends)
one_stop text ts place (TooLong n) NoMemory a b = absurd b
one_stop text ts place (TooLong n) (BadToken m) (inl a) b = one_bad text place (TooLong n) (BadToken m) a b
one_stop text ts place (TooLong n) (BadToken m) (inr a) b =
    absurd (token_no_bad text place a.token (BadToken m) a.next b)
one_stop text ts place (TooLong n) (NumberRange m) (inl a) (inl b) =
    one_bad text place (TooLong n) (NumberRange m) a b
one_stop text ts place (TooLong n) (NumberRange m) (inl a) (inr b) =
    absurd (token_no_bad text place b.token (TooLong n) b.next a)
one_stop text ts place (TooLong n) (NumberRange m) (inr a) (inl b) =
    absurd (token_no_bad text place a.token (NumberRange m) a.next b)
one_stop text ts place (TooLong n) (NumberRange m) (inr a) (inr b) = absurd (past_not_deep text ts place m n b a)
one_stop text ts place (TooLong n) (TooLong m) (inl a) (inl b) = one_bad text place (TooLong n) (TooLong m) a b
one_stop text ts place (TooLong n) (TooLong m) (inl a) (inr b) =
    absurd (token_no_bad text place b.token (TooLong n) b.next a)
one_stop text ts place (TooLong n) (TooLong m) (inr a) (inl b) =
    absurd (token_no_bad text place a.token (TooLong m) a.next b)
one_stop text ts place (TooLong n) (TooLong m) (inr a) (inr b) =
    ap TooLong (one_line a.token b.token n m (one_token text place a.token b.token a.next b.next) a.line_is b.line_is)
one_stop text ts place (TooLong n) (Unexpected m) (inl a) (inl b) =
    absurd (token_no_bad text place b.token (TooLong n) b.next a)
one_stop text ts place (TooLong n) (Unexpected m) (inl a) (inr b) = absurd (bad_no_end text place (TooLong n) a b.ends)
one_stop text ts place (TooLong n) (Unexpected m) (inr a) (inl b) = absurd (deep_not_stray text ts place n m a b)
one_stop text ts place (TooLong n) (Unexpected m) (inr a) (inr b) =
    absurd (token_no_end text place a.token a.next b.ends)
one_stop text ts place (Unexpected n) NoMemory a b = absurd b
one_stop text ts place (Unexpected n) (BadToken m) (inl a) b =
    absurd (token_no_bad text place a.token (BadToken m) a.next b)
one_stop text ts place (Unexpected n) (BadToken m) (inr a) b = absurd (bad_no_end text place (BadToken m) b a.ends)
one_stop text ts place (Unexpected n) (NumberRange m) (inl a) (inl b) =
    absurd (token_no_bad text place a.token (NumberRange m) a.next b)
one_stop text ts place (Unexpected n) (NumberRange m) (inl a) (inr b) = absurd (past_not_stray text ts place m n b a)
one_stop text ts place (Unexpected n) (NumberRange m) (inr a) (inl b) =
    absurd (bad_no_end text place (NumberRange m) b a.ends)
one_stop text ts place (Unexpected n) (NumberRange m) (inr a) (inr b) =
    absurd (token_no_end text place b.token b.next a.ends)
one_stop text ts place (Unexpected n) (TooLong m) (inl a) (inl b) =
    absurd (token_no_bad text place a.token (TooLong m) a.next b)
one_stop text ts place (Unexpected n) (TooLong m) (inl a) (inr b) = absurd (deep_not_stray text ts place m n b a)
one_stop text ts place (Unexpected n) (TooLong m) (inr a) (inl b) = absurd (bad_no_end text place (TooLong m) b a.ends)
one_stop text ts place (Unexpected n) (TooLong m) (inr a) (inr b) =
    absurd (token_no_end text place b.token b.next a.ends)
one_stop text ts place (Unexpected n) (Unexpected m) (inl a) (inl b) =
    ap Unexpected
    (one_line a.token b.token n m (one_token text place a.token b.token a.next b.next) a.line_is b.line_is)
one_stop text ts place (Unexpected n) (Unexpected m) (inl a) (inr b) =
    absurd (token_no_end text place a.token a.next b.ends)
one_stop text ts place (Unexpected n) (Unexpected m) (inr a) (inl b) =
    absurd (token_no_end text place b.token b.next a.ends)
one_stop text ts place (Unexpected n) (Unexpected m) (inr a) (inr b) = ap Unexpected (a.line_is ∙ sym b.line_is)

-- ---- the tokens of a text, up to two places

-- the second tokens go on behind the first
record Further (text : List ℕ) (ts us : List Lexeme) (place : ℕ) : Type 0 where
  token : Lexeme
  more : List Lexeme
  parts : us ≡ ts ++ token ∷ more
  next : IsTokenFrom text place token

Compared : List ℕ → List Lexeme → List Lexeme → ℕ → ℕ → Type 0
Compared text ts us p q = ((ts ≡ us) × (p ≡ q)) ⊎ (Further text ts us p ⊎ Further text us ts q)

compared : (text : List ℕ) (place : ℕ) (ts us : List Lexeme) (p q : ℕ) → AreTokensTo text place ts p
    → AreTokensTo text place us q → Compared text ts us p q
unfolding Compared
compared text place [] [] p q a b = inl (refl, sym a ∙ b)
compared text place [] (u ∷ us) p q a b =
    inr (inl (record { token = u; more = us; parts = refl; next = subst (λ (n : ℕ). IsTokenFrom text n u) a b.0 }))
compared text place (t ∷ ts) [] p q a b =
    inr (inr (record { token = t; more = ts; parts = refl; next = subst (λ (n : ℕ). IsTokenFrom text n t) b a.0 }))
compared text place (t ∷ ts) (u ∷ us) p q a b =
    let same : t ≡ u = one_token text place t u a.0 b.0 in
    behind same
    (compared text (u.start + length u.text) ts us p q
    (subst (λ (v : Lexeme). AreTokensTo text (v.start + length v.text) ts p) same a.1) b.1)
  where
    behind : t ≡ u → Compared text ts us p q → Compared text (t ∷ ts) (u ∷ us) p q
    behind same (inl e) = inl (λ i. same i ∷ e.0 i, e.1)
    behind same (inr (inl f)) =
        inr (inl (record { token = f.token; more = f.more; parts = (λ i. sym same i ∷ f.parts i); next = f.next }))
    behind same (inr (inr f)) =
        inr (inr (record { token = f.token; more = f.more; parts = (λ i. same i ∷ f.parts i); next = f.next }))

-- ---- a text has one fault

-- a text that isn't over-long stops here
record StopsBy (text : List ℕ) (f : TextFault) : Type 0 where
  small : length text ≤ MAX_TEXT_BYTES
  ts : List Lexeme
  place : ℕ
  to : BeginsTo text ts place
  stop : IsStopBy text ts place f

same_stop : (text : List ℕ) (f g : TextFault) → StopsBy text f → StopsBy text g → f ≡ g
unfolding Compared
same_stop text f g a b =
    elim (compared text 0 a.ts b.ts a.place b.place a.to.read b.to.read) as (λ _. f ≡ g) [
      | inl same ↦ one_stop text b.ts b.place f g
          (subst (λ (n : ℕ). IsStopBy text b.ts n f) same.1
          (subst (λ (l : List Lexeme). IsStopBy text l a.place f) same.0 a.stop)) b.stop
      | inr apart ↦ elim apart as (λ _. f ≡ g) [
        | inl further ↦ absurd
            (stops_here text a.ts a.place f a.stop further.token further.more further.next
            (subst (λ (l : List Lexeme). Begins Ranged MAX_NESTING l) further.parts b.to.begins))
        | inr further ↦ absurd
            (stops_here text b.ts b.place g b.stop further.token further.more further.next
            (subst (λ (l : List Lexeme). Begins Ranged MAX_NESTING l) further.parts a.to.begins))
      ]
    ]

-- what a fault says: want of memory, an over-long text, or a stop
Said : List ℕ → TextFault → Type 0
Said text f = (f ≡ NoMemory) ⊎ (((MAX_TEXT_BYTES < length text) × (f ≡ TooLong 1)) ⊎ StopsBy text f)

said : (text : List ℕ) (f : TextFault) → IsParseFault text f → Said text f
unfolding Said IsStopBy
said text NoMemory h = inl refl
said text (BadToken n) h = inr (inr (record { small = h.0; ts = h.1.0; place = h.1.1; to = h.1.2; stop = h.1.3 }))
said text (NumberRange n) (inl h) =
    inr (inr (record { small = h.0; ts = h.1.0; place = h.1.1; to = h.1.2; stop = inl h.1.3 }))
said text (NumberRange n) (inr h) =
    inr (inr (record { small = h.0; ts = h.1.0; place = h.1.1; to = h.1.2; stop = inr h.1.3 }))
said text (TooLong n) (inl over) = inr (inl (over.0, ap TooLong over.1))
said text (TooLong n) (inr (inl h)) =
    inr (inr (record { small = h.0; ts = h.1.0; place = h.1.1; to = h.1.2; stop = inl h.1.3 }))
said text (TooLong n) (inr (inr h)) =
    inr (inr (record { small = h.0; ts = h.1.0; place = h.1.1; to = h.1.2; stop = inr h.1.3 }))
said text (Unexpected n) (none, h) =
    inr (inr (record { small = h.0; ts = h.1.0; place = h.1.1; to = h.1.2; stop = h.1.3 }))

both_said : (text : List ℕ) (f g : TextFault) → Said text f → Said text g → (f ≡ NoMemory) ⊎ ((g ≡ NoMemory) ⊎ (g ≡ f))
unfolding Said
both_said text f g (inl a) b = inl a
both_said text f g (inr a) (inl b) = inr (inl b)
both_said text f g (inr (inl a)) (inr (inl b)) = inr (inr (b.1 ∙ sym a.1))
both_said text f g (inr (inl a)) (inr (inr b)) = absurd (let x = a.0 in let y = b.small in omega arith)
both_said text f g (inr (inr a)) (inr (inl b)) = absurd (let x = b.0 in let y = a.small in omega arith)
both_said text f g (inr (inr a)) (inr (inr b)) = inr (inr (same_stop text g f b a))

pub one_parse_fault : (text : List ℕ) (g : TextFault) → IsParseFault text g → (f : TextFault) → IsParseFault text f
    → (f ≡ NoMemory) ⊎ ((g ≡ NoMemory) ⊎ (g ≡ f))
one_parse_fault text g b f a = both_said text f g (said text f a) (said text g b)

-- ---- a text of the grammar has none

-- nothing stops a text where it ends
no_stop_at_end : (text : List ℕ) (ts : List Lexeme) (place : ℕ) (tree : List DeclarationTree) (f : TextFault)
    → IsText Ranged MAX_NESTING tree Whole ts → EndsAt text place → IsStopBy text ts place f → ⊥
unfolding IsStopBy
no_stop_at_end text ts place tree NoMemory is ends stop = stop
no_stop_at_end text ts place tree (BadToken n) is ends stop = bad_no_end text place (BadToken n) stop ends
no_stop_at_end text ts place tree (NumberRange n) is ends (inl bad) = bad_no_end text place (NumberRange n) bad ends
no_stop_at_end text ts place tree (NumberRange n) is ends (inr past) =
    token_no_end text place past.token past.next ends
no_stop_at_end text ts place tree (TooLong n) is ends (inl bad) = bad_no_end text place (TooLong n) bad ends
no_stop_at_end text ts place tree (TooLong n) is ends (inr deep) = token_no_end text place deep.token deep.next ends
no_stop_at_end text ts place tree (Unexpected n) is ends (inl stray) =
    token_no_end text place stray.token stray.next ends
no_stop_at_end text ts place tree (Unexpected n) is ends (inr short) = short.none tree is

whole_begins : (ts : List Lexeme) (tree : List DeclarationTree) → IsText Ranged MAX_NESTING tree Whole ts
    → Begins Ranged MAX_NESTING ts
whole_begins ts tree is = let longer = text_goes_on Ranged MAX_NESTING tree ts is in
    record { declarations = longer.0; begun = longer.1 }

no_stop : (text : List ℕ) (tree : List DeclarationTree) (f : TextFault) → IsTextOf tree text → StopsBy text f → ⊥
unfolding Compared
no_stop text tree f is a =
    elim (compared text 0 a.ts is.tokens a.place is.read.place a.to.read is.read.read) as (λ _. ⊥) [
      | inl same ↦
          no_stop_at_end text a.ts a.place tree f
          (subst (λ (l : List Lexeme). IsText Ranged MAX_NESTING tree Whole l) (sym same.0) is.grammar)
          (subst (EndsAt text) (sym same.1) is.read.ends) a.stop
      | inr apart ↦ elim apart as (λ _. ⊥) [
        | inl further ↦ stops_here text a.ts a.place f a.stop further.token further.more further.next
            (subst (λ (l : List Lexeme). Begins Ranged MAX_NESTING l) further.parts
            (whole_begins is.tokens tree is.grammar))
        | inr further ↦ token_no_end text is.read.place further.token further.next is.read.ends
      ]
    ]

tree_said : (text : List ℕ) (tree : List DeclarationTree) (f : TextFault) → IsTextOf tree text → Said text f
    → f ≡ NoMemory
unfolding Said
tree_said text tree f is (inl none) = none
tree_said text tree f is (inr (inl over)) = absurd (let x = over.0 in let y = is.small in omega arith)
tree_said text tree f is (inr (inr stop)) = absurd (no_stop text tree f is stop)

pub tree_no_fault : (text : List ℕ) (tree : List DeclarationTree) (f : TextFault) → IsTextOf tree text
    → IsParseFault text f → f ≡ NoMemory
tree_no_fault text tree f is fault = tree_said text tree f is (said text f fault)
