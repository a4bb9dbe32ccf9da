-- A text in the grammar has one reading, and that reading gives its tree. What isn't read is refused where no text goes
-- on.
use Rattle.std.proofs.Common.{append_assoc, ◌≡◌, ℕ, suc, ◌+◌, ◌≤◌, inl, inr, List, [], ◌∷◌, ◌++◌, length, Result, Ok}
use Rattle.std.proofs.Common.{Err, refl, sym, ap, subst, ◌∙◌}
use Rattle.std.proofs.lemmas.List.{append-nil}
use Rattle.net_text.specs.Trees.{DeclarationTree}
use Rattle.net_text.specs.Tokens.{Lexeme, line_at, AreTokens, AreTokensTo, IsTokenFrom, IsReading}
use Rattle.net_text.specs.Grammar.{Whole, Begun, IsText, IsTextOf, Begins}
use Rattle.net_text.specs.Texts.{BeginsTo, IsParseFault}
use Rattle.net_text.specs.Reading.{Read, text_at, no_more, whole_text, Fails, fault_at}
use Rattle.net_text.proofs.Sequences.{went_on}
use Rattle.net_text.proofs.Readings.{one_reading}
use Rattle.net_text.proofs.Laws.{Took, Stops, Ends, GoesOn, next, next_next}
use Rattle.net_text.proofs.Rules.{text_reads, text_goes_on}
use Rattle.net_text.proofs.Growth.{begins_front, front_begins}
use Rattle.net_text.specs.Editions.{Counts, Ranged, Unranged}
use Rattle.net_text.specs.declared.token.TokenKind.TheVariants as kind
use Rattle.net_text.specs.declared.lexer.End.{End}
use Rattle.net_text.specs.declared.lexer.End.TheVariants as end
use Rattle.net_text.specs.declared.fault.TextFault.{TextFault}
use Rattle.net_text.specs.declared.fault.TextFault.TheVariants.{NoMemory, BadToken, Unexpected, NumberRange, TooLong}
use Rattle.net_text.specs.declared.parser.Stuck.{Stuck}
use Rattle.net_text.specs.declared.parser.Stuck.TheVariants.{At, TooDeep, OutOfRange, AtEnd}
use Rattle.net_text.specs.declared.parser.ParseError.{ParseError}
use Rattle.net_text.specs.declared.parser.ParseError.TheVariants as error
use Rattle.net_text.specs.declared.limits.TheConstants.{MAX_TEXT_BYTES, MAX_NESTING}
use Rattle.net_text.specs.Results.{◌>>=◌}

-- ---- tokens

-- tokens that are a text's, all of them, are those that are read of it, up to its end
pub tokens_read : (text : List ℕ) (ts us : List Lexeme) (stop : End) → AreTokens text ts → IsReading text us stop
    → (ts ≡ us) × (stop ≡ end.Text (line_at text (length text)))
tokens_read text ts us stop h g = one_reading text 0 ts us h.place g.place stop h.read h.ends g.read g.stops

-- what is read up to the end of a text are its tokens
pub tokens_of : (text : List ℕ) (ts : List Lexeme) (stop : End) (line : ℕ) → IsReading text ts stop
    → stop ≡ end.Text line → AreTokens text ts
tokens_of text ts (end.Text at) line g e = record { place = g.place; read = g.read; ends = g.stops.0 }
tokens_of text ts (end.Bad fault) line g e = absurd cc

pub no_bad_end : (stop : End) (fault : TextFault) (line : ℕ) → stop ≡ end.Bad fault → stop ≡ end.Text line → ⊥
no_bad_end stop fault line h g = cc

-- tokens up to one of them, and that one
record UpTo (text : List ℕ) (place : ℕ) (front : List Lexeme) (t : Lexeme) : Type 0 where
  pub middle : ℕ
  pub read : AreTokensTo text place front middle
  pub token : IsTokenFrom text middle t

up_to : (text : List ℕ) (place : ℕ) (front : List Lexeme) (t : Lexeme) (more : List Lexeme) (last : ℕ)
    → AreTokensTo text place (front ++ t ∷ more) last → UpTo text place front t
up_to text place [] t more last h = record { middle = place; read = refl; token = h.0 }
up_to text place (u ∷ front) t more last h =
    let rest = up_to text (u.start + length u.text) front t more last h.1 in
    record { middle = rest.middle; read = (h.0, rest.read); token = rest.token }

-- ---- trees

-- all tokens are a text of the tree that is read
nothing_left : (found : List DeclarationTree) (rest : List Lexeme) (tree : List DeclarationTree)
    → no_more found rest ≡ Ok tree → (rest ≡ []) × (found ≡ tree)
nothing_left found [] tree h = (refl, cc)
nothing_left found (t ∷ rest) tree h = absurd cc

ends_with : (counts : Counts) (left : ℕ) (ts : List Lexeme) (o : Read (List DeclarationTree))
    → text_at counts left ts ≡ o
    → Ends (λ ds. IsText counts left ds) (text_at counts left) (text_at Unranged (suc left)) ts o
ends_with counts left ts o e =
    subst (λ (p : Read (List DeclarationTree)). Ends (λ ds. IsText counts left ds) (text_at counts left)
    (text_at Unranged (suc left)) ts p)
    e ((text_reads counts left).ends ts)

pub whole_took : (counts : Counts) (left : ℕ) (ts : List Lexeme) (tree : List DeclarationTree)
    → whole_text counts left ts ≡ Ok tree
    → IsText counts left tree Whole ts
unfolding whole_text
whole_took counts left ts tree e =
    let t = went_on (text_at counts left ts) (λ text. no_more text.0 text.1) tree e in
    let one = ends_with counts left ts (Ok t.0) t.1 in
    let none = nothing_left t.0.0 t.0.1 tree t.2 in
    let parts : ts ≡ one.front = one.parts ∙ ap (λ (r : List Lexeme). one.front ++ r) none.0 ∙ append-nil one.front in
    subst (λ (l : List Lexeme). IsText counts left tree Whole l) (sym parts)
    (subst (λ (d : List DeclarationTree). IsText counts left d Whole one.front) none.1 one.is)

pub whole_again : (counts : Counts) (left : ℕ) (tree : List DeclarationTree) (ts : List Lexeme)
    → IsText counts left tree Whole ts
    → whole_text counts left ts ≡ Ok tree
unfolding whole_text
whole_again counts left tree ts is =
    let again : text_at counts left ts ≡ Ok (tree, []) =
    ap (text_at counts left) (sym (append-nil ts)) ∙ (text_reads counts left).again tree ts [] is refl in
    ap (λ (o : Read (List DeclarationTree)). o >>= λ text. no_more text.0 text.1) again

pub tree_read : (text : List ℕ) (tree : List DeclarationTree) (us : List Lexeme) (stop : End) → IsTextOf tree text
    → IsReading text us stop
    → (whole_text Ranged MAX_NESTING us ≡ Ok tree) × (stop ≡ end.Text (line_at text (length text)))
tree_read text tree us stop is g =
    let one = tokens_read text is.tokens us stop is.read g in (
      whole_again Ranged MAX_NESTING tree us
          (subst (λ (l : List Lexeme). IsText Ranged MAX_NESTING tree Whole l) one.0 is.grammar),
      one.1,
    )

abbrev read_ok : List DeclarationTree → Result (List DeclarationTree) Stuck
read_ok t = Ok t

abbrev read_err : Stuck → Result (List DeclarationTree) Stuck
read_err s = Err s

pub one_tree : (ts : List Lexeme) (found tree : List DeclarationTree) → whole_text Ranged MAX_NESTING ts ≡ Ok found
    → whole_text Ranged MAX_NESTING ts ≡ Ok tree → found ≡ tree
one_tree ts found tree h g = let both : read_ok found ≡ read_ok tree = sym h ∙ g in cc

-- tokens at which reading is stuck are no text's
stuck_tree : (text : List ℕ) (ts : List Lexeme) (stop : End) (stuck : Stuck) → IsReading text ts stop
    → whole_text Ranged MAX_NESTING ts ≡ Err stuck → (tree : List DeclarationTree) → IsTextOf tree text → ⊥
stuck_tree text ts stop stuck g read tree is = let again = (tree_read text tree ts stop is g).0 in
    let both : read_err stuck ≡ read_ok tree = sym read ∙ again in cc

-- ---- where no text goes on

-- tokens at which reading stops begin no text
no_text : (counts : Counts) (left : ℕ) (ts : List Lexeme) (o : Read (List DeclarationTree))
    → text_at counts left ts ≡ o → (GoesOn o → ⊥)
    → Begins counts left ts → ⊥
no_text counts left ts o e stops begins =
    stops (subst (λ (p : Read (List DeclarationTree)). GoesOn p) e
    ((text_reads counts left).goes begins.declarations ts begins.begun))

-- at a stray token
record StraysHere (counts : Counts) (left : ℕ) (ts : List Lexeme) (line : ℕ) : Type 0 where
  pub front : List Lexeme
  pub token : Lexeme
  pub more : List Lexeme
  pub parts : ts ≡ front ++ token ∷ more
  pub line_is : line ≡ token.line
  pub begins : Begins counts left front
  pub none : Begins counts left (front ++ token ∷ []) → ⊥
  pub none_deeper : Begins Unranged (suc left) (front ++ token ∷ []) → ⊥

-- at a token that opens one too many
record DeepensHere (counts : Counts) (left : ℕ) (ts : List Lexeme) (line : ℕ) : Type 0 where
  pub front : List Lexeme
  pub token : Lexeme
  pub more : List Lexeme
  pub parts : ts ≡ front ++ token ∷ more
  pub line_is : line ≡ token.line
  pub begins : Begins counts left front
  pub none : Begins counts left (front ++ token ∷ []) → ⊥
  pub deeper : Begins Unranged (suc left) (front ++ token ∷ [])
  pub no_number : (n : ℕ) → token.kind ≡ kind.Number n → ⊥

-- at a number outside the limits of repetitions
record PassesLimitsHere (counts : Counts) (left : ℕ) (ts : List Lexeme) (line : ℕ) : Type 0 where
  pub front : List Lexeme
  pub token : Lexeme
  pub more : List Lexeme
  pub parts : ts ≡ front ++ token ∷ more
  pub line_is : line ≡ token.line
  pub begins : Begins counts left front
  pub none : Begins counts left (front ++ token ∷ []) → ⊥
  pub unranged : Begins Unranged (suc left) (front ++ token ∷ [])
  pub number : ℕ
  pub number_is : token.kind ≡ kind.Number number

abbrev IsHere : Counts → ℕ → List Lexeme → Stuck → Type 0
IsHere counts left ts (At line) = StraysHere counts left ts line
IsHere counts left ts (TooDeep line) = DeepensHere counts left ts line
IsHere counts left ts (OutOfRange line) = PassesLimitsHere counts left ts line
IsHere counts left ts AtEnd = Begins counts left ts

goes_at_end : (counts : Counts) (left : ℕ) (ts : List Lexeme) → text_at counts left ts ≡ Err AtEnd
    → Begins counts left ts
goes_at_end counts left ts e =
    let one = ends_with counts left ts (Err AtEnd) e in
    let parts : ts ≡ one.front = one.parts ∙ ap (λ (r : List Lexeme). one.front ++ r) one.at ∙ append-nil one.front in
    record {
      declarations = one.tree;
      begun =
          subst (λ (l : List Lexeme). IsText counts left one.tree Begun l) (sym parts) one.begun;
    }

cut_parts : (ts front rest more : List Lexeme) → ts ≡ front ++ rest → ts ++ more ≡ front ++ (rest ++ more)
cut_parts ts front rest more e = ap (λ (l : List Lexeme). l ++ more) e ∙ append_assoc front rest more

token_next : (rest : List Lexeme) (t : Lexeme) (after more : List Lexeme) → rest ≡ t ∷ after
    → next (rest ++ more) ≡ next rest
token_next rest t after more e = ap (λ (l : List Lexeme). next (l ++ more)) e ∙ ap next (sym e)

-- what begins a text begins one also where it is cut short
cut_begins : (counts : Counts) (left : ℕ) (ts more : List Lexeme) (o : Read (List DeclarationTree))
    → Ends (λ ds. IsText counts left ds) (text_at counts left) (text_at Unranged (suc left)) ts o
    → Begins counts left (ts ++ more)
    → Begins counts left ts
cut_begins counts left ts more (Ok (found, [])) one begins =
    let parts : ts ≡ one.front = one.parts ∙ append-nil one.front in
    let longer = text_goes_on counts left found one.front one.is in
    record {
      declarations = longer.0;
      begun =
          subst (λ (l : List Lexeme). IsText counts left longer.0 Begun l) (sym parts) longer.1;
    }
cut_begins counts left ts more (Ok (found, t ∷ rest)) one begins =
    absurd (no_text counts left (ts ++ more) (Ok (found, (t ∷ rest) ++ more))
    (ap (text_at counts left) (cut_parts ts one.front (t ∷ rest) more one.parts) ∙ one.ahead ((t ∷ rest) ++ more) refl)
    (λ h. some h) begins)
  where
    some : (let one_more : List Lexeme = t ∷ (rest ++ more) in one_more ≡ []) → ⊥
    some h = cc
cut_begins counts left ts more (Err AtEnd) one begins =
    let parts : ts ≡ one.front = one.parts ∙ ap (λ (r : List Lexeme). one.front ++ r) one.at ∙ append-nil one.front in
    record {
      declarations = one.tree;
      begun =
          subst (λ (l : List Lexeme). IsText counts left one.tree Begun l) (sym parts) one.begun;
    }
cut_begins counts left ts more (Err (At line)) one begins =
    absurd (no_text counts left (ts ++ more) (Err (At line))
    (ap (text_at counts left) (cut_parts ts one.front one.rest more one.parts)
    ∙ one.same (one.rest ++ more) (token_next one.rest one.at.0 one.at.1 more one.at.2)) (λ h. h) begins)
cut_begins counts left ts more (Err (TooDeep line)) one begins =
    absurd (no_text counts left (ts ++ more) (Err (TooDeep line))
    (ap (text_at counts left) (cut_parts ts one.front one.rest more one.parts)
    ∙ one.same (one.rest ++ more) (token_next one.rest one.at.0 one.at.1 more one.at.2)) (λ h. h) begins)
cut_begins counts left ts more (Err (OutOfRange line)) one begins =
    absurd (no_text counts left (ts ++ more) (Err (OutOfRange line))
    (ap (text_at counts left) (cut_parts ts one.front one.rest more one.parts)
    ∙ one.same (one.rest ++ more) (token_next one.rest one.at.0 one.at.1 more one.at.2)) (λ h. h) begins)

pub begins_cut : (counts : Counts) (left : ℕ) (ts more : List Lexeme) → Begins counts left (ts ++ more)
    → Begins counts left ts
begins_cut counts left ts more begins =
    cut_begins counts left ts more (text_at counts left ts) ((text_reads counts left).ends ts) begins

stopped_here : (counts : Counts) (left : ℕ) (ts : List Lexeme) (stuck : Stuck)
    → Stops (λ ds. IsText counts left ds) (text_at counts left) (text_at Unranged (suc left)) ts stuck
    → IsHere counts left ts stuck
stopped_here counts left ts (At line) one =
    let here = one.at in
    let tail : one.front ++ next one.rest ≡ one.front ++ here.0 ∷ [] =
    ap (λ (r : List Lexeme). one.front ++ next r) here.2 in
    record {
      front = one.front;
      token = here.0;
      more = here.1;
      parts = one.parts ∙ ap (λ (r : List Lexeme). one.front ++ r) here.2;
      line_is = here.3;
      begins = record { declarations = one.tree; begun = one.begun };
      none = no_text counts left (one.front ++ here.0 ∷ []) (Err (At line))
          (ap (text_at counts left) (sym tail) ∙ one.same (next one.rest) (next_next one.rest)) (λ h. h);
      none_deeper =
          no_text Unranged (suc left) (one.front ++ here.0 ∷ []) (Err (At line))
          (ap (text_at Unranged (suc left)) (sym tail) ∙ one.higher) (λ h. h);
    }
stopped_here counts left ts (TooDeep line) one =
    let here = one.at in
    let tail : one.front ++ next one.rest ≡ one.front ++ here.0 ∷ [] =
    ap (λ (r : List Lexeme). one.front ++ next r) here.2 in
    record {
      front = one.front;
      token = here.0;
      more = here.1;
      parts = one.parts ∙ ap (λ (r : List Lexeme). one.front ++ r) here.2;
      line_is = here.3;
      begins = record { declarations = one.tree; begun = one.begun };
      none = no_text counts left (one.front ++ here.0 ∷ []) (Err (TooDeep line))
          (ap (text_at counts left) (sym tail) ∙ one.same (next one.rest) (next_next one.rest)) (λ h. h);
      deeper =
          goes_at_end Unranged (suc left) (one.front ++ here.0 ∷ [])
          (ap (text_at Unranged (suc left)) (sym tail) ∙ one.higher);
      no_number = here.4;
    }
stopped_here counts left ts (OutOfRange line) one =
    let here = one.at in
    let tail : one.front ++ next one.rest ≡ one.front ++ here.0 ∷ [] =
    ap (λ (r : List Lexeme). one.front ++ next r) here.2 in
    record {
      front = one.front;
      token = here.0;
      more = here.1;
      parts = one.parts ∙ ap (λ (r : List Lexeme). one.front ++ r) here.2;
      line_is = here.3;
      begins = record { declarations = one.tree; begun = one.begun };
      none = no_text counts left (one.front ++ here.0 ∷ []) (Err (OutOfRange line))
          (ap (text_at counts left) (sym tail) ∙ one.same (next one.rest) (next_next one.rest)) (λ h. h);
      unranged =
          goes_at_end Unranged (suc left) (one.front ++ here.0 ∷ [])
          (ap (text_at Unranged (suc left)) (sym tail) ∙ one.higher);
      number = here.4.0;
      number_is = here.4.1;
    }
stopped_here counts left ts AtEnd one =
    let parts : ts ≡ one.front = one.parts ∙ ap (λ (r : List Lexeme). one.front ++ r) one.at ∙ append-nil one.front in
    record {
      declarations = one.tree;
      begun =
          subst (λ (l : List Lexeme). IsText counts left one.tree Begun l) (sym parts) one.begun;
    }

-- a whole text with a token behind it
left_here : (counts : Counts) (left : ℕ) (ts : List Lexeme) (found : List DeclarationTree) (rest : List Lexeme)
    (stuck : Stuck)
    → Took (λ ds. IsText counts left ds) (text_at counts left) ts (found, rest) → no_more found rest ≡ Err stuck
    → IsHere counts left ts stuck
left_here counts left ts found [] stuck one e = absurd (no_err found stuck e)
  where
    no_err : (d : List DeclarationTree) (s : Stuck) → read_ok d ≡ read_err s → ⊥
    no_err d s h = cc
left_here counts left ts found (t ∷ more) stuck one e =
    subst (IsHere counts left ts)
    (let same : At t.line ≡ stuck = (let both : read_err (At t.line) ≡ read_err stuck = e in cc) in same) (record {
      front = one.front;
      token = t;
      more = more;
      parts = one.parts;
      line_is = refl;
      begins =
          (let longer = text_goes_on counts left found one.front one.is in
          record { declarations = longer.0; begun = longer.1 });
      none = no_text counts left (one.front ++ t ∷ []) (Ok (found, t ∷ [])) (one.ahead (t ∷ []) refl) (λ h. some t h);
      none_deeper =
          no_text Unranged (suc left) (one.front ++ t ∷ []) (Ok (found, t ∷ []))
          ((text_reads counts left).kept (one.front ++ t ∷ []) (found, t ∷ []) (one.ahead (t ∷ []) refl))
          (λ h. some t h);
    })
  where
    some : (u : Lexeme) → (let one_more : List Lexeme = u ∷ [] in one_more ≡ []) → ⊥
    some u h = cc

whole_here : (counts : Counts) (left : ℕ) (ts : List Lexeme) (stuck : Stuck) (o : Read (List DeclarationTree))
    → Ends (λ ds. IsText counts left ds) (text_at counts left) (text_at Unranged (suc left)) ts o
    → (o >>= λ text. no_more text.0 text.1) ≡ Err stuck → IsHere counts left ts stuck
whole_here counts left ts stuck (Ok x) one e = left_here counts left ts x.0 x.1 stuck one e
whole_here counts left ts stuck (Err s) one e =
    subst (IsHere counts left ts) (let same : s ≡ stuck = (let both : read_err s ≡ read_err stuck = e in cc) in same)
    (stopped_here counts left ts s one)

stuck_here : (counts : Counts) (left : ℕ) (ts : List Lexeme) (stuck : Stuck) → whole_text counts left ts ≡ Err stuck
    → IsHere counts left ts stuck
unfolding whole_text
stuck_here counts left ts stuck e =
    whole_here counts left ts stuck (text_at counts left ts) ((text_reads counts left).ends ts) e

-- ---- faults

begins_to : (text : List ℕ) (ts : List Lexeme) (place : ℕ) → AreTokensTo text 0 ts place → Begins Ranged MAX_NESTING ts
    → BeginsTo text ts place
begins_to text ts place read begins =
    record { read = read; begins = begins; front = begins_front Ranged MAX_NESTING ts begins }

-- a bad token comes where a text goes on
bad_fault : (text : List ℕ) (ts : List Lexeme) (fault : TextFault) → length text ≤ MAX_TEXT_BYTES
    → IsReading text ts (end.Bad fault) → Begins Ranged MAX_NESTING ts → IsParseFault text fault
bad_fault text ts NoMemory small g begins = tt
bad_fault text ts (BadToken line) small g begins =
    (small, (ts, g.place, begins_to text ts g.place g.read begins, g.stops))
bad_fault text ts (Unexpected line) small g begins = absurd g.stops.bad
bad_fault text ts (NumberRange line) small g begins =
    inl (small, (ts, g.place, begins_to text ts g.place g.read begins, g.stops))
bad_fault text ts (TooLong line) small g begins =
    inr (inl (small, (ts, g.place, begins_to text ts g.place g.read begins, g.stops)))

-- the first bad token of a text is why it has no tokens
pub tokens_fault : (text : List ℕ) (ts : List Lexeme) (tree : List DeclarationTree) (fault : TextFault)
    → length text ≤ MAX_TEXT_BYTES → IsReading text ts (end.Bad fault) → whole_text Ranged MAX_NESTING ts ≡ Ok tree
    → IsParseFault text fault
tokens_fault text ts tree fault small g read =
    let longer = text_goes_on Ranged MAX_NESTING tree ts (whole_took Ranged MAX_NESTING ts tree read) in
    bad_fault text ts fault small g (record { declarations = longer.0; begun = longer.1 })

stuck_fault : (text : List ℕ) (ts : List Lexeme) (stop : End) (stuck : Stuck) → length text ≤ MAX_TEXT_BYTES
    → IsReading text ts stop → whole_text Ranged MAX_NESTING ts ≡ Err stuck → IsHere Ranged MAX_NESTING ts stuck
    → IsParseFault text (fault_at stuck stop)
stuck_fault text ts stop (At line) small g read here =
    let at =
    up_to text 0 here.front here.token here.more g.place
    (subst (λ (l : List Lexeme). AreTokensTo text 0 l g.place) here.parts g.read) in (
      stuck_tree text ts stop (At line) g read,
      (
        small,
        (
          here.front,
          at.middle,
          begins_to text here.front at.middle at.read here.begins,
          inl (record {
            token = here.token;
            next = at.token;
            line_is = here.line_is;
            none = here.none;
            none_deeper =
                here.none_deeper;
            no_front =
                λ f. here.none_deeper (front_begins Unranged (suc MAX_NESTING) (here.front ++ here.token ∷ []) f);
          }),
        ),
      ),
    )
stuck_fault text ts stop (TooDeep line) small g read here =
    let at =
    up_to text 0 here.front here.token here.more g.place
    (subst (λ (l : List Lexeme). AreTokensTo text 0 l g.place) here.parts g.read) in
    inr
    (inr (
      small,
      (
        here.front,
        at.middle,
        begins_to text here.front at.middle at.read here.begins,
        record {
          token = here.token;
          next = at.token;
          line_is = here.line_is;
          none = here.none;
          no_front =
              λ f. here.none (front_begins Ranged MAX_NESTING (here.front ++ here.token ∷ []) f);
          deeper = here.deeper;
          no_number = here.no_number;
        },
      ),
    ))
stuck_fault text ts stop (OutOfRange line) small g read here =
    let at =
    up_to text 0 here.front here.token here.more g.place
    (subst (λ (l : List Lexeme). AreTokensTo text 0 l g.place) here.parts g.read) in
    inr (
      small,
      (
        here.front,
        at.middle,
        begins_to text here.front at.middle at.read here.begins,
        record {
          token = here.token;
          next = at.token;
          line_is = here.line_is;
          none = here.none;
          no_front =
              λ f. here.none (front_begins Ranged MAX_NESTING (here.front ++ here.token ∷ []) f);
          unranged = here.unranged;
          number = here.number;
          number_is = here.number_is;
        },
      ),
    )
stuck_fault text ts (end.Text line) AtEnd small g read here = (
  stuck_tree text ts (end.Text line) AtEnd g read,
  (
    small,
    (
      ts,
      g.place,
      begins_to text ts g.place g.read here,
      inr (record {
        ends = g.stops.0;
        line_is = g.stops.1;
        none = λ tree is. no_whole tree (sym read ∙ whole_again Ranged MAX_NESTING tree ts is);
      }),
    ),
  ),
)
  where
    no_whole : (tree : List DeclarationTree) → read_err AtEnd ≡ read_ok tree → ⊥
    no_whole tree h = cc
stuck_fault text ts (end.Bad fault) AtEnd small g read here = bad_fault text ts fault small g here

-- a text whose reading is stuck is refused for what it is
pub refused : (text : List ℕ) (read ts : List Lexeme) (stop : End) (e : ParseError) (stuck : Stuck)
    → length text ≤ MAX_TEXT_BYTES → e ≡ error.Stuck stuck → Fails e (whole_text Ranged MAX_NESTING read) → read ≡ ts
    → IsReading text ts stop
    → IsParseFault text (fault_at stuck stop) × ((tree : List DeclarationTree) → IsTextOf tree text → ⊥)
refused text read ts stop (error.Stuck other) stuck small k h same g =
    let here : other ≡ stuck = let both : error.Stuck other ≡ error.Stuck stuck = k in cc in
    let found : whole_text Ranged MAX_NESTING ts ≡ Err stuck =
    ap (λ (l : List Lexeme). whole_text Ranged MAX_NESTING l) (sym same) ∙ h ∙ ap (λ (s : Stuck). read_err s) here in (
      stuck_fault text ts stop stuck small g found (stuck_here Ranged MAX_NESTING ts stuck found),
      stuck_tree text ts stop
          stuck g found,
    )
refused text read ts stop error.NoMemory stuck small k h same g = absurd cc
