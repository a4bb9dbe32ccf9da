-- What a reader owes to its rule, and that readers made of others owe no less.
use Rattle.std.proofs.Common.{◌≡◌, ℕ, zero, suc, ◌<◌, ◌≤◌, ◌⊎◌, inl, inr, Bool, true, false, cond, ◌||◌, List, [], ◌∷◌}
use Rattle.std.proofs.Common.{◌++◌, length, Result, Ok, Err, refl, sym, ap, subst, ◌∙◌, append_assoc, arith}
use Rattle.std.proofs.Common.{length-append}
use Rattle.net_text.specs.Tokens.{Lexeme}
use Rattle.net_text.specs.Grammar.{Extent, Whole, Begun, Rule, ◌>>◌, ◌or◌, IsWhere, IsNothing, IsAwaited, IsOne, IsEach}
use Rattle.net_text.specs.Grammar.{IsCount}
use Rattle.net_text.specs.Editions.{Counts, Unranged, is_count}
use Rattle.net_text.specs.Reading.{Read, Reader, has_symbol, begins, pair_at, as_at, either_at, nothing_at, many}
use Rattle.net_text.specs.Reading.{each_at, unopened_at, count_in, count_at}
use Rattle.net_text.specs.declared.parser.Stuck.{Stuck}
use Rattle.net_text.specs.declared.parser.Stuck.TheVariants.{At, TooDeep, OutOfRange, AtEnd}
use Rattle.net_text.specs.declared.token.Keyword.{Keyword}
use Rattle.net_text.specs.declared.token.Symbol.{Symbol}
use Rattle.net_text.specs.declared.token.TokenKind.{TokenKind}
use Rattle.net_text.specs.declared.token.TokenKind.TheVariants as kind
use Rattle.net_text.proofs.Sequences.{went_on}
use Rattle.net_text.specs.Results.{◌>>=◌}

-- ---- classes of tokens

pub data Class : Type 0 where
  AWord : (w : Keyword) → Class
  ASymbol : (s : Symbol) → Class
  AName : Class
  ANumber : Class
  AValue : (n : ℕ) → Class

abbrev pub IsClass : Class → TokenKind → Type 0
IsClass (AWord w) k = k ≡ kind.Word w
IsClass (ASymbol s) k = k ≡ kind.Symbol s
IsClass AName k = k ≡ kind.Name
IsClass ANumber k = (n : ℕ) × (k ≡ kind.Number n)
IsClass (AValue n) k = k ≡ kind.Number n

abbrev pub IsOf : List Class → TokenKind → Type 0
IsOf [] k = ⊥
IsOf (c ∷ cs) k = IsClass c k ⊎ IsOf cs k

-- what a test gives at each token of these classes
abbrev pub TestsClass : (TokenKind → Bool) → Bool → Class → Type 0
TestsClass test b (AWord w) = test (kind.Word w) ≡ b
TestsClass test b (ASymbol s) = test (kind.Symbol s) ≡ b
TestsClass test b AName = test kind.Name ≡ b
TestsClass test b ANumber = (n : ℕ) → test (kind.Number n) ≡ b
TestsClass test b (AValue n) = test (kind.Number n) ≡ b

abbrev pub Tests : (TokenKind → Bool) → Bool → List Class → Type 0
Tests test b [] = Unit {0}
Tests test b (c ∷ cs) = TestsClass test b c × Tests test b cs

tests_class : (test : TokenKind → Bool) (b : Bool) (c : Class) (k : TokenKind) → TestsClass test b c → IsClass c k
    → test k ≡ b
tests_class test b (AWord w) k h is = ap test is ∙ h
tests_class test b (ASymbol s) k h is = ap test is ∙ h
tests_class test b AName k h is = ap test is ∙ h
tests_class test b ANumber k h is = ap test is.1 ∙ h is.0
tests_class test b (AValue n) k h is = ap test is ∙ h

pub tests_of : (test : TokenKind → Bool) (b : Bool) (cs : List Class) (k : TokenKind) → Tests test b cs → IsOf cs k
    → test k ≡ b
tests_of test b [] k h is = absurd is
tests_of test b (c ∷ cs) k h (inl is) = tests_class test b c k h.0 is
tests_of test b (c ∷ cs) k h (inr is) = tests_of test b cs k h.1 is

of_left : (cs ds : List Class) (k : TokenKind) → IsOf cs k → IsOf (cs ++ ds) k
of_left [] ds k is = absurd is
of_left (c ∷ cs) ds k (inl is) = inl is
of_left (c ∷ cs) ds k (inr is) = inr (of_left cs ds k is)

of_right : (cs ds : List Class) (k : TokenKind) → IsOf ds k → IsOf (cs ++ ds) k
of_right [] ds k is = is
of_right (c ∷ cs) ds k is = inr (of_right cs ds k is)

-- how a part may begin; it is without tokens only where the test says so
abbrev EmptyFirst : Bool → Extent → Type 0
EmptyFirst empty Whole = empty ≡ true
EmptyFirst empty Begun = Unit {0}

abbrev pub IsFirst : List Class → Bool → List Lexeme → Extent → Type 0
IsFirst starts empty [] extent = EmptyFirst empty extent
IsFirst starts empty (t ∷ ts) extent = IsOf starts t.kind

-- ---- the next token

abbrev pub next : List Lexeme → List Lexeme
next [] = []
next (t ∷ ts) = t ∷ []

next_append : (front a b : List Lexeme) → next a ≡ next b → next (front ++ a) ≡ next (front ++ b)
next_append [] a b e = e
next_append (t ∷ front) a b e = refl

pub next_next : (ts : List Lexeme) → next (next ts) ≡ next ts
next_next [] = refl
next_next (t ∷ ts) = refl

next_empty : (mid : List Lexeme) → next mid ≡ [] → mid ≡ []
next_empty [] e = refl
next_empty (t ∷ mid) e = absurd cc

next_token : (mid : List Lexeme) (t : Lexeme) → next mid ≡ t ∷ [] → (more : List Lexeme) × (mid ≡ t ∷ more)
next_token [] t e = absurd cc
next_token (u ∷ more) t e = (more, (let same : u ≡ t = cc in λ i. same i ∷ more))

begins_of_next : (test : TokenKind → Bool) (ts : List Lexeme) → begins test ts ≡ begins test (next ts)
begins_of_next test [] = refl
begins_of_next test (t ∷ ts) = refl

begins_next : (test : TokenKind → Bool) (a b : List Lexeme) → next a ≡ next b → begins test a ≡ begins test b
begins_next test a b e = begins_of_next test a ∙ ap (begins test) e ∙ sym (begins_of_next test b)

-- ---- the law

-- what stops a reader where one more may be open and repetitions may have any number
abbrev pub raised : Stuck → Stuck
raised AtEnd = AtEnd
raised (At line) = At line
raised (TooDeep line) = AtEnd
raised (OutOfRange line) = AtEnd

abbrev pub IsOnLine : ℕ → List Lexeme → Type 0
IsOnLine line rest = (t : Lexeme) × (more : List Lexeme) × (rest ≡ t ∷ more) × (line ≡ t.line)

-- what may not be opened is no number, and what is outside the limits is one
abbrev pub IsNoNumber : TokenKind → Type 0
IsNoNumber k = (n : ℕ) → k ≡ kind.Number n → ⊥

abbrev pub IsSomeNumber : TokenKind → Type 0
IsSomeNumber k = (n : ℕ) × (k ≡ kind.Number n)

abbrev pub IsOnLineAs : (TokenKind → Type 0) → ℕ → List Lexeme → Type 0
IsOnLineAs Is line rest = (t : Lexeme) × (more : List Lexeme) × (rest ≡ t ∷ more) × (line ≡ t.line) × Is t.kind

abbrev pub IsStopAt : Stuck → List Lexeme → Type 0
IsStopAt AtEnd rest = rest ≡ []
IsStopAt (At line) rest = IsOnLine line rest
IsStopAt (TooDeep line) rest = IsOnLineAs IsNoNumber line rest
IsStopAt (OutOfRange line) rest = IsOnLineAs IsSomeNumber line rest

-- a part was read, and would be before all tokens that begin as those behind it do
pub record Took {A : Type 0} (P : A → Rule) (read : Reader A) (ts : List Lexeme) (x : A × List Lexeme) : Type 0 where
  pub front : List Lexeme
  pub parts : ts ≡ front ++ x.1
  pub is : P x.0 Whole front
  pub ahead : (mid : List Lexeme) → next mid ≡ next x.1 → read (front ++ mid) ≡ Ok (x.0, mid)

-- reading stops at a token, whatever follows that, or at the end: what stands before it is a beginning (where one more
-- may be open, it is enough to know what comes of that token with nothing behind it)
pub record Stops {A : Type 0} (P : A → Rule) (read deeper : Reader A) (ts : List Lexeme) (s : Stuck) : Type 0 where
  pub front : List Lexeme
  pub rest : List Lexeme
  pub parts : ts ≡ front ++ rest
  pub tree : A
  pub begun : P tree Begun front
  pub at : IsStopAt s rest
  pub same : (mid : List Lexeme) → next mid ≡ next rest → read (front ++ mid) ≡ Err s
  pub higher : deeper (front ++ next rest) ≡ Err (raised s)

abbrev pub Ends : {A : Type 0} → (A → Rule) → Reader A → Reader A → List Lexeme → Read A → Type 0
Ends P read deeper ts (Ok x) = Took P read ts x
Ends P read deeper ts (Err s) = Stops P read deeper ts s

-- no token stopped it
abbrev pub GoesOn : {A : Type 0} → Read A → Type 0
GoesOn (Ok x) = x.1 ≡ []
GoesOn (Err AtEnd) = Unit {0}
GoesOn (Err (At line)) = ⊥
GoesOn (Err (TooDeep line)) = ⊥
GoesOn (Err (OutOfRange line)) = ⊥

-- A reader of a rule, and the same where one more may be open. A part begins with tokens of some classes; a token that
-- passes a test may go on with it.
pub record Reads {A : Type 0} (P : A → Rule) (starts : List Class) (empty : Bool) (continues : TokenKind → Bool)
    (read deeper : Reader A) : Type 0 where
  pub some : A
  pub from_nothing : P some Begun []
  pub ends : (ts : List Lexeme) → Ends P read deeper ts (read ts)
  pub kept : (ts : List Lexeme) (x : A × List Lexeme) → read ts ≡ Ok x → deeper ts ≡ Ok x
  pub again : (x : A) (front rest : List Lexeme) → P x Whole front → begins continues rest ≡ false
      → read (front ++ rest) ≡ Ok (x, rest)
  pub first : (x : A) (extent : Extent) (front : List Lexeme) → P x extent front → IsFirst starts empty front extent
  pub goes : (x : A) (front : List Lexeme) → P x Begun front → GoesOn (read front)

-- nothing goes on with it
abbrev pub never : TokenKind → Bool
never k = false

goes_along : {A : Type 0} {o p : Read A} → o ≡ p → GoesOn p → GoesOn o
goes_along {A} e h = subst (λ (r : Read A). GoesOn r) (sym e) h

-- ---- one token

one_first : {A : Type 0} (Is : A → Lexeme → Type 0) (starts : List Class)
    → ((x : A) (t : Lexeme) → Is x t → IsOf starts t.kind) → (x : A) (extent : Extent) (front : List Lexeme)
    → IsOne (Is x) extent front → IsFirst starts false front extent
one_first Is starts class x Whole front is =
    subst (λ (l : List Lexeme). IsFirst starts false l Whole) (sym is.1) (class x is.0 is.2)
one_first Is starts class x Begun front is = subst (λ (l : List Lexeme). IsFirst starts false l Begun) (sym is) tt

one_ends : {A : Type 0} (Is : A → Lexeme → Type 0) (read : Reader A) (some : A) → read [] ≡ Err AtEnd
    → ((x : A) (t : Lexeme) (ts : List Lexeme) → Is x t → read (t ∷ ts) ≡ Ok (x, ts))
    → ((t : Lexeme) → ((x : A) × Is x t) ⊎ ((ts : List Lexeme) → read (t ∷ ts) ≡ Err (At t.line)))
    → (ts : List Lexeme) → Ends (λ x. IsOne (Is x)) read read ts (read ts)
one_ends {A} Is read some ended passes each [] =
    subst (λ (o : Read A). Ends (λ x. IsOne (Is x)) read read [] o) (sym ended)
    (record {
      front = [];
      rest = [];
      parts = refl;
      tree = some;
      begun = refl;
      at = refl;
      same =
          λ mid e. ap read (next_empty mid e) ∙ ended;
      higher = ended;
    })
one_ends {A} Is read some ended passes each (t ∷ ts) =
    elim (each t) as (λ _. Ends (λ x. IsOne (Is x)) read read (t ∷ ts) (read (t ∷ ts))) [
      | inl is ↦
          subst (λ (o : Read A). Ends (λ x. IsOne (Is x)) read read (t ∷ ts) o) (sym (passes is.0 t ts is.1))
          (record { front = t ∷ []; parts = refl; is = (t, refl, is.1); ahead = λ mid e. passes is.0 t mid is.1 })
      | inr fails ↦
          subst (λ (o : Read A). Ends (λ x. IsOne (Is x)) read read (t ∷ ts) o) (sym (fails ts))
          (record {
            front = [];
            rest = t ∷ ts;
            parts = refl;
            tree = some;
            begun = refl;
            at =
                (t, ts, refl, refl);
            same = λ mid e. (let m = next_token mid t e in ap read m.1 ∙ fails m.0);
            higher =
                fails [];
          })
    ]

pub one_reads : {A : Type 0} (Is : A → Lexeme → Type 0) (starts : List Class) (read : Reader A) → A
    → read [] ≡ Err AtEnd → ((x : A) (t : Lexeme) (ts : List Lexeme) → Is x t → read (t ∷ ts) ≡ Ok (x, ts))
    → ((t : Lexeme) → ((x : A) × Is x t) ⊎ ((ts : List Lexeme) → read (t ∷ ts) ≡ Err (At t.line)))
    → ((x : A) (t : Lexeme) → Is x t → IsOf starts t.kind)
    → Reads (λ x. IsOne (Is x)) starts false never read read
one_reads {A} Is starts read some ended passes each class = record {
  some = some;
  from_nothing = refl;
  ends = one_ends Is read some ended passes each;
  kept = λ ts x e. e;
  again = λ x front rest is stop. ap (λ (l : List Lexeme). read (l ++ rest)) is.1 ∙ passes x is.0 rest is.2;
  first = one_first Is starts class;
  goes = λ x front is. subst (λ (l : List Lexeme). GoesOn (read l)) (sym is) (goes_along ended tt);
}

-- ---- one part after another

pub split_rest : (front a b rest : List Lexeme) → front ≡ a ++ b → front ++ rest ≡ a ++ (b ++ rest)
split_rest front a b rest e = ap (λ (l : List Lexeme). l ++ rest) e ∙ append_assoc a b rest

abbrev with_left : {A B : Type 0} → A → Read B → Read (A × B)
with_left x read = read >>= λ b. Ok ((x, b.0), b.1)

pair_runs : {A B : Type 0} (r : Reader A) (s : Reader B) (ts mid : List Lexeme) (x : A) (o : Read B)
    → r ts ≡ Ok (x, mid) → s mid ≡ o → pair_at r s ts ≡ with_left x o
pair_runs {A} {B} r s ts mid x o e f =
    ap (λ (w : Read A). w >>= λ a. s a.1 >>= λ b. Ok ((a.0, b.0), b.1)) e ∙ ap (λ (w : Read B). with_left x w) f

pair_stops : {A B : Type 0} (r : Reader A) (s : Reader B) (ts : List Lexeme) (stuck : Stuck) → r ts ≡ Err stuck
    → pair_at r s ts ≡ Err stuck
pair_stops {A} r s ts stuck e = ap (λ (w : Read A). w >>= λ a. s a.1 >>= λ b. Ok ((a.0, b.0), b.1)) e

abbrev PairRule : {A B : Type 0} → (A → Rule) → (B → Rule) → A × B → Rule
PairRule P Q x = P x.0 >> Q x.1

abbrev pub pair_starts : Bool → List Class → List Class → List Class
pair_starts empty starts starts' = cond empty (starts ++ starts') starts

abbrev pub pair_empty : Bool → Bool → Bool
pair_empty empty empty' = cond empty empty' false

abbrev pub pair_continues : Bool → (TokenKind → Bool) → (TokenKind → Bool) → TokenKind → Bool
pair_continues empty' continues continues' k = cond empty' (continues k || continues' k) (continues' k)

right_stops : (e a b : Bool) → cond e (a || b) b ≡ false → b ≡ false
right_stops true true b h = absurd cc
right_stops true false b h = h
right_stops false a b h = h

left_stops : (e a b : Bool) → e ≡ true → cond e (a || b) b ≡ false → a ≡ false
left_stops true true b t h = absurd cc
left_stops true false b t h = refl
left_stops false a b t h = absurd cc

begins_right : (e : Bool) (c d : TokenKind → Bool) (rest : List Lexeme) → begins (pair_continues e c d) rest ≡ false
    → begins d rest ≡ false
begins_right e c d [] h = refl
begins_right e c d (t ∷ rest) h = right_stops e (c t.kind) (d t.kind) h

-- what comes behind a part doesn't go on with it
follows : (starts : List Class) (e : Bool) (c d : TokenKind → Bool) (back rest : List Lexeme) → Tests c false starts
    → IsFirst starts e back Whole → begins (pair_continues e c d) rest ≡ false → begins c (back ++ rest) ≡ false
follows starts e c d [] [] h is stop = refl
follows starts e c d [] (t ∷ rest) h is stop = left_stops e (c t.kind) (d t.kind) is stop
follows starts e c d (t ∷ back) rest h is stop = tests_of c false starts t.kind h is

follows_begun : (starts : List Class) (e : Bool) (c : TokenKind → Bool) (back : List Lexeme) → Tests c false starts
    → IsFirst starts e back Begun → begins c back ≡ false
follows_begun starts e c [] h is = refl
follows_begun starts e c (t ∷ back) h is = tests_of c false starts t.kind h is

lift_left : (e : Bool) (s s' : List Class) (k : TokenKind) → IsOf s k → IsOf (pair_starts e s s') k
lift_left true s s' k is = of_left s s' k is
lift_left false s s' k is = is

lift_right : (e : Bool) (s s' : List Class) (k : TokenKind) → e ≡ true → IsOf s' k → IsOf (pair_starts e s s') k
lift_right true s s' k t is = of_right s s' k is
lift_right false s s' k t is = absurd cc

both_empty : (e e' : Bool) → e ≡ true → e' ≡ true → pair_empty e e' ≡ true
both_empty true e' h k = k
both_empty false e' h k = absurd cc

pair_first : (s s' : List Class) (e e' : Bool) (extent : Extent) (a b : List Lexeme) → IsFirst s e a Whole
    → IsFirst s' e' b extent → IsFirst (pair_starts e s s') (pair_empty e e') (a ++ b) extent
pair_first s s' e e' Whole [] [] h k = both_empty e e' h k
pair_first s s' e e' Begun [] [] h k = tt
pair_first s s' e e' extent [] (t ∷ b) h k = lift_right e s s' t.kind h k
pair_first s s' e e' extent (t ∷ a) b h k = lift_left e s s' t.kind h

left_first : (s s' : List Class) (e e' : Bool) (front : List Lexeme) → IsFirst s e front Begun
    → IsFirst (pair_starts e s s') (pair_empty e e') front Begun
left_first s s' e e' [] h = tt
left_first s s' e e' (t ∷ front) h = lift_left e s s' t.kind h

then_first : {A B : Type 0} (P : A → Rule) (Q : B → Rule) (s s' : List Class) (e e' : Bool)
    → ((x : A) (extent : Extent) (front : List Lexeme) → P x extent front → IsFirst s e front extent)
    → ((x : B) (extent : Extent) (front : List Lexeme) → Q x extent front → IsFirst s' e' front extent)
    → (x : A × B) (extent : Extent) (front : List Lexeme) → PairRule P Q x extent front
    → IsFirst (pair_starts e s s') (pair_empty e e') front extent
then_first P Q s s' e e' h k x Whole front (a, b, parts, p, q) =
    subst (λ (l : List Lexeme). IsFirst (pair_starts e s s') (pair_empty e e') l Whole) (sym parts)
    (pair_first s s' e e' Whole a b (h x.0 Whole a p) (k x.1 Whole b q))
then_first P Q s s' e e' h k x Begun front (inl p) = left_first s s' e e' front (h x.0 Begun front p)
then_first P Q s s' e e' h k x Begun front (inr (a, b, parts, p, q)) =
    subst (λ (l : List Lexeme). IsFirst (pair_starts e s s') (pair_empty e e') l Begun) (sym parts)
    (pair_first s s' e e' Begun a b (h x.0 Whole a p) (k x.1 Begun b q))

second_ends : {A B : Type 0} (P : A → Rule) (Q : B → Rule) (r d : Reader A) (r' d' : Reader B)
    → ((ts : List Lexeme) (x : A × List Lexeme) → r ts ≡ Ok x → d ts ≡ Ok x)
    → (ts : List Lexeme) (x : A × List Lexeme) → Took P r ts x → (o : Read B) → Ends Q r' d' x.1 o
    → Ends (PairRule P Q) (pair_at r r') (pair_at d d') ts (with_left x.0 o)
second_ends P Q r d r' d' kept ts x one (Ok y) two = record {
  front = one.front ++ two.front;
  parts = one.parts ∙ ap (λ (l : List Lexeme). one.front ++ l) two.parts ∙ sym (append_assoc one.front two.front y.1);
  is = (one.front, two.front, refl, one.is, two.is);
  ahead = λ mid e.
      ap (pair_at r r') (append_assoc one.front two.front mid)
      ∙ pair_runs r r' (one.front ++ (two.front ++ mid)) (two.front ++ mid) x.0 (Ok (y.0, mid))
      (one.ahead (two.front ++ mid) (next_append two.front mid y.1 e ∙ ap next (sym two.parts))) (two.ahead mid e);
}
second_ends P Q r d r' d' kept ts x one (Err s) two =
    let n = next two.rest in
    let near : next (two.front ++ n) ≡ next x.1 =
    next_append two.front n two.rest (next_next two.rest) ∙ ap next (sym two.parts) in
    let reads : r (one.front ++ (two.front ++ n)) ≡ Ok (x.0, two.front ++ n) = one.ahead (two.front ++ n) near in
    record {
      front = one.front ++ two.front;
      rest = two.rest;
      parts = one.parts ∙ ap (λ (l : List Lexeme). one.front ++ l) two.parts
          ∙ sym (append_assoc one.front two.front two.rest);
      tree = (x.0, two.tree);
      begun = inr (one.front, two.front, refl, one.is, two.begun);
      at = two.at;
      same = λ mid e.
          ap (pair_at r r') (append_assoc one.front two.front mid)
          ∙ pair_runs r r' (one.front ++ (two.front ++ mid)) (two.front ++ mid) x.0 (Err s)
          (one.ahead (two.front ++ mid) (next_append two.front mid two.rest e ∙ ap next (sym two.parts)))
          (two.same mid e);
      higher = ap (pair_at d d') (append_assoc one.front two.front n)
          ∙ pair_runs d d' (one.front ++ (two.front ++ n)) (two.front ++ n) x.0 (Err (raised s))
          (kept (one.front ++ (two.front ++ n)) (x.0, two.front ++ n) reads) two.higher;
    }

first_ends : {A B : Type 0} (P : A → Rule) (Q : B → Rule) (r d : Reader A) (r' d' : Reader B)
    → ((ts : List Lexeme) (x : A × List Lexeme) → r ts ≡ Ok x → d ts ≡ Ok x) → B
    → ((ts : List Lexeme) → Ends Q r' d' ts (r' ts)) → (ts : List Lexeme) (o : Read A) → Ends P r d ts o
    → Ends (PairRule P Q) (pair_at r r') (pair_at d d') ts (o >>= λ a. r' a.1 >>= λ b. Ok ((a.0, b.0), b.1))
first_ends P Q r d r' d' kept some ends ts (Ok x) one = second_ends P Q r d r' d' kept ts x one (r' x.1) (ends x.1)
first_ends P Q r d r' d' kept some ends ts (Err s) one = record {
  front = one.front;
  rest = one.rest;
  parts = one.parts;
  tree = (one.tree, some);
  begun = inl one.begun;
  at = one.at;
  same = λ mid e. pair_stops r r' (one.front ++ mid) s (one.same mid e);
  higher = pair_stops d d' (one.front ++ next one.rest) (raised s) one.higher;
}

-- what goes on does so, seen in another way
goes_seen : {A B : Type 0} (view : A × List Lexeme → B) (o : Read A) → GoesOn o → GoesOn (o >>= λ x. Ok (view x, x.1))
goes_seen view (Ok x) h = h
goes_seen view (Err AtEnd) h = tt
goes_seen view (Err (At line)) h = absurd h
goes_seen view (Err (TooDeep line)) h = absurd h
goes_seen view (Err (OutOfRange line)) h = absurd h

goes_first : {A B : Type 0} (r' : Reader B) (o : Read A) → GoesOn (r' []) → GoesOn o
    → GoesOn {A = A × B} (o >>= λ a. r' a.1 >>= λ b. Ok ((a.0, b.0), b.1))
goes_first r' (Ok x) h k = goes_seen (λ b. (x.0, b.0)) (r' x.1) (subst (λ (l : List Lexeme). GoesOn (r' l)) (sym k) h)
goes_first r' (Err AtEnd) h k = tt
goes_first r' (Err (At line)) h k = absurd k
goes_first r' (Err (TooDeep line)) h k = absurd k
goes_first r' (Err (OutOfRange line)) h k = absurd k

pair_goes : {A B : Type 0} (P : A → Rule) (Q : B → Rule) (s s' : List Class) (e e' : Bool) (c c' : TokenKind → Bool)
    (r d : Reader A) (r' d' : Reader B) → Reads P s e c r d → Reads Q s' e' c' r' d' → Tests c false s'
    → (x : A × B) (front : List Lexeme) → PairRule P Q x Begun front → GoesOn (pair_at r r' front)
pair_goes P Q s s' e e' c c' r d r' d' h k apart x front (inl p) =
    goes_first r' (r front) (k.goes k.some [] k.from_nothing) (h.goes x.0 front p)
pair_goes P Q s s' e e' c c' r d r' d' h k apart x front (inr (a, b, parts, p, q)) =
    let stop = follows_begun s' e' c b apart (k.first x.1 Begun b q) in
    goes_along (ap (pair_at r r') parts ∙ pair_runs r r' (a ++ b) b x.0 (r' b) (h.again x.0 a b p stop) refl)
    (goes_seen (λ y. (x.0, y.0)) (r' b) (k.goes x.1 b q))

pub pair_reads : {A B : Type 0} {P : A → Rule} {Q : B → Rule} {s s' : List Class} {e e' : Bool}
    {c c' : TokenKind → Bool} {r d : Reader A} {r' d' : Reader B} → Reads P s e c r d → Reads Q s' e' c' r' d'
    → Tests c false s'
    → Reads (λ (x : A × B). P x.0 >> Q x.1) (pair_starts e s s') (pair_empty e e') (pair_continues e' c c')
    (pair_at r r') (pair_at d d')
pair_reads {A} {B} {P} {Q} {s} {s'} {e} {e'} {c} {c'} {r} {d} {r'} {d'} h k apart = record {
  some = (h.some, k.some);
  from_nothing = inl h.from_nothing;
  ends = λ ts. first_ends P Q r d r' d' h.kept k.some k.ends ts (r ts) (h.ends ts);
  kept = λ ts x was.
      let one = went_on (r ts) (λ a. r' a.1 >>= λ b. Ok ((a.0, b.0), b.1)) x was in
      let two = went_on (r' one.0.1) (λ b. Ok ((one.0.0, b.0), b.1)) x one.2 in
      pair_runs d d' ts one.0.1 one.0.0 (Ok two.0) (h.kept ts one.0 one.1) (k.kept one.0.1 two.0 two.1) ∙ two.2;
  again = λ x front rest is stop.
      let after = begins_right e' c c' rest stop in
      let apart' = follows s' e' c c' is.1 rest apart (k.first x.1 Whole is.1 is.4) stop in
      ap (pair_at r r') (split_rest front is.0 is.1 rest is.2)
      ∙ pair_runs r r' (is.0 ++ (is.1 ++ rest)) (is.1 ++ rest) x.0 (Ok (x.1, rest))
      (h.again x.0 is.0 (is.1 ++ rest) is.3 apart') (k.again x.1 is.1 rest is.4 after);
  first = then_first P Q s s' e e' h.first k.first;
  goes = pair_goes P Q s s' e e' c c' r d r' d' h k apart;
}

-- ---- one part or another

cond_at : {A : Type 0} (b : Bool) (x y z : A) → cond b x y ≡ z → ((b ≡ true) × (x ≡ z)) ⊎ ((b ≡ false) × (y ≡ z))
cond_at true x y z e = inl (refl, e)
cond_at false x y z e = inr (refl, e)

pub cond_true : {A : Type 0} (b : Bool) (x y : A) → b ≡ true → cond b x y ≡ x
cond_true true x y h = refl
cond_true false x y h = absurd cc

pub cond_false : {A : Type 0} (b : Bool) (x y : A) → b ≡ false → cond b x y ≡ y
cond_false true x y h = absurd cc
cond_false false x y h = refl

-- a reader that does as another where the first token passes a test, or where it doesn't
same_ends : {A : Type 0} (P R : A → Rule) (test : TokenKind → Bool) (b : Bool) (r d r' d' : Reader A)
    → ((x : A) (extent : Extent) (l : List Lexeme) → P x extent l → R x extent l)
    → ((l : List Lexeme) → begins test l ≡ b → r' l ≡ r l) → ((l : List Lexeme) → begins test l ≡ b → d' l ≡ d l)
    → (ts : List Lexeme) → begins test ts ≡ b → (o : Read A) → Ends P r d ts o → Ends R r' d' ts o
same_ends P R test b r d r' d' into how how' ts h (Ok x) one = record {
  front = one.front;
  parts = one.parts;
  is = into x.0 Whole one.front one.is;
  ahead = λ mid e. how (one.front ++ mid)
      (begins_next test (one.front ++ mid) ts (next_append one.front mid x.1 e ∙ ap next (sym one.parts)) ∙ h)
      ∙ one.ahead mid e;
}
same_ends P R test b r d r' d' into how how' ts h (Err s) one =
    let here : begins test (one.front ++ next one.rest) ≡ b =
    begins_next test (one.front ++ next one.rest) ts
    (next_append one.front (next one.rest) one.rest (next_next one.rest) ∙ ap next (sym one.parts)) ∙ h in
    record {
      front = one.front;
      rest = one.rest;
      parts = one.parts;
      tree = one.tree;
      begun = into one.tree Begun one.front one.begun;
      at = one.at;
      same = λ mid e. how (one.front ++ mid)
          (begins_next test (one.front ++ mid) ts (next_append one.front mid one.rest e ∙ ap next (sym one.parts)) ∙ h)
          ∙ one.same mid e;
      higher = how' (one.front ++ next one.rest) here ∙ one.higher;
    }

abbrev EitherRule : {A : Type 0} → (A → Rule) → (A → Rule) → A → Rule
EitherRule P Q x = P x or Q x

either_first : {A : Type 0} (P Q : A → Rule) (s s' : List Class) (e' : Bool)
    → ((x : A) (extent : Extent) (front : List Lexeme) → P x extent front → IsFirst s false front extent)
    → ((x : A) (extent : Extent) (front : List Lexeme) → Q x extent front → IsFirst s' e' front extent)
    → (x : A) (extent : Extent) (front : List Lexeme) → EitherRule P Q x extent front
    → IsFirst (s ++ s') e' front extent
either_first P Q s s' e' h k x Whole [] (inl p) = let fails = h x Whole [] p in absurd cc
either_first P Q s s' e' h k x Begun [] (inl p) = tt
either_first P Q s s' e' h k x extent (t ∷ front) (inl p) = of_left s s' t.kind (h x extent (t ∷ front) p)
either_first P Q s s' e' h k x extent [] (inr q) = k x extent [] q
either_first P Q s s' e' h k x extent (t ∷ front) (inr q) = of_right s s' t.kind (k x extent (t ∷ front) q)

abbrev pub either_continues : Bool → (TokenKind → Bool) → (TokenKind → Bool) → (TokenKind → Bool) → TokenKind → Bool
either_continues e' test c c' k = cond e' (test k || (c k || c' k)) (c k || c' k)

or_stops : (a b : Bool) → (a || b) ≡ false → (a ≡ false) × (b ≡ false)
or_stops true b h = absurd cc
or_stops false b h = (refl, h)

either_stops : (e' t a b : Bool) → cond e' (t || (a || b)) (a || b) ≡ false → (a ≡ false) × (b ≡ false)
either_stops true t a b h = or_stops a b (or_stops t (a || b) h).1
either_stops false t a b h = or_stops a b h

test_stops : (e' t a b : Bool) → e' ≡ true → cond e' (t || (a || b)) (a || b) ≡ false → t ≡ false
test_stops true t a b k h = (or_stops t (a || b) h).0
test_stops false t a b k h = absurd cc

begins_either : (e' : Bool) (test c c' : TokenKind → Bool) (rest : List Lexeme)
    → begins (either_continues e' test c c') rest ≡ false → (begins c rest ≡ false) × (begins c' rest ≡ false)
begins_either e' test c c' [] h = (refl, refl)
begins_either e' test c c' (t ∷ rest) h = either_stops e' (test t.kind) (c t.kind) (c' t.kind) h

-- which of the two is taken
takes_first : (test : TokenKind → Bool) (s : List Class) (front rest : List Lexeme) → Tests test true s
    → IsFirst s false front Whole → begins test (front ++ rest) ≡ true
takes_first test s [] rest h is = absurd cc
takes_first test s (t ∷ front) rest h is = tests_of test true s t.kind h is

takes_second : (test c c' : TokenKind → Bool) (s' : List Class) (e' : Bool) (front rest : List Lexeme)
    → Tests test false s' → IsFirst s' e' front Whole → begins (either_continues e' test c c') rest ≡ false
    → begins test (front ++ rest) ≡ false
takes_second test c c' s' e' [] [] h is stop = refl
takes_second test c c' s' e' [] (t ∷ rest) h is stop = test_stops e' (test t.kind) (c t.kind) (c' t.kind) is stop
takes_second test c c' s' e' (t ∷ front) rest h is stop = tests_of test false s' t.kind h is

either_ends : {A : Type 0} (P Q : A → Rule) (test : TokenKind → Bool) (r d r' d' : Reader A)
    → ((ts : List Lexeme) → Ends P r d ts (r ts)) → ((ts : List Lexeme) → Ends Q r' d' ts (r' ts))
    → (ts : List Lexeme) (b : Bool) → begins test ts ≡ b
    → Ends (EitherRule P Q) (either_at test r r') (either_at test d d') ts (cond b (r ts) (r' ts))
either_ends P Q test r d r' d' h k ts true e =
    same_ends P (EitherRule P Q) test true r d (either_at test r r') (either_at test d d') (λ x extent l p. inl p)
    (λ l t. cond_true (begins test l) (r l) (r' l) t) (λ l t. cond_true (begins test l) (d l) (d' l) t) ts e (r ts)
    (h ts)
either_ends P Q test r d r' d' h k ts false e =
    same_ends Q (EitherRule P Q) test false r' d' (either_at test r r') (either_at test d d') (λ x extent l q. inr q)
    (λ l t. cond_false (begins test l) (r l) (r' l) t) (λ l t. cond_false (begins test l) (d l) (d' l) t) ts e
    (r' ts) (k ts)

either_goes : {A : Type 0} (P Q : A → Rule) (test : TokenKind → Bool) (s s' : List Class) (e' : Bool)
    (c c' : TokenKind → Bool) (r d r' d' : Reader A) → Reads P s false c r d → Reads Q s' e' c' r' d'
    → Tests test true s → Tests test false s'
    → (x : A) (front : List Lexeme) → EitherRule P Q x Begun front → GoesOn (either_at test r r' front)
either_goes P Q test s s' e' c c' r d r' d' h k passes fails x [] is = k.goes k.some [] k.from_nothing
either_goes P Q test s s' e' c c' r d r' d' h k passes fails x (t ∷ front) (inl p) =
    goes_along
    (cond_true (test t.kind) (r (t ∷ front)) (r' (t ∷ front))
    (tests_of test true s t.kind passes (h.first x Begun (t ∷ front) p))) (h.goes x (t ∷ front) p)
either_goes P Q test s s' e' c c' r d r' d' h k passes fails x (t ∷ front) (inr q) =
    goes_along
    (cond_false (test t.kind) (r (t ∷ front)) (r' (t ∷ front))
    (tests_of test false s' t.kind fails (k.first x Begun (t ∷ front) q))) (k.goes x (t ∷ front) q)

either_kept : {A : Type 0} (test : TokenKind → Bool) (r d r' d' : Reader A)
    → ((ts : List Lexeme) (x : A × List Lexeme) → r ts ≡ Ok x → d ts ≡ Ok x)
    → ((ts : List Lexeme) (x : A × List Lexeme) → r' ts ≡ Ok x → d' ts ≡ Ok x)
    → (ts : List Lexeme) (x : A × List Lexeme) → either_at test r r' ts ≡ Ok x → either_at test d d' ts ≡ Ok x
either_kept test r d r' d' h k ts x was =
    elim (cond_at (begins test ts) (r ts) (r' ts) (Ok x) was) as (λ _. either_at test d d' ts ≡ Ok x) [
      | inl one ↦ cond_true (begins test ts) (d ts) (d' ts) one.0 ∙ h ts x one.1
      | inr two ↦ cond_false (begins test ts) (d ts) (d' ts) two.0 ∙ k ts x two.1
    ]

either_again : {A : Type 0} (P Q : A → Rule) (test : TokenKind → Bool) (s s' : List Class) (e' : Bool)
    (c c' : TokenKind → Bool) (r d r' d' : Reader A) → Reads P s false c r d → Reads Q s' e' c' r' d'
    → Tests test true s → Tests test false s'
    → (x : A) (front rest : List Lexeme) → EitherRule P Q x Whole front
    → begins (either_continues e' test c c') rest ≡ false → either_at test r r' (front ++ rest) ≡ Ok (x, rest)
either_again P Q test s s' e' c c' r d r' d' h k passes fails x front rest (inl p) stop =
    cond_true (begins test (front ++ rest)) (r (front ++ rest)) (r' (front ++ rest))
    (takes_first test s front rest passes (h.first x Whole front p))
    ∙ h.again x front rest p (begins_either e' test c c' rest stop).0
either_again P Q test s s' e' c c' r d r' d' h k passes fails x front rest (inr q) stop =
    cond_false (begins test (front ++ rest)) (r (front ++ rest)) (r' (front ++ rest))
    (takes_second test c c' s' e' front rest fails (k.first x Whole front q) stop)
    ∙ k.again x front rest q (begins_either e' test c c' rest stop).1

pub either_reads : {A : Type 0} {P Q : A → Rule} {s s' : List Class} {e' : Bool} {c c' : TokenKind → Bool}
    {r d r' d' : Reader A} (test : TokenKind → Bool) → Reads P s false c r d → Reads Q s' e' c' r' d'
    → Tests test true s → Tests test false s'
    → Reads (λ (x : A). P x or Q x) (s ++ s') e' (either_continues e' test c c') (either_at test r r')
    (either_at test d d')
either_reads {A} {P} {Q} {s} {s'} {e'} {c} {c'} {r} {d} {r'} {d'} test h k passes fails = record {
  some = k.some;
  from_nothing = inr k.from_nothing;
  ends = λ ts. either_ends P Q test r d r' d' h.ends k.ends ts (begins test ts) refl;
  kept = either_kept test r d r' d' h.kept k.kept;
  again = either_again P Q test s s' e' c c' r d r' d' h k passes fails;
  first = either_first P Q s s' e' h.first k.first;
  goes = either_goes P Q test s s' e' c c' r d r' d' h k passes fails;
}

-- nothing, which stands for this
pub nothing_reads : {A : Type 0} (x : A)
    → Reads (λ (y : A). IsWhere (y ≡ x) IsNothing) [] true never (nothing_at x) (nothing_at x)
nothing_reads {A} x = record {
  some = x;
  from_nothing = (refl, refl);
  ends = λ ts. record { front = []; parts = refl; is = (refl, refl); ahead = λ mid e. refl };
  kept = λ ts y e. e;
  again = λ y front rest is stop. ap (λ (l : List Lexeme). let o : Read A = Ok (x, l ++ rest) in o) is.1
      ∙ ap (λ (z : A). let o : Read A = Ok (z, rest) in o) (sym is.0);
  first = λ y extent front is. subst (λ (l : List Lexeme). IsFirst [] true l extent) (sym is.1) (empty_first extent);
  goes = λ y front is. is.1;
}
  where
    empty_first : (extent : Extent) → EmptyFirst true extent
    empty_first Whole = refl
    empty_first Begun = tt

-- ---- what is read, seen in another way

pub record IsSeen {A B : Type 0} (P : A → Rule) (R : B → Rule) (view : A → B) : Type 0 where
  pub whole : (x : A) (l : List Lexeme) → P x Whole l → R (view x) Whole l
  pub begun : (x : A) (l : List Lexeme) → P x Begun l → (z : B) × R z Begun l
  pub back : (z : B) (l : List Lexeme) → R z Whole l → (x : A) × (z ≡ view x) × P x Whole l
  pub back_begun : (z : B) (l : List Lexeme) → R z Begun l → (x : A) × P x Begun l

seen_runs : {A B : Type 0} (view : A → B) (r : Reader A) (ts : List Lexeme) (o : Read A) → r ts ≡ o
    → as_at view r ts ≡ (o >>= λ x. Ok (view x.0, x.1))
seen_runs {A} view r ts o e = ap (λ (w : Read A). w >>= λ x. Ok (view x.0, x.1)) e

seen_ends : {A B : Type 0} (P : A → Rule) (R : B → Rule) (view : A → B) (r d : Reader A) → IsSeen P R view
    → (ts : List Lexeme) (o : Read A) → Ends P r d ts o
    → Ends R (as_at view r) (as_at view d) ts (o >>= λ x. Ok (view x.0, x.1))
seen_ends P R view r d seen ts (Ok x) one = record {
  front = one.front;
  parts = one.parts;
  is = seen.whole x.0 one.front one.is;
  ahead = λ mid e. seen_runs view r (one.front ++ mid) (Ok (x.0, mid)) (one.ahead mid e);
}
seen_ends P R view r d seen ts (Err s) one =
    let other = seen.begun one.tree one.front one.begun in
    record {
      front = one.front;
      rest = one.rest;
      parts = one.parts;
      tree = other.0;
      begun = other.1;
      at = one.at;
      same = λ mid e. seen_runs view r (one.front ++ mid) (Err s) (one.same mid e);
      higher = seen_runs view d (one.front ++ next one.rest) (Err (raised s)) one.higher;
    }

seen_first : {A B : Type 0} (P : A → Rule) (R : B → Rule) (view : A → B) (s : List Class) (e : Bool) → IsSeen P R view
    → ((x : A) (extent : Extent) (front : List Lexeme) → P x extent front → IsFirst s e front extent)
    → (z : B) (extent : Extent) (front : List Lexeme) → R z extent front → IsFirst s e front extent
seen_first P R view s e seen h z Whole front is = let x = seen.back z front is in h x.0 Whole front x.2
seen_first P R view s e seen h z Begun front is = let x = seen.back_begun z front is in h x.0 Begun front x.1

pub as_reads : {A B : Type 0} {P : A → Rule} {R : B → Rule} {s : List Class} {e : Bool} {c : TokenKind → Bool}
    {r d : Reader A} (view : A → B) → Reads P s e c r d → IsSeen P R view → Reads R s e c (as_at view r) (as_at view d)
as_reads {A} {B} {P} {R} {s} {e} {c} {r} {d} view h seen =
    let none = seen.begun h.some [] h.from_nothing in
    record {
      some = none.0;
      from_nothing = none.1;
      ends = λ ts. seen_ends P R view r d seen ts (r ts) (h.ends ts);
      kept = λ ts z was. let one = went_on (r ts) (λ x. Ok (view x.0, x.1)) z was in
          seen_runs view d ts (Ok one.0) (h.kept ts one.0 one.1) ∙ one.2;
      again = λ z front rest is stop.
          let x = seen.back z front is in
          seen_runs view r (front ++ rest) (Ok (x.0, rest)) (h.again x.0 front rest x.2 stop)
          ∙ ap (λ (y : B). let o : Read B = Ok (y, rest) in o) (sym x.1);
      first = seen_first P R view s e seen h.first;
      goes = λ z front is. let x = seen.back_begun z front is in
          goes_seen (λ y. view y.0) (r front) (h.goes x.0 front x.1);
    }

-- the rule of what is seen so
abbrev pub IsImage : {A B : Type 0} → (A → B) → (A → Rule) → B → Rule
IsImage {A} view P z extent l = (x : A) × (z ≡ view x) × P x extent l

pub image_reads : {A B : Type 0} {P : A → Rule} {s : List Class} {e : Bool} {c : TokenKind → Bool} {r d : Reader A}
    (view : A → B) → Reads P s e c r d → Reads (IsImage view P) s e c (as_at view r) (as_at view d)
image_reads view h =
    as_reads view h
    (record {
      whole = λ x l is. (x, refl, is);
      begun = λ x l is. (view x, (x, refl, is));
      back = λ z l is. is;
      back_begun = λ z l is. (is.0, is.2);
    })

-- another rule of what is read
ruled_ends : {A : Type 0} (P R : A → Rule) (r d : Reader A) → IsSeen P R (λ x. x) → (ts : List Lexeme) (o : Read A)
    → Ends P r d ts o → Ends R r d ts o
ruled_ends P R r d seen ts (Ok x) one =
    record { front = one.front; parts = one.parts; is = seen.whole x.0 one.front one.is; ahead = one.ahead }
ruled_ends P R r d seen ts (Err s) one =
    let other = seen.begun one.tree one.front one.begun in
    record {
      front = one.front;
      rest = one.rest;
      parts = one.parts;
      tree = other.0;
      begun = other.1;
      at =
          one.at;
      same = one.same;
      higher = one.higher;
    }

pub ruled_reads : {A : Type 0} {P R : A → Rule} {s : List Class} {e : Bool} {c : TokenKind → Bool} {r d : Reader A}
    → Reads P s e c r d → IsSeen P R (λ x. x) → Reads R s e c r d
ruled_reads {A} {P} {R} {s} {e} {c} {r} {d} h seen =
    let none = seen.begun h.some [] h.from_nothing in
    record {
      some = none.0;
      from_nothing = none.1;
      ends = λ ts. ruled_ends P R r d seen ts (r ts) (h.ends ts);
      kept = h.kept;
      again = λ z front rest is stop. let x = seen.back z front is in
          h.again x.0 front rest x.2 stop ∙ ap (λ (y : A). let o : Read A = Ok (y, rest) in o) (sym x.1);
      first = seen_first P R (λ x. x) s e seen h.first;
      goes = λ z front is. let x = seen.back_begun z front is in h.goes x.0 front x.1;
    }

-- two ways to see the same
pub seen_by : {A B : Type 0} {P : A → Rule} {R : B → Rule} (view : A → B) (back : B → A)
    → ((x : A) (extent : Extent) (l : List Lexeme) → P x extent l → R (view x) extent l)
    → ((z : B) (extent : Extent) (l : List Lexeme) → R z extent l → P (back z) extent l)
    → ((z : B) → z ≡ view (back z)) → IsSeen P R view
seen_by view back there again same = record {
  whole = λ x l is. there x Whole l is;
  begun = λ x l is. (view x, there x Begun l is);
  back = λ z l is. (back z, same z, again z Whole l is);
  back_begun = λ z l is. (back z, again z Begun l is);
}

-- ---- what may not be opened any more

pub record IsOpening {A : Type 0} (s : Symbol) (deeper : Reader A) : Type 0 where
  pub ended : deeper [] ≡ Err AtEnd
  pub opens : (t : Lexeme) → has_symbol s t.kind ≡ true → deeper (t ∷ []) ≡ Err AtEnd
  pub fails : (t : Lexeme) → has_symbol s t.kind ≡ false → deeper (t ∷ []) ≡ Err (At t.line)

unopened_ends : {A : Type 0} (some : A) (s : Symbol) (deeper : Reader A) → IsOpening s deeper → (ts : List Lexeme)
    → Ends (λ (x : A). IsAwaited) (unopened_at s) deeper ts (unopened_at s ts)
unfolding unopened_at
unopened_ends some s deeper opening [] =
    record {
      front = [];
      rest = [];
      parts = refl;
      tree = some;
      begun = refl;
      at = refl;
      same =
          λ mid e. ap (unopened_at s) (next_empty mid e);
      higher = opening.ended;
    }
unopened_ends {A} some s deeper opening (t ∷ ts) = at_token (has_symbol s t.kind) refl
  where
    at_token : (b : Bool) → has_symbol s t.kind ≡ b
        → Ends (λ (x : A). IsAwaited) (unopened_at s) deeper (t ∷ ts) (cond b (Err (TooDeep t.line)) (Err (At t.line)))
    at_token true e = record {
      front = [];
      rest = t ∷ ts;
      parts = refl;
      tree = some;
      begun = refl;
      at = (t, ts, refl, refl, λ n k. let both : true ≡ false = sym e ∙ ap (has_symbol s) k in cc);
      same = λ mid
          n. (let m = next_token mid t n in
          ap (unopened_at s) m.1 ∙ cond_true (has_symbol s t.kind) (Err (TooDeep t.line)) (Err (At t.line)) e);
      higher = opening.opens t e;
    }
    at_token false e = record {
      front = [];
      rest = t ∷ ts;
      parts = refl;
      tree = some;
      begun = refl;
      at = (t, ts, refl, refl);
      same = λ mid
          n. (let m = next_token mid t n in
          ap (unopened_at s) m.1 ∙ cond_false (has_symbol s t.kind) (Err (TooDeep t.line)) (Err (At t.line)) e);
      higher = opening.fails t e;
    }

unopened_fails : {A : Type 0} (s : Symbol) (ts : List Lexeme) (x : A × List Lexeme) → unopened_at s ts ≡ Ok x → ⊥
unfolding unopened_at
unopened_fails s [] x e = cc
unopened_fails s (t ∷ ts) x e =
    elim (cond_at (has_symbol s t.kind) (Err (TooDeep t.line)) (Err (At t.line)) (Ok x) e) as (λ _. ⊥)
    [ inl h ↦ no_err (TooDeep t.line) x h.1 | inr h ↦ no_err (At t.line) x h.1 ]
  where
    no_err : {B : Type 0} (stuck : Stuck) (y : B) → (let o : Result B Stuck = Err stuck in o ≡ Ok y) → ⊥
    no_err stuck y h = cc

awaited_first : (cs : List Class) (extent : Extent) (front : List Lexeme) → IsAwaited extent front
    → IsFirst cs false front extent
awaited_first cs Whole front is = absurd is
awaited_first cs Begun front is = subst (λ (l : List Lexeme). IsFirst cs false l Begun) (sym is) tt

unopened_goes : (A : Type 0) (s : Symbol) → GoesOn {A = A} (unopened_at s [])
unfolding unopened_at
unopened_goes A s = tt

pub unopened_reads : {A : Type 0} (some : A) (cs : List Class) (s : Symbol) (deeper : Reader A) → IsOpening s deeper
    → Reads (λ (x : A). IsAwaited) cs false never (unopened_at s) deeper
unopened_reads {A} some cs s deeper opening = record {
  some = some;
  from_nothing = refl;
  ends = unopened_ends some s deeper opening;
  kept = λ ts x e. absurd (unopened_fails s ts x e);
  again = λ x front rest is stop. absurd is;
  first = λ x extent front is. awaited_first cs extent front is;
  goes = λ x front is. subst (λ (l : List Lexeme). GoesOn {A = A} (unopened_at s l)) (sym is) (unopened_goes A s);
}

-- ---- one after another

-- a reader that takes a token at least
abbrev pub IsShortening : {A : Type 0} → Reader A → Type 0
IsShortening {A} item = (ts : List Lexeme) (x : A × List Lexeme) → item ts ≡ Ok x → length x.1 < length ts

shorter : (starts : List Class) (front rest ts : List Lexeme) → IsFirst starts false front Whole → ts ≡ front ++ rest
    → length rest < length ts
shorter starts [] rest ts first e = absurd cc
shorter starts (t ∷ front) rest ts first e = let l = ap length e ∙ length-append (t ∷ front) rest in omega arith

took_shorter : {A : Type 0} {P : A → Rule} {s : List Class} {c : TokenKind → Bool} {r d : Reader A}
    → Reads P s false c r d → (ts : List Lexeme) (x : A × List Lexeme) → Took P r ts x → length x.1 < length ts
took_shorter {A} {P} {s} h ts x one = shorter s one.front x.1 ts (h.first x.0 Whole one.front one.is) one.parts

ended_ok : {A : Type 0} (P : A → Rule) (r d : Reader A) (ts : List Lexeme) (x : A × List Lexeme) → r ts ≡ Ok x
    → Ends P r d ts (r ts) → Took P r ts x
ended_ok {A} P r d ts x e ends = subst (λ (o : Read A). Ends P r d ts o) e ends

pub shortens : {A : Type 0} {P : A → Rule} {s : List Class} {c : TokenKind → Bool} {r d : Reader A}
    → Reads P s false c r d → IsShortening r
shortens {A} {P} {s} {c} {r} {d} h ts x e = took_shorter h ts x (ended_ok P r d ts x e (h.ends ts))

record TookMany {A : Type 0} (P : A → Rule) (test : TokenKind → Bool) (item : Reader A) (ts : List Lexeme)
    (x : List A × List Lexeme) : Type 0 where
  pub front : List Lexeme
  pub parts : ts ≡ front ++ x.1
  pub is : IsEach P x.0 Whole front
  pub ahead : (mid : List Lexeme) → next mid ≡ next x.1 → (m : ℕ) → length (front ++ mid) ≤ m
      → many test item m (front ++ mid) ≡ Ok (x.0, mid)

record StopsMany {A : Type 0} (P : A → Rule) (test : TokenKind → Bool) (item deeper : Reader A) (ts : List Lexeme)
    (s : Stuck) : Type 0 where
  pub front : List Lexeme
  pub rest : List Lexeme
  pub parts : ts ≡ front ++ rest
  pub trees : List A
  pub begun : IsEach P trees Begun front
  pub at : IsStopAt s rest
  pub same : (mid : List Lexeme) → next mid ≡ next rest → (m : ℕ) → length (front ++ mid) ≤ m
      → many test item m (front ++ mid) ≡ Err s
  pub higher : (m : ℕ) → length (front ++ next rest) ≤ m → many test deeper m (front ++ next rest) ≡ Err (raised s)

abbrev EndsMany : {A : Type 0} → (A → Rule) → (TokenKind → Bool) → Reader A → Reader A → List Lexeme → Read (List A)
    → Type 0
EndsMany P test item deeper ts (Ok x) = TookMany P test item ts x
EndsMany P test item deeper ts (Err s) = StopsMany P test item deeper ts s

-- the turns after the first
abbrev pub with_first : {A : Type 0} → A → Read (List A) → Read (List A)
with_first first read = read >>= λ others. Ok (first ∷ others.0, others.1)

-- no turn
many_none : {A : Type 0} (test : TokenKind → Bool) (item : Reader A) (m : ℕ) (ts : List Lexeme)
    → begins test ts ≡ false → many test item m ts ≡ Ok ([], ts)
many_none test item zero ts h = refl
many_none test item (suc m) ts h = cond_false (begins test ts) _ (Ok ([], ts)) h

-- a turn that stops
many_stops : {A : Type 0} (test : TokenKind → Bool) (item : Reader A) (m : ℕ) (ts : List Lexeme) (s : Stuck)
    → begins test ts ≡ true → length ts ≤ m → item ts ≡ Err s → many test item m ts ≡ Err s
many_stops test item m [] s h le e = absurd cc
many_stops test item zero (t ∷ ts) s h le e = absurd (omega arith)
many_stops {A} test item (suc m) (t ∷ ts) s h le e =
    cond_true (test t.kind) (item (t ∷ ts) >>= λ first. with_first first.0 (many test item m first.1))
    (Ok ([], t ∷ ts)) h
    ∙ ap (λ (w : Read A). w >>= λ first. with_first first.0 (many test item m first.1)) e

-- a turn and those after it
many_goes : {A : Type 0} (test : TokenKind → Bool) (item : Reader A) (m : ℕ) (ts mid : List Lexeme) (x : A)
    (o : Read (List A)) → begins test ts ≡ true → length ts ≤ m → length mid < length ts → item ts ≡ Ok (x, mid)
    → ((k : ℕ) → length mid ≤ k → many test item k mid ≡ o) → many test item m ts ≡ with_first x o
many_goes test item m [] mid x o h le less e f = absurd cc
many_goes test item zero (t ∷ ts) mid x o h le less e f = absurd (omega arith)
many_goes {A} test item (suc m) (t ∷ ts) mid x o h le less e f =
    cond_true (test t.kind) (item (t ∷ ts) >>= λ first. with_first first.0 (many test item m first.1))
    (Ok ([], t ∷ ts)) h
    ∙ ap (λ (w : Read A). w >>= λ first. with_first first.0 (many test item m first.1)) e
    ∙ ap (λ (w : Read (List A)). with_first x w) (f m (omega arith))

-- tokens behind a part that has some
behind : (starts : List Class) (front mid : List Lexeme) → IsFirst starts false front Whole
    → length mid < length (front ++ mid)
behind starts front mid first = shorter starts front mid (front ++ mid) first refl

none_left : (ts : List Lexeme) → length ts ≤ 0 → ts ≡ []
none_left [] h = refl
none_left (t ∷ ts) h = absurd (omega arith)

later_ends : {A : Type 0} {P : A → Rule} {s : List Class} {c : TokenKind → Bool} {item deeper : Reader A}
    (test : TokenKind → Bool) → Reads P s false c item deeper → (ts : List Lexeme) (x : A × List Lexeme)
    → begins test ts ≡ true → Took P item ts x
    → (o : Read (List A)) → EndsMany P test item deeper x.1 o → EndsMany P test item deeper ts (with_first x.0 o)
later_ends {A} {P} {s} {c} {item} {deeper} test h ts x begins_so one (Ok y) two = record {
  front = one.front ++ two.front;
  parts = one.parts ∙ ap (λ (l : List Lexeme). one.front ++ l) two.parts ∙ sym (append_assoc one.front two.front y.1);
  is = (one.front, two.front, refl, one.is, two.is);
  ahead = λ mid e m le.
      let near : next (two.front ++ mid) ≡ next x.1 = next_append two.front mid y.1 e ∙ ap next (sym two.parts) in
      let here : begins test (one.front ++ (two.front ++ mid)) ≡ true =
      begins_next test (one.front ++ (two.front ++ mid)) ts
      (next_append one.front (two.front ++ mid) x.1 near ∙ ap next (sym one.parts)) ∙ begins_so in
      ap (many test item m) (append_assoc one.front two.front mid)
      ∙ many_goes test item m (one.front ++ (two.front ++ mid)) (two.front ++ mid) x.0 (Ok (y.0, mid)) here
      (subst (λ (l : List Lexeme). length l ≤ m) (append_assoc one.front two.front mid) le)
      (behind s one.front (two.front ++ mid) (h.first x.0 Whole one.front one.is)) (one.ahead (two.front ++ mid) near)
      (two.ahead mid e);
}
later_ends {A} {P} {s} {c} {item} {deeper} test h ts x begins_so one (Err stuck) two =
    let n = next two.rest in
    let near : next (two.front ++ n) ≡ next x.1 =
    next_append two.front n two.rest (next_next two.rest) ∙ ap next (sym two.parts) in
    let here : begins test (one.front ++ (two.front ++ n)) ≡ true =
    begins_next test (one.front ++ (two.front ++ n)) ts
    (next_append one.front (two.front ++ n) x.1 near ∙ ap next (sym one.parts)) ∙ begins_so in
    let less = behind s one.front (two.front ++ n) (h.first x.0 Whole one.front one.is) in
    let reads : item (one.front ++ (two.front ++ n)) ≡ Ok (x.0, two.front ++ n) = one.ahead (two.front ++ n) near in
    let regrouped = append_assoc one.front two.front n in
    record {
      front = one.front ++ two.front;
      rest = two.rest;
      parts = one.parts ∙ ap (λ (l : List Lexeme). one.front ++ l) two.parts
          ∙ sym (append_assoc one.front two.front two.rest);
      trees = x.0 ∷ two.trees;
      begun = inr (one.front, two.front, refl, one.is, two.begun);
      at = two.at;
      same = λ mid e m le.
          let there : next (two.front ++ mid) ≡ next x.1 =
          next_append two.front mid two.rest e ∙ ap next (sym two.parts) in
          let first : begins test (one.front ++ (two.front ++ mid)) ≡ true =
          begins_next test (one.front ++ (two.front ++ mid)) ts
          (next_append one.front (two.front ++ mid) x.1 there ∙ ap next (sym one.parts)) ∙ begins_so in
          ap (many test item m) (append_assoc one.front two.front mid)
          ∙ many_goes test item m (one.front ++ (two.front ++ mid)) (two.front ++ mid) x.0 (Err stuck) first
          (subst (λ (l : List Lexeme). length l ≤ m) (append_assoc one.front two.front mid) le)
          (behind s one.front (two.front ++ mid) (h.first x.0 Whole one.front one.is))
          (one.ahead (two.front ++ mid) there) (two.same mid e);
      higher = λ m le.
          ap (many test deeper m) regrouped
          ∙ many_goes test deeper m (one.front ++ (two.front ++ n)) (two.front ++ n) x.0 (Err (raised stuck)) here
          (subst (λ (l : List Lexeme). length l ≤ m) regrouped le) less
          (h.kept (one.front ++ (two.front ++ n)) (x.0, two.front ++ n) reads) two.higher;
    }

none_ends : {A : Type 0} (P : A → Rule) (test : TokenKind → Bool) (item : Reader A) (ts : List Lexeme)
    → begins test ts ≡ false → TookMany P test item ts ([], ts)
none_ends P test item ts h = record {
  front = [];
  parts = refl;
  is = refl;
  ahead = λ mid e m le. many_none test item m mid (begins_next test mid ts e ∙ h);
}

turns_end : {A : Type 0} {P : A → Rule} {s : List Class} {c : TokenKind → Bool} {item deeper : Reader A}
    (test : TokenKind → Bool) → Reads P s false c item deeper → (n : ℕ) (ts : List Lexeme) → length ts ≤ n
    → EndsMany P test item deeper ts (many test item n ts)
turns_end {A} {P} {s} {c} {item} {deeper} test h zero ts le =
    none_ends P test item ts (ap (begins test) (none_left ts le))
turns_end {A} {P} {s} {c} {item} {deeper} test h (suc n) ts le =
    at_first (λ mid k. turns_end test h n mid k) (begins test ts) refl
  where
    at_item : ((mid : List Lexeme) → length mid ≤ n → EndsMany P test item deeper mid (many test item n mid))
        → begins test ts ≡ true → (o : Read A) → Ends P item deeper ts o
        → EndsMany P test item deeper ts (o >>= λ first. with_first first.0 (many test item n first.1))
    at_item turns e (Ok x) one =
        let less = took_shorter h ts x one in
        later_ends test h ts x e one (many test item n x.1) (turns x.1 (omega arith))
    at_item turns e (Err stuck) one =
        let here : begins test (one.front ++ next one.rest) ≡ true =
        begins_next test (one.front ++ next one.rest) ts
        (next_append one.front (next one.rest) one.rest (next_next one.rest) ∙ ap next (sym one.parts)) ∙ e in
        record {
          front = one.front;
          rest = one.rest;
          parts = one.parts;
          trees = one.tree ∷ [];
          begun = inl one.begun;
          at = one.at;
          same = λ mid n m k. many_stops test item m (one.front ++ mid) stuck
              (begins_next test (one.front ++ mid) ts (next_append one.front mid one.rest n ∙ ap next (sym one.parts))
              ∙ e) k (one.same mid n);
          higher = λ m k. many_stops test deeper m (one.front ++ next one.rest) (raised stuck) here k one.higher;
        }

    at_first : ((mid : List Lexeme) → length mid ≤ n → EndsMany P test item deeper mid (many test item n mid))
        → (b : Bool) → begins test ts ≡ b
        → EndsMany P test item deeper ts
        (cond b (item ts >>= λ first. with_first first.0 (many test item n first.1)) (Ok ([], ts)))
    at_first turns true e = at_item turns e (item ts) (h.ends ts)
    at_first turns false e = none_ends P test item ts e

many_reads_ends : {A : Type 0} (P : A → Rule) (test : TokenKind → Bool) (item deeper : Reader A) (ts : List Lexeme)
    (o : Read (List A)) → EndsMany P test item deeper ts o
    → Ends (λ xs. IsEach P xs) (each_at test item) (each_at test deeper) ts o
many_reads_ends P test item deeper ts (Ok x) one =
    record {
      front = one.front;
      parts = one.parts;
      is = one.is;
      ahead =
          λ mid e. one.ahead mid e (length (one.front ++ mid)) (omega arith);
    }
many_reads_ends P test item deeper ts (Err stuck) one = record {
  front = one.front;
  rest = one.rest;
  parts = one.parts;
  tree = one.trees;
  begun = one.begun;
  at = one.at;
  same = λ mid e. one.same mid e (length (one.front ++ mid)) (omega arith);
  higher = one.higher (length (one.front ++ next one.rest)) (omega arith);
}

many_kept : {A : Type 0} (test : TokenKind → Bool) (item deeper : Reader A)
    → ((ts : List Lexeme) (x : A × List Lexeme) → item ts ≡ Ok x → deeper ts ≡ Ok x)
    → (n : ℕ) (ts : List Lexeme) (x : List A × List Lexeme) → many test item n ts ≡ Ok x → many test deeper n ts ≡ Ok x
many_kept test item deeper kept zero ts x was = was
many_kept {A} test item deeper kept (suc n) ts x was =
    elim (cond_at (begins test ts) (item ts >>= λ first. with_first first.0 (many test item n first.1)) (Ok ([], ts))
    (Ok x) was) as (λ _. many test deeper (suc n) ts ≡ Ok x) [
      | inl more ↦
          let one = went_on (item ts) (λ first. with_first first.0 (many test item n first.1)) x more.1 in
          let two = went_on (many test item n one.0.1) (λ others. Ok (one.0.0 ∷ others.0, others.1)) x one.2 in
          cond_true (begins test ts) (deeper ts >>= λ first. with_first first.0 (many test deeper n first.1))
          (Ok ([], ts)) more.0
          ∙ ap (λ (w : Read A). w >>= λ first. with_first first.0 (many test deeper n first.1)) (kept ts one.0 one.1)
          ∙ ap (λ (w : Read (List A)). with_first one.0.0 w) (many_kept test item deeper kept n one.0.1 two.0 two.1)
          ∙ two.2
      | inr stop ↦ cond_false (begins test ts) (deeper ts >>= λ first. with_first first.0 (many test deeper n first.1))
          (Ok ([], ts)) stop.0 ∙ stop.1
    ]

abbrev pub many_continues : (TokenKind → Bool) → (TokenKind → Bool) → TokenKind → Bool
many_continues test c k = test k || c k

begins_many : (test c : TokenKind → Bool) (rest : List Lexeme) → begins (many_continues test c) rest ≡ false
    → (begins test rest ≡ false) × (begins c rest ≡ false)
begins_many test c [] h = (refl, refl)
begins_many test c (t ∷ rest) h = or_stops (test t.kind) (c t.kind) h

each_first : {A : Type 0} (P : A → Rule) (s : List Class)
    → ((x : A) (extent : Extent) (front : List Lexeme) → P x extent front → IsFirst s false front extent)
    → (xs : List A) (extent : Extent) (front : List Lexeme) → IsEach P xs extent front → IsFirst s true front extent
each_first P s h xs Whole [] is = refl
each_first P s h xs Begun [] is = tt
each_first P s h [] extent (t ∷ front) is = absurd (let none : t ∷ front ≡ [] = is in cc)
each_first P s h (x ∷ xs) Whole (t ∷ front) (a, b, parts, p, q) = at_parts a (h x Whole a p) parts
  where
    at_parts : (a : List Lexeme) → IsFirst s false a Whole → t ∷ front ≡ a ++ b → IsOf s t.kind
    at_parts [] none e = absurd cc
    at_parts (u ∷ a) first e = subst (λ (v : Lexeme). IsOf s v.kind) (let same : t ≡ u = cc in sym same) first
each_first P s h (x ∷ xs) Begun (t ∷ front) (inl p) = h x Begun (t ∷ front) p
each_first P s h (x ∷ xs) Begun (t ∷ front) (inr (a, b, parts, p, q)) = at_parts a (h x Whole a p) parts
  where
    at_parts : (a : List Lexeme) → IsFirst s false a Whole → t ∷ front ≡ a ++ b → IsOf s t.kind
    at_parts [] none e = absurd cc
    at_parts (u ∷ a) first e = subst (λ (v : Lexeme). IsOf s v.kind) (let same : t ≡ u = cc in sym same) first

-- another item, or the rest, doesn't go on with one
each_follows : (s : List Class) (c : TokenKind → Bool) (front rest : List Lexeme) → Tests c false s
    → IsFirst s true front Whole → begins c rest ≡ false → begins c (front ++ rest) ≡ false
each_follows s c [] rest h is stop = stop
each_follows s c (t ∷ front) rest h is stop = tests_of c false s t.kind h is

each_again : {A : Type 0} {P : A → Rule} {s : List Class} {c : TokenKind → Bool} {item deeper : Reader A}
    (test : TokenKind → Bool) → Reads P s false c item deeper → Tests test true s → Tests c false s
    → (xs : List A) (front rest : List Lexeme) → IsEach P xs Whole front → begins (many_continues test c) rest ≡ false
    → (m : ℕ) → length (front ++ rest) ≤ m → many test item m (front ++ rest) ≡ Ok (xs, rest)
each_again {A} {P} {s} {c} {item} {deeper} test h starts apart [] front rest is stop m le =
    ap (λ (l : List Lexeme). many test item m (l ++ rest)) is
    ∙ many_none test item m rest (begins_many test c rest stop).0
each_again {A} {P} {s} {c} {item} {deeper} test h starts apart (x ∷ xs) front rest is stop m le =
    let split = split_rest front is.0 is.1 rest is.2 in
    let after =
    each_follows s c is.1 rest apart (each_first P s h.first xs Whole is.1 is.4) (begins_many test c rest stop).1 in
    ap (many test item m) split
    ∙ many_goes test item m (is.0 ++ (is.1 ++ rest)) (is.1 ++ rest) x (Ok (xs, rest))
    (takes_first test s is.0 (is.1 ++ rest) starts (h.first x Whole is.0 is.3))
    (subst (λ (l : List Lexeme). length l ≤ m) split le)
    (behind s is.0 (is.1 ++ rest) (h.first x Whole is.0 is.3)) (h.again x is.0 (is.1 ++ rest) is.3 after)
    (each_again test h starts apart xs is.1 rest is.4 stop)

goes_more : {A : Type 0} (x : A) (o : Read (List A)) → GoesOn o → GoesOn (with_first x o)
goes_more x o h = goes_seen (λ others. x ∷ others.0) o h

goes_turn : {A : Type 0} (test : TokenKind → Bool) (item : Reader A) (n : ℕ) (o : Read A) → GoesOn o
    → GoesOn (o >>= λ first. with_first first.0 (many test item n first.1))
goes_turn {A} test item n (Ok x) h =
    goes_more x.0 (many test item n x.1) (goes_along (ap (many test item n) h ∙ many_none test item n [] refl) refl)
goes_turn test item n (Err AtEnd) h = tt
goes_turn test item n (Err (At line)) h = absurd h
goes_turn test item n (Err (TooDeep line)) h = absurd h
goes_turn test item n (Err (OutOfRange line)) h = absurd h

each_goes : {A : Type 0} {P : A → Rule} {s : List Class} {c : TokenKind → Bool} {item deeper : Reader A}
    (test : TokenKind → Bool) → Reads P s false c item deeper → Tests test true s → Tests c false s
    → (xs : List A) (front : List Lexeme) → IsEach P xs Begun front → (m : ℕ) → length front ≤ m
    → GoesOn (many test item m front)
each_goes {A} {P} {s} {c} {item} {deeper} test h starts apart xs [] is m le =
    goes_along (many_none test item m [] refl) refl
each_goes {A} {P} {s} {c} {item} {deeper} test h starts apart xs (t ∷ front) is zero le = absurd (omega arith)
each_goes {A} {P} {s} {c} {item} {deeper} test h starts apart [] (t ∷ front) is (suc m) le =
    absurd (let none : t ∷ front ≡ [] = is in cc)
each_goes {A} {P} {s} {c} {item} {deeper} test h starts apart (x ∷ xs) (t ∷ front) (inl p) (suc m) le =
    goes_along
    (cond_true (test t.kind) (item (t ∷ front) >>= λ first. with_first first.0 (many test item m first.1))
    (Ok ([], t ∷ front)) (tests_of test true s t.kind starts (h.first x Begun (t ∷ front) p)))
    (goes_turn test item m (item (t ∷ front)) (h.goes x (t ∷ front) p))
each_goes {A} {P} {s} {c} {item} {deeper} test h starts apart (x ∷ xs) (t ∷ front) (inr (a, b, parts, p, q)) (suc m)
    le =
    let after = follows_begun s true c b apart (each_first P s h.first xs Begun b q) in
    let first = h.first x Whole a p in
    let here : begins test (a ++ b) ≡ true = takes_first test s a b starts first in
    let less = behind s a b first in
    let le' : length (a ++ b) ≤ suc m = subst (λ (l : List Lexeme). length l ≤ suc m) parts le in
    goes_along
    (ap (many test item (suc m)) parts
    ∙ cond_true (begins test (a ++ b)) (item (a ++ b) >>= λ one. with_first one.0 (many test item m one.1))
    (Ok ([], a ++ b)) here
    ∙ ap (λ (w : Read A). w >>= λ one. with_first one.0 (many test item m one.1)) (h.again x a b p after))
    (goes_more x (many test item m b) (each_goes test h starts apart xs b q m (omega arith)))

pub each_reads : {A : Type 0} {P : A → Rule} {s : List Class} {c : TokenKind → Bool} {item deeper : Reader A}
    (test : TokenKind → Bool) → Reads P s false c item deeper → Tests test true s → Tests c false s
    → Reads (λ (xs : List A). IsEach P xs) s true (many_continues test c) (each_at test item) (each_at test deeper)
each_reads {A} {P} {s} {c} {item} {deeper} test h starts apart = record {
  some = [];
  from_nothing = refl;
  ends = λ ts. many_reads_ends P test item deeper ts (many test item (length ts) ts)
      (turns_end test h (length ts) ts (omega arith));
  kept = λ ts x was. many_kept test item deeper h.kept (length ts) ts x was;
  again = λ xs front rest is stop. each_again test h starts apart xs front rest is stop (length (front ++ rest))
      (omega arith);
  first = each_first P s h.first;
  goes = λ xs front is. each_goes test h starts apart xs front is (length front) (omega arith);
}

-- ---- a number within limits, and a part behind it

count_ended : (counts : Counts) → count_at counts [] ≡ Err AtEnd
unfolding count_at
count_ended counts = refl

count_token : (counts : Counts) (t : Lexeme) (n : ℕ) (b : Bool) → t.kind ≡ kind.Number n → is_count counts n ≡ b
    → (ts : List Lexeme) → count_at counts (t ∷ ts) ≡ cond b (Ok (n, ts)) (Err (OutOfRange t.line))
unfolding count_at
count_token counts t n b is e ts =
    ap (λ (k : TokenKind). count_in counts k t.line ts) is
    ∙ ap (λ (c : Bool). cond {A = Read ℕ} c (Ok (n, ts)) (Err (OutOfRange t.line))) e

abbrev AlwaysFails : Lexeme → Type 0
AlwaysFails t = (counts : Counts) (ts : List Lexeme) → count_at counts (t ∷ ts) ≡ Err (At t.line)

-- a number, or a token that is none
count_kinds : (t : Lexeme) (k : TokenKind) → t.kind ≡ k → IsSomeNumber t.kind ⊎ AlwaysFails t
unfolding count_at
count_kinds t (kind.Number n) e = inl (n, e)
count_kinds t (kind.Word w) e = inr (λ counts ts. ap (λ (k : TokenKind). count_in counts k t.line ts) e)
count_kinds t (kind.Symbol s) e = inr (λ counts ts. ap (λ (k : TokenKind). count_in counts k t.line ts) e)
count_kinds t kind.Name e = inr (λ counts ts. ap (λ (k : TokenKind). count_in counts k t.line ts) e)

count_in_kept : (counts : Counts) (k : TokenKind) (line : ℕ) (ts : List Lexeme) (x : ℕ × List Lexeme)
    → count_in counts k line ts ≡ Ok x → count_in Unranged k line ts ≡ Ok x
count_in_kept counts (kind.Number n) line ts x e =
    elim (cond_at (is_count counts n) (Ok (n, ts)) (Err (OutOfRange line)) (Ok x) e) as
    (λ _. count_in Unranged (kind.Number n) line ts ≡ Ok x)
    [ inl one ↦ one.1 | inr two ↦ absurd (no_number two.1) ]
  where
    no_number : (let o : Read ℕ = Err (OutOfRange line) in o ≡ Ok x) → ⊥
    no_number h = cc
count_in_kept counts (kind.Word w) line ts x e = absurd cc
count_in_kept counts (kind.Symbol s) line ts x e = absurd cc
count_in_kept counts kind.Name line ts x e = absurd cc

count_kept : (counts : Counts) (ts : List Lexeme) (x : ℕ × List Lexeme) → count_at counts ts ≡ Ok x
    → count_at Unranged ts ≡ Ok x
unfolding count_at
count_kept counts [] x e = absurd cc
count_kept counts (t ∷ ts) x e = count_in_kept counts t.kind t.line ts x e

count_front : (counts : Counts) (n : ℕ) (front rest : List Lexeme) → IsCount counts n Whole front
    → count_at counts (front ++ rest) ≡ Ok (n, rest)
count_front counts n front rest (t, one, is) =
    ap (λ (l : List Lexeme). count_at counts (l ++ rest)) one ∙ count_token counts t n true is.0 is.1 rest

abbrev CountedRule : {B : Type 0} → Counts → (B → Rule) → ℕ × B → Rule
CountedRule counts Q x = IsCount counts x.0 >> Q x.1

counted_ends : {B : Type 0} (counts : Counts) (Q : B → Rule) (r d : Reader B) → B → d [] ≡ Err AtEnd
    → ((ts : List Lexeme) → Ends Q r d ts (r ts)) → (ts : List Lexeme)
    → Ends (CountedRule counts Q) (pair_at (count_at counts) r) (pair_at (count_at Unranged) d) ts
    (pair_at (count_at counts) r ts)
counted_ends {B} counts Q r d some ended ends [] =
    subst
    (λ (o : Read (ℕ × B)). Ends (CountedRule counts Q) (pair_at (count_at counts) r) (pair_at (count_at Unranged) d) []
    o)
    (sym (pair_stops (count_at counts) r [] AtEnd (count_ended counts)))
    (record {
      front = [];
      rest = [];
      parts = refl;
      tree = (1, some);
      begun = inl refl;
      at = refl;
      same = λ mid e. pair_stops (count_at counts) r mid AtEnd
          (ap (count_at counts) (next_empty mid e) ∙ count_ended counts);
      higher = pair_stops (count_at Unranged) d [] AtEnd (count_ended Unranged);
    })
counted_ends {B} counts Q r d some ended ends (t ∷ ts) =
    elim (count_kinds t t.kind refl) as
    (λ _. Ends (CountedRule counts Q) (pair_at (count_at counts) r) (pair_at (count_at Unranged) d) (t ∷ ts)
    (pair_at (count_at counts) r (t ∷ ts)))
    [ inl number ↦ at_test number.0 number.1 (is_count counts number.0) refl | inr fails ↦ at_other fails ]
  where
    at_test : (n : ℕ) → t.kind ≡ kind.Number n → (b : Bool) → is_count counts n ≡ b
        → Ends (CountedRule counts Q) (pair_at (count_at counts) r) (pair_at (count_at Unranged) d) (t ∷ ts)
        (pair_at (count_at counts) r (t ∷ ts))
    at_test n is true e =
        subst
        (λ (o : Read (ℕ × B)). Ends (CountedRule counts Q) (pair_at (count_at counts) r)
        (pair_at (count_at Unranged) d) (t ∷ ts) o)
        (sym (pair_runs (count_at counts) r (t ∷ ts) ts n (r ts) (count_token counts t n true is e ts) refl))
        (second_ends (IsCount counts) Q (count_at counts) (count_at Unranged) r d (count_kept counts) (t ∷ ts) (n, ts)
        (record {
          front = t ∷ [];
          parts = refl;
          is = (t, refl, (is, e));
          ahead = λ mid near. count_token counts t n true is e mid;
        })
        (r ts) (ends ts))
    at_test n is false e =
        subst
        (λ (o : Read (ℕ × B)). Ends (CountedRule counts Q) (pair_at (count_at counts) r)
        (pair_at (count_at Unranged) d) (t ∷ ts) o)
        (sym (pair_stops (count_at counts) r (t ∷ ts) (OutOfRange t.line) (count_token counts t n false is e ts)))
        (record {
          front = [];
          rest = t ∷ ts;
          parts = refl;
          tree = (1, some);
          begun = inl refl;
          at = (t, ts, refl, refl, (n, is));
          same = λ mid near. (let m = next_token mid t near in
              ap (pair_at (count_at counts) r) m.1
              ∙ pair_stops (count_at counts) r (t ∷ m.0) (OutOfRange t.line) (count_token counts t n false is e m.0));
          higher = pair_runs (count_at Unranged) d (t ∷ []) [] n (Err AtEnd) (count_token Unranged t n true is refl [])
              ended;
        })

    at_other : AlwaysFails t
        → Ends (CountedRule counts Q) (pair_at (count_at counts) r) (pair_at (count_at Unranged) d) (t ∷ ts)
        (pair_at (count_at counts) r (t ∷ ts))
    at_other fails =
        subst
        (λ (o : Read (ℕ × B)). Ends (CountedRule counts Q) (pair_at (count_at counts) r)
        (pair_at (count_at Unranged) d) (t ∷ ts) o)
        (sym (pair_stops (count_at counts) r (t ∷ ts) (At t.line) (fails counts ts)))
        (record {
          front = [];
          rest = t ∷ ts;
          parts = refl;
          tree = (1, some);
          begun = inl refl;
          at = (t, ts, refl, refl);
          same = λ mid near. (let m = next_token mid t near in
              ap (pair_at (count_at counts) r) m.1
              ∙ pair_stops (count_at counts) r (t ∷ m.0) (At t.line) (fails counts m.0));
          higher = pair_stops (count_at Unranged) d (t ∷ []) (At t.line) (fails Unranged []);
        })

counted_goes : {B : Type 0} (counts : Counts) (Q : B → Rule) (r : Reader B)
    → ((x : B) (front : List Lexeme) → Q x Begun front → GoesOn (r front)) → (x : ℕ × B) (front : List Lexeme)
    → CountedRule counts Q x Begun front → GoesOn (pair_at (count_at counts) r front)
counted_goes counts Q r goes x front (inl none) =
    goes_along
    (ap (pair_at (count_at counts) r) none ∙ pair_stops (count_at counts) r [] AtEnd (count_ended counts)) tt
counted_goes counts Q r goes x front (inr (a, b, parts, p, q)) =
    goes_along
    (ap (pair_at (count_at counts) r) parts
    ∙ pair_runs (count_at counts) r (a ++ b) b x.0 (r b) (count_front counts x.0 a b p) refl)
    (goes_seen (λ y. (x.0, y.0)) (r b) (goes x.1 b q))

pub counted_reads : {B : Type 0} {Q : B → Rule} {s' : List Class} {r d : Reader B} (counts : Counts)
    → d [] ≡ Err AtEnd → Reads Q s' false never r d
    → Reads (λ (x : ℕ × B). IsCount counts x.0 >> Q x.1) (ANumber ∷ []) false never (pair_at (count_at counts) r)
    (pair_at (count_at Unranged) d)
counted_reads {B} {Q} {s'} {r} {d} counts ended k = record {
  some = (1, k.some);
  from_nothing = inl refl;
  ends = counted_ends counts Q r d k.some ended k.ends;
  kept = λ ts x was.
      let one = went_on (count_at counts ts) (λ a. r a.1 >>= λ b. Ok ((a.0, b.0), b.1)) x was in
      let two = went_on (r one.0.1) (λ b. Ok ((one.0.0, b.0), b.1)) x one.2 in
      pair_runs (count_at Unranged) d ts one.0.1 one.0.0 (Ok two.0) (count_kept counts ts one.0 one.1)
      (k.kept one.0.1 two.0 two.1) ∙ two.2;
  again = λ x front rest is stop.
      ap (pair_at (count_at counts) r) (split_rest front is.0 is.1 rest is.2)
      ∙ pair_runs (count_at counts) r (is.0 ++ (is.1 ++ rest)) (is.1 ++ rest) x.0 (Ok (x.1, rest))
      (count_front counts x.0 is.0 (is.1 ++ rest) is.3) (k.again x.1 is.1 rest is.4 stop);
  first = then_first (IsCount counts) Q (ANumber ∷ []) s' false false
      (one_first (λ n t. (t.kind ≡ kind.Number n) × (is_count counts n ≡ true)) (ANumber ∷ [])
      (λ n t is. inl (n, is.0))) k.first;
  goes = counted_goes counts Q r k.goes;
}
