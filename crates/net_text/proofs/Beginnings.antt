-- What the rules call a beginning is one: it can be completed where one more may be open, and what stands at the front
-- of a whole part is one.
use Rattle.std.proofs.Common.{◌≡◌, ◌⊎◌, inl, inr, List, [], ◌∷◌, ◌++◌, refl, sym, ap, subst, ◌∙◌, append_assoc}
use Rattle.std.proofs.lemmas.List.{append-nil}
use Rattle.net_text.specs.Tokens.{Lexeme}
use Rattle.net_text.specs.Grammar.{Whole, Begun, Rule, ◌>>◌, ◌or◌, IsWhere, IsNothing, IsAwaited, IsOne, IsEach}
use Rattle.net_text.proofs.Laws.{IsSeen}

-- a list that is cut in two ways
abbrev Cuts : List Lexeme → List Lexeme → List Lexeme → List Lexeme → Type 0
Cuts a b c d = ((m : List Lexeme) × (c ≡ a ++ m) × (b ≡ m ++ d)) ⊎ ((m : List Lexeme) × (a ≡ c ++ m) × (d ≡ m ++ b))

later_cuts : (t u : Lexeme) (a b c d : List Lexeme) → t ≡ u → Cuts a b c d → Cuts (t ∷ a) b (u ∷ c) d
later_cuts t u a b c d e (inl h) =
    inl (h.0, ap (λ (l : List Lexeme). u ∷ l) h.1 ∙ ap (λ (v : Lexeme). v ∷ (a ++ h.0)) (sym e), h.2)
later_cuts t u a b c d e (inr h) =
    inr (h.0, ap (λ (l : List Lexeme). t ∷ l) h.1 ∙ ap (λ (v : Lexeme). v ∷ (c ++ h.0)) e, h.2)

cuts : (a b c d : List Lexeme) → a ++ b ≡ c ++ d → Cuts a b c d
cuts [] b c d e = inl (c, refl, e)
cuts (t ∷ a) b [] d e = inr (t ∷ a, refl, sym e)
cuts (t ∷ a) b (u ∷ c) d e =
    later_cuts t u a b c d (let same : t ≡ u = cc in same) (cuts a b c d (let rest : a ++ b ≡ c ++ d = cc in rest))

both_nothing : (a b : List Lexeme) → a ++ b ≡ [] → (a ≡ []) × (b ≡ [])
both_nothing [] b e = (refl, e)
both_nothing (t ∷ a) b e = absurd cc

-- a rule, and the same where one more may be open
pub record Grows {A : Type 0} (P P' : A → Rule) : Type 0 where
  pub some : A
  pub from_nothing : P some Begun []
  pub widens : (x : A) (l : List Lexeme) → P x Whole l → P' x Whole l
  pub completes : (x : A) (l : List Lexeme) → P x Begun l → (y : A) × (more : List Lexeme) × P' y Whole (l ++ more)
  pub prefix : (x : A) (a b : List Lexeme) → P x Whole (a ++ b) → ((y : A) × P y Begun a) ⊎ (P x Whole a × (b ≡ []))

one_prefix : {A : Type 0} (Is : A → Lexeme → Type 0) (x : A) (a b : List Lexeme) → IsOne (Is x) Whole (a ++ b)
    → ((y : A) × IsOne (Is y) Begun a) ⊎ (IsOne (Is x) Whole a × (b ≡ []))
one_prefix Is x [] b is = inl (x, refl)
one_prefix Is x (u ∷ a) b is =
    let none =
    both_nothing a b (let rest : a ++ b ≡ [] = (let whole : u ∷ (a ++ b) ≡ is.0 ∷ [] = is.1 in cc) in rest) in
    let same : u ≡ is.0 = (let whole : u ∷ (a ++ b) ≡ is.0 ∷ [] = is.1 in cc) in
    inr ((is.0, ap (λ (v : Lexeme). v ∷ a) same ∙ ap (λ (l : List Lexeme). is.0 ∷ l) none.0, is.2), none.1)

pub one_grows : {A : Type 0} (Is : A → Lexeme → Type 0) (x : A) (t : Lexeme) → Is x t
    → Grows (λ x. IsOne (Is x)) (λ x. IsOne (Is x))
one_grows Is x t is = record {
  some = x;
  from_nothing = refl;
  widens = λ y l h. h;
  completes = λ y l none. (x, t ∷ [], (t, ap (λ (k : List Lexeme). k ++ t ∷ []) none, is));
  prefix = one_prefix Is;
}

pair_completes : {A B : Type 0} {P P' : A → Rule} {Q Q' : B → Rule} → Grows P P' → Grows Q Q'
    → (x : A × B) (l : List Lexeme) → (P x.0 >> Q x.1) Begun l
    → (y : A × B) × (more : List Lexeme) × (P' y.0 >> Q' y.1) Whole (l ++ more)
pair_completes h k x l (inl p) =
    let one = h.completes x.0 l p in
    let two = k.completes k.some [] k.from_nothing in
    ((one.0, two.0), one.1 ++ two.1, (l ++ one.1, two.1, sym (append_assoc l one.1 two.1), one.2, two.2))
pair_completes h k x l (inr (a, b, e, p, q)) =
    let two = k.completes x.1 b q in (
      (x.0, two.0),
      two.1,
      (a, b ++ two.1, ap (λ (m : List Lexeme). m ++ two.1) e ∙ append_assoc a b two.1, h.widens x.0 a p, two.2),
    )

pair_prefix : {A B : Type 0} {P P' : A → Rule} {Q Q' : B → Rule} → Grows P P' → Grows Q Q'
    → (x : A × B) (a b : List Lexeme) → (P x.0 >> Q x.1) Whole (a ++ b)
    → ((y : A × B) × (P y.0 >> Q y.1) Begun a) ⊎ ((P x.0 >> Q x.1) Whole a × (b ≡ []))
pair_prefix {A} {B} {P} {P'} {Q} {Q'} h k x a b (f, g, e, p, q) = at_cut (cuts a b f g e)
  where
    at_first : (m : List Lexeme) → ((y : A) × P y Begun a) ⊎ (P x.0 Whole a × (m ≡ []))
        → ((y : A × B) × (P y.0 >> Q y.1) Begun a) ⊎ ((P x.0 >> Q x.1) Whole a × (b ≡ []))
    at_first m (inl y) = inl ((y.0, k.some), inl y.1)
    at_first m (inr w) = inl ((x.0, k.some), inr (a, [], sym (append-nil a), w.0, k.from_nothing))

    at_second : (m : List Lexeme) → a ≡ f ++ m → ((y : B) × Q y Begun m) ⊎ (Q x.1 Whole m × (b ≡ []))
        → ((y : A × B) × (P y.0 >> Q y.1) Begun a) ⊎ ((P x.0 >> Q x.1) Whole a × (b ≡ []))
    at_second m same (inl y) = inl ((x.0, y.0), inr (f, m, same, p, y.1))
    at_second m same (inr w) = inr ((f, m, same, p, w.0), w.1)

    at_cut : Cuts a b f g → ((y : A × B) × (P y.0 >> Q y.1) Begun a) ⊎ ((P x.0 >> Q x.1) Whole a × (b ≡ []))
    at_cut (inl c) = at_first c.0 (h.prefix x.0 a c.0 (subst (λ (l : List Lexeme). P x.0 Whole l) c.1 p))
    at_cut (inr c) = at_second c.0 c.1 (k.prefix x.1 c.0 b (subst (λ (l : List Lexeme). Q x.1 Whole l) c.2 q))

pub pair_grows : {A B : Type 0} {P P' : A → Rule} {Q Q' : B → Rule} → Grows P P' → Grows Q Q'
    → Grows (λ (x : A × B). P x.0 >> Q x.1) (λ (x : A × B). P' x.0 >> Q' x.1)
pair_grows h k = record {
  some = (h.some, k.some);
  from_nothing = inl h.from_nothing;
  widens = λ x l is. (is.0, is.1, is.2, h.widens x.0 is.0 is.3, k.widens x.1 is.1 is.4);
  completes = pair_completes h k;
  prefix = pair_prefix h k;
}

either_widens : {A : Type 0} {P P' Q Q' : A → Rule} → Grows P P' → Grows Q Q' → (x : A) (l : List Lexeme)
    → (P x or Q x) Whole l → (P' x or Q' x) Whole l
either_widens h k x l (inl p) = inl (h.widens x l p)
either_widens h k x l (inr q) = inr (k.widens x l q)

either_completes : {A : Type 0} {P P' Q Q' : A → Rule} → Grows P P' → Grows Q Q' → (x : A) (l : List Lexeme)
    → (P x or Q x) Begun l → (y : A) × (more : List Lexeme) × (P' y or Q' y) Whole (l ++ more)
either_completes h k x l (inl p) = let c = h.completes x l p in (c.0, c.1, inl c.2)
either_completes h k x l (inr q) = let c = k.completes x l q in (c.0, c.1, inr c.2)

either_prefix : {A : Type 0} {P P' Q Q' : A → Rule} → Grows P P' → Grows Q Q' → (x : A) (a b : List Lexeme)
    → (P x or Q x) Whole (a ++ b) → ((y : A) × (P y or Q y) Begun a) ⊎ ((P x or Q x) Whole a × (b ≡ []))
either_prefix {A} {P} {P'} {Q} {Q'} h k x a b (inl p) =
    elim (h.prefix x a b p) as (λ _. ((y : A) × (P y or Q y) Begun a) ⊎ ((P x or Q x) Whole a × (b ≡ [])))
    [ inl y ↦ inl (y.0, inl y.1) | inr w ↦ inr (inl w.0, w.1) ]
either_prefix {A} {P} {P'} {Q} {Q'} h k x a b (inr q) =
    elim (k.prefix x a b q) as (λ _. ((y : A) × (P y or Q y) Begun a) ⊎ ((P x or Q x) Whole a × (b ≡ [])))
    [ inl y ↦ inl (y.0, inr y.1) | inr w ↦ inr (inr w.0, w.1) ]

pub either_grows : {A : Type 0} {P P' Q Q' : A → Rule} → Grows P P' → Grows Q Q'
    → Grows (λ (x : A). P x or Q x) (λ (x : A). P' x or Q' x)
either_grows h k = record {
  some = k.some;
  from_nothing = inr k.from_nothing;
  widens = either_widens h k;
  completes = either_completes h k;
  prefix = either_prefix h k;
}

pub nothing_grows : {A : Type 0} (x : A)
    → Grows (λ (y : A). IsWhere (y ≡ x) IsNothing) (λ (y : A). IsWhere (y ≡ x) IsNothing)
nothing_grows x = record {
  some = x;
  from_nothing = (refl, refl);
  widens = λ y l h. h;
  completes = λ y l h. (y, [], (h.0, append-nil l ∙ h.1));
  prefix = λ y a b h. let none = both_nothing a b h.1 in inr ((h.0, none.0), none.1);
}

-- seen in another way
pub as_grows : {A B : Type 0} {P P' : A → Rule} {R R' : B → Rule} {view : A → B} → Grows P P' → IsSeen P R view
    → ((x : A) (l : List Lexeme) → P' x Whole l → R' (view x) Whole l) → Grows R R'
as_grows {A} {B} {P} {P'} {R} {R'} {view} h seen whole =
    let none = seen.begun h.some [] h.from_nothing in
    record {
      some = none.0;
      from_nothing = none.1;
      widens = λ z l is. let x = seen.back z l is in
          subst (λ (y : B). R' y Whole l) (sym x.1) (whole x.0 l (h.widens x.0 l x.2));
      completes = λ z l is. let x = seen.back_begun z l is in let c = h.completes x.0 l x.1 in
          (view c.0, c.1, whole c.0 (l ++ c.1) c.2);
      prefix = λ z a b is.
          let x = seen.back z (a ++ b) is in
          elim (h.prefix x.0 a b x.2) as (λ _. ((y : B) × R y Begun a) ⊎ (R z Whole a × (b ≡ []))) [
            | inl y ↦ inl (seen.begun y.0 a y.1)
            | inr w ↦ inr (subst (λ (y : B). R y Whole a) (sym x.1) (seen.whole x.0 a w.0), w.1)
          ];
    }

-- what is awaited stands there where one more may be open
pub awaited_grows : {A : Type 0} {P' : A → Rule} (x : A) (l : List Lexeme) → P' x Whole l
    → Grows (λ (y : A). IsAwaited) P'
awaited_grows {A} {P'} x l is = record {
  some = x;
  from_nothing = refl;
  widens = λ y k h. absurd h;
  completes =
      λ y k none. (x, l, subst (λ (m : List Lexeme). P' x Whole m) (ap (λ (m : List Lexeme). m ++ l) (sym none)) is);
  prefix = λ y a b h. absurd h;
}

each_widens : {A : Type 0} {P P' : A → Rule} → Grows P P' → (xs : List A) (l : List Lexeme) → IsEach P xs Whole l
    → IsEach P' xs Whole l
each_widens h [] l is = is
each_widens h (x ∷ xs) l is = (is.0, is.1, is.2, h.widens x is.0 is.3, each_widens h xs is.1 is.4)

each_completes : {A : Type 0} {P P' : A → Rule} → Grows P P' → (xs : List A) (l : List Lexeme) → IsEach P xs Begun l
    → (ys : List A) × (more : List Lexeme) × IsEach P' ys Whole (l ++ more)
each_completes h [] l is = ([], [], append-nil l ∙ is)
each_completes h (x ∷ xs) l (inl p) = let c = h.completes x l p in
    (c.0 ∷ [], c.1, (l ++ c.1, [], sym (append-nil (l ++ c.1)), c.2, refl))
each_completes h (x ∷ xs) l (inr (a, b, e, p, q)) =
    let c = each_completes h xs b q in
    (x ∷ c.0, c.1, (a, b ++ c.1, ap (λ (m : List Lexeme). m ++ c.1) e ∙ append_assoc a b c.1, h.widens x a p, c.2))

each_prefix : {A : Type 0} {P P' : A → Rule} → Grows P P' → (xs : List A) (a b : List Lexeme)
    → IsEach P xs Whole (a ++ b) → ((ys : List A) × IsEach P ys Begun a) ⊎ (IsEach P xs Whole a × (b ≡ []))
each_prefix h [] a b is = inr (both_nothing a b is)
each_prefix {A} {P} {P'} h (x ∷ xs) a b (f, g, e, p, q) = at_cut (λ m r. each_prefix h xs m b r) (cuts a b f g e)
  where
    at_first : (m : List Lexeme) → ((y : A) × P y Begun a) ⊎ (P x Whole a × (m ≡ []))
        → ((ys : List A) × IsEach P ys Begun a) ⊎ (IsEach P (x ∷ xs) Whole a × (b ≡ []))
    at_first m (inl y) = inl (y.0 ∷ [], inl y.1)
    at_first m (inr w) = inl (x ∷ [], inr (a, [], sym (append-nil a), w.0, refl))

    at_second : (m : List Lexeme) → a ≡ f ++ m
        → ((ys : List A) × IsEach P ys Begun m) ⊎ (IsEach P xs Whole m × (b ≡ []))
        → ((ys : List A) × IsEach P ys Begun a) ⊎ (IsEach P (x ∷ xs) Whole a × (b ≡ []))
    at_second m same (inl y) = inl (x ∷ y.0, inr (f, m, same, p, y.1))
    at_second m same (inr w) = inr ((f, m, same, p, w.0), w.1)

    at_cut : ((m : List Lexeme) → IsEach P xs Whole (m ++ b)
        → ((ys : List A) × IsEach P ys Begun m) ⊎ (IsEach P xs Whole m × (b ≡ []))) → Cuts a b f g
        → ((ys : List A) × IsEach P ys Begun a) ⊎ (IsEach P (x ∷ xs) Whole a × (b ≡ []))
    at_cut later (inl c) = at_first c.0 (h.prefix x a c.0 (subst (λ (l : List Lexeme). P x Whole l) c.1 p))
    at_cut later (inr c) = at_second c.0 c.1 (later c.0 (subst (λ (l : List Lexeme). IsEach P xs Whole l) c.2 q))

pub each_grows : {A : Type 0} {P P' : A → Rule} → Grows P P'
    → Grows (λ (xs : List A). IsEach P xs) (λ (xs : List A). IsEach P' xs)
each_grows h = record {
  some = [];
  from_nothing = refl;
  widens = each_widens h;
  completes = each_completes h;
  prefix = each_prefix h;
}
