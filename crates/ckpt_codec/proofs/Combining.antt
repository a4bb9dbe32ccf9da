-- Readers put together are lawful where their parts are.
use Rattle.std.proofs.Common.{◌≡◌, ℕ, zero, suc, List, [], ◌∷◌, ◌++◌, length, replicate, Ok, Err, refl, sym, ap, subst}
use Rattle.std.proofs.Common.{◌∙◌, arith}
use Rattle.std.specs.List.{AllByRecursion}
use Rattle.ckpt_codec.specs.Fields.{Field}
use Rattle.ckpt_codec.specs.declared.fault.CodecFault.{CodecFault}
use Rattle.ckpt_codec.specs.Reading.{◌>>=◌, Found, Reader, so_many}
use Rattle.ckpt_codec.proofs.Scan.{Outcome, behind_it, scan, scan-append, Agrees, AreBytes, Lawful, Each, is_found}
use Rattle.ckpt_codec.proofs.Scan.{is_fault}
use Rattle.ckpt_codec.proofs.Scan.Outcome.{Passed, Stuck, Differs}

-- a step that found something, and one that found nothing
data Step {A B : Type 0} (found : Found A) (next : A × List ℕ → Found B) (whole : Found B) : Type 0 where
  Stops : (fault : CodecFault) (was : found ≡ Err fault) (is : whole ≡ Err fault) → Step found next whole
  Goes : (x : A × List ℕ) (was : found ≡ Ok x) (is : next x ≡ whole) → Step found next whole

step_of : {A B : Type 0} (found : Found A) (next : A × List ℕ → Found B) (whole : Found B) → (found >>= next) ≡ whole
    → Step found next whole
step_of (Ok x) next whole e = Step.Goes x refl e
step_of (Err fault) next whole e = Step.Stops fault refl (sym e)

agrees_next : {A B : Type 0} (a : A) (b : B) (found : Found A) (next : A × List ℕ → Found B) (o : Outcome)
    (f : List ℕ → Outcome)
    → Agrees a found o → ((rest : List ℕ) → Agrees b (next (a, rest)) (f rest))
    → Agrees b (found >>= next) (behind_it o f)
agrees_next {A = A} a b found next (Passed rest) f e h =
    subst (λ (r : Found A). Agrees b (r >>= next) (f rest)) (sym e) (h rest)
agrees_next {A = A} a b found next (Stuck fault) f e h = ap (λ (r : Found A). r >>= next) e
agrees_next a b found next Differs f e h = tt

-- ---- a part that tells how to read the whole

pub refined : {T C : Type 0} {IsT : T → Type 0} {ff : T → List Field} {f : Reader T} (IsC : C → Type 0)
    (gg : C → List Field) (g : T → Reader C) (tag : C → T)
    → Lawful IsT ff f → ((t : T) → IsT t → Lawful (λ c. IsC c × (tag c ≡ t)) gg (g t)) → ((c : C) → IsC c → IsT (tag c))
    → ((t : T) → IsT t → (c : C) × IsC c × (tag c ≡ t))
    → Lawful IsC (λ c. ff (tag c) ++ gg c) (λ bytes. f bytes >>= λ x. g x.0 x.1)
refined {T = T} {C = C} {IsT = IsT} {ff = ff} {f = f} IsC gg g tag first second is some = record {
  reads = λ c fits bytes.
      subst (λ (o : Outcome). Agrees c (f bytes >>= λ x. g x.0 x.1) o) (sym (scan-append (ff (tag c)) (gg c) bytes))
      (agrees_next (tag c) c (f bytes) (λ x. g x.0 x.1) (scan (ff (tag c)) bytes) (scan (gg c))
      (first.reads (tag c) (is c fits) bytes)
      (λ rest. (second (tag c) (is c fits)).reads c (fits, refl) rest));
  took = λ bytes x are e. took_by bytes x are (step_of (f bytes) (λ y. g y.0 y.1) (Ok x) e);
  stuck = λ bytes fault are e. stuck_by bytes fault are (step_of (f bytes) (λ y. g y.0 y.1) (Err fault) e);
}
  where
    scanned : (c : C) (t : T) (bytes : List ℕ) (o : Outcome) → tag c ≡ t → scan (ff t) bytes ≡ o
        → scan (ff (tag c) ++ gg c) bytes ≡ behind_it o (scan (gg c))
    scanned c t bytes o same e =
        scan-append (ff (tag c)) (gg c) bytes
        ∙ (ap (λ (u : T). behind_it (scan (ff u) bytes) (scan (gg c))) same
        ∙ ap (λ (p : Outcome). behind_it p (scan (gg c))) e)

    took_by : (bytes : List ℕ) (x : C × List ℕ) → AreBytes bytes → Step (f bytes) (λ y. g y.0 y.1) (Ok x)
        → IsC x.0 × (scan (ff (tag x.0) ++ gg x.0) bytes ≡ Passed x.1) × AreBytes x.1
    took_by bytes x are (Step.Stops fault was e) = absurd cc
    took_by bytes x are (Step.Goes y was e) =
        let t = first.took bytes y are was in
        let u = (second y.0 t.0).took y.1 x t.2 e in
        (u.0.0, scanned x.0 y.0 bytes (Passed y.1) u.0.1 t.1 ∙ u.1, u.2)

    stuck_by : (bytes : List ℕ) (fault : CodecFault) → AreBytes bytes → Step (f bytes) (λ y. g y.0 y.1) (Err fault)
        → (c : C) × IsC c × (scan (ff (tag c) ++ gg c) bytes ≡ Stuck fault)
    stuck_by bytes fault are (Step.Stops other was e) =
        let s = first.stuck bytes other are was in
        let c = some s.0 s.1 in (
          c.0,
          c.1,
          scanned c.0 s.0 bytes (Stuck other) c.2 s.2
              ∙ ap (λ (h : CodecFault). Stuck h) (sym (is_fault {A = C × List ℕ} fault other e)),
        )
    stuck_by bytes fault are (Step.Goes y was e) =
        let t = first.took bytes y are was in
        let u = (second y.0 t.0).stuck y.1 fault t.2 e in
        (u.0, u.1.0, scanned u.0 y.0 bytes (Passed y.1) u.1.1 t.1 ∙ u.2)

-- ---- the same values under other names

pub mapped : {A B : Type 0} {Is : A → Type 0} {fields : A → List Field} {read : Reader A} (IsB : B → Type 0)
    (others : B → List Field) (to : A → B) (from : B → A)
    → Lawful Is fields read → ((b : B) → IsB b → Is (from b) × (to (from b) ≡ b) × (others b ≡ fields (from b)))
    → ((a : A) → Is a → IsB (to a) × (from (to a) ≡ a))
    → Lawful IsB others (λ bytes. read bytes >>= λ x. Ok (to x.0, x.1))
mapped {A = A} {B = B} {Is = Is} {fields = fields} {read = read} IsB others to from law back forth = record {
  reads = λ b fits bytes.
      let h = back b fits in
      subst (λ (o : Outcome). Agrees b (read bytes >>= λ x. Ok (to x.0, x.1)) o)
      (sym (ap (λ (fs : List Field). scan fs bytes) h.2))
      (renamed (from b) b (read bytes) (scan (fields (from b)) bytes) h.1 (law.reads (from b) h.0 bytes));
  took = λ bytes x are e. took_by bytes x are (step_of (read bytes) (λ y. Ok (to y.0, y.1)) (Ok x) e);
  stuck = λ bytes fault are e. stuck_by bytes fault are (step_of (read bytes) (λ y. Ok (to y.0, y.1)) (Err fault) e);
}
  where
    renamed : (a : A) (b : B) (found : Found A) (o : Outcome) → to a ≡ b → Agrees a found o
        → Agrees b (found >>= λ x. Ok (to x.0, x.1)) o
    renamed a b found (Passed rest) is e =
        ap (λ (r : Found A). r >>= λ x. Ok (to x.0, x.1)) e ∙ ap (λ (y : B). Ok (y, rest)) is
    renamed a b found (Stuck fault) is e = ap (λ (r : Found A). r >>= λ x. Ok (to x.0, x.1)) e
    renamed a b found Differs is e = tt

    has_fields : (a : A) → Is a → others (to a) ≡ fields a
    has_fields a is =
        let h = forth a is in
        (back (to a) h.0).2 ∙ ap fields h.1

    took_by : (bytes : List ℕ) (x : B × List ℕ) → AreBytes bytes → Step (read bytes) (λ y. Ok (to y.0, y.1)) (Ok x)
        → IsB x.0 × (scan (others x.0) bytes ≡ Passed x.1) × AreBytes x.1
    took_by bytes x are (Step.Stops fault was e) = absurd cc
    took_by bytes x are (Step.Goes y was e) =
        let t = law.took bytes y are was in
        let same : (to y.0, y.1) ≡ x = is_found {A = B × List ℕ} (to y.0, y.1) x e in
        subst (λ (z : B × List ℕ). IsB z.0 × (scan (others z.0) bytes ≡ Passed z.1) × AreBytes z.1) same
        ((forth y.0 t.0).0, ap (λ (fs : List Field). scan fs bytes) (has_fields y.0 t.0) ∙ t.1, t.2)

    stuck_by : (bytes : List ℕ) (fault : CodecFault) → AreBytes bytes
        → Step (read bytes) (λ y. Ok (to y.0, y.1)) (Err fault)
        → (b : B) × IsB b × (scan (others b) bytes ≡ Stuck fault)
    stuck_by bytes fault are (Step.Stops other was e) =
        let s = law.stuck bytes other are was in (
          to s.0,
          (forth s.0 s.1).0,
          ap (λ (fs : List Field). scan fs bytes) (has_fields s.0 s.1)
              ∙ (s.2 ∙ ap (λ (h : CodecFault). Stuck h) (sym (is_fault {A = B × List ℕ} fault other e))),
        )
    stuck_by bytes fault are (Step.Goes y was e) = absurd cc

-- the same fields, and the same reader
pub same_fields : {A : Type 0} {Is : A → Type 0} {fields : A → List Field} {read : Reader A} (others : A → List Field)
    → Lawful Is fields read
    → ((a : A) → Is a → others a ≡ fields a) → Lawful Is others read
same_fields {A = A} {Is = Is} {fields = fields} {read = read} others law same = record {
  reads = λ a fits bytes. subst (λ (fs : List Field). Agrees a (read bytes) (scan fs bytes)) (sym (same a fits))
      (law.reads a fits bytes);
  took = λ bytes x are e. let t = law.took bytes x are e in
      (t.0, ap (λ (fs : List Field). scan fs bytes) (same x.0 t.0) ∙ t.1, t.2);
  stuck = λ bytes fault are e. let s = law.stuck bytes fault are e in
      (s.0, s.1, ap (λ (fs : List Field). scan fs bytes) (same s.0 s.1) ∙ s.2);
}

pub same_reader : {A : Type 0} {Is : A → Type 0} {fields : A → List Field} {read : Reader A} (other : Reader A)
    → Lawful Is fields read
    → ((bytes : List ℕ) → other bytes ≡ read bytes) → Lawful Is fields other
same_reader {A = A} {Is = Is} {fields = fields} {read = read} other law same = record {
  reads = λ a fits bytes. subst (λ (r : Found A). Agrees a r (scan (fields a) bytes)) (sym (same bytes))
      (law.reads a fits bytes);
  took = λ bytes x are e. law.took bytes x are (sym (same bytes) ∙ e);
  stuck = λ bytes fault are e. law.stuck bytes fault are (sym (same bytes) ∙ e);
}

-- the same values, described otherwise
pub same_values : {A : Type 0} {Is : A → Type 0} {fields : A → List Field} {read : Reader A} (IsB : A → Type 0)
    → Lawful Is fields read
    → ((a : A) → IsB a → Is a) → ((a : A) → Is a → IsB a) → Lawful IsB fields read
same_values IsB law back forth = record {
  reads = λ a fits bytes. law.reads a (back a fits) bytes;
  took = λ bytes x are e. let t = law.took bytes x are e in (forth x.0 t.0, t.1, t.2);
  stuck = λ bytes fault are e. let s = law.stuck bytes fault are e in (s.0, forth s.0 s.1, s.2);
}

-- ---- one behind another, put together

pub built : {A B C : Type 0} {IsA : A → Type 0} {ff : A → List Field} {f : Reader A} {IsB : A → B → Type 0}
    {gg : A → B → List Field} {g : A → Reader B}
    (make : A → B → C) (first : C → A) (second : C → B) (fields : C → List Field)
    → Lawful IsA ff f → ((a : A) → IsA a → Lawful (IsB a) (gg a) (g a)) → ((a : A) → IsA a → (b : B) × IsB a b)
    → ((c : C) → (make (first c) (second c) ≡ c) × (fields c ≡ ff (first c) ++ gg (first c) (second c)))
    → ((a : A) (b : B) → (first (make a b) ≡ a) × (second (make a b) ≡ b))
    → Lawful (λ c. IsA (first c) × IsB (first c) (second c)) fields
    (λ bytes. f bytes >>= λ x. g x.0 x.1 >>= λ y. Ok (make x.0 y.0, y.1))
built {A = A} {B = B} {C = C} {IsA = IsA} {ff = ff} {f = f} {IsB = IsB} {gg = gg} {g = g} make first second fields lf
    lg some back forth =
    same_fields fields
    (refined (λ c. IsA (first c) × IsB (first c) (second c)) (λ c. gg (first c) (second c))
    (λ a bytes. g a bytes >>= λ y. Ok (make a y.0, y.1)) first lf
    (λ a is. mapped (λ c. (IsA (first c) × IsB (first c) (second c)) × (first c ≡ a)) (λ c. gg (first c) (second c))
    (make a) second (lg a is) (unmade a is) (made a is))
    (λ c fits. fits.0)
    (λ a is. let b = some a is in let m = made a is b.0 b.1 in (make a b.0, m.0.0, m.0.1)))
    (λ c fits. (back c).1)
  where
    unmade : (a : A) → IsA a → (c : C) → (IsA (first c) × IsB (first c) (second c)) × (first c ≡ a)
        → IsB a (second c) × (make a (second c) ≡ c) × (gg (first c) (second c) ≡ gg a (second c))
    unmade a is c h = (
      subst (λ (z : A). IsB z (second c)) h.1 h.0.1,
      ap (λ (z : A). make z (second c)) (sym h.1) ∙ (back c).0,
      ap (λ (z : A). gg z (second c)) h.1,
    )

    made : (a : A) → IsA a → (b : B) → IsB a b
        → ((IsA (first (make a b)) × IsB (first (make a b)) (second (make a b))) × (first (make a b) ≡ a))
        × (second (make a b) ≡ b)
    made a is b fits =
        let e = forth a b in (
          (
            (
              subst IsA (sym e.0) is,
              subst (λ (z : A). IsB z (second (make a b))) (sym e.0)
                  (subst (IsB a) (sym e.1) fits),
            ),
            e.0,
          ),
          e.1,
        )

-- ---- so many

-- the first of them, and those behind it
abbrev pub head_or : {X : Type 0} → X → List X → X
head_or x [] = x
head_or x (y ∷ ys) = y

abbrev pub tail_of : {X : Type 0} → List X → List X
tail_of [] = []
tail_of (x ∷ xs) = xs

-- so many, each of which is so
abbrev pub Counted : {X : Type 0} → (X → Type 0) → ℕ → List X → Type 0
Counted IsX n xs = AllByRecursion IsX xs × (length xs ≡ n)

all_some : {X : Type 0} (IsX : X → Type 0) (some : X) → IsX some → (n : ℕ) → Counted IsX n (replicate n some)
all_some IsX some is zero = (tt, refl)
all_some IsX some is (suc n) = let h = all_some IsX some is n in ((is, h.0), ap suc h.1)

none_read : {X : Type 0} (IsX : X → Type 0) (walk : List X → List Field) → walk [] ≡ [] → (xs : List X)
    → Counted IsX 0 xs → (bytes : List ℕ)
    → Agrees xs (Ok ([], bytes)) (scan (walk xs) bytes)
none_read {X = X} IsX walk nil [] fits bytes =
    let none : List X = [] in
    subst (λ (fs : List Field). Agrees none (Ok (none, bytes)) (scan fs bytes)) (sym nil) refl
none_read IsX walk nil (x ∷ xs) fits bytes = absurd (omega (arith, fits.1))

none_lawful : {X : Type 0} (IsX : X → Type 0) (walk : List X → List Field) → walk [] ≡ []
    → Lawful (Counted IsX 0) walk (λ bytes. Ok ([], bytes))
none_lawful {X = X} IsX walk nil = record {
  reads = none_read IsX walk nil;
  took = λ bytes x are e.
      let none : List X × List ℕ = ([], bytes) in
      let same : none ≡ x = is_found {A = List X × List ℕ} none x e in
      subst (λ (z : List X × List ℕ). Counted IsX 0 z.0 × (scan (walk z.0) bytes ≡ Passed z.1) × AreBytes z.1) same
      ((tt, refl), ap (λ (fs : List Field). scan fs bytes) nil, are);
  stuck = λ bytes fault are e. absurd cc;
}

split_off : {X : Type 0} (IsX : X → Type 0) (some x : X) (walk : X → List X → List Field) (n : ℕ) (xs : List X)
    → Counted IsX (suc n) xs × (head_or some xs ≡ x)
    → Counted IsX n (tail_of xs) × (x ∷ tail_of xs ≡ xs) × (walk (head_or some xs) (tail_of xs) ≡ walk x (tail_of xs))
split_off IsX some x walk n [] h = absurd (omega (arith, h.0.1))
split_off {X = X} IsX some x walk n (y ∷ ys) h = (
  (h.0.0.1, omega (arith, h.0.1)),
  ap (λ (z : X). z ∷ ys) (sym h.1),
  ap (λ (z : X). walk z ys) h.1,
)

has_head : {X : Type 0} (IsX : X → Type 0) (some : X) (n : ℕ) (xs : List X) → Counted IsX (suc n) xs
    → IsX (head_or some xs)
has_head IsX some n [] h = absurd (omega (arith, h.1))
has_head IsX some n (y ∷ ys) h = h.0.0

joined : {S X : Type 0} (IsX : X → Type 0) (some : X) (each_fields : S → X → List Field)
    (walk : S → List X → List Field) (next : S → X → S)
    → ((s : S) (x : X) (xs : List X) → walk s (x ∷ xs) ≡ each_fields s x ++ walk (next s x) xs)
    → (n : ℕ) (s : S) (xs : List X) → Counted IsX (suc n) xs
    → walk s xs ≡ each_fields s (head_or some xs) ++ walk (next s (head_or some xs)) (tail_of xs)
joined IsX some each_fields walk next cons n s [] h = absurd (omega (arith, h.1))
joined IsX some each_fields walk next cons n s (y ∷ ys) h = cons s y ys

pub so_many_lawful : {S X : Type 0} {IsX : X → Type 0} (some : X) (is_some : IsX some)
    (each_fields : S → X → List Field) (walk : S → List X → List Field) (each : S → Reader X) (next : S → X → S)
    → ((s : S) → Lawful IsX (each_fields s) (each s)) → ((s : S) → walk s [] ≡ [])
    → ((s : S) (x : X) (xs : List X) → walk s (x ∷ xs) ≡ each_fields s x ++ walk (next s x) xs)
    → (n : ℕ) (s : S) → Lawful (Counted IsX n) (walk s) (so_many each next n s)
unfolding so_many
so_many_lawful {IsX = IsX} some is_some each_fields walk each next law nil cons zero s =
    none_lawful IsX (walk s) (nil s)
so_many_lawful {S = S} {X = X} {IsX = IsX} some is_some each_fields walk each next law nil cons (suc n) s =
    same_fields (walk s)
    (refined (Counted IsX (suc n)) (λ xs. walk (next s (head_or some xs)) (tail_of xs))
    (λ x bytes. so_many each next n (next s x) bytes >>= λ others. Ok (x ∷ others.0, others.1)) (head_or some)
    (law s)
    (λ x is. mapped (λ xs. Counted IsX (suc n) xs × (head_or some xs ≡ x))
    (λ xs. walk (next s (head_or some xs)) (tail_of xs)) (λ xs. x ∷ xs) tail_of
    (so_many_lawful some is_some each_fields walk each next law nil cons n (next s x))
    (split_off IsX some x (λ z xs. walk (next s z) xs) n)
    (λ xs fits. ((((is, fits.0), ap suc fits.1), refl), refl)))
    (has_head IsX some n)
    (λ x is. let h = all_some IsX some is_some n in (x ∷ replicate n some, ((is, h.0), ap suc h.1), refl)))
    (joined IsX some each_fields walk next cons n s)

-- their count, and so many
pub counted : {S X : Type 0} {IsX : X → Type 0} (some : X) (is_some : IsX some) (each_fields : S → X → List Field)
    (walk : S → List X → List Field) (each : S → Reader X) (next : S → X → S) (field : ℕ → Field) (read : Reader ℕ)
    (s : S)
    → Lawful Each (λ n. field n ∷ []) read
    → ((s : S) → Lawful IsX (each_fields s) (each s)) → ((s : S) → walk s [] ≡ [])
    → ((s : S) (x : X) (xs : List X) → walk s (x ∷ xs) ≡ each_fields s x ++ walk (next s x) xs)
    → Lawful (λ xs. AllByRecursion IsX xs) (λ xs. field (length xs) ∷ walk s xs)
    (λ bytes. read bytes >>= λ n. so_many each next n.0 s n.1)
counted {X = X} {IsX = IsX} some is_some each_fields walk each next field read s count law nil cons =
    refined (λ xs. AllByRecursion IsX xs) (walk s) (λ n. so_many each next n s) length count
    (λ n is. so_many_lawful some is_some each_fields walk each next law nil cons n s) (λ xs fits. tt)
    (λ n is. let h = all_some IsX some is_some n in (replicate n some, h.0, h.1))

-- one value, of no bytes
pub only_lawful : {C : Type 0} (Is : C → Type 0) (fields : C → List Field) (c : C) → Is c → ((d : C) → Is d → d ≡ c)
    → fields c ≡ [] → Lawful Is fields (λ bytes. Ok (c, bytes))
only_lawful {C = C} Is fields c is same none = record {
  reads = λ d fits bytes.
      subst (λ (e : C). Agrees e (Ok (c, bytes)) (scan (fields e) bytes)) (sym (same d fits))
      (subst (λ (fs : List Field). Agrees c (Ok (c, bytes)) (scan fs bytes)) (sym none) refl);
  took = λ bytes x are e.
      let made : C × List ℕ = (c, bytes) in
      let found : made ≡ x = is_found {A = C × List ℕ} made x e in
      subst (λ (z : C × List ℕ). Is z.0 × (scan (fields z.0) bytes ≡ Passed z.1) × AreBytes z.1) found
      (is, ap (λ (fs : List Field). scan fs bytes) none, are);
  stuck = λ bytes fault are e. absurd cc;
}
