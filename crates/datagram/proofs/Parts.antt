-- What a field reads is its spelling of a value that it has, and of such a value it reads the spelling again.
use Rattle.std.proofs.Common.{◌≡◌, ℕ, suc, ◌+◌, ◌^◌, ◌<◌, ◌≤◌, ◌⊎◌, Bool, true, false, nat_eq, nat_lt, cond, List, []}
use Rattle.std.proofs.Common.{◌∷◌, ◌++◌, ℤ, pos, negsuc, length, slice_index, take, drop, Option, Some, None}
use Rattle.std.proofs.Common.{option_map, refl, sym, ap, subst, ◌∙◌, append_assoc, arith, inl, inr}
use Rattle.std.specs.Prelude.{FitsSigned}
use Rattle.std.specs.Int.{w64, cast_signed, cast_unsigned}
use Rattle.std.proofs.lemmas.Bool.{cases_lt, eqb-true, ltb-false, le-ltb}
use Rattle.std.proofs.lemmas.Int.{of_z-to_z, to_z-of_z}
use Rattle.std.proofs.Math.Facts.{sfits_to_z, Fits-of_lt}
use Rattle.std.proofs.lemmas.List.{take-append-drop, length-append, length-take, get_or-drop, get_or-take, get_or_past}
use Rattle.std.proofs.lemmas.List.{drop_at}
use Rattle.std.proofs.lemmas.Nat.{be_bytes_2, be_bytes_8}
use Rattle.byteorder.specs.Endian.{big_bytes, big_number}
use Rattle.byteorder.specs.Numbers.{big_from-take, big_from-lt, big_number-reads_back, length-bytes_high_first}
use Rattle.datagram.specs.PacketText.{number_text, item_text, reason_number}
use Rattle.datagram.specs.declared.packet.Reason.{Reason}
use Rattle.datagram.specs.declared.packet.Reason.TheVariants.{Busy, Behind, Recovering, TooLarge}
use Rattle.datagram.specs.Reading.{◌>>=◌, Found, Field, number_at, item_at, item, if_passes, limited, reason_of}
use Rattle.datagram.specs.Reading.{reason_at, reason, both}

-- each of them is a byte
abbrev pub AreBytes : List ℕ → Type 0
AreBytes text = (place : ℕ) → slice_index text place < 256

rest_bytes : (n : ℕ) (text : List ℕ) → AreBytes text → AreBytes (drop n text)
rest_bytes n text fits place = rw get_or-drop (fits (n + place))

front_bytes : (n : ℕ) (text : List ℕ) → AreBytes text → AreBytes (take n text)
front_bytes n text fits place =
    elim (cases_lt place n) [
      | inl within ↦ rw (get_or-take n text place 0 within) (fits place)
      | inr past ↦ rw (get_or_past (take n text) place 0 (omega (arith, length-take n text))) (omega arith)
    ]

pub AreBytes-rest : (b : ℕ) (text : List ℕ) → AreBytes (b ∷ text) → AreBytes text
AreBytes-rest b text fits place = fits (suc place)

-- a step that found something
pub after_found : {A B : Type 0} (r : Option A) (f : A → Option B) (y : B) → (r >>= f) ≡ Some y
    → (x : A) × (r ≡ Some x) × (f x ≡ Some y)
after_found (Some x) f y e = (x, refl, e)
after_found None f y e = absurd cc

-- a choice that found something
pub chosen : {A : Type 0} (b : Bool) (x : Option A) (y : A) → cond b x None ≡ Some y → (b ≡ true) × (x ≡ Some y)
chosen true x y e = (refl, e)
chosen false x y e = absurd cc

pub not_chosen : {A : Type 0} (b : Bool) (x : Option A) (y : A) → cond b None x ≡ Some y → (b ≡ false) × (x ≡ Some y)
not_chosen true x y e = absurd cc
not_chosen false x y e = (refl, e)

abbrev found : {A : Type 0} → A → Option A
found x = Some x

pub is_found : {A : Type 0} (x y : A) → found x ≡ found y → x ≡ y
is_found x y e = cc

pub passed : {A : Type 0} (test : A → Bool) (r : Found A) (y : A × List ℕ) → if_passes test r ≡ Some y
    → (r ≡ Some y) × (test y.0 ≡ true)
passed test None y e = absurd cc
passed test (Some x) y e =
    let c = chosen (test x.0) (Some x) y e in
    let same : x ≡ y = is_found x y c.1 in
    (c.1, subst (λ (z : _). test z.0 ≡ true) same c.0)

-- the whole is this text and what is left behind it, which are bytes too
pub record Splits (whole text left : List ℕ) : Type 0 where
  pub joined : whole ≡ text ++ left
  pub bytes_left : AreBytes left

-- two texts, one behind the other
pub both_split : (whole one middle two left : List ℕ) → Splits whole one middle → Splits middle two left
    → Splits whole (one ++ two) left
both_split whole one middle two left first second = record {
  joined = first.joined ∙ (ap (λ (behind : List ℕ). one ++ behind) second.joined ∙ sym (append_assoc one two left));
  bytes_left = second.bytes_left;
}

pub record Exact {A : Type 0} (f : Field A) : Type 0 where
  pub takes : (bytes : List ℕ) (x : A × List ℕ) → AreBytes bytes → f.read bytes ≡ Some x
      → Splits bytes (f.text x.0) x.1 × f.Fits x.0
  pub again : (x : A) (rest : List ℕ) → f.Fits x → f.read (f.text x ++ rest) ≡ Some (x, rest)

-- ---- numbers

-- so many bytes are those of the number in them
abbrev pub Back : ℕ → Type 0
Back n = (bytes : List ℕ) → length bytes ≡ n → AreBytes bytes → big_bytes n (big_number n bytes) ≡ bytes

pub back2 : Back 2
back2 bytes len fits = be_bytes_2 bytes (big_number 2 bytes) len fits (omega arith)

pub back8 : Back 8
back8 bytes len fits = be_bytes_8 bytes (big_number 8 bytes) len fits (omega arith)

-- the first bytes are those of the number in them
front_back : (n : ℕ) → Back n → (bytes : List ℕ) → n ≤ length bytes → AreBytes bytes
    → big_bytes n (big_number n bytes) ≡ take n bytes
front_back n back bytes long fits =
    let same : big_number n (take n bytes) ≡ big_number n bytes = big_from-take 0 n n bytes (omega arith) in
    ap (λ (k : ℕ). big_bytes n k) (sym same)
    ∙ back (take n bytes) (omega (arith, length-take n bytes)) (front_bytes n bytes fits)

number_takes : (n : ℕ) → Back n → (bytes : List ℕ) (x : ℕ × List ℕ) → AreBytes bytes → number_at n bytes ≡ Some x
    → Splits bytes (number_text n x.0) x.1 × (x.0 < 256 ^ n)
unfolding number_at number_text
number_takes n back bytes x fits e =
    let c = not_chosen (nat_lt (length bytes) n) (Some (big_number n bytes, drop n bytes)) x e in
    let long : n ≤ length bytes = ltb-false _ _ c.0 in
    let made : Splits bytes (big_bytes n (big_number n bytes)) (drop n bytes) = record {
      joined = rw (front_back n back bytes long fits) (sym (take-append-drop n bytes));
      bytes_left = rest_bytes n bytes fits;
    } in
    subst (λ (y : ℕ × List ℕ). Splits bytes (big_bytes n y.0) y.1 × (y.0 < 256 ^ n))
    (is_found (big_number n bytes, drop n bytes) x c.1) (made, big_from-lt 0 n bytes fits)

long_enough : (n k : ℕ) (rest : List ℕ) → nat_lt (length (big_bytes n k ++ rest)) n ≡ false
long_enough n k rest = le-ltb _ _ (omega (arith, length-append (big_bytes n k) rest, length-bytes_high_first n k))

number_again : (n k : ℕ) (rest : List ℕ) → k < 256 ^ n → number_at n (number_text n k ++ rest) ≡ Some (k, rest)
unfolding number_at number_text
number_again n k rest lt =
    rw (
      long_enough n k rest,
      big_number-reads_back n k rest lt,
      drop_at (big_bytes n k) rest n
          (length-bytes_high_first n k),
    ) refl

pub limited_exact : (Fits : ℕ → Type 0) (test : ℕ → Bool) (n : ℕ) → Back n → ((k : ℕ) → test k ≡ true → Fits k)
    → ((k : ℕ) → Fits k → (test k ≡ true) × (k < 256 ^ n)) → Exact (limited Fits test n)
limited_exact Fits test n back sound complete = record {
  takes = λ bytes x fits e.
      let p = passed test (number_at n bytes) x e in
      ((number_takes n back bytes x fits p.0).0, sound x.0 p.1);
  again = λ k rest fits.
      let c = complete k fits in
      rw (number_again n k rest c.1, c.0) refl;
}

-- ---- items

signed_fits : (n : ℕ) → n < 256 ^ 8 → FitsSigned w64 (cast_signed w64 n)
signed_fits n lt = sfits_to_z {w = w64} {n = n} (Fits-of_lt lt)

item_takes : (bytes : List ℕ) (x : ℤ × List ℕ) → AreBytes bytes → item_at bytes ≡ Some x
    → Splits bytes (item_text x.0) x.1 × FitsSigned w64 x.0
unfolding item_at item_text
item_takes bytes x fits e =
    let c = not_chosen (nat_lt (length bytes) 8) (Some (cast_signed w64 (big_number 8 bytes), drop 8 bytes)) x e in
    let long : 8 ≤ length bytes = ltb-false _ _ c.0 in
    let lt : big_number 8 bytes < 256 ^ 8 = big_from-lt 0 8 bytes fits in
    let same : cast_unsigned w64 (cast_signed w64 (big_number 8 bytes)) ≡ big_number 8 bytes =
    of_z-to_z w64 (big_number 8 bytes) lt in
    let made : Splits bytes (item_text (cast_signed w64 (big_number 8 bytes))) (drop 8 bytes) = record {
      joined = sym (take-append-drop 8 bytes)
          ∙ ap (λ (t : List ℕ). t ++ drop 8 bytes)
          (sym (ap (λ (k : ℕ). big_bytes 8 k) same ∙ front_back 8 back8 bytes long fits));
      bytes_left = rest_bytes 8 bytes fits;
    } in
    subst (λ (y : ℤ × List ℕ). Splits bytes (item_text y.0) y.1 × FitsSigned w64 y.0)
    (is_found (cast_signed w64 (big_number 8 bytes), drop 8 bytes) x c.1)
    (made, signed_fits (big_number 8 bytes) lt)

-- a reader of so many bytes reads those of a number as that number
reads_bytes : {A : Type 0} (view : ℕ → A) (n k : ℕ) (rest : List ℕ) → k < 256 ^ n
    → cond {A = Option (A × List ℕ)} (nat_lt (length (big_bytes n k ++ rest)) n) None
    (Some (view (big_number n (big_bytes n k ++ rest)), drop n (big_bytes n k ++ rest))) ≡ Some (view k, rest)
reads_bytes view n k rest lt =
    rw (
      long_enough n k rest,
      big_number-reads_back n k rest lt,
      drop_at (big_bytes n k) rest n
          (length-bytes_high_first n k),
    ) refl

unsigned_fits : (z : ℤ) → FitsSigned w64 z → cast_unsigned w64 z < 256 ^ 8
unsigned_fits (pos n) fits = let lt = fits.sfits in omega arith
unsigned_fits (negsuc n) fits = omega arith

item_again : (z : ℤ) (rest : List ℕ) → FitsSigned w64 z → item_at (item_text z ++ rest) ≡ Some (z, rest)
unfolding item_at item_text
item_again z rest fits =
    reads_bytes (cast_signed w64) 8 (cast_unsigned w64 z) rest (unsigned_fits z fits)
    ∙ ap (λ (item : ℤ). Some (item, rest)) (to_z-of_z w64 z fits)

pub item_exact : Exact item
item_exact = record { takes = item_takes; again = item_again }

-- ---- reasons

-- one of two choices found something
either : {A : Type 0} (b : Bool) (here : A) (rest : Option A) (y : A) → cond b (Some here) rest ≡ Some y
    → ((b ≡ true) × (here ≡ y)) ⊎ ((b ≡ false) × (rest ≡ Some y))
either true here rest y e = inl (refl, is_found here y e)
either false here rest y e = inr (refl, e)

of_reason : (n k : ℕ) (r found : Reason) → nat_eq n k ≡ true → r ≡ found → k ≡ reason_number r → n ≡ reason_number found
of_reason n k r _ test same is = eqb-true n k test ∙ is ∙ ap reason_number same

has_reason : (n : ℕ) (r : Reason) → reason_of n ≡ Some r → n ≡ reason_number r
has_reason n r e =
    elim (either (nat_eq n 1) Busy
    (cond (nat_eq n 2) (Some Behind)
    (cond (nat_eq n 3) (Some Recovering) (cond (nat_eq n 4) (Some TooLarge) None))) r e) [
      | inl p ↦ of_reason n 1 Busy r p.0 p.1 refl
      | inr p ↦
          elim (either (nat_eq n 2) Behind
          (cond (nat_eq n 3) (Some Recovering) (cond (nat_eq n 4) (Some TooLarge) None)) r p.1) [
            | inl q ↦ of_reason n 2 Behind r q.0 q.1 refl
            | inr q ↦
                elim (either (nat_eq n 3) Recovering (cond (nat_eq n 4) (Some TooLarge) None) r q.1) [
                  | inl s ↦ of_reason n 3 Recovering r s.0 s.1 refl
                  | inr s ↦
                      let t = chosen (nat_eq n 4) (Some TooLarge) r s.1 in
                      of_reason n 4 TooLarge r t.0 (is_found TooLarge r t.1) refl
                ]
          ]
    ]

-- what a mapped value was
pub was : {A B : Type 0} (f : A → B) (r : Option A) (y : B) → option_map f r ≡ Some y
    → (x : A) × (r ≡ Some x) × (f x ≡ y)
was f None y e = absurd cc
was f (Some x) y e = (x, refl, is_found (f x) y e)

reason_takes : (bytes : List ℕ) (x : Reason × List ℕ) → AreBytes bytes → reason_at bytes ≡ Some x
    → Splits bytes (reason_number x.0 ∷ []) x.1 × Unit {0}
reason_takes [] x fits e = absurd cc
reason_takes (n ∷ rest) x fits e =
    let w = was (λ (r : Reason). (r, rest)) (reason_of n) x e in
    let is : n ≡ reason_number w.0 = has_reason n w.0 w.1 in
    let made : Reason × List ℕ = (w.0, rest) in
    subst (λ (y : Reason × List ℕ). Splits (n ∷ rest) (reason_number y.0 ∷ []) y.1 × Unit {0}) w.2
    (record { joined = ap (λ (k : ℕ). k ∷ rest) is; bytes_left = AreBytes-rest n rest fits }, tt)

reason_again : (r : Reason) (rest : List ℕ) → Unit {0} → reason_at (reason_number r ∷ rest) ≡ Some (r, rest)
reason_again Busy rest fits = refl
reason_again Behind rest fits = refl
reason_again Recovering rest fits = refl
reason_again TooLarge rest fits = refl

pub reason_exact : Exact reason
reason_exact = record { takes = reason_takes; again = reason_again }

-- ---- one behind another

pub both_exact : {A B : Type 0} (f : Field A) (g : Field B) → Exact f → Exact g → Exact (both f g)
both_exact {A = A} {B = B} f g ef eg = record {
  takes = λ bytes x fits e.
      let a = after_found (f.read bytes) (λ p. g.read p.1 >>= λ q. Some ((p.0, q.0), q.1)) x e in
      let b = after_found (g.read a.0.1) (λ q. Some ((a.0.0, q.0), q.1)) x a.2 in
      let first = ef.takes bytes a.0 fits a.1 in
      let second = eg.takes a.0.1 b.0 first.0.bytes_left b.1 in
      let whole = both_split bytes (f.text a.0.0) a.0.1 (g.text b.0.0) b.0.1 first.0 second.0 in
      let made : (A × B) × List ℕ = ((a.0.0, b.0.0), b.0.1) in
      subst (λ (y : (A × B) × List ℕ). Splits bytes (f.text y.0.0 ++ g.text y.0.1) y.1 × (f.Fits y.0.0 × g.Fits y.0.1))
      (is_found made x b.2) (whole, (first.1, second.1));
  again = λ x rest fits.
      rw (
        append_assoc (f.text x.0) (g.text x.1) rest,
        ef.again x.0 (g.text x.1 ++ rest) fits.0,
        eg.again x.1 rest
            fits.1,
      ) refl;
}
