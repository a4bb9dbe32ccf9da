-- Numbers and the bytes that spell them.
use Rattle.std.proofs.Common.{◌≡◌, ℕ, zero, suc, ◌+◌, ◌*◌, ◌^◌, ◌<◌, ◌≤◌, Bool, true, false, nat_lt, cond, List, []}
use Rattle.std.proofs.Common.{◌∷◌, ◌++◌, length, take, drop, Ok, Err, refl, sym, ap, subst, ◌∙◌, arith, inl, inr}
use Rattle.std.specs.Int.{byte_at}
use Rattle.std.proofs.lemmas.Bool.{cases_lt, ltb-true, ltb-false, le-ltb, lt-ltb}
use Rattle.std.proofs.lemmas.List.{append-nil, take-append-drop, length-append, length-take, get_or-take, get_or_past}
use Rattle.std.proofs.lemmas.List.{drop_at}
use Rattle.std.proofs.Math.Nat.{mul-le-mul_left}
use Rattle.byteorder.specs.Endian.{big_bytes, big_number, big_from}
use Rattle.byteorder.specs.Numbers.{big_from-cons, big_from-take, big_from-lt, big_number-reads_back}
use Rattle.byteorder.specs.Numbers.{length-bytes_high_first}
use Rattle.ckpt_codec.specs.Fields.{number_text}
use Rattle.ckpt_codec.specs.declared.fault.CodecFault.{CodecFault}
use Rattle.ckpt_codec.specs.declared.fault.CodecFault.TheVariants.{Truncated}
use Rattle.ckpt_codec.specs.Reading.{Found, number_at}
use Rattle.ckpt_codec.proofs.Scan.{AreBytes, rest_bytes, is_found, is_fault}

pub front_bytes : (n : ℕ) (bytes : List ℕ) → AreBytes bytes → AreBytes (take n bytes)
front_bytes n bytes are place =
    elim (cases_lt place n) [
      | inl within ↦ rw (get_or-take n bytes place 0 within) (are place)
      | inr past ↦ rw (get_or_past (take n bytes) place 0 (omega (arith, length-take n bytes))) (omega arith)
    ]

tail_bytes : (b : ℕ) (bytes : List ℕ) → AreBytes (b ∷ bytes) → AreBytes bytes
tail_bytes b bytes are place = are (suc place)

-- a greater first byte makes a greater number
above : (a b c y : ℕ) → a < b → y < c → a * c + y < b * c
above a b c y lt less =
    let step : c * suc a ≤ c * b = mul-le-mul_left c (omega arith) in
    omega arith

-- as many bytes with the same number are the same
same_bytes : (n : ℕ) (xs ys : List ℕ) → length xs ≡ n → length ys ≡ n → AreBytes xs → AreBytes ys
    → big_number n xs ≡ big_number n ys → xs ≡ ys
same_bytes zero [] [] len other xs-are ys-are e = refl
same_bytes zero [] (y ∷ ys) len other xs-are ys-are e = absurd (omega arith)
same_bytes zero (x ∷ xs) ys len other xs-are ys-are e = absurd (omega arith)
same_bytes (suc n) [] ys len other xs-are ys-are e = absurd (omega arith)
same_bytes (suc n) (x ∷ xs) [] len other xs-are ys-are e = absurd (omega arith)
same_bytes (suc n) (x ∷ xs) (y ∷ ys) len other xs-are ys-are e =
    let one : big_from 1 n (x ∷ xs) ≡ big_from 0 n xs = big_from-cons 0 n x xs in
    let two : big_from 1 n (y ∷ ys) ≡ big_from 0 n ys = big_from-cons 0 n y ys in
    let whole : x * 256 ^ n + big_from 0 n xs ≡ y * 256 ^ n + big_from 0 n ys
    = ap (λ (k : ℕ). x * 256 ^ n + k) (sym one) ∙ (e ∙ ap (λ (k : ℕ). y * 256 ^ n + k) two) in
    let xs-less : big_from 0 n xs < 256 ^ n = big_from-lt 0 n xs (tail_bytes x xs xs-are) in
    let ys-less : big_from 0 n ys < 256 ^ n = big_from-lt 0 n ys (tail_bytes y ys ys-are) in
    let first : x ≡ y = heads x y (256 ^ n) (big_from 0 n xs) (big_from 0 n ys) xs-less ys-less whole in
    let rest : big_from 0 n xs ≡ big_from 0 n ys =
    tails x y (256 ^ n) (big_from 0 n xs) (big_from 0 n ys) first whole in
    ap (λ (b : ℕ). b ∷ xs) first
    ∙ ap (λ (zs : List ℕ). y ∷ zs)
    (same_bytes n xs ys (omega arith) (omega arith) (tail_bytes x xs xs-are) (tail_bytes y ys ys-are) rest)
  where
    heads : (a b c p q : ℕ) → p < c → q < c → a * c + p ≡ b * c + q → a ≡ b
    heads a b c p q p-less q-less e =
        elim (cases_lt a b) [
          | inl lt ↦ let h : a * c + p < b * c = above a b c p lt p-less in absurd (omega arith)
          | inr ge ↦
              elim (cases_lt b a) [
                | inl lt ↦ let h : b * c + q < a * c = above b a c q lt q-less in absurd (omega arith)
                | inr le ↦ omega arith
              ]
        ]

    tails : (a b c p q : ℕ) → a ≡ b → a * c + p ≡ b * c + q → p ≡ q
    tails a b c p q same e =
        let moved : a * c ≡ b * c = ap (λ (k : ℕ). k * c) same in
        omega arith

-- the bytes of a number are bytes
made_bytes : (n k : ℕ) → AreBytes (big_bytes n k)
made_bytes zero k place = omega arith
made_bytes (suc n) k zero = byte_less n k
  where
    byte_less : (i m : ℕ) → byte_at i m < 256
    byte_less zero m = omega arith
    byte_less (suc i) m = omega arith
made_bytes (suc n) k (suc place) = made_bytes n k place

-- so many bytes are those of the number in them
back : (n : ℕ) (bytes : List ℕ) → length bytes ≡ n → AreBytes bytes → big_bytes n (big_number n bytes) ≡ bytes
back n bytes len are =
    let v = big_number n bytes in
    let lt : v < 256 ^ n = big_from-lt 0 n bytes are in
    let again : big_number n (big_bytes n v) ≡ v
    = ap (λ (bs : List ℕ). big_number n bs) (sym (append-nil (big_bytes n v))) ∙ big_number-reads_back n v [] lt in
    same_bytes n (big_bytes n v) bytes (length-bytes_high_first n v) len (made_bytes n v) are again

-- what is read is spelled by the bytes
pub number_took : (width : ℕ) (bytes : List ℕ) (x : ℕ × List ℕ) → AreBytes bytes → number_at width bytes ≡ Ok x
    → (bytes ≡ number_text width x.0 ++ x.1) × (x.0 < 256 ^ width) × AreBytes x.1
unfolding number_at number_text
number_took width bytes x are e =
    chosen (nat_lt (length bytes) width) (ltb-false (length bytes) width) e
  where
    chosen : (short : Bool) → (short ≡ false → width ≤ length bytes)
        → cond {A = Found ℕ} short (Err Truncated) (Ok (big_number width bytes, drop width bytes)) ≡ Ok x
        → (bytes ≡ big_bytes width x.0 ++ x.1) × (x.0 < 256 ^ width) × AreBytes x.1
    chosen true long e = absurd cc
    chosen false long e =
        let enough : width ≤ length bytes = long refl in
        let front : big_bytes width (big_number width bytes) ≡ take width bytes
        = ap (λ (k : ℕ). big_bytes width k) (sym (big_from-take 0 width width bytes (omega arith)))
        ∙ back width (take width bytes) (omega (arith, length-take width bytes)) (front_bytes width bytes are) in
        let same : (big_number width bytes, drop width bytes) ≡ x =
        is_found {A = ℕ × List ℕ} (big_number width bytes, drop width bytes) x e in
        subst (λ (z : ℕ × List ℕ). (bytes ≡ big_bytes width z.0 ++ z.1) × (z.0 < 256 ^ width) × AreBytes z.1) same (
          sym (ap (λ (bs : List ℕ). bs ++ drop width bytes) front ∙ take-append-drop width bytes),
          big_from-lt 0 width bytes are,
          rest_bytes width bytes are,
        )

-- what is spelled is read
pub number_again : (width k : ℕ) (rest : List ℕ) → k < 256 ^ width
    → number_at width (number_text width k ++ rest) ≡ Ok (k, rest)
unfolding number_at number_text
number_again width k rest lt =
    let long : nat_lt (length (big_bytes width k ++ rest)) width ≡ false
    = le-ltb _ _ (omega (arith, length-append (big_bytes width k) rest, length-bytes_high_first width k)) in
    rw (
      long,
      big_number-reads_back width k rest lt,
      drop_at (big_bytes width k) rest width
          (length-bytes_high_first width k),
    ) refl

-- too few bytes
pub number_short : (width : ℕ) (bytes : List ℕ) → length bytes < width → number_at width bytes ≡ Err Truncated
unfolding number_at
number_short width bytes lt = rw (lt-ltb (length bytes) width lt) refl

-- nothing is read where there are too few, and then alone
pub number_stuck : (width : ℕ) (bytes : List ℕ) (fault : CodecFault) → number_at width bytes ≡ Err fault
    → (fault ≡ Truncated) × (length bytes < width)
unfolding number_at
number_stuck width bytes fault e = chosen (nat_lt (length bytes) width) (ltb-true (length bytes) width) e
  where
    chosen : (short : Bool) → (short ≡ true → length bytes < width)
        → cond {A = Found ℕ} short (Err Truncated) (Ok (big_number width bytes, drop width bytes)) ≡ Err fault
        → (fault ≡ Truncated) × (length bytes < width)
    chosen true less e = (sym (is_fault {A = ℕ × List ℕ} Truncated fault e), less refl)
    chosen false less e = absurd cc
