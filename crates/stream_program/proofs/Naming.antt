-- The inputs of sources, one after another.
use Rattle.std.proofs.Common.{◌≡◌, ◌<◌, ◌+◌, ◌∙◌, ◌⊎◌, inl, inr, ℕ, zero, suc, Bool, true, false, List, [], ◌∷◌, ◌++◌, Some, length, refl, subst, sym, ap, arith}
use Rattle.std.proofs.lemmas.Bool.Decides.{nat_tests}
use Rattle.std.proofs.lemmas.List.{length-append}
use Rattle.std.proofs.lemmas.Option.{slice_get_read, slice_get_within}
use Rattle.std.specs.Prelude.{◌||◌, ◌&&◌, ◌==◌, get_or, IsTrue, slice_get, string_bytes}
use Rattle.std.specs.List.{list_any}
use Rattle.cobaltmidge.specs.Names.{IsInputNamed}
use Rattle.protocol.specs.Node.Common.{Net}
use Rattle.stream_words.specs.declared.options.StreamOptions.{StreamOptions}
use Rattle.stream_words.specs.declared.sources.InputSource.{InputSource}
use Rattle.stream_program.specs.Causes.{AreInputsOfSources, is_standard, IsMisasked, IsSourceFault, IsUngiven, missing, repeated, unknown}
use Rattle.stream_program.specs.declared.failure.StreamFailure.{StreamFailure}
use Rattle.stream_program.specs.declared.failure.StreamFailure.TheVariants.{Missing, Refused}

-- the inputs of the sources in the first places
pub record AreFirstInputs (net : Net) (sources : List InputSource) (numbers : List ℕ) (place : ℕ) : Type 0 where
  pub count : length numbers ≡ place
  pub each : (k number : ℕ) → slice_get numbers k ≡ Some number
      → (one : InputSource) × (slice_get sources k ≡ Some one) × IsInputNamed net (string_bytes one.input) number

-- one of them is standard input
abbrev pub IsStandardBefore : List InputSource → ℕ → Type 0
IsStandardBefore sources place =
    (earlier : ℕ) × (one : InputSource) × (earlier < place) × (slice_get sources earlier ≡ Some one)
    × IsTrue (is_standard (string_bytes one.path))

pub none_first : (net : Net) (sources : List InputSource) (numbers : List ℕ) → numbers ≡ [] → AreFirstInputs net sources numbers 0
none_first net sources numbers none = rw none (record { count = refl; each = λ k number there. absurd cc })

get_last : {A : Type 0} (xs : List A) (x y : A) (k : ℕ) → slice_get (xs ++ x ∷ []) k ≡ Some y
    → (slice_get xs k ≡ Some y) ⊎ ((k ≡ length xs) × (y ≡ x))
get_last {A} [] x y zero there = inr (refl, cc)
get_last {A} [] x y (suc k) there = absurd cc
get_last {A} (z ∷ xs) x y zero there = inl there
get_last {A} (z ∷ xs) x y (suc k) there = further (get_last xs x y k there)
  where
    further : (slice_get xs k ≡ Some y) ⊎ ((k ≡ length xs) × (y ≡ x))
        → (slice_get xs k ≡ Some y) ⊎ ((suc k ≡ suc (length xs)) × (y ≡ x))
    further (inl at) = inl at
    further (inr last) = inr (ap suc last.0, last.1)

pub next_first : (net : Net) (sources : List InputSource) (numbers now : List ℕ) (place number : ℕ) (one : InputSource)
    → AreFirstInputs net sources numbers place → slice_get sources place ≡ Some one → IsInputNamed net (string_bytes one.input) number
    → now ≡ numbers ++ number ∷ [] → AreFirstInputs net sources now (place + 1)
next_first net sources numbers now place number one first here named is =
    let counted : length now ≡ length numbers + 1 = ap length is ∙ length-append numbers (number ∷ []) in
    let count = first.count in
    record {
      count = omega (arith, counted, count);
      each = λ k other there. by_place k other (get_last numbers number other k (sym (ap (λ (list : List ℕ). slice_get list k) is) ∙ there));
    }
  where
    by_place : (k other : ℕ) → (slice_get numbers k ≡ Some other) ⊎ ((k ≡ length numbers) × (other ≡ number))
        → (this : InputSource) × (slice_get sources k ≡ Some this) × IsInputNamed net (string_bytes this.input) other
    by_place k other (inl at) = first.each k other at
    by_place k other (inr last) =
        let at : k ≡ place = last.0 ∙ first.count in
        rw (at, last.1) (one, here, named)

pub all_first : (net : Net) (sources : List InputSource) (numbers : List ℕ) (place : ℕ) → AreFirstInputs net sources numbers place
    → place ≡ length sources → AreInputsOfSources net sources numbers
all_first net sources numbers place first all = record { count = first.count ∙ all; each = first.each }

-- ---- a number that is there, or isn't

same_number : (m n : ℕ) → (m == n) ≡ true → m ≡ n
same_number m n is = grind (arith, nat_tests)

itself : (n : ℕ) → (n == n) ≡ true
itself n = grind (arith, nat_tests)

first_or_rest : (here : Bool) (n : ℕ) (numbers : List ℕ) (number : ℕ) → (n == number) ≡ here
    → (here || list_any (λ n. n == number) numbers) ≡ true
    → (list_any (λ n. n == number) numbers ≡ true → (k : ℕ) × (slice_get numbers k ≡ Some number))
    → (k : ℕ) × (slice_get (n ∷ numbers) k ≡ Some number)
first_or_rest true n numbers number same is further = (0, ap Some (same_number n number same))
first_or_rest false n numbers number other is further = let there = further is in (suc there.0, there.1)

place_of : (numbers : List ℕ) (number : ℕ) → list_any (λ n. n == number) numbers ≡ true → (k : ℕ) × (slice_get numbers k ≡ Some number)
place_of [] number is = absurd cc
place_of (n ∷ numbers) number is = first_or_rest (n == number) n numbers number refl is (place_of numbers number)

neither : (one other : Bool) → (one || other) ≡ false → (one ≡ false) × (other ≡ false)
neither false other e = (refl, e)
neither true other e = absurd cc

pub no_place : (numbers : List ℕ) (number k : ℕ) → list_any (λ n. n == number) numbers ≡ false → slice_get numbers k ≡ Some number → ⊥
no_place [] number k none there = absurd cc
no_place (n ∷ numbers) number zero none there =
    let here : n ≡ number = cc in
    let is : (n == number) ≡ true = rw here (itself number) in
    let not : (n == number) ≡ false = (neither (n == number) (list_any (λ n. n == number) numbers) none).0 in
    absurd cc
no_place (n ∷ numbers) number (suc k) none there =
    no_place numbers number k (neither (n == number) (list_any (λ n. n == number) numbers) none).1 there

-- ---- why a source is refused, or another one is wanted

at_place : {A : Type 0} (xs : List A) (place : ℕ) (x : A) → place < length xs → x ≡ get_or xs place x → slice_get xs place ≡ Some x
at_place {A} xs place x within is = slice_get_read xs (length xs) place x refl within is

either_way : (one other both : Bool) → both ≡ (one || other) → both ≡ true → (one ≡ true) ⊎ (other ≡ true)
either_way true other both is so = inl refl
either_way false other both is so = inr (sym is ∙ so)

both_ways : (one other both : Bool) → both ≡ (one && other) → both ≡ true → (one ≡ true) × (other ≡ true)
both_ways true other both is so = (refl, sym is ∙ so)
both_ways false other both is so = absurd cc

pub source_unknown : (net : Net) (sources : List InputSource) (place : ℕ) (this : InputSource) (failure : StreamFailure) → place < length sources
    → this ≡ get_or sources place this → failure ≡ Refused place 11
    → ((number : ℕ) → IsInputNamed net (string_bytes this.input) number → ⊥) → IsSourceFault net sources failure
source_unknown net sources place this failure within at is none = unknown place this (at_place sources place this within at) none is

-- a source that is refused since its input is among those of earlier ones, or since it is standard input as an earlier one is
pub source_twice : (net : Net) (sources : List InputSource) (numbers : List ℕ) (place number : ℕ) (this : InputSource) (failure : StreamFailure)
    (found standard here apart refused : Bool) → AreFirstInputs net sources numbers place
    → (standard ≡ true → IsStandardBefore sources place) → place < length sources → this ≡ get_or sources place this
    → IsInputNamed net (string_bytes this.input) number → found ≡ list_any (λ n. n == number) numbers
    → here ≡ is_standard (string_bytes this.path) → apart ≡ (standard && here) → refused ≡ (found || apart) → refused ≡ true
    → failure ≡ Refused place 10 → IsSourceFault net sources failure
source_twice net sources numbers place number this failure found standard here apart refused first before within at named found_is here_is apart_is refused_is so is =
    by (either_way found apart refused refused_is so)
  where
    there : slice_get sources place ≡ Some this
    there = at_place sources place this within at

    by : (found ≡ true) ⊎ (apart ≡ true) → IsSourceFault net sources failure
    by (inl one) =
        let k = place_of numbers number (sym found_is ∙ one) in
        let other = first.each k.0 number k.1 in
        let count = first.count in
        let below : k.0 < length numbers = slice_get_within numbers k.0 number k.1 in
        repeated k.0 place other.0 this (omega (arith, count, below)) other.1 there (inl (number, other.2, named)) is
    by (inr two) =
        let ways = both_ways standard here apart apart_is two in
        let other = before ways.0 in
        let so_here : is_standard (string_bytes this.path) ≡ true = sym here_is ∙ ways.1 in
        repeated other.0 place other.1 this other.2 other.3 there (inr (other.4, cc)) is

-- what is known of the sources once one more has its input
pub one_more_source : (net : Net) (sources : List InputSource) (numbers now : List ℕ) (place number : ℕ) (this : InputSource)
    → AreFirstInputs net sources numbers place → place < length sources → this ≡ get_or sources place this
    → IsInputNamed net (string_bytes this.input) number → now ≡ numbers ++ number ∷ [] → AreFirstInputs net sources now (place + 1)
one_more_source net sources numbers now place number this first within at named is =
    next_first net sources numbers now place number this first (at_place sources place this within at) named is

pub standard_next : (sources : List InputSource) (place : ℕ) (this : InputSource) (standard here both : Bool)
    → (standard ≡ true → IsStandardBefore sources place) → place < length sources → this ≡ get_or sources place this
    → here ≡ is_standard (string_bytes this.path) → both ≡ (standard || here) → both ≡ true → IsStandardBefore sources (place + 1)
standard_next sources place this standard here both before within at here_is both_is so =
    by (either_way standard here both both_is so)
  where
    by : (standard ≡ true) ⊎ (here ≡ true) → IsStandardBefore sources (place + 1)
    by (inl was) =
        let other = before was in
        let below = other.2 in
        (other.0, other.1, omega (arith, below), other.3, other.4)
    by (inr is) =
        let so_here : is_standard (string_bytes this.path) ≡ true = sym here_is ∙ is in
        (place, this, omega arith, at_place sources place this within at, cc)

-- an input that no source is for, where no text gives its items
pub one_is_missing : (options : StreamOptions) (net other : Net) (sources : List InputSource) (numbers given : List ℕ) (failure : StreamFailure)
    → other ≡ net → sources ≡ options.sources.items → given ≡ numbers → AreInputsOfSources net sources numbers
    → (input : ℕ) × (failure ≡ Missing input) × IsUngiven options other given input → IsMisasked options net failure
one_is_missing options net other sources numbers given failure same all counted inputs is =
    missing numbers is.0 (subst (λ (list : List InputSource). AreInputsOfSources net list numbers) all inputs)
    (subst (λ (n : Net). IsUngiven options n numbers is.0) same (subst (λ (list : List ℕ). IsUngiven options other list is.0) counted is.2)) is.1
