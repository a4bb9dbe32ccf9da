-- Sources that are opened, one after another, stand to the log.
use Rattle.std.proofs.Common.{◌≡◌, ◌≢◌, ◌<◌, ◌≤◌, ◌+◌, ◌∙◌, ◌⊎◌, inl, inr, ⊎_elim, ℕ, zero, suc, true, List, [], ◌∷◌, Option, Some, None, length, replicate, refl, subst, sym, ap, ap₂, false, arith}
use Rattle.std.proofs.lemmas.Option.{slice_get_within}
use Rattle.std.specs.Prelude.{get_or, slice_get, slice_set, string_bytes}
use Rattle.host.specs.Requests.{Later, Request}
use Rattle.host_ports.specs.Forms.{reader_by}
use Rattle.host_ports.specs.Ports.{has_source, PortIsFor, PortsStand, reader_from}
use Rattle.host_ports.specs.declared.form.Form.{Form}
use Rattle.host_ports.specs.declared.port.Port.{Port}
use Rattle.stream_host.specs.Streams.{IsUntaken}
use Rattle.stream_program.specs.Streamed.{AreOpenedAt, IsOpenedAt, IsPreparing}
use Rattle.stream_words.specs.declared.sources.InputSource.{InputSource}

nothing_at : {A : Type 0} (count k : ℕ) (value : A) → slice_get (replicate count None) k ≡ Some (Some value) → ⊥
nothing_at {A} zero k value there = cc there
nothing_at {A} (suc count) zero value there = cc there
nothing_at {A} (suc count) (suc k) value there = nothing_at count k value there

pub none_stand : {S : Type 0} (form : Form) (source_number : S → ℕ) (e : List Request) (ports : List (Option (Port S))) (count : ℕ)
    → ports ≡ replicate count None → PortsStand form source_number e ports
none_stand {S} form source_number e ports count none = λ k port there. absurd (nothing_at count k port (rw (← none) there))

pub count_replicate : {A : Type 0} (xs : List A) (count : ℕ) (value : A) → xs ≡ replicate count value → length xs ≡ count
count_replicate {A} xs count value same = rw same (of count)
  where
    of : (count : ℕ) → length (replicate count value) ≡ count
    of zero = refl
    of (suc count) = ap suc (of count)

-- ---- one more is opened

set_at : {A : Type 0} (xs : List A) (place : ℕ) (new value : A) → slice_get (slice_set xs place new) place ≡ Some value → new ≡ value
set_at {A} [] place new value there = absurd cc
set_at {A} (x ∷ xs) zero new value there = cc
set_at {A} (x ∷ xs) (suc place) new value there = set_at xs place new value there

set_apart : {A : Type 0} (xs : List A) (place k : ℕ) (new : A) → k ≢ place → slice_get (slice_set xs place new) k ≡ slice_get xs k
set_apart {A} [] place k new apart = refl
set_apart {A} (x ∷ xs) zero zero new apart = absurd (apart refl)
set_apart {A} (x ∷ xs) zero (suc k) new apart = refl
set_apart {A} (x ∷ xs) (suc place) zero new apart = refl
set_apart {A} (x ∷ xs) (suc place) (suc k) new apart = set_apart xs place k new (λ same. apart (ap suc same))

less : {m n : ℕ} → suc m ≡ suc n → m ≡ n
less {m} {n} same = omega (arith, same)

same_or : (m n : ℕ) → (m ≡ n) ⊎ (m ≢ n)
same_or zero zero = inl refl
same_or zero (suc n) = inr (λ same. absurd (omega (arith, same)))
same_or (suc m) zero = inr (λ same. absurd (omega (arith, same)))
same_or (suc m) (suc n) = ⊎_elim (λ same. inl (ap suc same)) (λ other. inr (λ same. other (less same))) (same_or m n)

pub count_set : {A : Type 0} (xs : List A) (place : ℕ) (new : A) → length (slice_set xs place new) ≡ length xs
count_set {A} [] place new = refl
count_set {A} (x ∷ xs) zero new = refl
count_set {A} (x ∷ xs) (suc place) new = ap suc (count_set xs place new)

-- a source stands to a log to which a request was added that is none of its
for_still : {allowed : Request → Type 0} {S : Type 0} (form : Form) (source_number : S → ℕ) (old new : List Request) (input : ℕ) (port : Port S) → IsPreparing allowed old new
    → PortIsFor form source_number old input port → PortIsFor form source_number new input port
for_still {allowed} {S} form source_number old new input port prepares is =
    record {
      number = is.number;
      stands = record {
        ended = is.stands.ended ∙ sym (prepares.ended input);
        read = λ kept. is.stands.read kept ∙ sym (ap₂ (reader_by form) (prepares.taken input) (prepares.ended input));
      };
    }

-- one of which nothing came
pub fresh_port : (form : Form) (e : List Request) (input : ℕ) → IsUntaken e input → reader_by form [] false ≡ reader_from form input e
fresh_port form e input untaken = sym (ap₂ (reader_by form) untaken.0 untaken.1)

by_place : {allowed : Request → Type 0} {S : Type 0} (form : Form) (source_number : S → ℕ) (old new : List Request) (ports : List (Option (Port S))) (place : ℕ) (port : Port S)
    → IsPreparing allowed old new → PortsStand form source_number old ports → PortIsFor form source_number new place port → (k : ℕ) (one : Port S)
    → slice_get (slice_set ports place (Some port)) k ≡ Some (Some one) → (k ≡ place) ⊎ (k ≢ place) → PortIsFor form source_number new k one
by_place {allowed} {S} form source_number old new ports place port prepares stand is k one there (inl same) =
    let at : Some port ≡ Some one = set_at ports place (Some port) (Some one) (rw same at there) in
    let this : port ≡ one = cc in
    rw (same, ← this) is
by_place {allowed} {S} form source_number old new ports place port prepares stand is k one there (inr apart) =
    for_still form source_number old new k one prepares (stand k one (sym (set_apart ports place k (Some port) apart) ∙ there))

pub stand_set : {allowed : Request → Type 0} {S : Type 0} (form : Form) (source_number : S → ℕ) (old new : List Request) (ports : List (Option (Port S))) (place : ℕ) (port : Port S)
    → IsPreparing allowed old new → PortsStand form source_number old ports → PortIsFor form source_number new place port
    → PortsStand form source_number new (slice_set ports place (Some port))
stand_set {allowed} {S} form source_number old new ports place port prepares stand is = λ k one there.
    by_place form source_number old new ports place port prepares stand is k one there (same_or k place)

-- ---- those of the first places are opened

read_within : {A : Type 0} (xs : List A) (place : ℕ) (otherwise : A) → place < length xs → slice_get xs place ≡ Some (get_or xs place otherwise)
read_within {A} [] place otherwise within = absurd (omega (arith, within))
read_within {A} (x ∷ xs) zero otherwise within = refl
read_within {A} (x ∷ xs) (suc place) otherwise within = read_within xs place otherwise (omega (arith, within))

pub read_at : {A : Type 0} (xs : List A) (count place : ℕ) (otherwise : A) → count ≡ length xs → place < count
    → slice_get xs place ≡ Some (get_or xs place otherwise)
read_at {A} xs count place otherwise same within = read_within xs place otherwise (omega (arith, same, within))

abbrev pub AreOpenedBelow : {S : Type 0} → ℕ → List InputSource → List ℕ → List (Option (Port S)) → List Request → Type 0
AreOpenedBelow {S} place sources numbers ports e =
    (k number : ℕ) (one : InputSource) → k < place → slice_get sources k ≡ Some one → slice_get numbers k ≡ Some number
    → IsOpenedAt number (string_bytes one.path) e × (has_source (slice_get ports number) ≡ true)

set_here : {A : Type 0} (xs : List A) (place : ℕ) (new : A) → place < length xs → slice_get (slice_set xs place new) place ≡ Some new
set_here {A} [] place new within = absurd (omega (arith, within))
set_here {A} (x ∷ xs) zero new within = refl
set_here {A} (x ∷ xs) (suc place) new within = set_here xs place new (omega (arith, within))

-- a source that is set is there, and those that were there are still
has_set : {S : Type 0} (ports : List (Option (Port S))) (number k : ℕ) (port : Port S) → number < length ports
    → (k ≡ number) ⊎ (has_source (slice_get ports k) ≡ true) → (k ≡ number) ⊎ (k ≢ number)
    → has_source (slice_get (slice_set ports number (Some port)) k) ≡ true
has_set {S} ports number k port within either (inl same) =
    let here = set_here ports number (Some port) within in
    rw (same, here) refl
has_set {S} ports number k port within (inl same) (inr apart) = absurd (apart same)
has_set {S} ports number k port within (inr had) (inr apart) = rw (set_apart ports number k (Some port) apart) had

pub opened_next : {S : Type 0} (place : ℕ) (sources : List InputSource) (numbers : List ℕ) (ports : List (Option (Port S)))
    (old new : List Request) (number : ℕ) (one : InputSource) (port : Port S) → Later old new → number < length ports
    → slice_get sources place ≡ Some one → slice_get numbers place ≡ Some number → IsOpenedAt number (string_bytes one.path) new
    → AreOpenedBelow place sources numbers ports old
    → AreOpenedBelow (place + 1) sources numbers (slice_set ports number (Some port)) new
opened_next {S} place sources numbers ports old new number one port later within here there opened below = λ k other this below_next here_k there_k.
    by_place k other this below_next here_k there_k (same_or k place)
  where
    by_place : (k other : ℕ) (this : InputSource) → k < place + 1 → slice_get sources k ≡ Some this → slice_get numbers k ≡ Some other
        → (k ≡ place) ⊎ (k ≢ place)
        → IsOpenedAt other (string_bytes this.path) new × (has_source (slice_get (slice_set ports number (Some port)) other) ≡ true)
    by_place k other this within_k here_k there_k (inl same) =
        let source_at : slice_get sources place ≡ Some this = rw same at here_k in
        let number_at : slice_get numbers place ≡ Some other = rw same at there_k in
        let one_is : one ≡ this = cc in
        let number_is : other ≡ number = cc in (
          subst (λ (it : InputSource). IsOpenedAt other (string_bytes it.path) new) one_is
              (subst (λ (n : ℕ). IsOpenedAt n (string_bytes one.path) new) (sym number_is) opened),
          has_set ports number other port within (inl number_is) (same_or other number),
        )
    by_place k other this within_k here_k there_k (inr apart) =
        let is = below k other this (omega (arith, within_k, apart)) here_k there_k in
        (later _ is.0, has_set ports number other port within (inr is.1) (same_or other number))

pub opened_all : {S : Type 0} (place : ℕ) (sources : List InputSource) (numbers : List ℕ) (ports : List (Option (Port S))) (e : List Request)
    → length numbers ≡ length sources → length numbers ≤ place → AreOpenedBelow place sources numbers ports e → AreOpenedAt sources numbers ports e
opened_all {S} place sources numbers ports e same all below = λ k number one here there.
    let within : k < length sources = slice_get_within sources k one here in
    below k number one (omega (arith, within, same, all)) here there

-- ---- sources stand in the form that is asked for

pub stand_as : {S : Type 0} (source_number : S → ℕ) (e : List Request) (ports : List (Option (Port S))) (form asked : Form) → form ≡ asked
    → PortsStand form source_number e ports → PortsStand asked source_number e ports
stand_as {S} source_number e ports form asked same stand = subst (λ (f : Form). PortsStand f source_number e ports) same stand
