-- Elements read one by one.
use Rattle.std.proofs.Common.{◌≡◌, ℕ, suc, ◌-◌, ◌+◌, ◌≤◌, ◌<◌, List, [], ◌∷◌, ◌++◌, Option, Ok, Err, refl, sym, ap, ◌∙◌}
use Rattle.std.proofs.Common.{append_assoc, arith}
use Rattle.std.proofs.lemmas.List.{append-nil}
use Rattle.ckpt_codec.specs.declared.fault.CodecFault.{CodecFault}
use Rattle.ckpt_codec.specs.declared.fault.CodecFault.TheVariants.{NoMemory, Truncated, Version, Malformed}
use Rattle.ckpt_codec.specs.Reading.{◌>>=◌, Found, Reader, Fails, so_many}

-- those read before, and those that follow
abbrev pub behind : {X : Type 0} → List X → Found (List X) → Found (List X)
behind before read = read >>= λ x. Ok (before ++ x.0, x.1)

moved_over : {X : Type 0} (before : List X) (one : X) (read : Found (List X))
    → behind before (read >>= λ x. Ok (one ∷ x.0, x.1)) ≡ behind (before ++ one ∷ []) read
moved_over before one (Err fault) = refl
moved_over {X = X} before one (Ok x) = ap (λ (xs : List X). Ok (xs, x.1)) (simp append_assoc)

-- one more was read
grown_by_one : {S X : Type 0} (each : S → Reader X) (next : S → X → S) (before : List X) (count i : ℕ) (s : S)
    (text : List ℕ) (one : X) (rest : List ℕ) (whole : Found (List X)) → i < count
    → each s text ≡ Ok (one, rest) → behind before (so_many each next (count - i) s text) ≡ whole
    → behind (before ++ one ∷ []) (so_many each next (count - (i + 1)) (next s one) rest) ≡ whole
unfolding so_many
grown_by_one each next before count i s text one rest whole lt found so_far =
    let left : count - i ≡ suc (count - (i + 1)) = omega arith in
    let step : behind before (so_many each next (count - i) s text)
    ≡ behind (before ++ one ∷ []) (so_many each next (count - (i + 1)) (next s one) rest)
    = rw (left, found) (moved_over before one (so_many each next (count - (i + 1)) (next s one) rest)) in
    sym step ∙ so_far

pub one_more : {S X : Type 0} (each : S → Reader X) (next : S → X → S) (before grown : List X) (count i : ℕ) (s : S)
    (text : List ℕ) (one : X) (rest : List ℕ) (whole : Found (List X)) (read : Found X) → i < count
    → grown ≡ before ++ one ∷ [] → each s text ≡ read → read ≡ Ok (one, rest)
    → behind before (so_many each next (count - i) s text) ≡ whole
    → behind grown (so_many each next (count - (i + 1)) (next s one) rest) ≡ whole
one_more {X = X} each next before grown count i s text one rest whole read lt is same found so_far =
    ap (λ (xs : List X). behind xs (so_many each next (count - (i + 1)) (next s one) rest)) is
    ∙ grown_by_one each next before count i s text one rest whole lt (same ∙ found) so_far

-- what can't be read
none_left : {S X : Type 0} (each : S → Reader X) (next : S → X → S) (before : List X) (count i : ℕ) (s : S)
    (text : List ℕ) (whole : Found (List X)) (fault : CodecFault) → i < count
    → each s text ≡ Err fault → behind before (so_many each next (count - i) s text) ≡ whole → whole ≡ Err fault
unfolding so_many
none_left each next before count i s text whole fault lt failed so_far =
    let left : count - i ≡ suc (count - (i + 1)) = omega arith in
    let none : behind before (so_many each next (count - i) s text) ≡ Err fault = rw (left, failed) refl in
    sym so_far ∙ none

-- one can't be read
pub stops : {S X : Type 0} (fault : CodecFault) (each : S → Reader X) (next : S → X → S) (before : List X)
    (count i : ℕ) (s : S) (text : List ℕ) (whole : Found (List X)) (read : Found X) → i < count
    → each s text ≡ read → Fails fault read → behind before (so_many each next (count - i) s text) ≡ whole
    → Fails fault whole
stops NoMemory each next before count i s text whole read lt same failed so_far = tt
stops Truncated each next before count i s text whole read lt same failed so_far =
    none_left each next before count i s text whole Truncated lt (same ∙ failed) so_far
stops Version each next before count i s text whole read lt same failed so_far =
    none_left each next before count i s text whole Version lt (same ∙ failed) so_far
stops Malformed each next before count i s text whole read lt same failed so_far =
    none_left each next before count i s text whole Malformed lt (same ∙ failed) so_far

-- what is wanted is known by another name
pub as_wanted : {A : Type 0} (f : Option ℕ → Option ℕ → A) (one other two wanted : Option ℕ) → one ≡ other
    → two ≡ wanted → f other wanted ≡ f one two
as_wanted f one other two wanted e d = cc

-- all were read
pub has_all : {S X : Type 0} (each : S → Reader X) (next : S → X → S) (before : List X) (count i : ℕ) (s : S)
    (text : List ℕ) (whole : Found (List X)) → count ≤ i
    → behind before (so_many each next (count - i) s text) ≡ whole → whole ≡ Ok (before, text)
unfolding so_many
has_all {X = X} each next before count i s text whole le so_far =
    let left : count - i ≡ 0 = omega arith in
    let all : behind before (so_many each next (count - i) s text) ≡ Ok (before, text)
    = rw left (ap (λ (xs : List X). Ok (xs, text)) (append-nil before)) in
    sym so_far ∙ all

-- before the first
pub starts : {S X : Type 0} (each : S → Reader X) (next : S → X → S) (before : List X) (count : ℕ) (s : S)
    (text : List ℕ) → before ≡ []
    → behind before (so_many each next (count - 0) s text) ≡ so_many each next count s text
starts {X = X} each next before count s text none =
    let all : count - 0 ≡ count = omega arith in
    ap (λ (xs : List X). behind xs (so_many each next (count - 0) s text)) none
    ∙ (ap (λ (n : ℕ). behind [] (so_many each next n s text)) all ∙ none_before (so_many each next count s text))
  where
    none_before : (read : Found (List X)) → behind [] read ≡ read
    none_before (Ok x) = refl
    none_before (Err fault) = refl
