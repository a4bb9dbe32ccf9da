-- Lists: what stands at a place, what passes a test, and prefixes of one list.
use Rattle.std.proofs.Common.{◌≡◌, ℕ, zero, suc, ◌≤◌, Bool, true, false, cond, ℤ, List, [], ◌∷◌, length, take, Some, refl}
use Rattle.std.proofs.Common.{sym, ap, ◌∙◌}
use Rattle.std.specs.Prelude.{filter, slice_get, slice_index_or}
use Rattle.std.proofs.lemmas.List.{take-append-le}
use Rattle.kahn_net.specs.Laws.Prefixes.{followed}
use Rattle.kahn_net.specs.Streams.{IsPrefix}

pub index_at : {A : Type 0} (xs : List A) (k : ℕ) (x d : A) → slice_get xs k ≡ Some x → slice_index_or xs k d ≡ x
index_at [] k x d is = absurd (cc)
index_at (y ∷ xs) zero x d is = cc
index_at (y ∷ xs) (suc k) x d is = index_at xs k x d is

-- what passes a test stands in the whole list, and passes it
pub kept_from : {A : Type 0} (test : A → Bool) (xs : List A) (j : ℕ) (x : A) → slice_get (filter test xs) j ≡ Some x
    → (k : ℕ) × (slice_get xs k ≡ Some x) × (test x ≡ true)
kept_from test [] j x is = absurd (cc)
kept_from {A} test (y ∷ xs) j x is = at (test y) refl j is (λ i there. kept_from test xs i x there)
  where
    at : (b : Bool) → test y ≡ b → (j : ℕ) → slice_get (cond b (y ∷ filter test xs) (filter test xs)) j ≡ Some x
        → ((i : ℕ) → slice_get (filter test xs) i ≡ Some x → (k : ℕ) × (slice_get xs k ≡ Some x) × (test x ≡ true))
        → (k : ℕ) × (slice_get (y ∷ xs) k ≡ Some x) × (test x ≡ true)
    at false fails j is later = let rest = later j is in (suc rest.0, rest.1, rest.2)
    at true passes zero is later = let same : y ≡ x = cc in (0, is, ap test (sym same) ∙ passes)
    at true passes (suc j) is later = let rest = later j is in (suc rest.0, rest.1, rest.2)

-- and so the other way round
pub kept_there : {A : Type 0} (test : A → Bool) (xs : List A) (k : ℕ) (x : A) → slice_get xs k ≡ Some x
    → test x ≡ true → (j : ℕ) × (slice_get (filter test xs) j ≡ Some x)
kept_there test [] k x is passes = absurd (cc)
kept_there {A} test (y ∷ xs) zero x is passes = at (test y) (ap test same ∙ passes)
  where
    same : y ≡ x
    same = cc

    at : (b : Bool) → b ≡ true → (j : ℕ) × (slice_get (cond b (y ∷ filter test xs) (filter test xs)) j ≡ Some x)
    at false bad = absurd (cc)
    at true is = (0, ap Some same)
kept_there {A} test (y ∷ xs) (suc k) x is passes = at (test y) (kept_there test xs k x is passes)
  where
    at : (b : Bool) → (j : ℕ) × (slice_get (filter test xs) j ≡ Some x)
        → (j : ℕ) × (slice_get (cond b (y ∷ filter test xs) (filter test xs)) j ≡ Some x)
    at false rest = rest
    at true rest = (suc rest.0, rest.1)

-- of two prefixes of one list the shorter one is a prefix of the longer one
pub shorter : (xs ys zs : List ℤ) → IsPrefix xs zs → IsPrefix ys zs → length xs ≤ length ys → IsPrefix xs ys
shorter xs ys zs one other short =
    let f = followed ys zs other in
    one ∙ (ap (take (length xs)) f.is ∙ take-append-le (length xs) ys f.rest short)
