-- Laws of prefixes.
use Rattle.std.proofs.Common.{◌≡◌, ℕ, zero, suc, ◌≤◌, List, ℤ, [], ◌∷◌, ◌++◌, Some, length, drop, refl, sym, ap}
use Rattle.std.proofs.Common.{◌∙◌, append-nil, append_assoc, length-append, arith}
use Rattle.std.specs.Prelude.{slice_get}
use Rattle.std.proofs.lemmas.List.{take_at, take-append-drop}
use Rattle.kahn_net.specs.Streams.{history_of, IsPrefix, ArePrefixes}

-- whole is part, and then some list
pub record IsFollowed (part whole : List ℤ) : Type 0 where
  pub rest : List ℤ
  pub is : whole ≡ part ++ rest

pub prefix_of : {part whole : List ℤ} → IsFollowed part whole → IsPrefix part whole
prefix_of {part} {whole} p = sym (rw p.is (take_at part p.rest (length part) refl))

pub followed : (part whole : List ℤ) → IsPrefix part whole → IsFollowed part whole
followed part whole e =
    record { rest = drop (length part) whole; is = rw (← e) at (sym (take-append-drop (length part) whole)) }

pub prefix_refl : (xs : List ℤ) → IsPrefix xs xs
prefix_refl xs = prefix_of (record { rest = []; is = sym (append-nil xs) })

pub prefix_nil : (xs ys : List ℤ) → xs ≡ [] → IsPrefix xs ys
prefix_nil xs ys e = rw e refl

pub prefix_trans : (xs ys zs : List ℤ) → IsPrefix xs ys → IsPrefix ys zs → IsPrefix xs zs
prefix_trans xs ys zs before after =
    let p = followed xs ys before in
    let q = followed ys zs after in
    prefix_of (record {
      rest = p.rest ++ q.rest;
      is = q.is ∙ (ap (λ (x : List ℤ). x ++ q.rest) p.is ∙ append_assoc xs p.rest q.rest);
    })

pub prefix_along : (xs xs' ys ys' : List ℤ) → xs ≡ xs' → ys ≡ ys' → IsPrefix xs' ys' → IsPrefix xs ys
prefix_along xs xs' ys ys' e f same = rw (e, f) same

pub prefix_length : (xs ys : List ℤ) → IsPrefix xs ys → length xs ≤ length ys
prefix_length xs ys front = omega (arith, simp length-append at (ap (length {A = ℤ}) (followed xs ys front).is))

-- what stands in a prefix stands there in the whole
pub prefix_item : (xs ys : List ℤ) (k : ℕ) (v : ℤ) → IsPrefix xs ys → slice_get xs k ≡ Some v → slice_get ys k ≡ Some v
prefix_item xs ys k v front h = rw (followed xs ys front).is (appended xs k h)
  where
    appended : (l : List ℤ) (k : ℕ) → slice_get l k ≡ Some v → slice_get (l ++ (followed xs ys front).rest) k ≡ Some v
    appended [] k h = absurd cc
    appended (x ∷ l) zero h = h
    appended (x ∷ l) (suc k) h = appended l k h

pub prefixes_refl : (all : List (List ℤ)) → ArePrefixes all all
prefixes_refl all = record { at = λ c. prefix_refl (history_of all c) }

pub prefixes_trans : (a b c : List (List ℤ)) → ArePrefixes a b → ArePrefixes b c → ArePrefixes a c
prefixes_trans a b c p q = record { at = λ d. prefix_trans _ _ _ (p.at d) (q.at d) }
