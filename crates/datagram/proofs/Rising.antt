-- Channels that ascend.
use Rattle.std.proofs.Common.{◌≡◌, ℕ, zero, suc, ◌+◌, ◌≤◌, ◌<◌, Bool, true, false, ◌&&◌, nat_le, List, [], ◌∷◌}
use Rattle.std.proofs.Common.{slice_index, refl, sym, ap, subst, ◌∙◌, arith}
use Rattle.std.specs.Prelude.{IsTrue, ◌↔◌}
use Rattle.std.specs.List.Sorted.{IsStrictlyIncreasing}
use Rattle.std.proofs.lemmas.Bool.{leb-true, le-leb}
use Rattle.datagram.specs.declared.packet.Need.{Need}
use Rattle.datagram.specs.PacketText.{channels}
use Rattle.datagram.specs.Reading.{are_ascending}

both_true : (a b : Bool) → (a && b) ≡ true → (a ≡ true) × (b ≡ true)
both_true true b e = (refl, e)
both_true false b e = absurd cc

true_both : (a b : Bool) → a ≡ true → b ≡ true → (a && b) ≡ true
true_both true b one two = two
true_both false b one two = absurd cc

-- one place further, behind one more
later : (x : ℕ) (xs : List ℕ) (k : ℕ) → slice_index xs k < slice_index xs (k + 1)
    → slice_index (x ∷ xs) (suc k) < slice_index (x ∷ xs) (suc k + 1)
later x xs k lt =
    let same : suc (k + 1) ≡ suc k + 1 = omega arith in
    subst (λ (j : ℕ). slice_index xs k < slice_index (x ∷ xs) j) same lt

-- one place before, without the one in front
sooner : (x : ℕ) (xs : List ℕ) (k : ℕ) → slice_index (x ∷ xs) (suc k) < slice_index (x ∷ xs) (suc k + 1)
    → slice_index xs k < slice_index xs (k + 1)
sooner x xs k lt =
    let same : suc k + 1 ≡ suc (k + 1) = omega arith in
    subst (λ (j : ℕ). slice_index xs k < slice_index (x ∷ xs) j) same lt

-- what passes the test rises
pub is_rising : (least : ℕ) (needs : List Need) → are_ascending least needs ≡ true
    → IsStrictlyIncreasing (channels needs)
is_rising least [] e k within = absurd (omega arith)
is_rising least (need ∷ []) e k within = absurd (omega arith)
is_rising least (need ∷ next ∷ needs) e zero within =
    let tail = (both_true (nat_le least need.channel) (are_ascending (need.channel + 1) (next ∷ needs)) e).1 in
    let head = (both_true (nat_le (need.channel + 1) next.channel) (are_ascending (next.channel + 1) needs) tail).0 in
    let le = leb-true (need.channel + 1) next.channel head in
    omega arith
is_rising least (need ∷ next ∷ needs) e (suc k) within =
    let tail = (both_true (nat_le least need.channel) (are_ascending (need.channel + 1) (next ∷ needs)) e).1 in
    later need.channel (channels (next ∷ needs)) k (is_rising (need.channel + 1) (next ∷ needs) tail k (omega arith))

-- what rises from there on passes the test
pub rising : (least : ℕ) (needs : List Need)
    → ((need : Need) (more : List Need) → needs ≡ need ∷ more → least ≤ need.channel)
    → IsStrictlyIncreasing (channels needs) → are_ascending least needs ≡ true
rising least [] from_there rises = refl
rising least (need ∷ []) from_there rises =
    true_both (nat_le least need.channel) true (le-leb least need.channel (from_there need [] refl)) refl
rising least (need ∷ next ∷ needs) from_there rises =
    let first : need.channel < next.channel = rises 0 (omega arith) in
    true_both (nat_le least need.channel) (are_ascending (need.channel + 1) (next ∷ needs))
    (le-leb least need.channel (from_there need (next ∷ needs) refl))
    (rising (need.channel + 1) (next ∷ needs)
    (λ other more e. let same : next.channel ≡ other.channel = ap (λ n. n.channel) (head_is next other needs more e) in
    omega arith)
    (λ k within. sooner need.channel (channels (next ∷ needs)) k (rises (suc k) (omega arith))))
  where
    head_is : (one other : Need) (xs ys : List Need) → (one ∷ xs ≡ other ∷ ys) → one ≡ other
    head_is one other xs ys e = cc

pub tells_rising : (needs : List Need) (b : Bool) → b ≡ are_ascending 0 needs
    → IsTrue b ↔ IsStrictlyIncreasing (channels needs)
tells_rising needs b e =
    (λ yes. is_rising 0 needs (sym e ∙ yes), λ rises. e ∙ rising 0 needs (λ need more same. omega arith) rises)
