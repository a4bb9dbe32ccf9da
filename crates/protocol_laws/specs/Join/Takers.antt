-- Laws of the list of those that took part: a node that is new stands behind all others.
use Rattle.std.proofs.Common.{◌≡◌, ◌⊎◌, inl, inr, ℕ, suc, ◌<◌, ◌||◌, Bool, true, false, cond, List, [], ◌∷◌, ◌++◌, refl}
use Rattle.std.proofs.Common.{ap, arith}
use Rattle.std.specs.Prelude.{◌≢◌, ◌==◌}
use Rattle.std.proofs.lemmas.Bool.{eq-eqb, ne_eqb}
use Rattle.protocol.specs.World.Common.{has_node}
use Rattle.protocol.specs.Node.Collecting.{with_taker}
use Rattle.protocol.specs.Join.Seen.{nodes_before}

or_true : (b : Bool) → (b || true) ≡ true
or_true true = refl
or_true false = refl

last_there : (p : ℕ) (takers : List ℕ) → has_node p (takers ++ p ∷ []) ≡ true
last_there p [] = let e : (p == p) ≡ true = eq-eqb p p refl in rw e refl
last_there p (q ∷ takers) = rw (last_there p takers) (or_true (q == p))

others_there : (p q : ℕ) (takers : List ℕ) → q ≢ p → has_node q (takers ++ p ∷ []) ≡ has_node q takers
others_there p q [] other = let e : (p == q) ≡ false = ne_eqb p q (λ same. other (let s : q ≡ p = cc in s)) in rw e refl
others_there p q (r ∷ takers) other = ap (λ (b : Bool). (r == q) || b) (others_there p q takers other)

place_stays : (p q : ℕ) (takers : List ℕ) → has_node q takers ≡ true
    → nodes_before (takers ++ p ∷ []) q ≡ nodes_before takers q
place_stays p q [] is = absurd (cc)
place_stays p q (r ∷ takers) is = by (r == q) is (place_stays p q takers)
  where
    by : (b : Bool) → (b || has_node q takers) ≡ true
        → (has_node q takers ≡ true → nodes_before (takers ++ p ∷ []) q ≡ nodes_before takers q)
        → cond b 0 (suc (nodes_before (takers ++ p ∷ []) q)) ≡ cond b 0 (suc (nodes_before takers q))
    by true e rest = refl
    by false e rest = ap suc (rest e)

place_behind : (p q : ℕ) (takers : List ℕ) → has_node p takers ≡ false → has_node q takers ≡ true
    → nodes_before (takers ++ p ∷ []) q < nodes_before (takers ++ p ∷ []) p
place_behind p q [] new is = absurd (cc)
place_behind p q (r ∷ takers) new is = by (r == q) (r == p) is new (place_behind p q takers)
  where
    by : (b d : Bool) → (b || has_node q takers) ≡ true → (d || has_node p takers) ≡ false
        → (has_node p takers ≡ false → has_node q takers ≡ true
        → nodes_before (takers ++ p ∷ []) q < nodes_before (takers ++ p ∷ []) p)
        → cond b 0 (suc (nodes_before (takers ++ p ∷ []) q)) < cond d 0 (suc (nodes_before (takers ++ p ∷ []) p))
    by b true e f rest = absurd (cc)
    by true false e f rest = omega arith
    by false false e f rest = let less = rest f e in omega (arith, less)

pub record HasJoined (p : ℕ) (before later : List ℕ) : Type 0 where
  pub takes : has_node p later ≡ true
  pub others : (q : ℕ) → q ≢ p → has_node q later ≡ has_node q before
  pub places : (q : ℕ) → has_node q before ≡ true → nodes_before later q ≡ nodes_before before q
  pub last : (has_node p before ≡ true)
      ⊎ ((q : ℕ) → has_node q before ≡ true → nodes_before later q < nodes_before later p)

pub has_joined : (p : ℕ) (takers : List ℕ) → HasJoined p takers (with_taker p takers)
has_joined p takers = by (has_node p takers) refl
  where
    by : (b : Bool) → has_node p takers ≡ b → HasJoined p takers (cond b takers (takers ++ p ∷ []))
    by true is = record { takes = is; others = λ q other. refl; places = λ q has. refl; last = inl is }
    by false new = record {
      takes = last_there p takers;
      others = λ q other. others_there p q takers other;
      places = λ q has. place_stays p q takers has;
      last = inr (λ q has. place_behind p q takers new has);
    }
