-- Each change of a record is one of the moves, as it is seen here.
use Rattle.std.proofs.Common.{◌≡◌, ◌≢◌, ◌⊎◌, inl, inr, ⊎_elim, ℕ, ◌+◌, ◌<◌, Bool, true, false, cond, ◌||◌, ◌&&◌, List}
use Rattle.std.proofs.Common.{[], ◌∷◌, ◌++◌, Option, Some, None, refl, sym, ap, subst, ◌∙◌, arith}
use Rattle.std.specs.Prelude.{◌==◌, nat_lt, not}
use Rattle.std.specs.List.{AllByRecursion}
use Rattle.std.proofs.lemmas.List.{append-nil}
use Rattle.std.proofs.lemmas.List.Concat.{flat_map-cons}
use Rattle.std.proofs.lemmas.Bool.{eqb-true, eq-eqb, lt-ltb, ne_eqb, both_ways}
use Rattle.std.proofs.lemmas.List.{get_or-set_same, get_or-set_other}
use Rattle.record.specs.Common.{DecisionView, ImageView, last_image, decided_below, decided_by, decision_by}
use Rattle.record.specs.Common.{without_node, confirmed, confirmed_one, without_own}
use Rattle.record.specs.declared.record.Tentative.{Tentative as HeldImage}
use Rattle.recovery_line.specs.Observers.{image_seen, tentative_seen, has_node, decides, names}
use Rattle.recovery_line.specs.Observers.{record_seen, TakingMoves, DecidingMoves, SettlingMoves, DroppingMoves}
use Rattle.recovery_line.specs.Observers.{ConfirmingMoves, EpochDropsOwn, EpochIsNotSeen}

same_number : (n : ℕ) → (n == n) ≡ true
same_number n = eq-eqb n n refl

or_none : (b : Bool) → (b || false) ≡ b
or_none true = refl
or_none false = refl

pub taking_moves : TakingMoves
taking_moves kept initiator number image free there above = record {
  free = ap tentative_seen free;
  new = above;
  holds = refl;
  highest = get_or-set_same kept.highest initiator number 0 there;
  others = λ y other. get_or-set_other kept.highest initiator y number 0 other;
  permanent = refl;
  decided = refl;
  named = refl;
}

-- the image that becomes permanent
held_last : (permanent : ImageView) (tentative : Option HeldImage) (held : HeldImage) → tentative ≡ Some held
    → image_seen (last_image permanent tentative) ≡ image_seen held.image
held_last permanent tentative held e = ap (λ (t : Option HeldImage). image_seen (last_image permanent t)) e

-- ---- decisions

-- what lists of decisions put together decide, and whom they name
decides-append : (ds es : List DecisionView) (n : ℕ) → decides (ds ++ es) n ≡ (decides ds n || decides es n)
decides-append [] es n = refl
decides-append (d ∷ ds) es n =
    ap (λ (b : Bool). (d.number == n) || b) (decides-append ds es n)
    ∙ or_assoc (d.number == n) (decides ds n) (decides es n)
  where
    or_assoc : (a b c : Bool) → (a || (b || c)) ≡ ((a || b) || c)
    or_assoc true b c = refl
    or_assoc false b c = refl

names-append : (ds es : List DecisionView) (n p : ℕ) → names (ds ++ es) n p ≡ (names ds n p || names es n p)
names-append [] es n p = refl
names-append (d ∷ ds) es n p =
    ap (λ (b : Bool). ((d.number == n) && has_node p d.participants) || b) (names-append ds es n p)
    ∙ or_assoc ((d.number == n) && has_node p d.participants) (names ds n p) (names es n p)
  where
    or_assoc : (a b c : Bool) → (a || (b || c)) ≡ ((a || b) || c)
    or_assoc true b c = refl
    or_assoc false b c = refl

-- decisions of lower numbers say nothing of this one
abbrev AreBelow : ℕ → List DecisionView → Type 0
AreBelow number ds = AllByRecursion (λ (d : DecisionView). d.number < number) ds

apart_below : (m number : ℕ) → m < number → (m == number) ≡ false
apart_below m number less = ne_eqb m number (λ h. omega (arith, less, h))

undecided_below : (number : ℕ) (ds : List DecisionView) → AreBelow number ds → decides ds number ≡ false
undecided_below number [] all = refl
undecided_below number (d ∷ ds) all = rw (apart_below d.number number all.0) (undecided_below number ds all.1)

unnamed_below : (number p : ℕ) (ds : List DecisionView) → AreBelow number ds → names ds number p ≡ false
unnamed_below number p [] all = refl
unnamed_below number p (d ∷ ds) all = rw (apart_below d.number number all.0) (unnamed_below number p ds all.1)

all_below : (number : ℕ) (ds : List DecisionView) → AreBelow number ds → decided_below number ds ≡ ds
all_below number [] all = refl
all_below number (d ∷ ds) all =
    let less : nat_lt d.number number ≡ true = lt-ltb d.number number all.0 in
    ap (λ (b : Bool). cond b (d ∷ decided_below number ds) (decided_below number ds)) less
    ∙ ap (λ (es : List DecisionView). d ∷ es) (all_below number ds all.1)

-- so a decision goes behind them
added : (number : ℕ) (participants : List ℕ) (ds : List DecisionView) → AreBelow number ds
    → decided_by number participants ds ≡ ds ++ decision_by number participants
added number [] ds all = sym (append-nil ds)
added number (p ∷ ps) ds all = ap (λ (es : List DecisionView). es ++ decision_by number (p ∷ ps)) (all_below number ds all)

decided_one : (number : ℕ) (participants : List ℕ) (p : ℕ) → has_node p participants ≡ true
    → decides (decision_by number participants) number ≡ true
decided_one number [] p has = absurd cc
decided_one number (q ∷ qs) p has = rw (same_number number) refl

decided_alone : (number : ℕ) (participants : List ℕ) → ((p : ℕ) → has_node p participants ≡ false)
    → decides (decision_by number participants) number ≡ false
decided_alone number [] nobody = refl
decided_alone number (q ∷ qs) nobody = absurd (both_ways (has_node q (q ∷ qs)) (nobody q) (rw (same_number q) refl))

named_one : (number : ℕ) (participants : List ℕ) (p : ℕ)
    → names (decision_by number participants) number p ≡ has_node p participants
named_one number [] p = refl
named_one number (q ∷ qs) p = rw (same_number number) (or_none (has_node p (q ∷ qs)))

decided_not_by : (number : ℕ) (participants : List ℕ) (m : ℕ) → m ≢ number
    → decides (decision_by number participants) m ≡ false
decided_not_by number [] m other = refl
decided_not_by number (q ∷ qs) m other = let e : (number == m) ≡ false = ne_eqb number m (λ h. other (sym h)) in
    rw e refl

nobody_by : (number : ℕ) (participants : List ℕ) (m p : ℕ) → m ≢ number
    → names (decision_by number participants) m p ≡ false
nobody_by number [] m p other = refl
nobody_by number (q ∷ qs) m p other = let e : (number == m) ≡ false = ne_eqb number m (λ h. other (sym h)) in rw e refl

module _ (number : ℕ) (participants : List ℕ) (ds : List DecisionView) (below : AreBelow number ds) where
  -- what is decided of the number, and of others
  decided_here : decides (decided_by number participants ds) number ≡ decides (decision_by number participants) number
  decided_here =
      ap (λ (es : List DecisionView). decides es number) (added number participants ds below)
      ∙ (decides-append ds (decision_by number participants) number
      ∙ ap (λ (b : Bool). b || decides (decision_by number participants) number) (undecided_below number ds below))

  named_here : (p : ℕ)
      → names (decided_by number participants ds) number p ≡ names (decision_by number participants) number p
  named_here p =
      ap (λ (es : List DecisionView). names es number p) (added number participants ds below)
      ∙ (names-append ds (decision_by number participants) number p
      ∙ ap (λ (b : Bool). b || names (decision_by number participants) number p) (unnamed_below number p ds below))

  decided_elsewhere : (m : ℕ) → m ≢ number → decides (decided_by number participants ds) m ≡ decides ds m
  decided_elsewhere m other =
      ap (λ (es : List DecisionView). decides es m) (added number participants ds below)
      ∙ (decides-append ds (decision_by number participants) m
      ∙ (ap (λ (b : Bool). decides ds m || b) (decided_not_by number participants m other) ∙ or_none (decides ds m)))

  named_elsewhere : (m p : ℕ) → m ≢ number → names (decided_by number participants ds) m p ≡ names ds m p
  named_elsewhere m p other =
      ap (λ (es : List DecisionView). names es m p) (added number participants ds below)
      ∙ (names-append ds (decision_by number participants) m p
      ∙ (ap (λ (b : Bool). names ds m p || b) (nobody_by number participants m p other) ∙ or_none (names ds m p)))

pub deciding_moves : DecidingMoves
deciding_moves kept held participants holds below =
    let n = held.number in
    record {
      held = ap tentative_seen holds;
      permanent = held_last kept.permanent kept.tentative held holds;
      free = refl;
      highest = refl;
      decided = λ p has. decided_here n participants kept.decisions below ∙ decided_one n participants p has;
      alone = λ nobody. decided_here n participants kept.decisions below ∙ decided_alone n participants nobody;
      named = λ p. named_here n participants kept.decisions below p ∙ named_one n participants p;
      others = λ m other. (
        decided_elsewhere n participants kept.decisions below m other,
        (λ i p. named_elsewhere n participants kept.decisions below m p other i),
      );
    }

pub settling_moves : SettlingMoves
settling_moves kept held holds = record {
  held = ap tentative_seen holds;
  permanent = held_last kept.permanent kept.tentative held holds;
  free = refl;
  highest = refl;
  decided = refl;
  named = refl;
}

pub dropping_moves : DroppingMoves
dropping_moves kept held holds = record {
  held = ap tentative_seen holds;
  permanent = refl;
  free = refl;
  highest = refl;
  decided = refl;
  named = refl;
}

-- ---- confirmations

without_it : (p : ℕ) (ps : List ℕ) → has_node p (without_node p ps) ≡ false
without_it p [] = refl
without_it p (q ∷ qs) = by_same (q == p) refl (without_it p qs)
  where
    by_same : (b : Bool) → (q == p) ≡ b → has_node p (without_node p qs) ≡ false
        → has_node p (cond (not b) (q ∷ without_node p qs) (without_node p qs)) ≡ false
    by_same true e later = later
    by_same false e later = rw e later

without_others : (p q : ℕ) (ps : List ℕ) → q ≢ p → has_node q (without_node p ps) ≡ has_node q ps
without_others p q [] other = refl
without_others p q (r ∷ rs) other = by_same (r == p) refl (without_others p q rs other)
  where
    by_same : (b : Bool) → (r == p) ≡ b → has_node q (without_node p rs) ≡ has_node q rs
        → has_node q (cond (not b) (r ∷ without_node p rs) (without_node p rs)) ≡ has_node q (r ∷ rs)
    by_same true e later =
        let is = eqb-true r p e in
        let no_more : (r == q) ≡ false = ne_eqb r q (λ h. other (sym h ∙ is)) in
        rw no_more later
    by_same false e later = ap (λ (b : Bool). (r == q) || b) later

-- whom decisions name they decide
named_decided : (ds : List DecisionView) (n p : ℕ) → names ds n p ≡ true → decides ds n ≡ true
named_decided [] n p named = absurd cc
named_decided (d ∷ ds) n p named = at (d.number == n) named (named_decided ds n p)
  where
    at : (b : Bool) → ((b && has_node p d.participants) || names ds n p) ≡ true
        → (names ds n p ≡ true → decides ds n ≡ true) → (b || decides ds n) ≡ true
    at true named later = refl
    at false named later = later named

-- the parts of a confirmation, of the decisions alone
record Confirmed (before after : List DecisionView) (number node : ℕ) : Type 0 where
  leaves : names after number node ≡ false
  stays : (q : ℕ) → q ≢ node → names after number q ≡ names before number q
  less : decides after number ≡ true → decides before number ≡ true
  kept : (q : ℕ) → q ≢ node → names before number q ≡ true → decides after number ≡ true
  others : (m : ℕ) → m ≢ number → (decides after m ≡ decides before m) × ((p : ℕ) → names after m p ≡ names before m p)

confirmed_by : (number node : ℕ) (d : DecisionView) (b : Bool) → (d.number == number) ≡ b
    → Confirmed (d ∷ []) (cond b (decision_by number (without_node node d.participants)) (d ∷ [])) number node
confirmed_by number node d true same =
    let ps = d.participants in
    let qs = without_node node ps in
    let is = eqb-true d.number number same in
    let before =
    λ (q : ℕ). (let e : names (d ∷ []) number q ≡ has_node q ps = rw same (or_none (has_node q ps)) in e) in
    let decided : decides (d ∷ []) number ≡ true = rw same refl in
    record {
      leaves = named_one number qs node ∙ without_it node ps;
      stays = λ q other. named_one number qs q ∙ without_others node q ps other ∙ sym (before q);
      less = λ h. decided;
      kept = λ q other named. decided_one number qs q (without_others node q ps other ∙ sym (before q) ∙ named);
      others = λ m other.
          let apart : (d.number == m) ≡ false = ne_eqb d.number m (λ h. other (sym h ∙ is)) in
          let was : decides (d ∷ []) m ≡ false = rw apart refl in
          let named = λ (p : ℕ). (let e : names (d ∷ []) m p ≡ false = rw apart refl in e) in
          (decided_not_by number qs m other ∙ sym was, λ p. nobody_by number qs m p other ∙ sym (named p));
    }
confirmed_by number node d false apart = record {
  leaves = rw apart refl;
  stays = λ q other. refl;
  less = λ h. h;
  kept = λ q other named. named_decided (d ∷ []) number q named;
  others = λ m other. (refl, λ p. refl);
}

either : (a b : Bool) → (a || b) ≡ true → (a ≡ true) ⊎ (b ≡ true)
either true b is = inl refl
either false b is = inr is

from_first : (a b : Bool) → a ≡ true → (a || b) ≡ true
from_first true b is = refl
from_first false b is = absurd cc

from_second : (a b : Bool) → b ≡ true → (a || b) ≡ true
from_second true b is = refl
from_second false b is = is

-- of one decision and those behind it
confirmed_then : (d : DecisionView) (ds xs ys : List DecisionView) (number node : ℕ)
    → Confirmed (d ∷ []) xs number node → Confirmed ds ys number node → Confirmed (d ∷ ds) (xs ++ ys) number node
confirmed_then d ds xs ys number node one rest = record {
  leaves = names-append xs ys number node
      ∙ (ap (λ (b : Bool). b || names ys number node) one.leaves ∙ rest.leaves);
  stays = λ q other. names-append xs ys number q
      ∙ (ap (λ (b : Bool). b || names ys number q) (one.stays q other)
      ∙ (ap (λ (b : Bool). names (d ∷ []) number q || b) (rest.stays q other)
      ∙ sym (names-append (d ∷ []) ds number q)));
  less = λ h. decides-append (d ∷ []) ds number
      ∙ ⊎_elim (λ here. from_first (decides (d ∷ []) number) (decides ds number) (one.less here))
      (λ there. from_second (decides (d ∷ []) number) (decides ds number) (rest.less there))
      (either (decides xs number) (decides ys number) (sym (decides-append xs ys number) ∙ h));
  kept = λ q other named. decides-append xs ys number
      ∙ ⊎_elim (λ here. from_first (decides xs number) (decides ys number) (one.kept q other here))
      (λ there. from_second (decides xs number) (decides ys number) (rest.kept q other there))
      (either (names (d ∷ []) number q) (names ds number q) (sym (names-append (d ∷ []) ds number q) ∙ named));
  others = λ m other.
      let first = one.others m other in
      let behind = rest.others m other in (
        decides-append xs ys m
            ∙ (ap (λ (b : Bool). b || decides ys m) first.0
            ∙ (ap (λ (b : Bool). decides (d ∷ []) m || b) behind.0 ∙ sym (decides-append (d ∷ []) ds m))),
        λ p. names-append xs ys m p
            ∙ (ap (λ (b : Bool). b || names ys m p) (first.1 p)
            ∙ (ap (λ (b : Bool). names (d ∷ []) m p || b) (behind.1 p) ∙ sym (names-append (d ∷ []) ds m p))),
      );
}

confirmation : (number node : ℕ) (ds : List DecisionView) → Confirmed ds (confirmed number node ds) number node
confirmation number node [] =
    record {
      leaves = refl;
      stays = λ q other. refl;
      less = λ h. h;
      kept = λ q other named. absurd cc;
      others = λ m other. (refl, λ p. refl);
    }
confirmation number node (d ∷ ds) =
    subst (λ (es : List DecisionView). Confirmed (d ∷ ds) es number node)
    (sym (flat_map-cons (confirmed_one number node) d ds))
    (confirmed_then d ds (confirmed_one number node d) (confirmed number node ds) number node
    (confirmed_by number node d (d.number == number) refl) (confirmation number node ds))

pub confirming_moves : ConfirmingMoves
confirming_moves kept number node =
    let c = confirmation number node kept.decisions in
    record {
      permanent = refl;
      tentative = refl;
      highest = refl;
      leaves = c.leaves;
      stays = c.stays;
      less = c.less;
      kept = λ q other named. c.kept q other named ∙ sym (named_decided kept.decisions number q named);
      others = λ m other. let same = c.others m other in (same.0, (λ i p. (same.1 p) i));
    }

-- ---- a new epoch

own_goes : (node : ℕ) (tentative : Option HeldImage) (held : HeldImage) → tentative ≡ Some held → held.initiator ≡ node
    → without_own node tentative ≡ None
own_goes node tentative held is own =
    ap (without_own node) is ∙ (let e : (held.initiator == node) ≡ true = eq-eqb held.initiator node own in rw e refl)

pub epoch_drops_own : EpochDropsOwn
epoch_drops_own kept held holds own = record {
  held = ap tentative_seen holds;
  permanent = refl;
  free = ap tentative_seen (own_goes kept.node kept.tentative held holds own);
  highest = refl;
  decided = refl;
  named = refl;
}

other_stays : (node : ℕ) (tentative : Option HeldImage)
    → ((held : HeldImage) → tentative ≡ Some held → held.initiator ≢ node) → without_own node tentative ≡ tentative
other_stays node None other = refl
other_stays node (Some held) other = let e : (held.initiator == node) ≡ false =
    ne_eqb held.initiator node (other held refl) in rw e refl

pub epoch_is_not_seen : EpochIsNotSeen
epoch_is_not_seen kept other =
    ap (λ (t : Option HeldImage). record_seen (record kept { epoch = kept.epoch + 1; tentative = t }))
    (other_stays kept.node kept.tentative other)
