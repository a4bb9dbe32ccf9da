-- Laws of the ways on which processes wait for others: where nobody goes on, one that is held for want of room shows which
-- channel needs it.
use Rattle.std.proofs.Common.{◌≡◌, ◌⊎◌, inl, inr, ℕ, zero, suc, ◌+◌, ◌-◌, ◌<◌, ◌≤◌, Bool, true, false, ◌&&◌, cond, eqb, List, [], ◌∷◌}
use Rattle.std.proofs.Common.{length, Option, Some, None, refl, sym, ap, ◌∙◌, arith}
use Rattle.std.proofs.lemmas.Bool.{cases_eq, cases_lt, cases_Bool, eq-eqb, eqb-true, or_parts}
use Rattle.std.proofs.lemmas.List.Folds.{Any-from_list_any}
use Rattle.std.proofs.lemmas.Map.Steps.{length-le_from_distinct_below}
use Rattle.std.proofs.lemmas.Option.{slice_get_within, slice_get-get_or}
use Rattle.std.specs.List.{AllByRecursion, IsDistinct, list_any}
use Rattle.std.specs.Prelude.{if◌then◌else◌, slice_get}
use Rattle.protocol.specs.Node.Common.{Code, Network}
use Rattle.protocol.specs.Node.Layout.{has_process}
use Rattle.turns.specs.Turns.{or_else}
use Rattle.protocol.specs.World.RoomNeeds.{is_going, held_on, awaited, way, last_held, need_on, way_from, first_of_any}
use Rattle.protocol.specs.World.RoomNeeds.{IsLastHeld, NeedsRoom, is_held, need_of, onward}
use Rattle.protocol.specs.declared.stance.Stance.{Stance}
use Rattle.protocol.specs.declared.stance.Stance.TheVariants.{Held}

-- ---- the first that is found

-- one of two is something where the second one is
or_there : (o other : Option ℕ) → (e : ℕ) × (other ≡ Some e) → (e : ℕ) × (or_else o other ≡ Some e)
or_there (Some d) other rest = (d, refl)
or_there None other rest = rest

-- and where one of two is something, one of them is that
or_cases : (o other : Option ℕ) (c : ℕ) → or_else o other ≡ Some c
    → (o ≡ Some c) ⊎ ((o ≡ None) × (other ≡ Some c))
or_cases o other c is = grind arith

-- something is found where there is something of one of the numbers
pub found_there : (found : ℕ → Option ℕ) (first count p d : ℕ) → first ≤ p → p < first + count → found p ≡ Some d
    → (e : ℕ) × (first_of_any found first count ≡ Some e)
found_there found first zero p d from below is = absurd (omega (arith, from, below))
found_there found first (suc count) p d from below is = elim (cases_eq first p) [
  | inl here ↦ (d, rw (here, is))
  | inr apart ↦ or_there (found first) (first_of_any found (suc first) count)
      (found_there found (suc first) count p d (omega (arith, from, apart)) (omega (arith, below)) is)
]

-- and what is found is something of one of them
pub found_of : (found : ℕ → Option ℕ) (first count e : ℕ) → first_of_any found first count ≡ Some e
    → (p : ℕ) × (first ≤ p) × (p < first + count) × (found p ≡ Some e)
found_of found first zero e is = absurd (cc)
found_of found first (suc count) e is = grind (arith, found_of found (suc first) count e)

-- ---- the last one that is held

module _ (stance : ℕ → Stance) where
  -- a way on which one is held has a last one
  last_there : (p c : ℕ) (others : List ℕ) → stance p ≡ Held c
      → (d : ℕ) × (last_held stance (p ∷ others) ≡ Some d)
  last_there p c others is = or_there (last_held stance others) (held_on (stance p)) (c, rw is)

-- ---- how far a way leads

module _ (next : ℕ → Option ℕ) where
  onward_none : (steps : ℕ) → onward next steps None ≡ None
  onward_none zero = refl
  onward_none (suc steps) = refl

  -- so many steps, and so many more
  onward_on : (steps more : ℕ) (from : Option ℕ)
      → onward next (steps + more) from ≡ onward next more (onward next steps from)
  onward_on zero more from = let sum : zero + more ≡ more = omega arith in rw sum
  onward_on (suc steps) more None = rw (onward_none (suc steps + more), onward_none more)
  onward_on (suc steps) more (Some p) =
      let sum : suc steps + more ≡ suc (steps + more) = omega arith in rw sum (onward_on steps more (next p))

  -- the list of a way has, in order, to whom it leads
  way_at : (count steps : ℕ) (from : Option ℕ) → steps < count
      → slice_get (way next count from) steps ≡ onward next steps from
  way_at zero steps from below = absurd (omega (arith, below))
  way_at (suc count) steps None below = sym (onward_none steps)
  way_at (suc count) zero (Some p) below = refl
  way_at (suc count) (suc steps) (Some p) below = way_at count steps (next p) (omega (arith, below))

  way_length : (count : ℕ) (from : Option ℕ) → length (way next count from) ≤ count
  way_length zero from = omega arith
  way_length (suc count) None = omega arith
  way_length (suc count) (Some p) = let few = way_length count (next p) in omega (arith, few)

-- ---- numbers that come twice

abbrev AreTwice : List ℕ → Type 0
AreTwice xs = (i j x : ℕ) × (i < j) × (slice_get xs i ≡ Some x) × (slice_get xs j ≡ Some x)

twice_or_distinct : (xs : List ℕ) → IsDistinct eqb xs ⊎ AreTwice xs
unfolding IsDistinct
twice_or_distinct [] = inl tt
twice_or_distinct (x ∷ xs) = at (cases_Bool (list_any (eqb x) xs)) (twice_or_distinct xs)
  where
    at : (list_any (eqb x) xs ≡ true) ⊎ (list_any (eqb x) xs ≡ false) → IsDistinct eqb xs ⊎ AreTwice xs
        → IsDistinct eqb (x ∷ xs) ⊎ AreTwice (x ∷ xs)
    at (inl again) rest =
        let one = Any-from_list_any (eqb x) xs again in
        let same : x ≡ one.1 = eqb-true x one.1 one.4 in
        inr (0, suc one.0, x, omega arith, refl, slice_get-get_or xs one.0 one.1 one.2 ∙ ap Some (one.3 ∙ sym same))
    at (inr none) (inl distinct) = inl (all_apart xs none, distinct)
      where
        all_apart : (ys : List ℕ) → list_any (eqb x) ys ≡ false → AllByRecursion (λ (y : ℕ). eqb x y ≡ false) ys
        all_apart [] other = tt
        all_apart (y ∷ ys) other =
            let parts = or_parts (eqb x y) (list_any (eqb x) ys) other in
            (parts.0, all_apart ys parts.1)
    at (inr none) (inr (i, j, y, less, first, second)) = inr (suc i, suc j, y, omega (arith, less), first, second)

-- more numbers below n than n are not all different
some_twice : (xs : List ℕ) (n : ℕ) → n < length xs → ((k x : ℕ) → slice_get xs k ≡ Some x → x < n) → AreTwice xs
some_twice xs n many below = elim (twice_or_distinct xs) [
  | inl distinct ↦ absurd (let few = length-le_from_distinct_below xs n distinct within in omega (arith, few, many))
  | inr twice ↦ twice
]
  where
    within : (q : ℕ) → list_any (eqb q) xs ≡ true → q < n
    within q there =
        let one = Any-from_list_any (eqb q) xs there in
        let same : q ≡ one.1 = eqb-true q one.1 one.4 in
        let less = below one.0 one.1 (slice_get-get_or xs one.0 one.1 one.2 ∙ ap Some one.3) in
        omega (arith, same, less)

-- ---- a way that goes round

module _ (next : ℕ → Option ℕ) (from : Option ℕ) (n i j r : ℕ) (less : i < j) (few : j ≤ n)
    (first : onward next i from ≡ Some r) (second : onward next j from ≡ Some r) where
  again : (s : ℕ) → onward next (j + s) from ≡ onward next (i + s) from
  again s = rw (onward_on next j s from, onward_on next i s from, second, first)

  -- to whom it leads at all from some step on, it leads within n steps
  leads_within : (low : ℕ) → low ≤ i → (fuel t : ℕ) → t ≤ fuel → low ≤ t
      → (u : ℕ) × (low ≤ u) × (u ≤ n) × (onward next u from ≡ onward next t from)
  leads_within low under zero t enough past = (t, past, omega (arith, enough), refl)
  leads_within low under (suc fuel) t enough past = elim (cases_lt n t) [
    | inr here ↦ (t, past, here, refl)
    | inl beyond ↦
        let more : ℕ = t - j in
        let whole : j + more ≡ t = omega (arith, few, beyond) in
        let rest =
        leads_within low under fuel (i + more) (omega (arith, whole, less, enough)) (omega (arith, under)) in
        (rest.0, rest.1, rest.2, rest.3 ∙ rw whole at (sym (again more)))
  ]

-- ---- the last one that is held needs room

-- where nobody goes on, each one doesn't
each_stays : (stance : ℕ → Stance) (processes : List ℕ) (k q : ℕ)
    → list_any (λ (p : ℕ). is_going (stance p)) processes ≡ false → slice_get processes k ≡ Some q
    → is_going (stance q) ≡ false
each_stays stance [] k q none is = absurd (cc)
each_stays stance (p ∷ processes) zero q none is = grind arith
each_stays stance (p ∷ processes) (suc k) q none is =
    each_stays stance processes k q
    (or_parts (is_going (stance p)) (list_any (λ (r : ℕ). is_going (stance r)) processes) none).1 is

-- where there is no last one that is held, there is none
none_held : (stance : ℕ → Stance) (processes : List ℕ) (k q : ℕ) → last_held stance processes ≡ None
    → slice_get processes k ≡ Some q → held_on (stance q) ≡ None
none_held stance [] k q none is = absurd (cc)
none_held stance (p ∷ processes) zero q none is = grind arith
none_held stance (p ∷ processes) (suc k) q none is = grind (arith, none_held stance processes k q)

held_there : (stance : Stance) (c : ℕ) → held_on stance ≡ Some c → stance ≡ Held c
held_there stance c is = grind arith

-- the last one of a list that is held: where it stands, and that nobody behind it is held
record IsLastOf (stance : ℕ → Stance) (processes : List ℕ) (c : ℕ) : Type 0 where
  pub place : ℕ
  pub process : ℕ
  pub there : slice_get processes place ≡ Some process
  pub held : stance process ≡ Held c
  pub last : (k q : ℕ) → place < k → slice_get processes k ≡ Some q → held_on (stance q) ≡ None

last_of : (stance : ℕ → Stance) (processes : List ℕ) (c : ℕ) → last_held stance processes ≡ Some c
    → IsLastOf stance processes c
last_of stance [] c is = absurd (cc)
last_of stance (p ∷ processes) c is = elim (or_cases (last_held stance processes) (held_on (stance p)) c is) [
  | inl later ↦
      let rest = last_of stance processes c later in
      record {
        place = suc rest.place;
        process = rest.process;
        there = rest.there;
        held = rest.held;
        last = λ k q behind there. grind (arith, rest.last);
      }
  | inr here ↦ record {
    place = 0;
    process = p;
    there = refl;
    held = held_there (stance p) c here.1;
    last = λ k q behind there. grind (arith, none_held stance processes);
  }
]

-- whom a list of a way has is one of the numbers below n, where each leads to such a one
below_on : (next : ℕ → Option ℕ) (n : ℕ) → ((p q : ℕ) → next p ≡ Some q → q < n) → (count k x : ℕ)
    (from : Option ℕ) → ((q : ℕ) → from ≡ Some q → q < n) → slice_get (way next count from) k ≡ Some x → x < n
below_on next n here zero k x from first is = absurd (cc)
below_on next n here (suc count) k x None first is = absurd (cc)
below_on next n here (suc count) zero x (Some p) first is = first x is
below_on next n here (suc count) (suc k) x (Some p) first is =
    below_on next n here count k x (next p) (λ q leads. here p q leads) is

-- The whole way from a process, as long as one process more than there are, on which nobody goes on, and the last one
-- that is held on it.
module _ (stance : ℕ → Stance) (next : ℕ → Option ℕ) (n : ℕ) (bound : (p q : ℕ) → next p ≡ Some q → q < n)
    (start c : ℕ) (below : start < n)
    (stuck : list_any (λ (p : ℕ). is_going (stance p)) (way next (suc n) (Some start)) ≡ false)
    (last : IsLastOf stance (way next (suc n) (Some start)) c) where
  place_within : last.place < suc n
  place_within =
      let within = slice_get_within (way next (suc n) (Some start)) last.place last.process last.there in
      omega (arith, way_length next (suc n) (Some start), within)

  -- the way comes to it
  comes_there : onward next last.place (Some start) ≡ Some last.process
  comes_there = sym (way_at next (suc n) last.place (Some start) place_within) ∙ last.there

  -- whom the way from it comes to, the whole way comes to
  comes_on : (steps : ℕ) → onward next (last.place + steps) (Some start) ≡ onward next steps (Some last.process)
  comes_on steps = onward_on next last.place steps (Some start) ∙ ap (onward next steps) comes_there

  -- within the list nobody goes on, and nobody behind the last one is held
  stays_within : (u q : ℕ) → u ≤ n → onward next u (Some start) ≡ Some q → is_going (stance q) ≡ false
  stays_within u q few comes =
      each_stays stance (way next (suc n) (Some start)) u q stuck
      (way_at next (suc n) u (Some start) (omega (arith, few)) ∙ comes)

  free_within : (u q : ℕ) → u ≤ n → last.place < u → onward next u (Some start) ≡ Some q
      → held_on (stance q) ≡ None
  free_within u q few behind comes =
      last.last u q behind (way_at next (suc n) u (Some start) (omega (arith, few)) ∙ comes)

  -- so it is everywhere, where the way ends
  record IsInNeed : Type 0 where
    pub stays : (steps q : ℕ) → onward next steps (Some last.process) ≡ Some q → is_going (stance q) ≡ false
    pub last_one : IsLastHeld next stance last.process

  where_it_ends : onward next n (Some start) ≡ None → IsInNeed
  where_it_ends ends = record {
    stays = λ steps q comes. (let whole = comes_on steps ∙ comes in
        stays_within (last.place + steps) q (early (last.place + steps) q whole) whole);
    last_one =
        inr
        (λ steps q comes. (let whole = comes_on (suc steps) ∙ comes in
        free_within (last.place + suc steps) q (early (last.place + suc steps) q whole) (omega arith) whole));
  }
    where
      early : (t q : ℕ) → onward next t (Some start) ≡ Some q → t ≤ n
      early t q comes = elim (cases_lt n t) [
        | inr few ↦ few
        | inl late ↦
            let more : ℕ = t - n in
            let whole : n + more ≡ t = omega (arith, late) in
            let gone : onward next (n + more) (Some start) ≡ None =
            rw (onward_on next n more (Some start), ends) (onward_none next more) in
            absurd (cc)
      ]

  -- and where it goes round
  where_it_turns : (i j r : ℕ) → i < j → j ≤ n → onward next i (Some start) ≡ Some r
      → onward next j (Some start) ≡ Some r → IsInNeed
  where_it_turns i j r less few first second =
      record {
        stays = λ steps q comes. (let near = within 0 (omega arith) (last.place + steps) (omega arith) in
            stays_within near.0 q near.2 (near.3 ∙ (comes_on steps ∙ comes)));
        last_one = elim (cases_lt last.place i) [
          | inl before ↦ inr (λ steps q comes. (
              let near = within (suc last.place) (omega (arith, before)) (last.place + suc steps) (omega arith) in
              let behind : last.place < near.0 = near.1 in
              free_within near.0 q near.2 behind (near.3 ∙ (comes_on (suc steps) ∙ comes))))
          | inr on ↦
              let round : ℕ = (j - i) - 1 in
              let more : ℕ = last.place - i in
              let turned : last.place + suc round ≡ j + more = omega (arith, less, on) in
              let place : i + more ≡ last.place = omega (arith, on) in
              let around = again next (Some start) n i j r less few first second more in
              inl (round, rw (← comes_on (suc round), turned, around, place) comes_there)
        ];
      }
    where
      within : (low : ℕ) → low ≤ i → (t : ℕ) → low ≤ t
          → (u : ℕ) × (low ≤ u) × (u ≤ n) × (onward next u (Some start) ≡ onward next t (Some start))
      within low under t past =
          leads_within next (Some start) n i j r less few first second low under t t (omega arith) past

  -- one of the two it does
  in_need : IsInNeed
  in_need = at (onward next n (Some start)) refl
    where
      at : (o : Option ℕ) → onward next n (Some start) ≡ o → IsInNeed
      at None ends = where_it_ends ends
      at (Some x) on =
          let there = way_at next (suc n) n (Some start) (omega arith) ∙ on in
          let many = slice_get_within (way next (suc n) (Some start)) n x there in
          turns
          (some_twice (way next (suc n) (Some start)) n many
          (λ k q is. below_on next n bound (suc n) k q (Some start)
          (λ r e. (let same : start ≡ r = cc in omega (arith, same, below))) is))
        where
          turns : AreTwice (way next (suc n) (Some start)) → IsInNeed
          turns (i, j, r, less, first, second) =
              let long = way_length next (suc n) (Some start) in
              let within = slice_get_within (way next (suc n) (Some start)) j r second in
              let few : j < suc n = omega (arith, long, within) in
              where_it_turns i j r less (omega (arith, few))
              (rw (way_at next (suc n) i (Some start) (omega (arith, few, less))) at first)
              (rw (way_at next (suc n) j (Some start) few) at second)

  process_below : last.process < n
  process_below =
      below_on next n bound (suc n) last.place last.process (Some start)
      (λ r e. (let same : start ≡ r = cc in omega (arith, same, below))) last.there

-- what is found where a test fails, and only there, is found because it fails
not_none : (b : Bool) (o : Option ℕ) (c : ℕ) → cond b None o ≡ Some c → (b ≡ false) × (o ≡ Some c)
not_none b o c is = grind arith

-- What is needed on the way from a process is a channel that a process needs.
pub on_way_is_need : (net : Network) (stance : ℕ → Stance) (c : ℕ)
    → ((p q : ℕ) → awaited net (stance p) ≡ Some q → q < length net.codes) → (p : ℕ) → p < length net.codes
    → need_on stance (way_from net stance p) ≡ Some c → (q : ℕ) × (q < length net.codes) × NeedsRoom net stance q c
on_way_is_need net stance c bound p below need =
    let next : ℕ → Option ℕ = λ q. awaited net (stance q) in
    let from = way_from net stance p in
    let on = not_none (list_any (λ (q : ℕ). is_going (stance q)) from) (last_held stance from) c need in
    let last = last_of stance from c on.1 in
    let needs = in_need stance next (length net.codes) bound p c below on.0 last in (
      last.process,
      process_below stance next (length net.codes) bound p c below on.0 last,
      record { held = last.held; stuck = needs.stays; last = needs.last_one },
    )

-- On the way from a process that is held for want of room some is needed, where nobody on it goes on.
needs_on_way : (net : Network) (stance : ℕ → Stance) (p c : ℕ) → stance p ≡ Held c
    → ((steps q : ℕ) → onward (λ (one : ℕ). awaited net (stance one)) steps (Some p) ≡ Some q
    → is_going (stance q) ≡ false)
    → (d : ℕ) × (need_on stance (way_from net stance p) ≡ Some d)
needs_on_way net stance p c held stuck =
    let next : ℕ → Option ℕ = λ (q : ℕ). awaited net (stance q) in
    let last = last_there stance p c (way next (length net.codes) (next p)) held in
    let going : list_any (λ (q : ℕ). is_going (stance q)) (way_from net stance p) ≡ false =
    none_goes next (suc (length net.codes)) (Some p) stuck in
    (last.0, rw going last.1)
  where
    none_goes : (next : ℕ → Option ℕ) (count : ℕ) (from : Option ℕ)
        → ((steps q : ℕ) → onward next steps from ≡ Some q → is_going (stance q) ≡ false)
        → list_any (λ (q : ℕ). is_going (stance q)) (way next count from) ≡ false
    none_goes next zero from none = refl
    none_goes next (suc count) None none = refl
    none_goes next (suc count) (Some q) none =
        rw (none 0 q refl) (none_goes next count (next q) (λ steps r comes. none (suc steps) r comes))

-- The channel that a node is found to need is one that a process needs.
pub need_for_is_need : (net : Network) (stance : ℕ → Stance) (node c : ℕ)
    → ((p q : ℕ) → awaited net (stance p) ≡ Some q → q < length net.codes)
    → first_of_any (need_of net stance node) 0 (length net.codes) ≡ Some c
    → (p : ℕ) × (p < length net.codes) × NeedsRoom net stance p c
need_for_is_need net stance node c bound is =
    let found = found_of (need_of net stance node) 0 (length net.codes) c is in
    on_way_is_need net stance c bound found.0 (omega (arith, found.2))
    (only_then (has_process net node found.0 && is_held (stance found.0))
    (need_on stance (way_from net stance found.0)) found.3)
  where
    only_then : (b : Bool) (o : Option ℕ) → (if b then o else None) ≡ Some c → o ≡ Some c
    only_then b o is = grind arith

-- And by a process that is held for want of room its node finds a channel, where nobody on the way from it goes on.
pub need_at_node : (net : Network) (stance : ℕ → Stance) (p c : ℕ) (code : Code) → slice_get net.codes p ≡ Some code
    → stance p ≡ Held c
    → ((steps q : ℕ) → onward (λ (one : ℕ). awaited net (stance one)) steps (Some p) ≡ Some q
    → is_going (stance q) ≡ false)
    → (d : ℕ) × (first_of_any (need_of net stance code.node) 0 (length net.codes) ≡ Some d)
need_at_node net stance p c code coded held stuck =
    let on = needs_on_way net stance p c held stuck in
    let below = slice_get_within net.codes p code coded in
    let here : has_process net code.node p ≡ true = rw coded (eq-eqb code.node code.node refl) in
    let is : is_held (stance p) ≡ true = rw held in
    let shown : need_of net stance code.node p ≡ Some on.0 = rw (here, is) on.1 in
    found_there (need_of net stance code.node) 0 (length net.codes) p on.0 (omega arith) (omega (arith, below)) shown
