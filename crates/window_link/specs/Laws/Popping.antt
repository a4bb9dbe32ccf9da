-- Pops one after another give what lies ready: the items from the next position on, up to the first that is missing.
use Rattle.std.proofs.Common.{◌≡◌, ℕ, zero, suc, ◌+◌, ◌-◌, ◌<◌, ◌≤◌, Bool, ltb, cond, List, []}
use Rattle.std.proofs.Common.{◌∷◌, ◌++◌, ℤ, length, drop, Option, Some, None, refl, sym, ap, subst, ◌∙◌, arith}
use Rattle.std.specs.Prelude.{slice_get}
use Rattle.std.proofs.lemmas.Bool.{lt-ltb}
use Rattle.std.proofs.lemmas.List.{length-append}
use Rattle.kahn_net.specs.Common.{IsPrefix}
use Rattle.kahn_net.specs.Laws.Prefixes.{prefix_of, followed, prefix_nil}
use Rattle.kahn_net.specs.declared.limits.TheConstants.{MAX_COUNT}
use Rattle.window_link.specs.Windows.{Receiver, held_in, held_at, next_held, window_without, popped, popped_times}
use Rattle.window_link.specs.Windows.{ready_items}
use Rattle.window_link.specs.Laws.Holding.{HoldsOf}

-- a free place at the end gives nothing
pub ready_padded : (places : List (Option ℤ)) → ready_items (places ++ None ∷ []) ≡ ready_items places
ready_padded [] = refl
ready_padded (None ∷ places) = refl
ready_padded (Some item ∷ places) = ap (λ (items : List ℤ). item ∷ items) (ready_padded places)

-- no more than there are places
pub ready_few : (places : List (Option ℤ)) → length (ready_items places) ≤ length places
ready_few [] = omega arith
ready_few (None ∷ places) = omega arith
ready_few (Some item ∷ places) = (let few = ready_few places in omega (arith, few))

-- the first place holds the first of them, and the others lie ready behind it
record FirstReady (places : List (Option ℤ)) : Type 0 where
  item : ℤ
  first : held_in (slice_get places 0) ≡ Some item
  others : ready_items (drop 1 places ++ None ∷ []) ≡ drop 1 (ready_items places)

first_ready : (places : List (Option ℤ)) → 0 < length (ready_items places) → FirstReady places
first_ready [] some = absurd (omega (arith, some))
first_ready (None ∷ places) some = absurd (omega (arith, some))
first_ready (Some item ∷ places) some = record { item = item; first = refl; others = ready_padded places }

-- one place fewer before, one more behind
same_length : (places : List (Option ℤ)) → 0 < length places → length (drop 1 places ++ None ∷ []) ≡ length places
same_length [] some = absurd (omega (arith, some))
same_length (p ∷ places) some = (let sum = length-append places (None ∷ []) in omega (arith, sum))

-- where a window stands after so many pops, each of which gave an item
pub record HasPopped (times : ℕ) (before after : Receiver) : Type 0 where
  pub epoch : after.epoch ≡ before.epoch
  pub next : after.next ≡ before.next + times
  pub ready : ready_items after.held ≡ drop times (ready_items before.held)
  pub size : length after.held ≡ length before.held

drop_again : (times : ℕ) (items : List ℤ) → drop 1 (drop times items) ≡ drop (suc times) items
drop_again zero items = refl
drop_again (suc times) [] = refl
drop_again (suc times) (item ∷ items) = drop_again times items

drop_leaves : (times : ℕ) (items : List ℤ) → times < length items → 0 < length (drop times items)
drop_leaves times [] less = absurd (omega (arith, less))
drop_leaves zero (item ∷ items) less = omega arith
drop_leaves (suc times) (item ∷ items) less = drop_leaves times items (omega (arith, less))

pub has_popped : (times : ℕ) (window : Receiver) → times ≤ length (ready_items window.held)
    → window.next + times ≤ MAX_COUNT → HasPopped times window (popped_times times window)
has_popped zero window few within =
    record { epoch = refl; next = omega arith; ready = refl; size = refl }
has_popped (suc times) window few within =
    one_more (popped_times times window) (has_popped times window (omega (arith, few)) (omega (arith, within)))
  where
    one_more : (now : Receiver) → HasPopped times window now → HasPopped (suc times) window ((popped now).window)
    one_more now so_far =
        let left = ap (length {A = ℤ}) so_far.ready in
        let some = drop_leaves times (ready_items window.held) (omega (arith, few)) in
        let first = first_ready now.held (omega (arith, left, some)) in
        let at = so_far.next in
        let low : now.next < MAX_COUNT = omega (arith, at, within) in
        let gives : next_held now ≡ Some (first.item) =
        ap (λ (b : Bool). cond b (held_at now 0) None) (lt-ltb now.next MAX_COUNT low) ∙ first.first in
        let few_places = ready_few now.held in
        let size = so_far.size in
        let same = same_length now.held (omega (arith, few_places, left, some)) in
        subst (λ (o : Option ℤ). HasPopped (suc times) window (window_without o now)) (sym gives)
        (record {
          epoch = so_far.epoch;
          next = omega (arith, at);
          ready = first.others ∙ (ap (drop 1) so_far.ready ∙ drop_again times (ready_items window.held));
          size = same ∙ size;
        })

-- what lies ready is what comes next
front_of : (item : ℤ) (items rest : List ℤ) → IsPrefix items rest → IsPrefix (item ∷ items) (item ∷ rest)
front_of item items rest front = let more = followed items rest front in
    prefix_of (record { rest = more.rest; is = ap (λ (xs : List ℤ). item ∷ xs) more.is })

ready_next : (places : List (Option ℤ)) (rest : List ℤ)
    → ((place : ℕ) (item : ℤ) → held_in (slice_get places place) ≡ Some item → slice_get rest place ≡ Some item)
    → IsPrefix (ready_items places) rest
ready_next [] rest each = prefix_nil [] rest refl
ready_next (None ∷ places) rest each = prefix_nil [] rest refl
ready_next (Some item ∷ places) [] each = (let there = each 0 item refl in absurd (cc))
ready_next (Some item ∷ places) (x ∷ rest) each =
    let there = each 0 item refl in
    let same : x ≡ item = the_same x item there in
    subst (λ (y : ℤ). IsPrefix (item ∷ ready_items places) (y ∷ rest)) (sym same)
    (front_of item (ready_items places) rest (ready_next places rest (λ place other is. each (suc place) other is)))
  where
    the_same : (x y : ℤ) → (let one : Option ℤ = Some x in let other : Option ℤ = Some y in one ≡ other) → x ≡ y
    the_same x y e = cc

get_behind : (n k : ℕ) (items : List ℤ) → slice_get (drop n items) k ≡ slice_get items (n + k)
get_behind zero k items = (let none : 0 + k ≡ k = omega arith in ap (slice_get items) (sym none))
get_behind (suc n) k [] = refl
get_behind (suc n) k (item ∷ items) =
    (let sum : suc n + k ≡ suc (n + k) = omega arith in
    get_behind n k items ∙ ap (slice_get (item ∷ items)) (sym sum))

pub ready_of : (history : List ℤ) (window : Receiver) → HoldsOf history window
    → IsPrefix (ready_items window.held) (drop window.next history)
ready_of history window holds =
    ready_next window.held (drop window.next history)
    (λ place item is. get_behind window.next place history ∙ holds.each place item is)
