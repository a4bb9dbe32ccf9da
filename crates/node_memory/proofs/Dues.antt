-- How many positions of a log are due.
use Rattle.std.proofs.Common.{◌≡◌, ◌⊎◌, inl, inr, ◌↔◌, ℕ, ◌+◌, ◌-◌, ◌<◌, ◌≤◌, ◌&&◌, Bool, true, false, List, ℤ, length}
use Rattle.std.proofs.Common.{take, refl, sym, ap, subst, ◌∙◌, arith}
use Rattle.std.specs.Prelude.{IsTrue, min, max, nat_le, nat_lt}
use Rattle.std.proofs.lemmas.Bool.{ltb-true, le-leb, lt-ltb}
use Rattle.std.proofs.lemmas.Bool.Decides.{leb_tells}
use Rattle.std.proofs.Math.Dec.{leb}
use Rattle.std.proofs.lemmas.List.{take_min, length-drop, length-take}
use Rattle.protocol.specs.Node.Common.{LogState, log_end, items_since, first_due}
use Rattle.window_link.specs.Windows.{Sender, is_due}
use Rattle.protocol.specs.Node.Sending.{items_due}
use Rattle.protocol.specs.declared.links.Outbox.{Outbox}

le_or_lt : (a b : ℕ) → (a ≤ b) ⊎ (b < a)
le_or_lt a b = at (leb_tells a b)
  where
    at : ((leb a b ≡ true) × (a ≤ b)) ⊎ ((leb a b ≡ false) × (b < a)) → (a ≤ b) ⊎ (b < a)
    at (inl e) = inl e.1
    at (inr e) = inr e.1

both : (a b : Bool) → (a && b) ≡ true → (a ≡ true) × (b ≡ true)
both true b e = (refl, e)
both false b e = absurd (cc)

all_true : (a b c : Bool) → a ≡ true → b ≡ true → c ≡ true → (a && (b && c)) ≡ true
all_true a b c e f g = ap (λ (x : Bool). x && (b && c)) e ∙ (ap (λ (x : Bool). x && c) f ∙ g)

module _ (sender : Sender) (base end stop : ℕ) where
  -- where sending begins
  abbrev start : ℕ
  start = max sender.acknowledged base

  is_so : (p : ℕ) → start ≤ p → p < start + sender.size → p < end → IsTrue (is_due sender base end p)
  is_so p low near there =
      all_true (nat_le start p) (nat_lt p (start + sender.size)) (nat_lt p end) (le-leb start p low)
      (lt-ltb p (start + sender.size) near) (lt-ltb p end there)

  tells : (p : ℕ) → IsTrue (is_due sender base end p) → (p < start + sender.size) × (p < end)
  tells p is =
      let rest = (both (nat_le start p) (nat_lt p (start + sender.size) && nat_lt p end) is).1 in
      let parts = both (nat_lt p (start + sender.size)) (nat_lt p end) rest in
      (ltb-true p (start + sender.size) parts.0, ltb-true p end parts.1)

  -- as many as the window has, or as there are
  pub span : start ≤ stop → ((p : ℕ) → ((start ≤ p) × (p < stop)) ↔ IsTrue (is_due sender base end p))
      → stop - start ≡ min sender.size (end - start)
  span proper members = at (le_or_lt stop start)
    where
      -- the position behind the last one isn't due
      not_stop : stop < start + sender.size → stop < end → ⊥
      not_stop near there =
          (let range = (members stop).1 (is_so stop proper near there) in let below : stop < stop = range.1 in
          omega (arith, below))

      at : (stop ≤ start) ⊎ (start < stop) → stop - start ≡ min sender.size (end - start)
      at (inr some) = (
          let last : ℕ = stop - 1 in
          let low : start ≤ stop - 1 = omega (arith, some) in
          let below : stop - 1 < stop = omega (arith, some) in
          let due = tells (stop - 1) ((members (stop - 1)).0 (low, below)) in
          let near : stop - 1 < start + sender.size = due.0 in
          let there : stop - 1 < end = due.1 in
          by_end (le_or_lt (start + sender.size) stop) (le_or_lt end stop) near there some)
        where
          by_end : (start + sender.size ≤ stop) ⊎ (stop < start + sender.size) → (end ≤ stop) ⊎ (stop < end)
              → stop - 1 < start + sender.size → stop - 1 < end → start < stop
              → stop - start ≡ min sender.size (end - start)
          by_end (inl full) e near there some = omega (arith, full, near, there, some)
          by_end (inr short) (inl out) near there some = omega (arith, short, out, near, there, some)
          by_end (inr short) (inr more) near there some = absurd (not_stop short more)
      at (inl none) = by_end (le_or_lt (start + sender.size) stop) (le_or_lt end stop)
        where
          by_end : (start + sender.size ≤ stop) ⊎ (stop < start + sender.size) → (end ≤ stop) ⊎ (stop < end)
              → stop - start ≡ min sender.size (end - start)
          by_end (inl full) e = omega (arith, full, none, proper)
          by_end (inr short) (inl out) = omega (arith, out, none, proper)
          by_end (inr short) (inr more) = absurd (not_stop short more)

-- the items at those positions
pub taken_due : (outbox : Outbox) (log : LogState) (start stop : ℕ) → start ≡ first_due outbox log → start ≤ stop
    → ((p : ℕ) → ((start ≤ p) × (p < stop)) ↔ IsTrue (is_due outbox.window log.base (log_end log) p))
    → take (stop - start) (items_since log start) ≡ items_due outbox log
taken_due outbox log start stop first proper members =
    let since : List ℤ = items_since log (first_due outbox log) in
    let proper' : first_due outbox log ≤ stop = subst (λ (s : ℕ). s ≤ stop) first proper in
    let members' =
    subst (λ (s : ℕ). (p : ℕ) → ((s ≤ p) × (p < stop)) ↔ IsTrue (is_due outbox.window log.base (log_end log) p))
    first members in
    let count : stop - first_due outbox log ≡ min outbox.window.size (log_end log - first_due outbox log) =
    span outbox.window log.base (log_end log) stop proper' members' in
    let long : length since ≡ log_end log - first_due outbox log =
    length-drop (first_due outbox log - log.base) log.items ∙ (omega arith) in
    ap (λ (s : ℕ). take (stop - s) (items_since log s)) first
    ∙ (ap (λ (k : ℕ). take k since) (count ∙ ap (min outbox.window.size) (sym long))
    ∙ take_min outbox.window.size since)

take_few : (k : ℕ) (xs : List ℤ) → length (take k xs) ≤ length xs
take_few k xs = (let n = length-take k xs in omega (arith, n))

-- and none of them lies behind the last number
pub due_within : (outbox : Outbox) (log : LogState) (last : ℕ) → log_end log ≤ last → 0 < length (items_due outbox log)
    → first_due outbox log + length (items_due outbox log) ≤ last
due_within outbox log last high some =
    let first : ℕ = first_due outbox log in
    let long : length (items_since log first) ≡ length log.items - (first - log.base) =
    length-drop (first - log.base) log.items in
    let count : length (items_due outbox log) ≤ length (items_since log first) =
    take_few outbox.window.size (items_since log first) in
    omega (arith, long, count, some, high)
