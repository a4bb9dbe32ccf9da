-- Lists of inputs, of which one changes, and what came on one.
use Rattle.std.proofs.Common.{◌≡◌, ℕ, ℤ, zero, suc, ◌+◌, ◌<◌, ◌≤◌, List, [], ◌∷◌, ◌++◌, length, map, take, drop}
use Rattle.std.proofs.Common.{reverse}
use Rattle.std.proofs.Common.{get_or, slice_set, slice_index_or, Result, Ok, Err, OnOk, OnErr, refl, sym, ap, subst}
use Rattle.std.proofs.Common.{◌∙◌, append_assoc, arith}
use Rattle.std.proofs.Common.{Some, slice_get}
use Rattle.std.proofs.lemmas.List.{length-append, drop-append-le, map-set}
use Rattle.std.proofs.lemmas.Grind.{common_steps}
use Rattle.std.proofs.lemmas.Option.{same_Some}
use Rattle.kahn_net.specs.Streams.{history_of}
use Rattle.kahn_net.specs.Fits.{AreCounted}
use Rattle.kahn_net.specs.declared.limits.TheConstants.{MAX_COUNT}
use Rattle.sector_disk.specs.Past.{states_of}
use Rattle.sector_disk.specs.declared.past.Past.{Past}
use Rattle.arrived.specs.ArrivedView.{ListView, IsKept, all_came, began, none_gone}

-- the next input is listed
pub listed_next : (done after : List ListView) (one : ListView) (x : List ℤ) (rest old all : List (List ℤ))
    → old ≡ x ∷ rest → done ++ map began old ≡ map began all → one ≡ began x → after ≡ done ++ one ∷ []
    → after ++ map began rest ≡ map began all
listed_next done after one x rest old all is listed same pushed =
    ap (λ (l : List ListView). l ++ map began rest) pushed
    ∙ (append_assoc done (one ∷ []) (map began rest)
    ∙ (ap (λ (l : ListView). done ++ (l ∷ map began rest)) same
    ∙ (ap (λ (l : List (List ℤ)). done ++ map began l) (sym is) ∙ listed)))

pub others_counted : (x : List ℤ) (rest old : List (List ℤ)) → old ≡ x ∷ rest → AreCounted old → AreCounted rest
others_counted x rest old is counted =
    let all = subst (λ (l : List (List ℤ)). AreCounted l) is counted in λ c items there. all (suc c) items there

-- at first each list is what came, and nothing of it is gone
pub came_began : (histories : List (List ℤ)) → map (λ (list : ListView). list.came) (map began histories) ≡ histories
came_began [] = refl
came_began (x ∷ xs) = ap (λ (l : List (List ℤ)). x ∷ l) (came_began xs)

pub bases_began : (histories : List (List ℤ))
    → map (λ (list : ListView). list.base) (map began histories) ≡ none_gone (length histories)
bases_began [] = refl
bases_began (x ∷ xs) = ap (λ (l : List ℕ). 0 ∷ l) (bases_began xs)

-- what is read of each stays where it stays at the place that was written
pub map_kept : {B : Type 0} (f : ListView → B) (lists : List ListView) (i : ℕ) (old new : ListView)
    → old ≡ get_or lists i old → f new ≡ f old → map f (slice_set lists i new) ≡ map f lists
map_kept f [] i old new is same = refl
map_kept f (x ∷ xs) zero old new is same = ap (λ b. b ∷ map f xs) (same ∙ ap f is)
map_kept f (x ∷ xs) (suc i) old new is same = ap (λ l. f x ∷ l) (map_kept f xs i old new is same)

pub map_at : {B : Type 0} (f : ListView → B) (lists : List ListView) (i : ℕ) (old : ListView) (d : B) → i < length lists
    → old ≡ get_or lists i old → slice_index_or (map f lists) i d ≡ f old
map_at f [] i old d below is = absurd (omega (arith, below))
map_at f (x ∷ xs) zero old d below is = ap f (sym is)
map_at f (x ∷ xs) (suc i) old d below is = map_at f xs i old d (omega (arith, below)) is

-- no list gets too long where the one that is written isn't
counted_more : (x : List ℤ) (xs : List (List ℤ)) → length x ≤ MAX_COUNT → AreCounted xs → AreCounted (x ∷ xs)
counted_more x xs few counted = λ c items. by c items
  where
    by : (c : ℕ) (items : List ℤ) → slice_get (x ∷ xs) c ≡ Some items → length items ≤ MAX_COUNT
    by zero items is = subst (λ (l : List ℤ). length l ≤ MAX_COUNT) (same_Some x items is) few
    by (suc c) items is = counted c items is

pub counted_set : (lists : List ListView) (i : ℕ) (new : ListView) → length new.came ≤ MAX_COUNT
    → AreCounted (map (λ (list : ListView). list.came) lists)
    → AreCounted (map (λ (list : ListView). list.came) (slice_set lists i new))
counted_set [] i new few counted = counted
counted_set (x ∷ xs) zero new few counted =
    counted_more new.came (map (λ (list : ListView). list.came) xs) few (λ c items is. counted (suc c) items is)
counted_set (x ∷ xs) (suc i) new few counted =
    counted_more x.came (map (λ (list : ListView). list.came) (slice_set xs i new)) (counted 0 x.came refl)
    (counted_set xs i new few (λ c items is. counted (suc c) items is))

abbrev pub added : ListView → List ℤ → ListView
added old more = record { came = old.came ++ more; base = old.base }

-- items were added to one list, or it is as it was
module _ {T E : Type 0} (old new : ListView) (more : List ℤ) where
  pub few_added : (r : Result T E) → length old.came + length more ≤ MAX_COUNT → OnOk r (new ≡ added old more)
      → OnErr r (new ≡ old)
      → length new.came ≤ MAX_COUNT
  few_added (Ok v) few ok err =
      let longer = length-append old.came more in
      subst (λ (l : ListView). length l.came ≤ MAX_COUNT) (sym ok) (omega (arith, few, longer))
  few_added (Err e) few ok err = subst (λ (l : ListView). length l.came ≤ MAX_COUNT) (sym err) (omega (arith, few))

  pub base_added : (r : Result T E) → OnOk r (new ≡ added old more) → OnErr r (new ≡ old) → new.base ≡ old.base
  base_added (Ok v) ok err = ap (λ (l : ListView). l.base) ok
  base_added (Err e) ok err = ap (λ (l : ListView). l.base) err

  pub came_added : (r : Result T E) (lists : List ListView) (i : ℕ) → i < length lists → old ≡ get_or lists i old
      → OnOk r (new ≡ added old more)
      → OnOk r (map (λ (list : ListView). list.came) (slice_set lists i new)
      ≡ slice_set (map (λ (list : ListView). list.came) lists) i
      (history_of (map (λ (list : ListView). list.came) lists) i ++ more))
  came_added (Ok v) lists i below is ok =
      map-set (λ (list : ListView). list.came) lists i new
      ∙ ap (slice_set (map (λ (list : ListView). list.came) lists) i)
      (ap (λ (l : ListView). l.came) ok
      ∙ ap (λ (l : List ℤ). l ++ more) (sym (map_at (λ (list : ListView). list.came) lists i old [] below is)))
  came_added (Err e) lists i below is ok = tt

-- what is in memory of a list to which items were added
pub kept_longer : (first : List ℤ) (later after : Past ℤ) (base : ℕ) (items longer more : List ℤ)
    → IsKept (all_came first later) base items → length (all_came first later) + length more ≤ MAX_COUNT
    → reverse (states_of after) ≡ reverse (states_of later) ++ more → longer ≡ items ++ more
    → IsKept (all_came first after) base longer
kept_longer first later after base items longer more kept few noted pushed =
    let came : List ℤ = all_came first later in
    let whole : came ++ more ≡ all_came first after =
    append_assoc first (reverse (states_of later)) more ∙ ap (λ (l : List ℤ). first ++ l) (sym noted) in
    let count = length-append came more in
    let within = kept.within in
    subst (λ (l : List ℤ). IsKept l base longer) whole (record {
      few = omega (arith, count, few);
      within = omega (arith, count, within);
      rest = pushed ∙ (ap (λ (l : List ℤ). l ++ more) kept.rest ∙ sym (drop-append-le base came more within));
    })

-- one more item is copied
pub copied_next : (items done after : List ℤ) (x : ℤ) (first offset at : ℕ) → done ≡ take offset (drop first items)
    → at ≡ first + offset → at < length items → x ≡ get_or items at x → after ≡ done ++ x ∷ []
    → after ≡ take (offset + 1) (drop first items)
copied_next items done after x first offset at is sum below there pushed = grind (arith, common_steps)
