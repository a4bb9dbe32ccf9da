-- Ends that are read one after another: their channels ascend.
use Rattle.std.proofs.Common.{◌≡◌, ℕ, zero, suc, ◌+◌, ◌<◌, ◌≤◌, List, [], ◌∷◌, ◌++◌, length, get_or, Option, Some, None}
use Rattle.std.proofs.Common.{IfSome, refl, sym, subst, arith}
use Rattle.std.specs.Prelude.{slice_get}
use Rattle.std.proofs.lemmas.List.Quantifiers.{all_pairs_push}
use Rattle.record.specs.Common.{AreAscending}
use Rattle.record.specs.declared.image.SavedEnd.{SavedEnd}
use Rattle.ckpt_codec.specs.Reading.{channel_wanted}
use Rattle.ckpt_codec.specs.RecordText.{wanted}

-- So many ends were read: their channels ascend below the least that may come next, which is 0 at first, and then the
-- one behind the channel of the last, also where that was the one wanted.
pub record AreOrdered (like : Option (List SavedEnd)) (ends : List SavedEnd) (place least : ℕ) : Type 0 where
  pub ascending : AreAscending ends
  pub below : (k : ℕ) (d : SavedEnd) → k < length ends → (get_or ends k d).channel < least
  pub first : place ≡ 0 → least ≡ 0
  pub behind : (before : ℕ) → place ≡ before + 1 → IfSome (channel_wanted like before) (λ channel. least ≡ channel + 1)

pub none_ordered : (like : Option (List SavedEnd)) → AreOrdered like [] 0 0
none_ordered like =
    record {
      ascending = λ i j d less within. absurd (omega (arith, within));
      below =
          λ k d within. absurd (omega (arith, within));
      first = λ e. refl;
      behind = λ before e. absurd (omega (arith, e));
    }

-- where one is wanted at a place, one is at the place before it
none_behind : {A : Type 0} (xs : List A) (k : ℕ) → slice_get xs k ≡ None → slice_get xs (suc k) ≡ None
none_behind [] k none = refl
none_behind (x ∷ xs) zero none = absurd (cc)
none_behind (x ∷ xs) (suc k) none = none_behind xs k none

not_wanted : (like : Option (List SavedEnd)) (before channel : ℕ) → channel_wanted like before ≡ None
    → ¬ (Some channel ≡ channel_wanted like (suc before))
not_wanted None before channel none is = absurd (cc)
not_wanted (Some xs) before channel none is = at (slice_get xs before) refl none
  where
    at : (o : Option SavedEnd) → slice_get xs before ≡ o → wanted (λ (e : SavedEnd). e.channel) o ≡ None → ⊥
    at None there is_none = let past : slice_get xs (suc before) ≡ None = none_behind xs before there in absurd (cc)
    at (Some e) there is_none = absurd (cc)

-- the next one isn't below what may come
next_least : (like : Option (List SavedEnd)) (ends : List SavedEnd) (place least channel : ℕ)
    → AreOrdered like ends place least → (w : Option ℕ) → w ≡ channel_wanted like place
    → ((before : ℕ) → place ≡ before + 1
    → IfSome (channel_wanted like before) (λ earlier. IfSome w (λ later. earlier < later)))
    → IfSome w (λ asked. channel ≡ asked) → (w ≡ None → least ≤ channel) → least ≤ channel
next_least like ends place least channel ordered None is rises asked free = free refl
next_least like ends zero least channel ordered (Some w) is rises asked free = let start : least ≡ 0 =
    ordered.first refl in omega (arith, start)
next_least like ends (suc before) least channel ordered (Some w) is rises asked free =
    by (channel_wanted like before) refl
  where
    by : (o : Option ℕ) → channel_wanted like before ≡ o → least ≤ channel
    by None e = absurd (not_wanted like before w e is)
    by (Some earlier) e =
        let next : suc before ≡ before + 1 = omega arith in
        let last : least ≡ earlier + 1 =
        subst (λ (o : Option ℕ). IfSome o (λ c. least ≡ c + 1)) e (ordered.behind before next) in
        let rise : earlier < w = subst (λ (o : Option ℕ). IfSome o (λ c. c < w)) e (rises before next) in
        omega (arith, last, rise, asked)

below_pushed : (ends : List SavedEnd) (end : SavedEnd) (limit : ℕ)
    → ((k : ℕ) (d : SavedEnd) → k < length ends → (get_or ends k d).channel < limit) → end.channel < limit
    → (k : ℕ) (d : SavedEnd) → k < length (ends ++ end ∷ []) → (get_or (ends ++ end ∷ []) k d).channel < limit
below_pushed [] end limit before last zero d within = last
below_pushed [] end limit before last (suc k) d within = absurd (omega (arith, within))
below_pushed (e ∷ ends) end limit before last zero d within = before 0 d (omega arith)
below_pushed (e ∷ ends) end limit before last (suc k) d within =
    below_pushed ends end limit (λ j b less. before (suc j) b (omega (arith, less))) last k d (omega (arith, within))

pub one_ordered : (like : Option (List SavedEnd)) (ends more : List SavedEnd) (place least next : ℕ) (end : SavedEnd)
    (w : Option ℕ) → AreOrdered like ends place least → w ≡ channel_wanted like place
    → ((before : ℕ) → place ≡ before + 1
    → IfSome (channel_wanted like before) (λ earlier. IfSome w (λ later. earlier < later)))
    → IfSome w (λ asked. end.channel ≡ asked) → (w ≡ None → least ≤ end.channel)
    → more ≡ ends ++ end ∷ [] → next ≡ end.channel + 1 → AreOrdered like more (place + 1) next
one_ordered like ends more place least next end w ordered is rises asked free pushed later =
    let low : least ≤ end.channel = next_least like ends place least end.channel ordered w is rises asked free in
    record {
      ascending =
          subst (λ (xs : List SavedEnd). AreAscending xs) (sym pushed)
          (all_pairs_push (λ (x y : SavedEnd). x.channel < y.channel) ends end ordered.ascending
          (λ k d within. omega (arith, ordered.below k d within, low)));
      below = subst (λ (xs : List SavedEnd). (k : ℕ) (d : SavedEnd) → k < length xs → (get_or xs k d).channel < next)
          (sym pushed)
          (below_pushed ends end next (λ k d within. omega (arith, ordered.below k d within, low, later))
          (omega (arith, later)));
      first = λ e. absurd (omega (arith, e));
      behind = λ before e. let same : place ≡ before = omega (arith, e) in
          subst (λ (k : ℕ). IfSome (channel_wanted like k) (λ channel. next ≡ channel + 1)) same
          (subst (λ (o : Option ℕ). IfSome o (λ channel. next ≡ channel + 1)) is (counted w asked));
    }
  where
    counted : (o : Option ℕ) → IfSome o (λ asked. end.channel ≡ asked) → IfSome o (λ channel. next ≡ channel + 1)
    counted None asked = tt
    counted (Some c) asked = omega (arith, later, asked)
