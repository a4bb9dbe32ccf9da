-- Ends whose channels ascend: what a search finds among them, and which changes leave them so.
use Rattle.std.proofs.Common.{◌≡◌, ◌⊎◌, inl, inr, ℕ, zero, suc, ◌<◌, ◌≤◌, Bool, eqb, cond, List, [], ◌∷◌, map, find}
use Rattle.std.proofs.Common.{length, get_or, set, Some, None, Result, Ok, Err, MatchResult, option_map, refl, sym, ap}
use Rattle.std.proofs.Common.{subst, ◌∙◌, arith}
use Rattle.std.specs.List.Sorted.{IsSearchInRange, IsBinarySearchResult, IsNonDecreasingBy}
use Rattle.std.specs.Ordering.{nat_cmp, ordering_index}
use Rattle.std.proofs.lemmas.Bool.{cases_lt, eq-eqb, ne_eqb}
use Rattle.std.proofs.lemmas.Bool.Decides.{nat_tests}
use Rattle.std.proofs.lemmas.Cmp.{ranked}
use Rattle.std.proofs.lemmas.List.{length-map}
use Rattle.std.proofs.lemmas.List.Sorted.{IsNonDecreasingBy-from_default}
use Rattle.std.specs.Prelude.{if◌then◌else◌}
use Rattle.record.specs.Ascending.{AreAscending, HasNoneOf, IsPlaceOf}
use Rattle.record.specs.Changes.{trimmed_end, trimmed_image, trimmed_saved}
use Rattle.record.specs.ProcessView.{SavedProcessView}
use Rattle.record.specs.declared.image.End.{End}
use Rattle.record.specs.Ends.{end_of}
use Rattle.record.specs.ImageView.{ImageView}
use Rattle.record.specs.declared.image.SavedEnd.{SavedEnd}
use Rattle.record.specs.declared.image.End.TheVariants.{Receives}

-- read where a list has no end at a place
nothing : SavedEnd
nothing = record { channel = 0; end = Receives 0 }

-- the first end of a channel, where those before it are of lesser ones
first_there : (channel : ℕ) (ends : List SavedEnd) (place : ℕ) (d : SavedEnd)
    → ((k : ℕ) → k < place → (get_or ends k d).channel < channel) → place < length ends
    → (get_or ends place d).channel ≡ channel
    → find (λ (saved : SavedEnd). eqb saved.channel channel) ends ≡ Some (get_or ends place d)
first_there channel [] place d before within is = absurd (omega (arith, within))
first_there channel (e ∷ ends) zero d before within is =
    ap (λ (b : Bool). cond b (Some e) (find (λ (saved : SavedEnd). eqb saved.channel channel) ends))
    (eq-eqb e.channel channel is)
first_there channel (e ∷ ends) (suc place) d before within is =
    ap (λ (b : Bool). cond b (Some e) (find (λ (saved : SavedEnd). eqb saved.channel channel) ends))
    (ne_eqb e.channel channel (λ same. omega (arith, before 0 (omega arith), same)))
    ∙ first_there channel ends place d (λ k less. before (suc k) (omega (arith, less))) (omega (arith, within)) is

-- the end of a channel is the one at its place
end_there : (ends : List SavedEnd) (channel place : ℕ) (d : SavedEnd) → AreAscending ends → place < length ends
    → (get_or ends place d).channel ≡ channel
    → find (λ (saved : SavedEnd). eqb saved.channel channel) ends ≡ Some (get_or ends place d)
end_there ends channel place d up within is =
    first_there channel ends place d (λ k less. omega (arith, up k place d less within, is)) within is

-- where no end is of a channel, none is found
end_nowhere : (ends : List SavedEnd) (channel : ℕ) → HasNoneOf ends channel
    → find (λ (saved : SavedEnd). eqb saved.channel channel) ends ≡ None
end_nowhere [] channel none = refl
end_nowhere (e ∷ ends) channel none =
    ap (λ (b : Bool). cond b (Some e) (find (λ (saved : SavedEnd). eqb saved.channel channel) ends))
    (ne_eqb e.channel channel (none 0 e (omega arith)))
    ∙ end_nowhere ends channel (λ k d within. none (suc k) d (omega (arith, within)))

-- the comparisons with a channel rise along the ends
comparisons_rise : (ends : List SavedEnd) (channel : ℕ) → AreAscending ends
    → IsNonDecreasingBy (λ (saved : SavedEnd). ordering_index (nat_cmp saved.channel channel)) ends
comparisons_rise ends channel up =
    IsNonDecreasingBy-from_default (λ (saved : SavedEnd). ordering_index (nat_cmp saved.channel channel)) ends nothing
    (λ i j le within.
    let rise : (get_or ends i nothing).channel ≤ (get_or ends j nothing).channel =
    grind (arith, up i j nothing, λ (same : i ≡ j). ap (λ (k : ℕ). (get_or ends k nothing).channel) same) in
    grind (arith, nat_tests))

-- a binary search for a channel answers its place, or there is no end of it
searched : (ends : List SavedEnd) (channel : ℕ) (r : Result ℕ ℕ) → AreAscending ends → IsSearchInRange r (length ends)
    → IsBinarySearchResult (λ (saved : SavedEnd). nat_cmp saved.channel channel) ends r
    → MatchResult r (IsPlaceOf ends channel) (λ gap. HasNoneOf ends channel)
searched ends channel (Ok place) up within equal = (within, λ d. ranked _ channel _ (sym (equal d)))
searched ends channel (Err gap) up within parted = λ k d there is. apart k d there is (cases_lt k gap)
  where
    below : (k : ℕ) (d : SavedEnd) → k < gap → (get_or ends k d).channel < channel
    below k d less = ranked _ channel _ (sym ((parted (comparisons_rise ends channel up)).0 k d (omega arith) less))

    above : (k : ℕ) (d : SavedEnd) → gap ≤ k → k < length ends → channel < (get_or ends k d).channel
    above k d le there = ranked _ channel _ (sym ((parted (comparisons_rise ends channel up)).1 k d le there))

    apart : (k : ℕ) (d : SavedEnd) → k < length ends → (get_or ends k d).channel ≡ channel → (k < gap) ⊎ (gap ≤ k) → ⊥
    apart k d there is (inl less) = omega (arith, below k d less, is)
    apart k d there is (inr le) = omega (arith, above k d le there, is)

-- so an image's end of the channel stands at the place that is answered
pub place_there : (image : ImageView) (ends : List SavedEnd) (channel place : ℕ) (r : Result ℕ ℕ) → ends ≡ image.ends
    → AreAscending ends → IsSearchInRange r (length ends)
    → IsBinarySearchResult (λ (saved : SavedEnd). nat_cmp saved.channel channel) ends r → r ≡ Ok place
    → IsPlaceOf image.ends channel place
place_there image ends channel place r same up bound by_key is =
    subst (λ (xs : List SavedEnd). IsPlaceOf xs channel place) same
    (searched ends channel (Ok place) up (subst (λ (o : Result ℕ ℕ). IsSearchInRange o (length ends)) is bound)
    (subst (λ (o : Result ℕ ℕ). IsBinarySearchResult (λ (saved : SavedEnd). nat_cmp saved.channel channel) ends o) is
    by_key))

pub place_nowhere : (image : ImageView) (ends : List SavedEnd) (channel gap : ℕ) (r : Result ℕ ℕ) → ends ≡ image.ends
    → AreAscending ends → IsSearchInRange r (length ends)
    → IsBinarySearchResult (λ (saved : SavedEnd). nat_cmp saved.channel channel) ends r → r ≡ Err gap
    → HasNoneOf image.ends channel
place_nowhere image ends channel gap r same up bound by_key is =
    subst (λ (xs : List SavedEnd). HasNoneOf xs channel) same
    (searched ends channel (Err gap) up (subst (λ (o : Result ℕ ℕ). IsSearchInRange o (length ends)) is bound)
    (subst (λ (o : Result ℕ ℕ). IsBinarySearchResult (λ (saved : SavedEnd). nat_cmp saved.channel channel) ends o) is
    by_key))

-- an image's end of a channel is the one at its place
pub end_at : (image : ImageView) (ends : List SavedEnd) (channel place : ℕ) (saved : SavedEnd) → ends ≡ image.ends
    → AreAscending ends → IsPlaceOf image.ends channel place → saved ≡ get_or ends place saved
    → Some saved.end ≡ end_of image channel
end_at image ends channel place saved same up there here =
    let stands = subst (λ (xs : List SavedEnd). IsPlaceOf xs channel place) (sym same) there in
    sym (ap (λ (xs : List SavedEnd). option_map (λ (saved : SavedEnd). saved.end)
    (find (λ (saved : SavedEnd). eqb saved.channel channel) xs)) (sym same)
    ∙ ap (option_map (λ (saved : SavedEnd). saved.end))
    (end_there ends channel place saved up stands.0 (stands.1 saved) ∙ ap (λ (s : SavedEnd). Some s) (sym here)))

pub no_end : (image : ImageView) (channel : ℕ) → HasNoneOf image.ends channel → None ≡ end_of image channel
no_end image channel none =
    sym (ap (option_map (λ (saved : SavedEnd). saved.end)) (end_nowhere image.ends channel none))

-- a log is trimmed where all others are of other channels
trimmed_others : (channel position : ℕ) (ends : List SavedEnd) → HasNoneOf ends channel
    → map (trimmed_saved channel position) ends ≡ ends
trimmed_others channel position [] none = refl
trimmed_others channel position (e ∷ ends) none =
    ap (λ (b : Bool). record { channel = e.channel; end = if b then trimmed_end position e.end else e.end }
    ∷ map (trimmed_saved channel position) ends) (ne_eqb e.channel channel (none 0 e (omega arith)))
    ∙ ap (λ (xs : List SavedEnd). e ∷ xs)
    (trimmed_others channel position ends (λ k d within. none (suc k) d (omega (arith, within))))

trimmed_at : (channel position : ℕ) (ends : List SavedEnd) (place : ℕ) (saved : SavedEnd) → AreAscending ends
    → IsPlaceOf ends channel place → saved ≡ get_or ends place saved
    → set ends place (record { channel = saved.channel; end = trimmed_end position saved.end })
    ≡ map (trimmed_saved channel position) ends
trimmed_at channel position [] place saved up there here = absurd (omega (arith, there.0))
trimmed_at channel position (e ∷ ends) zero saved up there here =
    let own : e.channel ≡ channel = there.1 e in
    ap (λ (s : SavedEnd). record { channel = s.channel; end = trimmed_end position s.end } ∷ ends) here
    ∙ (ap (λ (b : Bool). record { channel = e.channel; end = if b then trimmed_end position e.end else e.end } ∷ ends)
    (sym (eq-eqb e.channel channel own))
    ∙ ap (λ (xs : List SavedEnd). trimmed_saved channel position e ∷ xs)
    (sym (trimmed_others channel position ends
    (λ k d within is. omega (arith, up 0 (suc k) d (omega arith) (omega (arith, within)), own, is)))))
trimmed_at channel position (e ∷ ends) (suc place) saved up there here =
    let other : ¬ (e.channel ≡ channel) =
    λ own. omega (arith, up 0 (suc place) e (omega arith) there.0, there.1 e, own) in
    ap (λ (xs : List SavedEnd). e ∷ xs)
    (trimmed_at channel position ends place saved
    (λ i j d less within. up (suc i) (suc j) d (omega (arith, less)) (omega (arith, within)))
    (omega (arith, there.0), λ d. there.1 d) here)
    ∙ ap (λ (b : Bool). record { channel = e.channel; end = if b then trimmed_end position e.end else e.end }
    ∷ map (trimmed_saved channel position) ends) (sym (ne_eqb e.channel channel other))

-- trimming the log at a channel's place trims the image there
pub image_trimmed : (processes : List SavedProcessView) (ends : List SavedEnd) (image : ImageView)
    (channel position place : ℕ) (saved : SavedEnd) (end : End) → record { processes = processes; ends = ends } ≡ image
    → AreAscending ends
    → IsPlaceOf image.ends channel place → saved ≡ get_or ends place saved → end ≡ trimmed_end position saved.end
    → record { processes = processes; ends = set ends place (record { channel = saved.channel; end = end }) }
    ≡ trimmed_image channel position image
image_trimmed processes ends image channel position place saved end same up there here is =
    ap (λ (e : End). record
    { processes = processes; ends = set ends place (record { channel = saved.channel; end = e }) }) is
    ∙ (ap (λ (xs : List SavedEnd). record { processes = processes; ends = xs })
    (trimmed_at channel position ends place saved up
    (subst (λ (i : ImageView). IsPlaceOf i.ends channel place) (sym same) there) here)
    ∙ ap (trimmed_image channel position) same)

-- and where there is no such place, nothing
pub image_untrimmed : (image : ImageView) (channel position : ℕ) → HasNoneOf image.ends channel
    → image ≡ trimmed_image channel position image
image_untrimmed image channel position none =
    ap (λ (xs : List SavedEnd). record { processes = image.processes; ends = xs })
    (sym (trimmed_others channel position image.ends none))

-- an end before all others
pub ascend_behind : (e : SavedEnd) (ends : List SavedEnd)
    → ((k : ℕ) (d : SavedEnd) → k < length ends → e.channel < (get_or ends k d).channel) → AreAscending ends
    → AreAscending (e ∷ ends)
ascend_behind e ends above up = each
  where
    each : (i j : ℕ) (d : SavedEnd) → i < j → j < length (e ∷ ends)
        → (get_or (e ∷ ends) i d).channel < (get_or (e ∷ ends) j d).channel
    each i zero d less within = absurd (omega (arith, less))
    each zero (suc j) d less within = above j d (omega (arith, within))
    each (suc i) (suc j) d less within = up i j d (omega (arith, less)) (omega (arith, within))

-- ends that change and stay those of their channels
same_channel : (f : SavedEnd → SavedEnd) → ((e : SavedEnd) → (f e).channel ≡ e.channel)
    → (ends : List SavedEnd) (k : ℕ) (d : SavedEnd) → k < length ends
    → (get_or (map f ends) k d).channel ≡ (get_or ends k d).channel
same_channel f same [] k d within = absurd (omega (arith, within))
same_channel f same (e ∷ ends) zero d within = same e
same_channel f same (e ∷ ends) (suc k) d within = same_channel f same ends k d (omega (arith, within))

pub ascend_changed : (f : SavedEnd → SavedEnd) → ((e : SavedEnd) → (f e).channel ≡ e.channel) → (ends : List SavedEnd)
    → AreAscending ends → AreAscending (map f ends)
ascend_changed f same ends up i j d less within =
    let there : j < length ends = subst (λ (n : ℕ). j < n) (length-map ends f) within in
    let first = same_channel f same ends i d (omega (arith, less, there)) in
    let second = same_channel f same ends j d there in
    omega (arith, first, second, up i j d less there)
