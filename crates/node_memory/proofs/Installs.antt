-- Turns that are taken into an image.
use Rattle.std.proofs.Common.{◌≡◌, ℕ, zero, suc, ◌+◌, ◌<◌, ◌≤◌, true, List, ℤ, [], ◌∷◌, ◌++◌, map, length, take, drop}
use Rattle.std.proofs.Common.{get_or, Some, refl, sym, ap, subst, ◌∙◌}
use Rattle.std.specs.Prelude.{slice_get, slice_set, ◌==◌}
use Rattle.std.proofs.lemmas.Option.{slice_get_read}
use Rattle.std.proofs.lemmas.List.{get_or-set_same}
use Rattle.std.proofs.lemmas.Bool.{eq-eqb}
use Rattle.protocol.specs.Node.Common.{Standing, Channel, received_at, SavedProcessView, moved, put_on, taken_from}
use Rattle.protocol.specs.Node.Common.{saved_pushed, saved_counted, SavedEnd, End, Receives, Sends, Both}
use Rattle.ckpt_codec.specs.Common.{pushed, counted}

-- an element is changed, and then changed back
changed_back : {A : Type 0} (xs : List A) (k : ℕ) (x y z : A) → slice_get xs k ≡ Some x → z ≡ x
    → slice_set (slice_set xs k y) k z ≡ xs
changed_back [] k x y z h is = absurd (cc)
changed_back (w ∷ xs) zero x y z h is = let same : w ≡ x = cc in ap (λ v. v ∷ xs) (is ∙ sym same)
changed_back (w ∷ xs) (suc k) x y z h is = ap (λ rest. w ∷ rest) (changed_back xs k x y z h is)

abbrev stands_at : ℕ → Standing → SavedProcessView
stands_at number standing = record { number = number; standing = standing }

abbrev end_at : ℕ → End → SavedEnd
end_at channel end = record { channel = channel; end = end }

abbrev standing_there : (p : ℕ) (s : Standing) (xs : List SavedProcessView) (z : SavedProcessView)
    → List SavedProcessView
standing_there p s xs z = record { number = z.number; standing = s } ∷ xs

moved_at : (p : ℕ) (s : Standing) (xs : List SavedProcessView) (k : ℕ) (x : SavedProcessView) → slice_get xs k ≡ Some x
    → (x.number == p) ≡ true
    → take k xs ++ moved p s (drop k xs) ≡ slice_set xs k (record { number = x.number; standing = s })
moved_at p s [] k x h is = absurd (cc)
moved_at p s (y ∷ xs) zero x h is =
    let same : y ≡ x = cc in
    let t : (y.number == p) ≡ true = ap (λ (z : SavedProcessView). z.number == p) same ∙ is in
    rw t (ap (standing_there p s xs) same)
moved_at p s (y ∷ xs) (suc k) x h is = ap (λ (rest : List SavedProcessView). y ∷ rest) (moved_at p s xs k x h is)

-- the process at a place is the first one of its number that the walk met
pub moved_here : (p : ℕ) (s : Standing) (xs : List SavedProcessView) (k : ℕ) (x y : SavedProcessView) → k < length xs
    → x ≡ get_or xs k x → y ≡ get_or xs k y → x.number ≡ p
    → slice_set xs k (record { number = y.number; standing = s }) ≡ take k xs ++ moved p s (drop k xs)
moved_here p s xs k x y within here there is =
    let one : slice_get xs k ≡ Some x = slice_get_read xs (length xs) k x refl within here in
    let other : slice_get xs k ≡ Some y = slice_get_read xs (length xs) k y refl within there in
    let same : x ≡ y = cc in
    let number : y.number ≡ p = ap (λ (z : SavedProcessView). z.number) (sym same) ∙ is in
    sym (moved_at p s xs k y other (eq-eqb y.number p number))

-- putting items counts none
received_pushed : (items : List ℤ) (end : End) → received_at (Some (pushed items end)) ≡ received_at (Some end)
received_pushed items (Receives received) = refl
received_pushed items (Sends log) = refl
received_pushed items (Both received log) = refl

-- what is asked of the counts is asked of them before the items were put
pub counts_kept : (channels : List Channel) (p : ℕ) (taken : List ℕ) (sent : List (List ℤ)) (xs : List SavedEnd)
    (limit : ℕ)
    → ((k : ℕ) (saved : SavedEnd) → slice_get xs k ≡ Some saved
    → received_at (Some (saved.end)) + taken_from channels p taken saved.channel ≤ limit)
    → (k : ℕ) (saved : SavedEnd) → slice_get (map (saved_pushed channels p sent) xs) k ≡ Some saved
    → received_at (Some (saved.end)) + taken_from channels p taken saved.channel ≤ limit
counts_kept channels p taken sent [] limit fits k saved h = absurd (cc)
counts_kept channels p taken sent (x ∷ xs) limit fits zero saved h =
    let same : saved_pushed channels p sent x ≡ saved = cc in
    let items : List ℤ = put_on channels p sent x.channel in
    subst (λ (z : SavedEnd). received_at (Some (z.end)) + taken_from channels p taken z.channel ≤ limit) same
    (subst (λ (n : ℕ). n + taken_from channels p taken x.channel ≤ limit) (sym (received_pushed items x.end))
    (fits 0 x refl))
counts_kept channels p taken sent (x ∷ xs) limit fits (suc k) saved h =
    counts_kept channels p taken sent xs limit (λ j y g. fits (suc j) y g) k saved h

-- an end with what was counted there
pub counted_is : (channels : List Channel) (p : ℕ) (taken : List ℕ) (x y : SavedEnd) (n : ℕ) (e : End)
    → n ≡ taken_from channels p taken y.channel → e ≡ counted n y.end → x ≡ y
    → record { channel = y.channel; end = e } ≡ saved_counted channels p taken x
counted_is channels p taken x y n e count is same =
    subst (λ (z : SavedEnd). record { channel = y.channel; end = e } ≡ saved_counted channels p taken z) (sym same)
    (ap (end_at y.channel) (is ∙ ap (λ (k : ℕ). counted k y.end) count))

-- what was put on an end is taken back
pub put_back : (xs ys : List SavedEnd) (k : ℕ) (x w : SavedEnd) (e z : End) (items : List ℤ) → k < length xs
    → x ≡ get_or xs k x → ys ≡ slice_set xs k (record { channel = x.channel; end = e })
    → e ≡ pushed items x.end → w ≡ get_or ys k w → ((before : End) → w.end ≡ pushed items before → z ≡ before)
    → slice_set ys k (record { channel = w.channel; end = z }) ≡ xs
put_back xs ys k x w e z items within here was put there back =
    let one : slice_get xs k ≡ Some x = slice_get_read xs (length xs) k x refl within here in
    let now : w ≡ record { channel = x.channel; end = e } =
    there ∙ (ap (λ (l : List SavedEnd). get_or l k w) was ∙ get_or-set_same xs k _ w within) in
    let at_end : z ≡ x.end = back x.end (ap (λ (s : SavedEnd). s.end) now ∙ put) in
    let at_channel : w.channel ≡ x.channel = ap (λ (s : SavedEnd). s.channel) now in
    ap (λ (l : List SavedEnd). slice_set l k (record { channel = w.channel; end = z })) was
    ∙ changed_back xs k x _ _ one (ap (λ (c : ℕ). end_at c z) at_channel ∙ ap (end_at x.channel) at_end)

-- a process that stands there now, by its number
pub standing_now : (s : Standing) (x y : SavedProcessView) → x ≡ y → stands_at x.number s ≡ stands_at y.number s
standing_now s x y same = ap (λ (n : ℕ). stands_at n s) (ap (λ (z : SavedProcessView). z.number) same)
