-- The items of a record are of 64 bits where those of each of its parts are.
use Rattle.std.proofs.Common.{ℤ, List, [], ◌∷◌, ◌++◌, Option, Some, None, sym, subst}
use Rattle.std.specs.Prelude.{All, FitsSigned}
use Rattle.std.specs.List.{flat_map, AllByRecursion}
use Rattle.std.specs.Int.{w64}
use Rattle.std.proofs.lemmas.List.Elements.{All-from_recursion, recursion_from_All}
use Rattle.std.proofs.lemmas.List.Concat.{flat_map-cons}
use Rattle.record.specs.Common.{SavedProcessView, ImageView, RecordView}
use Rattle.record.specs.declared.image.SavedEnd.{SavedEnd}
use Rattle.record.specs.declared.record.Tentative.{Tentative}
use Rattle.ckpt_codec.specs.RecordText.{variables_of, items_of_end, items_of_image, items_of_tentative, items_of_record}
use Rattle.ckpt_codec.proofs.Parts.{IsImage}
use Rattle.ckpt_codec.proofs.Records.{IsTentative, IsKept}

abbrev AreItems : List ℤ → Type 0
AreItems zs = AllByRecursion (FitsSigned w64) zs

all_behind : (xs ys : List ℤ) → AreItems xs → AreItems ys → AreItems (xs ++ ys)
all_behind [] ys one two = two
all_behind (x ∷ xs) ys one two = (one.0, all_behind xs ys one.1 two)

all_before : (xs ys : List ℤ) → AreItems (xs ++ ys) → AreItems xs × AreItems ys
all_before [] ys all = (tt, all)
all_before (x ∷ xs) ys all = let h = all_before xs ys all.1 in ((all.0, h.0), h.1)

all_flat : {X : Type 0} (f : X → List ℤ) (xs : List X) → AllByRecursion (λ x. AreItems (f x)) xs
    → AreItems (flat_map f xs)
all_flat f [] all = tt
all_flat f (x ∷ xs) all =
    subst (λ (zs : List ℤ). AreItems zs) (sym (flat_map-cons f x xs))
    (all_behind (f x) (flat_map f xs) all.0 (all_flat f xs all.1))

all_unflat : {X : Type 0} (f : X → List ℤ) (xs : List X) → AreItems (flat_map f xs)
    → AllByRecursion (λ x. AreItems (f x)) xs
all_unflat f [] all = tt
all_unflat f (x ∷ xs) all =
    let h = all_before (f x) (flat_map f xs) (subst (λ (zs : List ℤ). AreItems zs) (flat_map-cons f x xs) all) in
    (h.0, all_unflat f xs h.1)

image_are : (image : ImageView) → IsImage image → AreItems (items_of_image image)
image_are image is =
    all_behind (flat_map (λ (p : SavedProcessView). variables_of p.standing) image.processes)
    (flat_map (λ (e : SavedEnd). items_of_end e.end) image.ends)
    (all_flat (λ (p : SavedProcessView). variables_of p.standing) image.processes is.processes)
    (all_flat (λ (e : SavedEnd). items_of_end e.end) image.ends is.ends)

are_image : (image : ImageView) → AreItems (items_of_image image) → IsImage image
are_image image all =
    let h = all_before (flat_map (λ (p : SavedProcessView). variables_of p.standing) image.processes)
    (flat_map (λ (e : SavedEnd). items_of_end e.end) image.ends) all in
    record {
      processes = all_unflat (λ (p : SavedProcessView). variables_of p.standing) image.processes h.0;
      ends = all_unflat (λ (e : SavedEnd). items_of_end e.end) image.ends h.1;
    }

pub image_items : (image : ImageView) → IsImage image → All (FitsSigned w64) (items_of_image image)
image_items image is = All-from_recursion (FitsSigned w64) (items_of_image image) (image_are image is)

pub items_image : (image : ImageView) → All (FitsSigned w64) (items_of_image image) → IsImage image
items_image image all = are_image image (recursion_from_All (FitsSigned w64) (items_of_image image) all)

tentative_items : (t : Option Tentative) → IsTentative t → AreItems (items_of_tentative t)
tentative_items None is = tt
tentative_items (Some t) is = image_are t.image is

items_tentative : (t : Option Tentative) → AreItems (items_of_tentative t) → IsTentative t
items_tentative None all = tt
items_tentative (Some t) all = are_image t.image all

pub kept_items : (kept : RecordView) → IsKept kept → All (FitsSigned w64) (items_of_record kept)
kept_items kept is =
    All-from_recursion (FitsSigned w64) (items_of_record kept)
    (all_behind (items_of_image kept.permanent) (items_of_tentative kept.tentative)
    (image_are kept.permanent is.permanent) (tentative_items kept.tentative is.tentative))

pub is_kept : (kept : RecordView) → All (FitsSigned w64) (items_of_record kept) → IsKept kept
is_kept kept all =
    let h = all_before (items_of_image kept.permanent) (items_of_tentative kept.tentative)
    (recursion_from_All (FitsSigned w64) (items_of_record kept) all) in
    record { permanent = are_image kept.permanent h.0; tentative = items_tentative kept.tentative h.1 }
