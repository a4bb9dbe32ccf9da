-- What has left by the channels up to one more.
use Rattle.std.proofs.Common.{Vec, ◌≡◌, ◌∙◌, ℕ, ◌+◌, ℤ, List, [], ◌∷◌, ◌++◌, Some, length, map, slice_get, ap, subst, below_more, arith}
use Rattle.std.proofs.lemmas.List.{length-map, map-append}
use Rattle.std.specs.declared.alloc.Global.{Global}
use Rattle.net_check.proofs.Places.{got_append_left}
use Rattle.protocol.specs.World.Common.{WorldView, released_of}
use Rattle.cobaltmidge.proofs.Filed.{last_of}
use Rattle.cobaltmidge.specs.Released.{AreReleased, lists_of}

pub released_more : (now : WorldView) (k : ℕ) (lists next : List (Vec ℤ Global)) (items : Vec ℤ Global) → next ≡ lists ++ items ∷ []
    → length lists ≡ k → items.items ≡ released_of k now.stations → AreReleased k now (lists_of lists)
    → AreReleased (k + 1) now (lists_of next)
released_more now k lists next items is many last so_far =
    let Left : ℕ → Type 0 = λ j. slice_get (lists_of next) j ≡ Some (released_of j now.stations) in
    let whole : lists_of next ≡ lists_of lists ++ items.items ∷ [] =
    ap lists_of is ∙ map-append (λ (list : Vec ℤ Global). list.items) lists (items ∷ []) in
    let place : length (lists_of lists) ≡ k = length-map lists (λ (list : Vec ℤ Global). list.items) ∙ many in
    let at : slice_get (lists_of lists ++ items.items ∷ []) k ≡ Some items.items =
    subst (λ (n : ℕ). slice_get (lists_of lists ++ items.items ∷ []) n ≡ Some items.items) place (last_of (lists_of lists) items.items) in
    below_more Left k
    (λ j within. ap (λ (all : List (List ℤ)). slice_get all j) whole
    ∙ got_append_left (lists_of lists) (items.items ∷ []) j (released_of j now.stations) (so_far j within))
    (ap (λ (all : List (List ℤ)). slice_get all k) whole ∙ (at ∙ ap Some last))
