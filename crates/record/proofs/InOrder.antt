-- Ends that are tested one after the other are in order.
use Rattle.std.proofs.Common.{◌≡◌, ℕ, zero, suc, ◌+◌, ◌≤◌, ◌<◌, Bool, true, List, [], ◌∷◌, length, get_or, refl, sym}
use Rattle.std.proofs.Common.{◌∙◌, ap, arith}
use Rattle.std.specs.Prelude.{◌↔◌, ◌&&◌, IsTrue}
use Rattle.std.proofs.lemmas.Bool.{and_parts, leb-true, le-leb}
use Rattle.record.specs.Ascending.{AreAscending, ascend_from}
use Rattle.record.specs.Laws.Ascent.{ascend_behind}
use Rattle.record.specs.declared.image.SavedEnd.{SavedEnd}

above : (least : ℕ) (ends : List SavedEnd) → ascend_from least ends ≡ true → (k : ℕ) (d : SavedEnd) → k < length ends
    → least ≤ (get_or ends k d).channel
above least [] is k d within = absurd (omega (arith, within))
above least (e ∷ ends) is zero d within = leb-true least e.channel (and_parts _ _ is).0
above least (e ∷ ends) is (suc k) d within =
    let first = leb-true least e.channel (and_parts _ _ is).0 in
    let behind = above (e.channel + 1) ends (and_parts _ _ is).1 k d (omega (arith, within)) in
    omega (arith, first, behind)

ascending : (least : ℕ) (ends : List SavedEnd) → ascend_from least ends ≡ true → AreAscending ends
ascending least [] is = λ i j d less within. absurd (omega (arith, within))
ascending least (e ∷ ends) is =
    let behind = (and_parts _ _ is).1 in
    ascend_behind e ends
    (λ k d within. (let more = above (e.channel + 1) ends behind k d within in omega (arith, more)))
    (ascending (e.channel + 1) ends behind)

tested : (least : ℕ) (ends : List SavedEnd)
    → ((k : ℕ) (d : SavedEnd) → k < length ends → least ≤ (get_or ends k d).channel) → AreAscending ends
    → ascend_from least ends ≡ true
tested least [] from up = refl
tested least (e ∷ ends) from up =
    ap (λ b. b && ascend_from (e.channel + 1) ends) (le-leb least e.channel (from zero e (omega arith)))
    ∙ tested (e.channel + 1) ends
    (λ k d within. (let more = up zero (suc k) d (omega arith) (omega (arith, within)) in omega (arith, more)))
    (λ i j d less within. up (suc i) (suc j) d (omega (arith, less)) (omega (arith, within)))

pub tells_order : (ends : List SavedEnd) (b : Bool) → b ≡ ascend_from 0 ends → IsTrue b ↔ AreAscending ends
tells_order ends b is =
    (λ yes. ascending 0 ends (sym is ∙ yes), λ up. is ∙ tested 0 ends (λ k d within. omega arith) up)
