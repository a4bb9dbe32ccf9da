-- The index of rules, with one rule more.
use Rattle.std.proofs.Common.{◌≡◌, ◌∙◌, ◌<◌, ℕ, min, max, arith, Bool, true, false, cond, List, [], ◌∷◌, ◌++◌, Some, unwrap_or, refl, sym, ap, if◌then◌else◌}
use Rattle.std.specs.HashMap.{HashMap, get}
use Rattle.std.proofs.lemmas.Bool.{and_parts, eqb-true}
use Rattle.std.proofs.lemmas.List.Sums.{fold-append}
use Rattle.wire.specs.declared.rule.Fate.{Fate}
use Rattle.wire.specs.declared.rule.Rule.{Rule}
use Rattle.wire.specs.declared.rules.Passage.{Passage}
use Rattle.wire.specs.Index.{AreFrom, AreUpTo, IsIndex, is_same, passage, plain_fate}
use Rattle.wire.specs.Rules.{changed, fate_after, fate_of}

-- what becomes of a packet where one rule more is armed
one_more : (rules : List Rule) (rule : Rule) (from to nth : ℕ)
    → fate_of (rules ++ rule ∷ []) from to nth ≡ fate_after from to nth (fate_of rules from to nth) rule
one_more rules rule from to nth = fold-append (fate_after from to nth) plain_fate rules (rule ∷ [])

pub armed_index : {S : Type 0} (rules : List Rule) (before later : HashMap Passage Fate S) (rule : Rule) (fate : Fate)
    → IsIndex rules before
    → fate ≡ changed (fate_of rules rule.from rule.to rule.nth) rule.change
    → ((q : Passage) → get is_same later q
    ≡ cond (is_same (passage rule.from rule.to rule.nth) q) (Some fate) (get is_same before q))
    → IsIndex (rules ++ rule ∷ []) later
armed_index rules before later rule fate index made updates from to nth =
    ap (λ found. unwrap_or found plain_fate) (updates (passage from to nth))
    ∙ (by (is_same (passage rule.from rule.to rule.nth) (passage from to nth)) refl
    ∙ sym (one_more rules rule from to nth))
  where
    by : (is : Bool) → is_same (passage rule.from rule.to rule.nth) (passage from to nth) ≡ is
        → unwrap_or (cond is (Some fate) (get is_same before (passage from to nth))) plain_fate
        ≡ (if is then changed (fate_of rules from to nth) rule.change else fate_of rules from to nth)
    by true same =
        let first = and_parts _ _ same in
        let rest = and_parts _ _ first.1 in
        made
        ∙ (ap (λ n. changed (fate_of rules n rule.to rule.nth) rule.change) (eqb-true rule.from from first.0)
        ∙ (ap (λ n. changed (fate_of rules from n rule.nth) rule.change) (eqb-true rule.to to rest.0)
        ∙ ap (λ n. changed (fate_of rules from to n) rule.change) (eqb-true rule.nth nth rest.1)))
    by false other = index from to nth

-- a packet with another number than its own
beside : (rules : List Rule) (rule : Rule) (from to nth : ℕ) → (rule.nth ≡ nth → ⊥)
    → fate_of rules from to nth ≡ plain_fate → fate_of (rules ++ rule ∷ []) from to nth ≡ plain_fate
beside rules rule from to nth other plain =
    one_more rules rule from to nth ∙ by (is_same (passage rule.from rule.to rule.nth) (passage from to nth)) refl
  where
    by : (is : Bool) → is_same (passage rule.from rule.to rule.nth) (passage from to nth) ≡ is
        → (if is then changed (fate_of rules from to nth) rule.change else fate_of rules from to nth) ≡ plain_fate
    by true same =
        let first = and_parts _ _ same in
        let rest = and_parts _ _ first.1 in absurd (other (eqb-true rule.nth nth rest.1))
    by false apart = plain

pub still_from : (rules : List Rule) (rule : Rule) (least : ℕ) → AreFrom rules least
    → AreFrom (rules ++ rule ∷ []) (min least rule.nth)
still_from rules rule least all from to nth below =
    beside rules rule from to nth (λ same. absurd (omega (arith, same, below)))
    (all from to nth (let less : nth < least = omega (arith, below) in less))

pub still_up_to : (rules : List Rule) (rule : Rule) (most : ℕ) → AreUpTo rules most
    → AreUpTo (rules ++ rule ∷ []) (max most rule.nth)
still_up_to rules rule most all from to nth above =
    beside rules rule from to nth (λ same. absurd (omega (arith, same, above)))
    (all from to nth (let more : most < nth = omega (arith, above) in more))
