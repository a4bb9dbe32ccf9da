-- More has come on an input of a network at work, and what is kept for good of it is let go of.
use Rattle.std.proofs.Common.{◌≡◌, ◌∙◌, ℕ, Bool, true, false, List, None, max, ap, refl}
use Rattle.std.specs.Prelude.{slice_set}
use Rattle.arrived.specs.ArrivedView.{base_of}
use Rattle.protocol.specs.Node.Common.{Network}
use Rattle.protocol.specs.World.Common.{StationView}
use Rattle.protocol.specs.World.Still.{kept_for_good}
use Rattle.world.specs.Feeding.{feed_refusal_by, is_input}

-- items come on inputs alone
pub takes_inputs : (here closed few : Bool) → feed_refusal_by here closed few ≡ None → here ≡ true
takes_inputs true closed few none = refl
takes_inputs false closed few none = absurd (cc)

-- The items leave the network, what was let go of before, and the stations as they were: what is let go of then is told by those before.
pub gone_before : (before net : Network) (gone bases : List ℕ) (old stations : List StationView) (input : ℕ) (now : List ℕ)
    → net ≡ before → bases ≡ gone → stations ≡ old → is_input before input ≡ true
    → (is_input net input ≡ true
    → now ≡ slice_set bases input (max (base_of bases input) (kept_for_good net stations input)))
    → now ≡ slice_set gone input (max (base_of gone input) (kept_for_good before old input))
gone_before before net gone bases old stations input now same_net same_bases same_stations is_one lets_go =
    lets_go (ap (λ (n : Network). is_input n input) same_net ∙ is_one)
    ∙ (ap (λ (b : List ℕ). slice_set b input (max (base_of b input) (kept_for_good net stations input))) same_bases
    ∙ ap (λ (k : ℕ). slice_set gone input (max (base_of gone input) k))
    (ap (λ (n : Network). kept_for_good n stations input) same_net ∙ ap (λ (s : List StationView). kept_for_good before s input) same_stations))
