-- One part of a run behind the other.
use Rattle.std.proofs.Common.{◌≡◌, ◌≢◌, ◌≤◌, ◌<◌, ◌+◌, ◌∙◌, ℕ, Bool, true, false, [], length, refl, sym, ap, subst, ◌⊎◌, inl, inr, ◌||◌, Option, Some, None, arith}
use Rattle.std.proofs.lemmas.Bool.{cases_eq}
use Rattle.std.proofs.lemmas.Option.{slice_get_within}
use Rattle.std.specs.Prelude.{IsTrue, OnOk, Result, Ok, Err, slice_get}
use Rattle.growing.proofs.GoingOn.{goes_on_then, goes_on_whatever_comes}
use Rattle.growing.specs.WhateverComes.{HasGoneOn}
use Rattle.kahn_net.specs.declared.limits.TheConstants.{MAX_CHANNELS}
use Rattle.protocol.specs.Node.Common.{Channel, Network}
use Rattle.protocol.specs.World.Common.{WorldInvariant, WorldView}
use Rattle.world.specs.Feeding.{is_input, is_input_by}
use Rattle.stream_run.specs.Linked.{AreEnded}

-- ---- a world goes on

pub stands : (world : WorldView) → WorldInvariant world → HasGoneOn world world
stands world sound = goes_on_whatever_comes world [] sound tt

pub goes_on_to : (first next last now : WorldView) → HasGoneOn first next → HasGoneOn next last → now ≡ last → HasGoneOn first now
goes_on_to first next last now one other same =
    subst (HasGoneOn first) (sym same) (goes_on_then first next last one other)

-- ---- inputs come to their ends

-- the inputs below this number did
abbrev pub AreEndedBelow : Network → (ℕ → Bool) → ℕ → Type 0
AreEndedBelow net has_ended number = (input : ℕ) → input < number → IsTrue (is_input net input) → has_ended input ≡ true

pub ended_next : (net net_now : Network) (had has : ℕ → Bool) (any more any_now : Bool) (number : ℕ) → net_now ≡ net
    → (any ≡ false → AreEndedBelow net had number) → ((other : ℕ) → other ≢ number → has other ≡ had other)
    → (more ≡ false → IsTrue (is_input net number) → has number ≡ true) → any_now ≡ (any || more) → any_now ≡ false
    → AreEndedBelow net_now has (number + 1)
ended_next net net_now had has any more any_now number same below others now is none = λ input within here.
    by_case input within (subst (λ (n : Network). IsTrue (is_input n input)) same here) (cases_eq input number)
  where
    neither : (one other : Bool) → (one || other) ≡ false → (one ≡ false) × (other ≡ false)
    neither false other e = (refl, e)
    neither true other e = absurd cc

    both : (any ≡ false) × (more ≡ false)
    both = neither any more (sym is ∙ none)

    by_case : (input : ℕ) → input < number + 1 → IsTrue (is_input net input) → (input ≡ number) ⊎ (input ≡ number → ⊥)
        → has input ≡ true
    by_case input within here (inl this) =
        ap has this ∙ now both.1 (subst (λ (i : ℕ). IsTrue (is_input net i)) this here)
    by_case input within here (inr apart) = others input apart ∙ below both.0 input (omega (arith, within, apart)) here

input_number : (world : WorldView) (input : ℕ) → WorldInvariant world → IsTrue (is_input world.net input) → input < MAX_CHANNELS
input_number world input sound here =
    let there = there_is (slice_get world.net.channels input) refl here in
    let within : input < length world.net.channels = slice_get_within world.net.channels input there.0 there.1 in
    let few : length world.net.channels ≤ MAX_CHANNELS = sound.valid.channel_count in
    omega (arith, few, within)
  where
    there_is : (channel : Option Channel) → slice_get world.net.channels input ≡ channel → IsTrue (is_input_by channel)
        → (one : Channel) × (slice_get world.net.channels input ≡ Some one)
    there_is None is here = absurd cc
    there_is (Some channel) is here = (channel, is)

pub ended_all : (world : WorldView) (has : ℕ → Bool) (number : ℕ) → WorldInvariant world → AreEndedBelow world.net has number
    → MAX_CHANNELS ≤ number → AreEnded world.net has
ended_all world has number sound below all = λ input here.
    let within : input < MAX_CHANNELS = input_number world input sound here in
    below input (omega (arith, within, all)) here

-- and stay there
pub still_ended : (net net_now : Network) (had has : ℕ → Bool) → net_now ≡ net → ((input : ℕ) → has input ≡ had input)
    → AreEnded net had → AreEnded net_now has
still_ended net net_now had has same kept ended = λ input here.
    kept input ∙ ended input (subst (λ (n : Network). IsTrue (is_input n input)) same here)

-- what is so anyway is so where a call succeeds
pub so_anyway : {A E : Type 0} (P : Type 0) (result : Result A E) → P → OnOk result P
so_anyway {A} {E} P (Ok done) p = p
so_anyway {A} {E} P (Err e) p = tt
