-- What has left a station only grows by an event, and is covered at each moment of it.
use Rattle.std.proofs.Common.{◌≡◌, ◌≢◌, ◌⊎◌, inl, inr, ℕ, zero, suc, ◌≤◌, Bool, List, [], ◌∷◌, length, Option, Some}
use Rattle.std.proofs.Common.{None, refl, sym, ap, subst, ◌∙◌, arith}
use Rattle.std.specs.Prelude.{slice_get, slice_set}
use Rattle.std.proofs.lemmas.List.{map-set}
use Rattle.protocol.specs.Node.Common.{Whole, IsPrefix, sent_of, ImageView, IsBehind, current_log, RecordView}
use Rattle.kahn_net.specs.Laws.Prefixes.{prefix_refl}
use Rattle.protocol.specs.World.Covered.{AreCovered, AreCoveredSince, LeavesAsMuch, LeavesEither}
use Rattle.protocol.specs.World.Common.{EventView, ByNode, ByNetwork, Install, Release, output_of, outputs_of}
use Rattle.protocol.specs.World.Common.{OutputView, HasMoved, ReplyView, OutletView, StationView, IsRelease}
use Rattle.protocol.specs.World.Common.{IsStationStep, Setting, next_release}
use Rattle.protocol.specs.World.Growing.{EachBegins}
use Rattle.protocol_laws.specs.World.HandedLaws.{took_or_not, took_begins}
use Rattle.protocol_laws.specs.World.OrderLaws.{behind_itself}
use Rattle.protocol_laws.specs.World.OutputLaws.{map_at, set_cases}
use Rattle.protocol.specs.World.Pairs.{HasGrown}
use Rattle.protocol.specs.World.RecordSound.{CoversAll}
use Rattle.protocol.specs.World.Steps.{IsReleaseAt}
use Rattle.protocol.specs.declared.outcome.Outcome.{Outcome}

-- Outputs that begin with what they had

-- where they stay
pub begins_same : (xs : List OutputView) → EachBegins xs xs
begins_same xs = record {
  count = refl;
  begins = λ i output later h g. at output later (sym h ∙ g);
}
  where
    at : (output later : OutputView) → Some output ≡ Some later
        → (later.channel ≡ output.channel) × IsPrefix output.taken later.taken
    at output later e =
        let same : output ≡ later = cc in
        subst (λ (o : OutputView). (o.channel ≡ output.channel) × IsPrefix output.taken o.taken) same
        (refl, prefix_refl output.taken)

begins_still : (old new : StationView) → new.outlets ≡ old.outlets
    → EachBegins (outputs_of old.outlets) (outputs_of new.outlets)
begins_still old new same =
    subst (λ (outlets : List OutletView). EachBegins (outputs_of old.outlets) (outputs_of outlets)) (sym same)
    (begins_same (outputs_of old.outlets))

length_set : (xs : List OutputView) (j : ℕ) (y : OutputView) → length (slice_set xs j y) ≡ length xs
length_set [] j y = refl
length_set (z ∷ xs) zero y = refl
length_set (z ∷ xs) (suc j) y = ap suc (length_set xs j y)

-- where one of them has more
begins_set : (xs : List OutputView) (j : ℕ) (x y : OutputView) → slice_get xs j ≡ Some x → y.channel ≡ x.channel
    → IsPrefix x.taken y.taken → EachBegins xs (slice_set xs j y)
begins_set xs j x y is channel begins = record {
  count = length_set xs j y;
  begins = λ i output later h g. at i output later h (set_cases xs j i y later g);
}
  where
    some_same : (a b : OutputView) → Some a ≡ Some b → a ≡ b
    some_same a b e = cc

    at : (i : ℕ) (output later : OutputView) → slice_get xs i ≡ Some output
        → ((i ≡ j) × (y ≡ later)) ⊎ ((i ≢ j) × (slice_get xs i ≡ Some later))
        → (later.channel ≡ output.channel) × IsPrefix output.taken later.taken
    at i output later h (inl here) =
        let first : x ≡ output = some_same x output (sym is ∙ (ap (slice_get xs) (sym here.0) ∙ h)) in
        subst (λ (o : OutputView). (o.channel ≡ output.channel) × IsPrefix output.taken o.taken) here.1
        (subst (λ (o : OutputView). (y.channel ≡ o.channel) × IsPrefix o.taken y.taken) first (channel, begins))
    at i output later h (inr other) =
        let same : output ≡ later = some_same output later (sym h ∙ other.1) in
        subst (λ (o : OutputView). (o.channel ≡ output.channel) × IsPrefix output.taken o.taken) same
        (refl, prefix_refl output.taken)

release_begins : (round place : ℕ) (old : StationView) (answer : ReplyView) (new : StationView)
    → IsReleaseAt round place old answer new → EachBegins (outputs_of old.outlets) (outputs_of new.outlets)
release_begins round place old answer new step =
    let log = current_log step.outlet.channel old.node.mode in
    subst (λ (outputs : List OutputView). EachBegins (outputs_of old.outlets) outputs)
    (sym (ap (λ (s : StationView). outputs_of s.outlets) step.same
    ∙ map-set output_of old.outlets place step.later))
    (begins_set (outputs_of old.outlets) place (output_of step.outlet) (output_of step.later)
    (map_at output_of old.outlets place step.outlet step.there) step.handed.channel
    (took_begins log step.outlet.taken step.later.taken
    (took_or_not round log step.outlet answer step.later step.handed)))

release_or_not : (round : ℕ) (o : Option ℕ) (old : StationView) (answer : ReplyView) (new : StationView)
    → IsRelease round o old answer new → EachBegins (outputs_of old.outlets) (outputs_of new.outlets)
release_or_not round None old answer new step = begins_still old new (ap (λ (s : StationView). s.outlets) step.1)
release_or_not round (Some place) old answer new step = release_begins round place old answer new step

-- whatever event happens
pub step_begins : (setting : Setting) (room : RecordView → Bool) (e : EventView) (came : Outcome)
    (old : StationView) (answer : ReplyView) (new : StationView) → IsStationStep setting room e came old answer new
    → EachBegins (outputs_of old.outlets) (outputs_of new.outlets)
step_begins setting room (ByNode k deed) came old answer new step =
    begins_still old new (ap (λ (s : StationView). s.outlets) step.same)
step_begins setting room (Install done) came old answer new step =
    begins_still old new (ap (λ (s : StationView). s.outlets) step.same)
step_begins setting room (Release k) came old answer new step =
    release_or_not setting.round (next_release setting.round old) old answer new step
step_begins setting room (ByNetwork k place act) came old answer new step =
    begins_still old new (ap (λ (s : StationView). s.outlets) step.1)

-- What a crash leaves covers what has left

-- one of two records has put at least as much, where the next one isn't behind
either_as_much : (kept next : RecordView) (left : Whole) → IsBehind kept.permanent next.permanent
    → LeavesEither kept next left → LeavesAsMuch kept.permanent left
either_as_much kept next left ahead leaves =
    record {
      something = leaves.something;
      as_much =
          λ spelled is channel. at spelled channel (leaves.one_of spelled is);
    }
  where
    at : (spelled : RecordView) (channel : ℕ) → (spelled ≡ kept) ⊎ (spelled ≡ next)
        → sent_of kept.permanent channel ≤ sent_of spelled.permanent channel
    at spelled channel (inl same) = omega (arith, ap (λ (r : RecordView). sent_of r.permanent channel) same)
    at spelled channel (inr same) = let more = ahead.sent channel in
        omega (arith, more, ap (λ (r : RecordView). sent_of r.permanent channel) same)

module _ {C : Type 0} (moment : C → ℕ) (left_since : C → ℕ → Whole → Type 0)
    (may_leave : C → Whole → Type 0)
    (only_now : (cell : C) (left : Whole) → left_since cell (moment cell) left → may_leave cell left) where
  covered_by : (permanent : ImageView) (outputs : List OutputView) (left : Whole)
      → CoversAll permanent outputs → LeavesAsMuch permanent left → AreCovered left outputs
  covered_by permanent outputs left sound leaves = λ j output h.
      let few = sound j output h in
      record {
        something = leaves.something;
        covers = λ kept is. let more : sent_of permanent output.channel ≤ sent_of kept.permanent output.channel =
            leaves.as_much kept is output.channel in omega (arith, few, more);
      }

  module _ (kept next : RecordView) (new : ImageView) (before after : List OutletView) (cell cell' : C)
      (was : CoversAll kept.permanent (outputs_of before)) (is : CoversAll new (outputs_of after))
      (durable : (left : Whole) → may_leave cell' left → LeavesAsMuch new left)
      (ahead : IsBehind kept.permanent next.permanent)
      (moved : HasMoved moment left_since cell cell' kept next before after) where
    covered_then : AreCoveredSince moment left_since cell cell' (outputs_of after)
    covered_then left since = at moved.apart
      where
        at : (cell ≡ cell')
            ⊎ ((before ≡ after)
            × ((other : Whole) → left_since cell' (moment cell) other → LeavesEither kept next other))
            → AreCovered left (outputs_of after)
        at (inl same) =
            covered_by new (outputs_of after) left is
            (durable left (only_now cell' left (subst (λ (c : C). left_since cell' (moment c) left) same since)))
        at (inr through) =
            covered_by kept.permanent (outputs_of after) left
            (subst (λ (outlets : List OutletView). CoversAll kept.permanent (outputs_of outlets)) through.0 was)
            (either_as_much kept next left ahead (through.1 left since))

    -- where an event left a station sound, and its outputs begin with what they had
    pub has_grown : EachBegins (outputs_of before) (outputs_of after)
        → HasGrown moment left_since cell cell' (outputs_of before) (outputs_of after)
    has_grown begins = record { later = moved.later; begins = begins; covered = covered_then; apart = at moved.apart }
      where
        at : {P : Type 0} → (cell ≡ cell') ⊎ ((before ≡ after) × P)
            → (outputs_of before ≡ outputs_of after) ⊎ (cell ≡ cell')
        at (inl same) = inr same
        at (inr through) = inl (ap outputs_of through.0)

  -- a station that nobody touched
  pub still_grown : (kept : RecordView) (outlets : List OutletView) (cell : C)
      → CoversAll kept.permanent (outputs_of outlets)
      → ((left : Whole) → may_leave cell left → LeavesAsMuch kept.permanent left)
      → HasGrown moment left_since cell cell (outputs_of outlets) (outputs_of outlets)
  still_grown kept outlets cell sound durable =
      has_grown kept kept kept.permanent outlets outlets cell cell sound sound durable (behind_itself kept.permanent)
      (record { later = omega arith; apart = inl refl }) (begins_same (outputs_of outlets))
