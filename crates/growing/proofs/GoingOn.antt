-- Whatever becomes of a world, it is sound, and what has left only grows.
use Rattle.std.proofs.Common.{◌≡◌, ℕ, suc, Bool, ℤ, List, [], ◌∷◌, Option, Some, None, refl, sym, subst, ◌∙◌, arith}
use Rattle.std.specs.List.{AllZip}
use Rattle.std.specs.Prelude.{◌==◌, find, slice_get}
use Rattle.std.proofs.lemmas.Option.{get_or_from_slice_get, slice_get_within}
use Rattle.kahn_net.specs.Laws.Prefixes.{prefix_refl, prefix_trans, prefixes_refl, prefixes_trans}
use Rattle.kahn_net.specs.Streams.{ArePrefixes}
use Rattle.protocol.specs.Node.Common.{IsPrefix, RecordView}
use Rattle.protocol.specs.World.Common.{EventView, event_node, IsActOf, IsStep, output_of, outputs_of, OutletView}
use Rattle.protocol.specs.World.Common.{released_of, ReplyView, Setting, setting_of, StationView, taken_or}
use Rattle.protocol.specs.World.Common.{WorldInvariant, WorldView}
use Rattle.protocol.specs.World.Coordination.{last_of}
use Rattle.protocol.specs.World.Growing.{EachBegins}
use Rattle.protocol.specs.declared.outcome.Outcome.{Outcome}
use Rattle.protocol_laws.specs.World.GrowLaws.{begins_same, step_begins}
use Rattle.protocol_laws.specs.World.PairLaws.{pairs_refl, pairs_set}
use Rattle.protocol_laws.specs.World.PrefixLaws.{released_prefix}
use Rattle.protocol_laws.specs.World.ReleasedLaws.{released_is_right}
use Rattle.protocol_laws.specs.World.StepKeeps.{rooms_keep_world, step_keeps}
use Rattle.growing.proofs.Feeding.{stays_sound}
use Rattle.growing.specs.Laws.{GoesOnWhateverComes}
use Rattle.growing.specs.WhateverComes.{Becomes, ByEvent, ByInputs, ByRooms, ByStart, HasGoneOn}
use Rattle.starting_again.proofs.Again.{has_the_same, keeps_again}

-- ---- what has left by an event begins with what had left

-- what these outlets took by a channel, or else the others
abbrev found : ℕ → List OutletView → List ℤ → List ℤ
found c outlets others = taken_or (find (λ (outlet : OutletView). outlet.channel == c) outlets) others

found_begins : (c : ℕ) (xs ys : List OutletView) (less more : List ℤ) → EachBegins (outputs_of xs) (outputs_of ys)
    → IsPrefix less more → IsPrefix (found c xs less) (found c ys more)
found_begins c [] [] less more each front = front
found_begins c [] (y ∷ ys) less more each front = let none = each.count in absurd (cc)
found_begins c (x ∷ xs) [] less more each front = let none = each.count in absurd (cc)
found_begins c (x ∷ xs) (y ∷ ys) less more each front =
    let first = each.begins 0 (output_of x) (output_of y) refl refl in
    let count = each.count in
    let rest : EachBegins (outputs_of xs) (outputs_of ys) = record { count = cc; begins = λ j. each.begins (suc j) } in
    let later = found_begins c xs ys less more rest front in
    grind (arith, first, later)

-- what has left of each station begins with what had left there
abbrev EachHas : StationView → StationView → Type 0
EachHas old new = EachBegins (outputs_of old.outlets) (outputs_of new.outlets)

released_begins : (c : ℕ) (olds news : List StationView) → AllZip EachHas olds news
    → IsPrefix (released_of c olds) (released_of c news)
released_begins c [] [] each = refl
released_begins c [] (y ∷ ys) each = absurd each
released_begins c (x ∷ xs) [] each = absurd each
released_begins c (x ∷ xs) (y ∷ ys) each =
    found_begins c x.outlets y.outlets (released_of c xs) (released_of c ys) each.0 (released_begins c xs ys each.1)

same_stations : (stations : List StationView) → AllZip EachHas stations stations
same_stations stations = pairs_refl EachHas stations (λ i station is. begins_same (outputs_of station.outlets))

act_begins : (setting : Setting) (place : ℕ) (room : Option (RecordView → Bool)) (o : Option StationView)
    (e : EventView)
    (came : Outcome) (old : List StationView) (answer : ReplyView) (new : List StationView) → slice_get old place ≡ o
    → IsActOf setting place room o e came old answer new → AllZip EachHas old new
act_begins setting place None o e came old answer new there act =
    subst (AllZip EachHas old) (sym act.1) (same_stations old)
act_begins setting place (Some room) None e came old answer new there act =
    subst (AllZip EachHas old) (sym act.1) (same_stations old)
act_begins setting place (Some room) (Some station) e came old answer new there act =
    subst (AllZip EachHas old) (sym act.stations)
    (pairs_set EachHas old place station act.later (λ i z is. begins_same (outputs_of z.outlets))
    (slice_get_within old place station there) (sym (get_or_from_slice_get old place station station there))
    (step_begins setting room e came station answer act.later act.step))

step_keeps_left : (fits : List (RecordView → Bool)) (e : EventView) (old : WorldView) (answer : ReplyView)
    (new : WorldView) → IsStep fits e old answer new → (c : ℕ)
    → IsPrefix (released_of c old.stations) (released_of c new.stations)
step_keeps_left fits e old answer new step c =
    released_begins c old.stations new.stations
    (act_begins (setting_of old) (event_node e) (slice_get fits (event_node e)) (slice_get old.stations (event_node e))
    e step.came old.stations answer new.stations refl step.act)

-- ---- one world after the other

gone_on : (first last : WorldView) → WorldInvariant last → last.net ≡ first.net → ArePrefixes first.inputs last.inputs
    → ((c : ℕ) → IsPrefix (released_of c first.stations) (released_of c last.stations)) → HasGoneOn first last
gone_on first last inv net longer kept =
    record {
      sound = inv;
      same_net = net;
      longer = longer;
      approximated = released_prefix last inv;
      streams = released_is_right last inv;
      kept = kept;
    }

-- the inputs are the same, or are later ones
same_inputs : (old new : WorldView) → new.inputs ≡ old.inputs → ArePrefixes old.inputs new.inputs
same_inputs old new same =
    subst (λ (inputs : List (List ℤ)). ArePrefixes old.inputs inputs) (sym same) (prefixes_refl old.inputs)

pub goes_on : (old new : WorldView) → WorldInvariant old → Becomes old new → HasGoneOn old new
goes_on old new inv (ByEvent fits event answer step) =
    gone_on old new (step_keeps fits event old answer new inv step) step.net (same_inputs old new step.inputs)
    (step_keeps_left fits event old answer new step)
goes_on old new inv (ByInputs inputs later is) =
    subst (HasGoneOn old) (sym is)
    (gone_on old _ (stays_sound old inputs inv later) refl later.longer (λ c. prefix_refl (released_of c old.stations)))
goes_on old new inv (ByRooms rooms is) =
    subst (HasGoneOn old) (sym is)
    (gone_on old _ (rooms_keep_world old rooms inv) refl (prefixes_refl old.inputs)
    (λ c. prefix_refl (released_of c old.stations)))
goes_on old new inv (ByStart again) =
    gone_on old new (keeps_again old new inv again) again.net (same_inputs old new again.inputs)
    (λ c. subst (IsPrefix (released_of c old.stations)) (sym ((has_the_same old new again).0 c))
    (prefix_refl (released_of c old.stations)))

pub goes_on_then : (first next last : WorldView) → HasGoneOn first next → HasGoneOn next last → HasGoneOn first last
goes_on_then first next last one other =
    gone_on first last other.sound (other.same_net ∙ one.same_net) (prefixes_trans _ _ _ one.longer other.longer)
    (λ c. prefix_trans _ _ _ (one.kept c) (other.kept c))

pub goes_on_whatever_comes : GoesOnWhateverComes
goes_on_whatever_comes world [] inv all =
    gone_on world world inv refl (prefixes_refl world.inputs) (λ c. prefix_refl (released_of c world.stations))
goes_on_whatever_comes world (next ∷ worlds) inv all =
    let one = goes_on world next inv all.0 in
    goes_on_then world next (last_of next worlds) one (goes_on_whatever_comes next worlds one.sound all.1)
