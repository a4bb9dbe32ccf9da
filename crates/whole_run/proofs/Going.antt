-- What has left goes on over whatever happens.
use Rattle.std.proofs.Common.{inl, inr, List, refl, sym, subst, ◌∙◌}
use Rattle.growing.proofs.GoingOn.{goes_on, goes_on_then}
use Rattle.growing.specs.LaterInputs.{AreLaterInputs, with_inputs}
use Rattle.growing.specs.WhateverComes.{ByEvent as BecomesByEvent, ByInputs, ByRooms as BecomesByRooms, ByStart}
use Rattle.growing.specs.WhateverComes.{HasGoneOn}
use Rattle.kahn_net.specs.Laws.Prefixes.{prefix_refl, prefixes_refl}
use Rattle.protocol.specs.Node.Common.{Network, RecordView}
use Rattle.protocol.specs.World.Common.{OutputView, released_of, WorldInvariant, WorldView}
use Rattle.protocol_laws.specs.World.PrefixLaws.{released_prefix}
use Rattle.protocol_laws.specs.World.ReleasedLaws.{released_is_right}
use Rattle.starting_again.specs.StartsAgain.{WorldStartsAgain}
use Rattle.starting_again.specs.WasLeft.{IsLeftBy, OpensAt, OpensOver}
use Rattle.whole_run.proofs.Inside.{leads_inside, LeadsToLeft, stays_itself}
use Rattle.whole_run.proofs.Starting.{opens_again}
use Rattle.whole_run.specs.Moments.{Between, Inside, MayLie}
use Rattle.whole_run.specs.Runs.{ByEvent, ByItems, ByNothing, ByRooms, ByStop, GoesOn}

-- a world goes on to itself
pub stays : (world : WorldView) → WorldInvariant world → HasGoneOn world world
stays world inv = record {
  sound = inv;
  same_net = refl;
  longer = prefixes_refl world.inputs;
  approximated = released_prefix world inv;
  streams = released_is_right world inv;
  kept = λ c. prefix_refl (released_of c world.stations);
}

-- ---- what lies there at a moment

pub lies : (world : WorldView) (records : List RecordView) (outputs : List OutputView) → WorldInvariant world
    → MayLie world records outputs → LeadsToLeft world records outputs
lies world records outputs inv (Between same left) = stays_itself world records outputs same left
lies world records outputs inv (Inside fits event answer next step there) =
    leads_inside fits event world answer next records outputs inv step there.of_nodes there.of_outlets

module _ (world : WorldView) (records : List RecordView) (outputs : List OutputView) (inv : WorldInvariant world)
    (leads : LeadsToLeft world records outputs) where
  pub goes_there : HasGoneOn world leads.next
  goes_there = elim leads.comes [
    | inl same ↦ subst (HasGoneOn world) (sym same) (stays world inv)
    | inr event ↦ goes_on world leads.next inv (BecomesByEvent event.0 event.1 event.2 event.3)
  ]

  pub left_by : IsLeftBy world.net world.inputs records outputs leads.next
  left_by = record {
    true_before = goes_there.sound;
    same_net = leads.same_net;
    same_inputs = leads.same_inputs;
    records_are = leads.records_are;
    outputs_are = leads.outputs_are;
  }

-- ---- a stop

-- the world that is opened, were it on the inputs of before
abbrev pub on_inputs_of : WorldView → WorldView → WorldView
on_inputs_of old new = with_inputs old.inputs new

module _ (old new : WorldView) (records : List RecordView) (outputs : List OutputView) (inv : WorldInvariant old)
    (leads : LeadsToLeft old records outputs) (later : AreLaterInputs old.net old.inputs new.inputs)
    (opens : OpensOver old.net new.inputs records outputs new) where
  next_left : IsLeftBy leads.next.net leads.next.inputs records outputs leads.next
  next_left = record {
    true_before = (goes_there old records outputs inv leads).sound;
    same_net = refl;
    same_inputs = refl;
    records_are = leads.records_are;
    outputs_are = leads.outputs_are;
  }

  opened_before : OpensOver leads.next.net leads.next.inputs records outputs (on_inputs_of old new)
  opened_before = record {
    same_net = opens.same_net ∙ sym leads.same_net;
    same_inputs = sym leads.same_inputs;
    records_are = opens.records_are;
    stations = λ place station is.
        subst (λ (net : Network). OpensAt net outputs place station) (sym leads.same_net)
        (opens.stations place station is);
    nothing = opens.nothing;
  }

  pub starts_again : WorldStartsAgain leads.next (on_inputs_of old new)
  starts_again = opens_again leads.next (on_inputs_of old new) records outputs next_left opened_before

  pub goes_on_opened : HasGoneOn leads.next (on_inputs_of old new)
  goes_on_opened =
      goes_on leads.next (on_inputs_of old new) (goes_there old records outputs inv leads).sound (ByStart starts_again)

  later_then : AreLaterInputs (on_inputs_of old new).net (on_inputs_of old new).inputs new.inputs
  later_then = subst (λ (net : Network). AreLaterInputs net old.inputs new.inputs) (sym opens.same_net) later

  pub goes_on_stopped : HasGoneOn old new
  goes_on_stopped =
      goes_on_then old leads.next new (goes_there old records outputs inv leads)
      (goes_on_then leads.next (on_inputs_of old new) new goes_on_opened
      (goes_on (on_inputs_of old new) new goes_on_opened.sound (ByInputs new.inputs later_then refl)))

-- ---- one thing after another, while the disks are there

pub goes : (old new : WorldView) → WorldInvariant old → GoesOn old new → HasGoneOn old new
goes old new inv (ByEvent fits event answer step) = goes_on old new inv (BecomesByEvent fits event answer step)
goes old new inv (ByRooms rooms is) = goes_on old new inv (BecomesByRooms rooms is)
goes old new inv (ByItems inputs later is) = goes_on old new inv (ByInputs inputs later is)
goes old new inv (ByNothing same) = subst (HasGoneOn old) (sym same) (stays old inv)
goes old new inv (ByStop records outputs there later opens) =
    goes_on_stopped old new records outputs inv (lies old records outputs inv there) later opens
