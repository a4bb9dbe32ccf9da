-- Of each network there is a run in which a node crashes, the world is opened again, and the run begins again.
use Rattle.std.proofs.Common.{◌≡◌, inl, inr, ℕ, zero, suc, ◌<◌, Bool, true, false, ℤ, List, [], ◌∷◌, All, length, map}
use Rattle.std.proofs.Common.{replicate, Option, Some, None, refl, sym, ap, subst, ◌∙◌, arith}
use Rattle.std.specs.Prelude.{not, slice_get, slice_set}
use Rattle.std.proofs.Math.Logic.{∥∥₁_map}
use Rattle.std.proofs.lemmas.List.Elements.{All-nil}
use Rattle.std.proofs.lemmas.Option.{slice_get_cases}
use Rattle.kahn_net.specs.Laws.Prefixes.{prefixes_refl}
use Rattle.kahn_net.specs.Streams.{ArePrefixes}
use Rattle.protocol.specs.Node.Common.{crashed, Fits, if_due, is_down, IsMade, IsPacket, IsPut, IsValid, Network}
use Rattle.protocol.specs.Node.Common.{node_count, packets_by, Prospect, restart_after, room_for, round_later}
use Rattle.protocol.specs.Node.Common.{RecordView}
use Rattle.protocol.specs.Node.Plans.{becoming}
use Rattle.protocol.specs.World.Common.{ByNode, IsActOf, IsPlanned, IsStep, moved_to, opening_world, output_channels}
use Rattle.protocol.specs.World.Common.{outputs_of, OutletView, OutputView, records_of, round_after, setting_of}
use Rattle.protocol.specs.World.Common.{StationView, traffic_after, WorldInvariant, WorldView}
use Rattle.protocol.specs.World.OpeningWorld.{opening_outlet}
use Rattle.protocol.specs.World.Steps.{crash_plan}
use Rattle.protocol.specs.declared.event.Deed.TheVariants as event
use Rattle.protocol.specs.declared.outcome.Outcome.TheVariants.{Made}
use Rattle.protocol.specs.declared.reply.Reply.TheVariants as reply
use Rattle.protocol.specs.World.Growing.{EachBegins}
use Rattle.protocol_laws.specs.World.GrowLaws.{begins_same}
use Rattle.protocol_laws.specs.World.OpenLaws.{station_from}
use Rattle.protocol_laws.specs.World.OutputLaws.{map_at}
use Rattle.protocol_laws.specs.World.StepKeeps.{step_keeps}
use Rattle.starting_again.proofs.Leaving.{leaves_its_own, one_opens, opens_soundly}
use Rattle.starting_again.specs.WasLeft.{OpensOver, outputs_left}
use Rattle.whole_run.proofs.Begun.{begins_soundly}
use Rattle.whole_run.proofs.Inside.{left_alike, set_alike}
use Rattle.whole_run.specs.Beginnings.{Begins}
use Rattle.whole_run.specs.Example.{IsShortRun, ShortRunIsThere}
use Rattle.whole_run.specs.Moments.{Between}

-- ---- the world with which it begins

-- an outlet that took nothing
abbrev new_outlet : ℕ → OutletView
new_outlet c = record { channel = c; taken = []; failed = None; failures = 0 }

channels_new : (channels : List ℕ) → map (λ (o : OutletView). o.channel) (map new_outlet channels) ≡ channels
channels_new [] = refl
channels_new (c ∷ channels) = ap (λ (cs : List ℕ). c ∷ cs) (channels_new channels)

unused_new : (channels : List ℕ) (j : ℕ) (outlet : OutletView) → slice_get (map new_outlet channels) j ≡ Some outlet
    → outlet.taken ≡ []
unused_new [] j outlet is = absurd (cc)
unused_new (c ∷ channels) zero outlet is =
    let same : new_outlet c ≡ outlet = cc in sym (ap (λ (o : OutletView). o.taken) same)
unused_new (c ∷ channels) (suc j) outlet is = unused_new channels j outlet is

as_many : (count : ℕ) → length {A = ℕ} (replicate count 0) ≡ count
as_many zero = refl
as_many (suc count) = ap suc (as_many count)

module _ (net : Network) (inputs : List (List ℤ)) (valid : IsValid net) (fits : Fits net inputs) where
  abbrev outlets : List OutletView
  outlets = map new_outlet (output_channels 0 net.channels)

  abbrev failures : List ℕ
  failures = replicate (node_count net) 0

  abbrev first : WorldView
  first = opening_world net inputs failures outlets

  begins : Begins first
  begins = record {
    valid = valid;
    fits = fits;
    how = inl (record {
      failures = failures;
      outlets = outlets;
      each = as_many (node_count net);
      listed = channels_new (output_channels 0 net.channels);
      unused = unused_new (output_channels 0 net.channels);
      is = refl;
    });
  }

  sound : WorldInvariant first
  sound = begins_soundly first begins

  -- ---- node 0 crashes

  record IsUpAt0 : Type 0 where
    pub station : StationView
    pub there : slice_get first.stations 0 ≡ Some station
    pub up : is_down station.node.mode ≡ false

  node_0 : IsUpAt0
  node_0 = elim (slice_get_cases first.stations 0).1 [
    | inl there ↦
        let opened = station_from net (node_count net) 0 failures (map opening_outlet outlets) 0 there.0 there.2 in
        record {
          station = there.0;
          there = there.2;
          up = ap (λ (s : StationView). is_down s.node.mode) opened.1;
        }
    | inr past ↦ absurd (
        let few = past.0 in
        let count = sound.count in
        let some : 0 < node_count net = omega arith in
        omega (arith, few, count, some))
  ]

  abbrev station : StationView
  station = node_0.station

  abbrev later : StationView
  later = moved_to (crashed (round_later 0 0) station.node) station.failures station.turns station

  abbrev any_room : RecordView → Bool
  any_room kept = true

  abbrev rooms : List (RecordView → Bool)
  rooms = map (λ (s : StationView). any_room) first.stations

  plan_is : (crash_plan (round_later 0 0) station).prospect ≡ becoming (crashed (round_later 0 0) station.node)
  plan_is = ap (λ (b : Bool). if_due (not b) (becoming (crashed (round_later 0 0) station.node))) node_0.up

  crashes : IsPlanned any_room 0 (crash_plan (round_later 0 0) station) Made station reply.Crashed later
  crashes = record {
    call = 0;
    step = subst (λ (p : Prospect). IsMade (restart_after station.node.armed 0 0) p station.node Made later.node)
        (sym plan_is) refl;
    put = subst (λ (p : Prospect). IsPut (room_for any_room p) station.failures station.failures Made) (sym plan_is)
        (refl, refl);
    answers = refl;
    allowed = subst (λ (p : Prospect). All IsPacket (packets_by p Made)) (sym plan_is) (All-nil IsPacket);
    same = refl;
  }

  abbrev crash : WorldView
  crash =
      let stations = slice_set first.stations 0 later in
      record {
        net = net;
        inputs = inputs;
        stations = stations;
        traffic = traffic_after (setting_of first) (ByNode 0 (event.Crash 0 0)) Made reply.Crashed
            (slice_get first.stations 0);
        round = round_after reply.Crashed 0 stations;
        rooms = first.rooms;
      }

  abbrev Acted : Option (RecordView → Bool) → Option StationView → Type 0
  Acted room o = IsActOf (setting_of first) 0 room o (ByNode 0 (event.Crash 0 0)) Made first.stations reply.Crashed
      crash.stations

  step : IsStep rooms (ByNode 0 (event.Crash 0 0)) first reply.Crashed crash
  step = record {
    net = refl;
    inputs = refl;
    came = Made;
    act = subst (λ (room : Option (RecordView → Bool)). Acted room (slice_get first.stations 0))
        (sym (map_at (λ (s : StationView). any_room) first.stations 0 station node_0.there))
        (subst (λ (o : Option StationView). Acted (Some any_room) o) (sym node_0.there)
        (record { later = later; step = crashes; stations = refl }));
    traffic = refl;
    round = refl;
    rooms = refl;
  }

  crash_sound : WorldInvariant crash
  crash_sound = step_keeps rooms (ByNode 0 (event.Crash 0 0)) first reply.Crashed crash sound step

  nothing_left : outputs_left crash ≡ outputs_left first
  nothing_left =
      left_alike first.stations crash.stations
      (set_alike (λ (s : StationView). outputs_of s.outlets) first.stations 0 station later node_0.there refl)
      (output_channels 0 net.channels)

  -- ---- and it is opened, and begins again

  short : (opened : WorldView) → OpensOver net inputs (records_of crash.stations) (outputs_left crash) opened
      → IsShortRun net inputs first crash opened
  short opened opens = record {
    of_net = refl;
    of_inputs = refl;
    begins = begins;
    fits = rooms;
    event = step;
    stop = opens;
    again = record {
      begins = begins;
      same_net = sym opens.same_net;
      later = record {
        longer = subst (λ (is : List (List ℤ)). ArePrefixes is inputs) (sym opens.same_inputs) (prefixes_refl inputs);
        fits = subst (λ (n : Network). Fits n inputs) (sym opens.same_net) fits;
      };
      records = records_of opened.stations;
      outputs = outputs_left opened;
      ended = Between refl refl;
      kept = subst (λ (os : List OutputView). EachBegins os (outputs_left first))
          (sym ((opens_soundly net inputs (records_of crash.stations) (outputs_left crash) opened
          (leaves_its_own crash crash_sound) opens).1 ∙ nothing_left))
          (begins_same (outputs_left first));
    };
  }

pub short_run_is_there : ShortRunIsThere
short_run_is_there net inputs valid fits =
    let crashed_world = crash net inputs valid fits in
    ∥∥₁_map (one_opens net inputs (records_of crashed_world.stations) (outputs_left crashed_world)
    (leaves_its_own crashed_world (crash_sound net inputs valid fits)))
    (λ opened. (first net inputs valid fits, crashed_world, opened.0, short net inputs valid fits opened.0 opened.1))
