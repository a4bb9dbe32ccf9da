-- What a world's outlets took are the streams of a run.
use Rattle.std.proofs.Common.{◌≡◌, ◌∙◌, arith, ap, length, map, subst, suc, sym, refl, Bool, List, [], ◌∷◌, Some, ℕ, ℤ}
use Rattle.std.specs.Prelude.{IsTrue, slice_get}
use Rattle.std.proofs.Math.Logic.{∥∥₁_elim, ∥∥₁_map, ∥∥₁_prop}
use Rattle.protocol.specs.Node.Common.{history_of, IsPrefix, Network, approximation}
use Rattle.protocol.specs.World.Common.{output_channels, WorldView, output_of, outputs_of, are_quiet}
use Rattle.protocol.specs.World.Common.{WorldInvariant, OutputView, StationView, released_of}
use Rattle.protocol.specs.World.Quiet.{AreWhole}
use Rattle.protocol_laws.specs.World.OutputLaws.{channel_there, map_at}
use Rattle.protocol_laws.specs.World.PrefixLaws.{released_prefix}
use Rattle.protocol_laws.specs.World.QuietLaws.{quiet_is_whole}
use Rattle.protocol_laws.specs.World.ShownLaws.{output_shown}
use Rattle.cobaltmidge.specs.Runs.{IsRun, released_streams}

-- of the streams of a world each is one that the station of its producer's node has
module _ (world : WorldView) (inv : WorldInvariant world) where
  same_items : (j c : ℕ) (items : List ℤ) → slice_get (output_channels 0 world.net.channels) j ≡ Some c
      → slice_get (released_streams world.net world.stations) j ≡ Some items → items ≡ released_of c world.stations
  same_items j c items is there =
      let at : Some items ≡ Some (released_of c world.stations) =
      sym there
      ∙ map_at (λ (channel : ℕ). released_of channel world.stations) (output_channels 0 world.net.channels) j c
      is in
      cc

  -- each is of an output of a station
  streams_are : (P : List ℤ → ℕ → Type 0)
      → ((i : ℕ) (station : StationView) → slice_get world.stations i ≡ Some station → (j : ℕ) (output : OutputView)
      → slice_get (outputs_of station.outlets) j ≡ Some output → P output.taken output.channel)
      → (j c : ℕ) (items : List ℤ) → slice_get (output_channels 0 world.net.channels) j ≡ Some c
      → slice_get (released_streams world.net world.stations) j ≡ Some items → P items c
  streams_are P all j c items is there =
      let entry = channel_there 0 world.net.channels j c is in
      let sum : c ≡ entry.0 = (let place = entry.2 in omega (arith, place)) in
      let shown = output_shown world inv c entry.1 (ap (slice_get world.net.channels) sum ∙ entry.3) entry.4 in
      let one = shown.at.shown in
      subst (λ (list : List ℤ). P list c) (sym (same_items j c items is there ∙ one.shows))
      (subst (P one.outlet.taken) one.channel
      (all shown.home shown.at.station shown.at.here one.place (output_of one.outlet)
      (map_at output_of shown.at.station.outlets one.place one.outlet one.there)))

length_map : (f : ℕ → List ℤ) (cs : List ℕ) → length (map f cs) ≡ length cs
length_map f [] = refl
length_map f (c ∷ cs) = ap suc (length_map f cs)

-- what has left a world are the streams of a run
world_run : (world : WorldView) (complete : Bool) → WorldInvariant world → (IsTrue complete → AreWhole world)
    → IsRun world.net world.inputs (released_streams world.net world.stations) complete
world_run world complete inv whole = record {
  count = length_map (λ (channel : ℕ). released_of channel world.stations) (output_channels 0 world.net.channels);
  prefix =
      ∥∥₁_map (released_prefix world inv)
      (λ a. (
        a.0,
        streams_are world inv
            (λ items c. IsPrefix items (history_of (approximation world.net world.inputs a.0) c)) a.1,
      ));
  whole = λ done. ∥∥₁_map (whole done)
      (λ a. (
        a.0,
        a.1,
        streams_are world inv
            (λ items c. items ≡ history_of (approximation world.net world.inputs a.0) c) a.2,
      ));
}

-- the same of a world that is of this network and these inputs
run_of : (world : WorldView) (net : Network) (inputs : List (List ℤ)) (complete : Bool) → world.net ≡ net
    → world.inputs ≡ inputs → WorldInvariant world → (IsTrue complete → AreWhole world)
    → IsRun net inputs (released_streams net world.stations) complete
run_of world net inputs complete same_net same_inputs inv whole =
    subst (λ (n : Network). IsRun n inputs (released_streams n world.stations) complete) same_net
    (subst (λ (i : List (List ℤ)). IsRun world.net i (released_streams world.net world.stations) complete) same_inputs
    (world_run world complete inv whole))

-- the same, where that is only known to be so
pub run_at_end : (world : WorldView) (net : Network) (inputs : List (List ℤ))
    → ∥ (world.net ≡ net) × (world.inputs ≡ inputs) ∥₁ → WorldInvariant world
    → IsRun net inputs (released_streams net world.stations) (are_quiet world)
run_at_end world net inputs same inv = record {
  count = length_map (λ (channel : ℕ). released_of channel world.stations) (output_channels 0 net.channels);
  prefix = ∥∥₁_elim same ∥∥₁_prop (λ s. (of s.0 s.1).prefix);
  whole = λ done. ∥∥₁_elim same ∥∥₁_prop (λ s. (of s.0 s.1).whole done);
}
  where
    of : world.net ≡ net → world.inputs ≡ inputs
        → IsRun net inputs (released_streams net world.stations) (are_quiet world)
    of same_net same_inputs =
        run_of world net inputs (are_quiet world) same_net same_inputs inv (quiet_is_whole world inv)
