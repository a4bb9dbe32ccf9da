-- Some world leaves what the nodes have there.
use Rattle.std.proofs.Common.{◌≡◌, ℕ, ◌+◌, ℤ, List, [], map, Some, refl, sym, ap, subst, ◌∙◌, arith}
use Rattle.std.specs.Prelude.{slice_get}
use Rattle.std.proofs.Math.Logic.{∥∥₁_map}
use Rattle.protocol.specs.Node.Common.{Fits, IsValid, Network, node_count}
use Rattle.protocol.specs.World.Common.{HasRun, is_output, opening_traffic, OutletView, output_channels, OutputView}
use Rattle.protocol.specs.World.Common.{StationView, WorldInvariant, world_seen}
use Rattle.protocol_laws.specs.Node.ImageLaws.{map_got}
use Rattle.protocol_laws.specs.World.OutputLaws.{channel_there, map_at, same_output}
use Rattle.protocol_laws.specs.World.ShownLaws.{output_shown}
use Rattle.rerun.proofs.Meant.{places}
use Rattle.rerun.specs.Places.{IsPlace}
use Rattle.rerun.specs.Tables.{TableView, IsInOrder}
use Rattle.resuming.proofs.Lists.{kept_there}
use Rattle.resuming.proofs.Standing.{own_listed}
use Rattle.resuming.proofs.Starts.{start}
use Rattle.resuming.proofs.Stations.{as_many, joined, kept_from, numbered, outlet_there, sound, station_is}
use Rattle.resuming.proofs.Stations.{station_there, stations_there, world_there}
use Rattle.resuming.specs.Images.{records_there}
use Rattle.resuming.specs.Resuming.{IsLeftThere, MayResume}
use Rattle.starting_again.proofs.Again.{carries_nothing, nothing_opened, traffic_again}
use Rattle.starting_again.proofs.Leaving.{AreBy, by_channels}
use Rattle.starting_again.specs.WasLeft.{IsLeftBy, output_left, outputs_at}

module _ (net : Network) (inputs : List (List ℤ)) (t : TableView) (outputs : List OutputView) (valid : IsValid net)
    (fits : Fits net inputs) (ordered : IsInOrder net inputs t) (may : MayResume net inputs t outputs)
    (place : IsPlace net inputs t) where
  ran : HasRun net (stations_there net t outputs) opening_traffic
  ran = record {
    sent = [];
    reached = record {
      start = world_seen (stations_there net t outputs) [];
      may = start net inputs t outputs valid fits ordered may place;
      worlds = [];
      run = refl;
    };
    carries = carries_nothing opening_traffic nothing_opened;
    flown = λ told was. absurd (cc);
  }

  invariant : WorldInvariant (world_there net inputs t outputs)
  invariant = record {
    valid = valid;
    fits = fits;
    count = as_many net t outputs;
    numbered = numbered net t outputs;
    stations = sound net t outputs inputs valid fits ordered may place;
    joined = joined net t outputs;
    traffic = traffic_again net inputs opening_traffic nothing_opened;
    run = ∣ ran ∣₁;
  }

  -- each output shows what the world does
  shown : AreBy (output_left (stations_there net t outputs)) outputs
  shown j output is =
      let listed : slice_get (output_channels 0 net.channels) j ≡ Some (output.channel) =
      ap (λ (cs : List ℕ). slice_get cs j) (sym may.listed)
      ∙ map_at (λ (o : OutputView). o.channel) outputs j output is in
      let there = channel_there 0 net.channels j output.channel listed in
      let number : there.0 ≡ output.channel = (let sum : 0 + there.0 ≡ there.0 = omega arith in sym sum ∙ sym there.2) in
      let on : slice_get net.channels output.channel ≡ Some there.1 =
      ap (slice_get net.channels) (sym number) ∙ there.3 in
      let seen = output_shown (world_there net inputs t outputs) invariant output.channel there.1 on there.4 in
      let home = seen.home in
      let same : seen.at.station ≡ station_there net t outputs home =
      (station_is net t outputs home seen.at.station seen.at.here).1 in
      let at : slice_get (station_there net t outputs home).outlets seen.at.shown.place ≡ Some seen.at.shown.outlet =
      subst (λ (s : StationView). slice_get s.outlets seen.at.shown.place ≡ Some seen.at.shown.outlet) same
      seen.at.shown.there in
      let given = map_got outlet_there (outputs_at net home outputs) seen.at.shown.place seen.at.shown.outlet at in
      let own = kept_there (λ (o : OutputView). is_output net home o.channel) outputs j output is seen.output in
      let one_channel : output.channel ≡ given.0.channel =
      sym (ap (λ (o : OutletView). o.channel) given.2 ∙ seen.at.shown.channel) in
      let place_is = same_output net home (outputs_at net home outputs)
      (own_listed net inputs t outputs valid fits ordered may place home) own.0 seen.at.shown.place output given.0 own.1
      given.1 one_channel in
      let both : Some output ≡ Some (given.0) =
      sym own.1 ∙ (ap (slice_get (outputs_at net home outputs)) place_is ∙ given.1) in
      let alike : output ≡ given.0 = cc in
      ap (λ (items : List ℤ). record { channel = output.channel; taken = items })
      (ap (λ (o : OutputView). o.taken) alike
      ∙ (ap (λ (o : OutletView). o.taken) given.2 ∙ sym seen.at.shown.shows))

  left : IsLeftBy net inputs (records_there net t) outputs (world_there net inputs t outputs)
  left = record {
    true_before = invariant;
    same_net = refl;
    same_inputs = refl;
    records_are = kept_from net t outputs 0 (node_count net);
    outputs_are =
        ap (map (output_left (stations_there net t outputs))) (sym may.listed)
        ∙ sym (by_channels (output_left (stations_there net t outputs)) outputs shown);
  }

pub is_left_there : IsLeftThere
is_left_there net inputs t outputs valid fits ordered rerun may =
    ∥∥₁_map rerun (λ ran. (
      world_there net inputs t outputs,
      left net inputs t outputs valid fits ordered may
          (places net inputs t valid fits ran),
    ))
