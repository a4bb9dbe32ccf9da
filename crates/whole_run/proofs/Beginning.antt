-- A run begins with the worlds that the calls of `world` and `resuming` make.
use Rattle.std.proofs.Common.{◌≡◌, inl, inr, ℕ, zero, suc, ◌+◌, ◌<◌, ℤ, List, [], ◌∷◌, length, map, Some, refl, sym, ap}
use Rattle.std.proofs.Common.{subst, ◌∙◌, arith}
use Rattle.std.specs.Prelude.{slice_get}
use Rattle.std.specs.List.{AllByRecursion}
use Rattle.std.proofs.lemmas.List.{length-map}
use Rattle.protocol.specs.Node.Common.{LogsAreWithin, Network, node_count, RecordView}
use Rattle.protocol.specs.World.Common.{opening_world, output_channels, OutletView, OutputView, records_of, StationView}
use Rattle.protocol.specs.World.Common.{WorldInvariant, WorldView}
use Rattle.protocol_laws.specs.Node.ImageLaws.{map_got}
use Rattle.rerun.specs.Tables.{HasRerun, IsInOrder, TableView}
use Rattle.resuming.specs.Images.{image_of, KeepsShares, record_of, records_from, records_there}
use Rattle.resuming.specs.Resuming.{Agrees, MayResume}
use Rattle.starting_again.specs.WasLeft.{OpensOver}
use Rattle.station.specs.OutputView.{output_view, outputs_view}
use Rattle.station.specs.StationView.{outlet_view, outlet_views}
use Rattle.station.specs.declared.output.Output.{Output}
use Rattle.world.specs.OpeningWorld.{IsUnused}
use Rattle.whole_run.proofs.Premises.{channels_shown}
use Rattle.whole_run.specs.Beginnings.{Begins, IsRunAgain}

-- ---- one that was made

channels_viewed : {O : Type 0} (taken : O → List ℤ) (failures : O → ℕ) (outputs : List (Output O))
    → map (λ (outlet : OutletView). outlet.channel) (outlet_views taken failures outputs)
    ≡ map (λ (output : Output O). output.channel) outputs
channels_viewed taken failures [] = refl
channels_viewed taken failures (output ∷ outputs) =
    ap (λ (rest : List ℕ). output.channel ∷ rest) (channels_viewed taken failures outputs)

unused_viewed : {O : Type 0} (taken : O → List ℤ) (failures : O → ℕ) (outputs : List (Output O))
    → AllByRecursion (IsUnused taken) outputs → (j : ℕ) (outlet : OutletView)
    → slice_get (outlet_views taken failures outputs) j ≡ Some outlet → outlet.taken ≡ []
unused_viewed taken failures [] unused j outlet is = absurd (cc)
unused_viewed taken failures (output ∷ outputs) unused zero outlet is =
    let same : outlet_view taken failures output ≡ outlet = cc in
    sym (ap (λ (o : OutletView). o.taken) same) ∙ unused.0
unused_viewed taken failures (output ∷ outputs) unused (suc j) outlet is =
    unused_viewed taken failures outputs unused.1 j outlet is

pub new_begins : {D O : Type 0} (taken : O → List ℤ) (failures : O → ℕ) (failed : D → ℕ) (net : Network)
    (inputs : List (List ℤ)) (disks : List D) (outputs : List (Output O)) (world : WorldView) → WorldInvariant world
    → length disks ≡ node_count net
    → map (λ (output : Output O). output.channel) outputs ≡ output_channels 0 net.channels
    → AllByRecursion (IsUnused taken) outputs
    → world ≡ opening_world net inputs (map failed disks) (outlet_views taken failures outputs) → Begins world
new_begins taken failures failed net inputs disks outputs world inv each listed unused is =
    record {
      valid = inv.valid;
      fits = inv.fits;
      how = inl (record {
        failures = map failed disks;
        outlets = outlet_views taken failures outputs;
        each = length-map disks failed ∙ (each ∙ sym (ap node_count same_net));
        listed = channels_viewed taken failures outputs
            ∙ (listed ∙ sym (ap (λ (n : Network). output_channels 0 n.channels) same_net));
        unused = unused_viewed taken failures outputs unused;
        is = is
            ∙ sym (ap
            (λ (n : Network). opening_world n world.inputs (map failed disks) (outlet_views taken failures outputs))
            same_net
            ∙ ap (λ (i : List (List ℤ)). opening_world net i (map failed disks) (outlet_views taken failures outputs))
            same_inputs);
      });
    }
  where
    same_net : world.net ≡ net
    same_net = ap (λ (w : WorldView). w.net) is

    same_inputs : world.inputs ≡ inputs
    same_inputs = ap (λ (w : WorldView). w.inputs) is

-- ---- one that was opened where the processes were run again

agree_each : {O : Type 0} (taken : O → List ℤ) (net : Network) (inputs : List (List ℤ)) (t : TableView)
    (outputs : List (Output O))
    → AllByRecursion (λ (output : Output O). Agrees net inputs t (output_view taken output)) outputs
    → (j : ℕ) (output : OutputView) → slice_get (outputs_view taken outputs) j ≡ Some output
    → Agrees net inputs t output
agree_each taken net inputs t [] agree j output is = absurd (cc)
agree_each taken net inputs t (x ∷ outputs) agree zero output is =
    let same : output_view taken x ≡ output = cc in subst (Agrees net inputs t) same agree.0
agree_each taken net inputs t (x ∷ outputs) agree (suc j) output is =
    agree_each taken net inputs t outputs agree.1 j output is

kept_is : (net : Network) (t : TableView) (number count home : ℕ) → home < count
    → slice_get (records_from net t number count) home ≡ Some (record_of net t (number + home))
kept_is net t number zero home below = absurd (omega (arith, below))
kept_is net t number (suc count) zero below =
    let sum : number ≡ number + 0 = omega arith in ap (λ (n : ℕ). Some (record_of net t n)) sum
kept_is net t number (suc count) (suc home) below =
    let sum : suc number + home ≡ number + suc home = omega arith in
    kept_is net t (suc number) count home (omega (arith, below)) ∙ ap (λ (n : ℕ). Some (record_of net t n)) sum

-- what a world keeps of its images is within their shares
keeps_shares : (net : Network) (t : TableView) (world : WorldView) → WorldInvariant world
    → records_of world.stations ≡ records_there net t → (home : ℕ) → home < node_count net
    → KeepsShares (image_of net t home)
keeps_shares net t world inv kept home below k saved log is logged =
    let sum : 0 + home ≡ home = omega arith in
    let there : slice_get (records_of world.stations) home ≡ Some (record_of net t home) =
    ap (λ (records : List RecordView). slice_get records home) kept
    ∙ (kept_is net t 0 (node_count net) home below ∙ ap (λ (n : ℕ). Some (record_of net t n)) sum) in
    let had = map_got (λ (s : StationView). s.node.kept) world.stations home (record_of net t home) there in
    let sound = subst (λ (r : RecordView). LogsAreWithin r.permanent) had.2
    (inv.stations home had.0 had.1).kept.permanent.logs in
    (sound k saved log is logged).count

-- what is so where the processes were run again on a network and inputs
abbrev AreThere : TableView → List OutputView → WorldView → Network → List (List ℤ) → Type 0
AreThere t outputs world net inputs =
    IsInOrder net inputs t × ∥ HasRerun net inputs t ∥₁ × MayResume net inputs t outputs
    × OpensOver net inputs (records_there net t) outputs world

pub resumed_begins : {O : Type 0} (taken : O → List ℤ) (net : Network) (inputs : List (List ℤ)) (t : TableView)
    (outputs : List (Output O)) (world : WorldView) → WorldInvariant world → IsInOrder net inputs t
    → ∥ HasRerun net inputs t ∥₁
    → map (λ (output : Output O). output.channel) outputs ≡ output_channels 0 net.channels
    → AllByRecursion (λ (output : Output O). Agrees net inputs t (output_view taken output)) outputs
    → OpensOver net inputs (records_there net t) (outputs_view taken outputs) world → Begins world
resumed_begins {O} taken net inputs t outputs world inv ordered rerun listed agree opens =
    record { valid = inv.valid; fits = inv.fits; how = inr again }
  where
    there : AreThere t (outputs_view taken outputs) world net inputs
    there = (
      ordered,
      rerun,
      record {
        listed = channels_shown taken outputs ∙ listed;
        agree = agree_each taken net inputs t outputs agree;
        shares = keeps_shares net t world inv opens.records_are;
      },
      opens,
    )

    here : AreThere t (outputs_view taken outputs) world world.net world.inputs
    here =
        subst (AreThere t (outputs_view taken outputs) world world.net) (sym opens.same_inputs)
        (subst (λ (n : Network). AreThere t (outputs_view taken outputs) world n inputs) (sym opens.same_net) there)

    again : IsRunAgain world
    again = record {
      table = t;
      outputs = outputs_view taken outputs;
      ordered = here.0;
      rerun = here.1;
      may = here.2;
      opens = here.3;
    }
