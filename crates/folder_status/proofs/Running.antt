-- Processes that were run again, and what their outputs took.
use Rattle.std.proofs.Common.{◌≡◌, ◌∙◌, ℕ, zero, suc, Bool, true, false, Result, Ok, Err, ℤ, List, [], ◌∷◌, length, map, replicate, Some, refl, sym, subst, ap, arith}
use Rattle.std.specs.List.{AllByRecursion}
use Rattle.std.specs.Prelude.{slice_get, slice_index, slice_index_or, IfOk, IsTrue, not}
use Rattle.std.proofs.Math.Logic.{∥∥₁_map}
use Rattle.kahn_net.specs.Approximations.{approximation}
use Rattle.kahn_net.specs.Laws.Prefixes.{prefix_nil}
use Rattle.kahn_net.specs.Streams.{history_of}
use Rattle.world.specs.OpeningWorld.{IsUnused}
use Rattle.kahn_net.specs.Syntax.{Network}
use Rattle.protocol.specs.World.Common.{output_channels, OutputView}
use Rattle.rerun.specs.Tables.{first_table, HasRerun, IsAtRest, KeepsLimits, log_on, no_log, TableView}
use Rattle.rerun.specs.Resting.{IsAll}
use Rattle.rerun.specs.declared.stopped.Stopped.TheVariants.{Rests}
use Rattle.rerun.specs.Whole.{net_in, table_in}
use Rattle.rerun.specs.declared.stopped.Stopped.{Stopped}
use Rattle.resuming.specs.CatchingUp.{HaveGoneOn, HaveTakenAll, StoppedSince}
use Rattle.retained.specs.LogState.{log_end}
use Rattle.station.specs.OutputView.{output_view, outputs_view}
use Rattle.station.specs.declared.output.Output.{Output}
use Rattle.folder_status.specs.Endings.{HasCome, IsStopped, limits_from}
use Rattle.folder_status.specs.declared.kept.KeptOutput.{KeptOutput}
use Rattle.folder_status.specs.declared.again.Again.{Again}
use Rattle.folder_status.proofs.Judging.{as_taken}

-- what holds of a network and its inputs holds of the same ones
pub at_same : (P : Network → List (List ℤ) → Type 0) (net net' : Network) (inputs inputs' : List (List ℤ)) → net' ≡ net → inputs' ≡ inputs
    → P net inputs → P net' inputs'
at_same P net net' inputs inputs' one other holds = subst (λ (n : Network). P n inputs') (sym one) (subst (P net) (sym other) holds)

-- the channels of outputs are those of their views
channels_are : (outputs : List (Output (List ℤ))) → map (λ (output : OutputView). output.channel) (outputs_view as_taken outputs)
    ≡ map (λ (output : Output (List ℤ)). output.channel) outputs
channels_are [] = refl
channels_are (x ∷ outputs) = ap (λ (cs : List ℕ). x.channel ∷ cs) (channels_are outputs)

-- outputs that have gone on are the network's still
pub listed_still : (net net' : Network) (before after : List (Output (List ℤ))) → net' ≡ net
    → HaveGoneOn (outputs_view as_taken before) (outputs_view as_taken after)
    → map (λ (output : Output (List ℤ)). output.channel) before ≡ output_channels 0 net.channels
    → map (λ (output : Output (List ℤ)). output.channel) after ≡ output_channels 0 net'.channels
listed_still net net' before after same gone listed =
    sym (channels_are after)
    ∙ (gone.channels
    ∙ (channels_are before ∙ (listed ∙ ap (λ (n : Network). output_channels 0 n.channels) (sym same))))

-- nothing is in the logs before any process has begun
first_end : (count c : ℕ) → log_end (slice_index_or (replicate count no_log) c no_log) ≡ 0
first_end zero c = refl
first_end (suc count) zero = refl
first_end (suc count) (suc c) = first_end count c

first_base : (count c : ℕ) → (slice_index_or (replicate count no_log) c no_log).base ≡ 0
first_base zero c = refl
first_base (suc count) zero = refl
first_base (suc count) (suc c) = first_base count c

nothing_taken : (outputs : List (Output (List ℤ))) → AllByRecursion (IsUnused as_taken) outputs → (j : ℕ) (output : OutputView)
    → slice_get (outputs_view as_taken outputs) j ≡ Some output → output.taken ≡ []
nothing_taken [] unused j output is = absurd cc
nothing_taken (x ∷ outputs) unused zero output is =
    let same : output_view as_taken x ≡ output = cc in ap (λ (o : OutputView). o.taken) (sym same) ∙ unused.0
nothing_taken (x ∷ outputs) unused (suc j) output is = nothing_taken outputs unused.1 j output is

-- so outlets that took nothing have taken all
pub none_taken : (net : Network) (inputs : List (List ℤ)) (t : TableView) (outputs : List (Output (List ℤ))) → t ≡ first_table net
    → AllByRecursion (IsUnused as_taken) outputs → HaveTakenAll net inputs t (outputs_view as_taken outputs)
none_taken net inputs t outputs first unused j output is =
    let none = nothing_taken outputs unused j output is in
    let count : length output.taken ≡ 0 = ap length none in
    let end = ap (λ (table : TableView). log_end (log_on table output.channel)) first ∙ first_end (length net.channels) output.channel in
    let base = ap (λ (table : TableView). (log_on table output.channel).base) first ∙ first_base (length net.channels) output.channel in
    record {
      agrees = record {
        stream = ∣ (0, prefix_nil output.taken (history_of (approximation net inputs 0) output.channel) none) ∣₁;
        in_log = record { from_base = omega (arith, base, count); to_end = omega (arith, end, count) };
      };
      all = count ∙ sym end;
      let_go = base ∙ sym count;
    }

-- where the processes have come to
pub come : (net : Network) (inputs : List (List ℤ)) (kept : List KeptOutput) (got : List ℕ) (t first : TableView) (room : ℕ) (stopped : Stopped)
    (limits : List ℕ) → limits ≡ limits_from kept room 0 0 net.channels → first ≡ first_table net → ∥ HasRerun net inputs t ∥₁
    → StoppedSince net inputs limits t stopped → KeepsLimits net limits first t → got ≡ t.got → HasCome net inputs kept got
come net inputs kept got t first room stopped limits are begun rerun since keeps is = record {
  table = t;
  inner = room;
  stopped = stopped;
  rerun = rerun;
  since = subst (λ (l : List ℕ). StoppedSince net inputs l t stopped) are since;
  within = λ c channel here outside.
      let most = keeps c channel here outside in
      let none = ap (λ (table : TableView). log_end (log_on table c)) begun ∙ first_end (length net.channels) c in
      let same = ap (λ (l : List ℕ). slice_index l c) are in
      omega (arith, most, none, same);
  is = is;
}

-- as many
pub as_many : {A B : Type 0} (f : A → ℕ) (g : B → ℕ) (xs : List A) (ys : List B) (all : List ℕ) → map f xs ≡ all → map g ys ≡ all
    → length ys ≡ length xs
as_many f g xs ys all one other = sym (count g ys) ∙ (ap length other ∙ (sym (ap length one) ∙ count f xs))
  where
    count : {C : Type 0} (h : C → ℕ) (zs : List C) → length (map h zs) ≡ length zs
    count h [] = refl
    count h (z ∷ zs) = ap suc (count h zs)

-- that processes which rest have put all that there is, where none is about to put
pub all_by : (net : Network) (inputs : List (List ℤ)) (t : TableView) (stopped : Stopped) (waits : Bool) → IsStopped net inputs t stopped
    → stopped ≡ Rests → (waits ≡ false → (limits : List ℕ) → IsAtRest net inputs limits t → IsAll net inputs t) → IsTrue (not waits)
    → ∥ IsAll net inputs t ∥₁
all_by net inputs t stopped true since is all said = absurd cc
all_by net inputs t stopped false since is all said =
    ∥∥₁_map since (λ s. all refl s.0 (subst (StoppedSince net inputs s.0 t) is s.1))

-- the limits of a run that was made
pub within_by : {E : Type 0} (result : Result Again E) (net : Network) (limits : List ℕ) (first : TableView) (kept : List KeptOutput) (room : ℕ)
    → limits ≡ limits_from kept room 0 0 net.channels → first ≡ first_table net → IfOk result (λ a. net_in a.rerun ≡ net)
    → IfOk result (λ a. KeepsLimits net limits first (table_in a.rerun))
    → IfOk result (λ a. KeepsLimits (net_in a.rerun) (limits_from kept room 0 0 (net_in a.rerun).channels) (first_table (net_in a.rerun)) (table_in a.rerun))
within_by {E} (Err e) net limits first kept room are begun same keeps = tt
within_by {E} (Ok a) net limits first kept room are begun same keeps =
    subst (λ (n : Network). KeepsLimits n (limits_from kept room 0 0 n.channels) (first_table n) (table_in a.rerun)) (sym same)
    (subst (λ (l : List ℕ). KeepsLimits net l (first_table net) (table_in a.rerun)) are
    (subst (λ (t : TableView). KeepsLimits net limits t (table_in a.rerun)) begun keeps))
