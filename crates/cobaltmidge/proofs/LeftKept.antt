-- What had left of a run that was refused: the streams of a run, which are kept.
use Rattle.std.proofs.Common.{◌≡◌, ◌∙◌, ℕ, zero, suc, ℤ, false, List, [], ◌∷◌, length, map, Some, sym, ap, refl, subst, slice_get}
use Rattle.std.specs.List.{AllByRecursion}
use Rattle.std.proofs.Math.Logic.{∥∥₁_map}
use Rattle.std.proofs.lemmas.Bool.{false≢true}
use Rattle.kahn_net.specs.Laws.Prefixes.{prefix_nil}
use Rattle.outlet.specs.declared.outlet.Outlet.{Ghosts as OutletWords}
use Rattle.protocol.specs.Node.Common.{Network, approximation, history_of}
use Rattle.protocol.specs.World.Common.{are_quiet, output_channels, WorldView}
use Rattle.replay.specs.declared.kept.ScriptedEvent.{ScriptedEvent}
use Rattle.station.specs.declared.output.Output.{Output}
use Rattle.world.specs.OpeningWorld.{IsUnused}
use Rattle.world.specs.WholeView.{world_of}
use Rattle.cobaltmidge.specs.FirstWorld.{first_world}
use Rattle.cobaltmidge.specs.KeptOutlets.{taken_streams}
use Rattle.cobaltmidge.specs.KeptRuns.{IsKeptSoFar, IsKeptWhereRefused}
use Rattle.cobaltmidge.specs.Remaining.{IsFarFrom, IsLeft, streams_left}
use Rattle.cobaltmidge.specs.Runs.{IsRun, released_streams}
use Rattle.cobaltmidge.specs.declared.settings.Settings.{Settings}
use Rattle.cobaltmidge.specs.declared.state_error.StateFault.{StateFault}
use Rattle.cobaltmidge.specs.declared.state_error.StateFault.TheVariants.{Unread, NotText, Refused, Files, Kept}
use Rattle.cobaltmidge.specs.declared.unfinished.Left.{Left}
use Rattle.cobaltmidge.specs.declared.unfinished.Left.TheVariants as left
use Rattle.cobaltmidge.proofs.Turns.{run_stays}

same_stream : (x y : List ℤ) → Some x ≡ Some y → x ≡ y
same_stream x y same = cc

module _ {O : Type 0} (taken : O → List ℤ) where
  -- outlets that took nothing have no item
  nothing : (outputs : List (Output O)) → AllByRecursion (IsUnused taken) outputs → (j : ℕ) (items : List ℤ)
      → slice_get (taken_streams taken outputs) j ≡ Some items → items ≡ []
  nothing [] unused j items there = absurd (cc)
  nothing (output ∷ outputs) unused zero items there = sym (same_stream (taken output.outlet) items there) ∙ unused.0
  nothing (output ∷ outputs) unused (suc j) items there = nothing outputs unused.1 j items there

  as_many : (outputs : List (Output O))
      → length (taken_streams taken outputs) ≡ length (map (λ (output : Output O). output.channel) outputs)
  as_many [] = refl
  as_many (output ∷ outputs) = ap suc (as_many outputs)

  -- of a run that didn't begin nothing has left
  unbegun : (net : Network) (inputs : List (List ℤ)) (outputs : List (Output O))
      → map (λ (output : Output O). output.channel) outputs ≡ output_channels 0 net.channels
      → AllByRecursion (IsUnused taken) outputs → IsRun net inputs (taken_streams taken outputs) false
  unbegun net inputs outputs listed unused = record {
    count = as_many outputs ∙ ap length listed;
    prefix = ∣ (
      0,
      λ j channel items is there.
          prefix_nil items (history_of (approximation net inputs 0) channel) (nothing outputs unused j items there),
    ) ∣₁;
    whole = λ done. absurd (false≢true done);
  }

-- what had left of a run that came to no end, where it is kept
pub left_so_far : {O : Type 0} {outlet : OutletWords O} (settings : Settings) (net : Network) (inputs : List (List ℤ))
    (script : List ScriptedEvent) (outputs : List (Output O)) (kept : List (List ℤ) → Type 0) (it : Left O outlet)
    → map (λ (output : Output O). output.channel) outputs ≡ output_channels 0 net.channels
    → AllByRecursion (IsUnused outlet.taken) outputs → IsLeft settings net inputs script outputs it → kept (streams_left it)
    → ∥ IsKeptSoFar net inputs kept ∥₁
left_so_far {O} {outlet} settings net inputs script outputs kept (left.Outputs back) listed unused is has = ∣ record {
  streams = taken_streams outlet.taken back.items;
  complete = false;
  is_run = subst (λ (os : List (Output O)). IsRun net inputs (taken_streams outlet.taken os) false) (sym is)
      (unbegun outlet.taken net inputs outputs listed unused);
  has_kept = has;
} ∣₁
left_so_far settings net inputs script outputs kept (left.World world history) listed unused is has =
    ∥∥₁_map (run_stays _ script (first_world net inputs settings.room) (world_of world) is.1.run) (λ same. record {
      streams = released_streams net (world_of world).stations;
      complete = are_quiet (world_of world);
      is_run = is.0;
      has_kept = subst (λ (n : Network). kept (released_streams n (world_of world).stations)) same.0 has;
    })

-- what is kept by one account is kept by another
pub refused_maps : (net : Network) (inputs : List (List ℤ)) (kept other : List (List ℤ) → Type 0)
    → ((streams : List (List ℤ)) → kept streams → other streams) → (fault : StateFault)
    → IsKeptWhereRefused net inputs kept fault → IsKeptWhereRefused net inputs other fault
refused_maps net inputs kept other more (Unread fault) is = tt
refused_maps net inputs kept other more NotText is = tt
refused_maps net inputs kept other more (Refused error) is = ∥∥₁_map is (λ it. record {
  streams = it.streams;
  complete = it.complete;
  is_run = it.is_run;
  has_kept = more it.streams it.has_kept;
})
refused_maps net inputs kept other more (Files fault) is = tt
refused_maps net inputs kept other more (Kept fault) is = tt

-- of one that may have gone on
pub far_so_far : {O : Type 0} {outlet : OutletWords O} (settings : Settings) (net : Network) (inputs : List (List ℤ))
    (script : List ScriptedEvent) (first : WorldView) (kept : List (List ℤ) → Type 0) (it : Left O outlet)
    → (first.net ≡ net) × (first.inputs ≡ inputs) → IsFarFrom first settings script it → kept (streams_left it)
    → ∥ IsKeptSoFar net inputs kept ∥₁
far_so_far settings net inputs script first kept (left.Outputs back) begins is has = absurd is
far_so_far settings net inputs script first kept (left.World world history) begins is has =
    ∥∥₁_map (run_stays _ script first (world_of world) is.1.run) (λ same. record {
      streams = released_streams net (world_of world).stations;
      complete = are_quiet (world_of world);
      is_run = subst (λ (i : List (List ℤ)). IsRun net i (released_streams net (world_of world).stations) (are_quiet (world_of world)))
          begins.1
          (subst (λ (n : Network). IsRun n first.inputs (released_streams n (world_of world).stations) (are_quiet (world_of world)))
          begins.0 is.0);
      has_kept = subst (λ (n : Network). kept (released_streams n (world_of world).stations)) (same.0 ∙ begins.0) has;
    })
