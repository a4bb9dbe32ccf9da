-- A run that goes on where its outputs stopped.
use Rattle.std.proofs.Common.{◌≡◌, ◌<◌, ◌+◌, ◌++◌, ℕ, zero, suc, ℤ, Bool, true, false, List, [], ◌∷◌, drop, get_or, length, map, replicate, Some, refl, sym, ap, subst}
use Rattle.std.proofs.Common.{◌∙◌, append_assoc, arith}
use Rattle.std.proofs.Math.Seq.{drop-cons}
use Rattle.std.specs.List.{AllByRecursion}
use Rattle.std.specs.Prelude.{slice_get, slice_index_or}
use Rattle.kahn_net.specs.Laws.Prefixes.{prefix_nil}
use Rattle.protocol.specs.Node.Common.{approximation, Channel, history_of, log_end, LogState, Network, node_count}
use Rattle.protocol.specs.Node.Sharing.{even_rooms}
use Rattle.protocol.specs.World.Common.{output_channels, OutletView, OutputView, with_rooms, WorldView}
use Rattle.rerun.specs.Tables.{first_table, HasRerun, KeepsLimits, log_on, no_log, TableView}
use Rattle.rerun.specs.declared.stopped.Stopped.{Stopped}
use Rattle.resuming.specs.CatchingUp.{HasCaughtUp, HaveTakenAll, StoppedSince}
use Rattle.resuming.specs.Images.{records_there}
use Rattle.resuming.specs.Resuming.{Agrees}
use Rattle.station.specs.OutputView.{output_view, outputs_view}
use Rattle.station.specs.StationView.{outlet_views}
use Rattle.station.specs.declared.output.Output.{Output}
use Rattle.world.specs.OpeningWorld.{IsUnused}
use Rattle.world.specs.Reopening.{world_again}
use Rattle.cobaltmidge.specs.Beginning.{BeginsBehind, held_behind, held_nothing, IsBeginning, IsWorldAgain, left_by, limit_of, limits_from, limits_of}
use Rattle.cobaltmidge.specs.FirstWorld.{first_world, nearest_room}

-- nothing was put before any process has begun
none_logged : (count c : ℕ) → slice_index_or (replicate count no_log) c no_log ≡ no_log
none_logged zero c = refl
none_logged (suc count) zero = refl
none_logged (suc count) (suc c) = none_logged count c

module _ {O : Type 0} (taken : O → List ℤ) where
  pub channels_are : (outputs : List (Output O))
      → map (λ (output : OutputView). output.channel) (outputs_view taken outputs)
      ≡ map (λ (output : Output O). output.channel) outputs
  channels_are [] = refl
  channels_are (x ∷ outputs) = ap (λ (cs : List ℕ). x.channel ∷ cs) (channels_are outputs)

  nothing_taken : (outputs : List (Output O)) → AllByRecursion (IsUnused taken) outputs → (j : ℕ) (output : OutputView)
      → slice_get (outputs_view taken outputs) j ≡ Some output → output.taken ≡ []
  nothing_taken [] unused j output is = absurd (cc)
  nothing_taken (x ∷ outputs) unused zero output is =
      let same : output_view taken x ≡ output = cc in ap (λ (o : OutputView). o.taken) (sym same) ∙ unused.0
  nothing_taken (x ∷ outputs) unused (suc j) output is = nothing_taken outputs unused.1 j output is

  -- outlets that took nothing have taken all, before any process has begun
  pub none_taken : (net : Network) (inputs : List (List ℤ)) (t : TableView) (outputs : List (Output O))
      → t ≡ first_table net → AllByRecursion (IsUnused taken) outputs
      → HaveTakenAll net inputs t (outputs_view taken outputs)
  none_taken net inputs t outputs first unused j output is =
      let none = nothing_taken outputs unused j output is in
      let count : length output.taken ≡ 0 = ap length none in
      let log : log_on t output.channel ≡ no_log =
      ap (λ (x : TableView). log_on x output.channel) first ∙ none_logged (length net.channels) output.channel in
      let base = ap (λ (l : LogState). l.base) log in
      let end = ap log_end log in
      record {
        agrees = record {
          stream = ∣ (0, prefix_nil output.taken (history_of (approximation net inputs 0) output.channel) none) ∣₁;
          in_log = record { from_base = omega (arith, base, count); to_end = omega (arith, end, count) };
        };
        all = count ∙ sym end;
        let_go = base ∙ sym count;
      }

  pub all_agree : (net : Network) (inputs : List (List ℤ)) (t : TableView) (outputs : List (Output O))
      → HaveTakenAll net inputs t (outputs_view taken outputs)
      → AllByRecursion (λ (output : Output O). Agrees net inputs t (output_view taken output)) outputs
  all_agree net inputs t [] all = tt
  all_agree net inputs t (x ∷ outputs) all = (
    (all 0 (output_view taken x) refl).agrees,
    all_agree net inputs t outputs (λ j output is. all (suc j) output is),
  )

  -- what these outlets took, as what has left
  pub views_left : (failures : O → ℕ) (outputs : List (Output O))
      → map left_by (outlet_views taken failures outputs) ≡ outputs_view taken outputs
  views_left failures [] = refl
  views_left failures (x ∷ outputs) = ap (λ (views : List OutputView). output_view taken x ∷ views) (views_left failures outputs)

  pub channels_of : (failures : O → ℕ) (outputs : List (Output O))
      → map (λ (outlet : OutletView). outlet.channel) (outlet_views taken failures outputs)
      ≡ map (λ (output : Output O). output.channel) outputs
  channels_of failures [] = refl
  channels_of failures (x ∷ outputs) = ap (λ (cs : List ℕ). x.channel ∷ cs) (channels_of failures outputs)

-- how far processes were run again that were run so far on another network, which is this one
pub record HasStopped (net : Network) (inputs : List (List ℤ)) (held : List ℕ) (t : TableView) (stopped : Stopped)
    (outlets : List OutletView) : Type 0 where
  pub since : StoppedSince net inputs (limits_of net.channels held) t stopped
  pub within : KeepsLimits net (limits_of net.channels held) (first_table net) t
  pub taken : HaveTakenAll net inputs t (map left_by outlets)

pub has_stopped : (net other : Network) (inputs others : List (List ℤ)) (held limits : List ℕ) (before : List OutputView)
    (old t : TableView) (after : List OutputView) (stopped : Stopped) (outlets : List OutletView) → other ≡ net → others ≡ inputs
    → limits ≡ limits_of net.channels held → old ≡ first_table net → map left_by outlets ≡ after
    → HasCaughtUp other others limits old before t after stopped → HasStopped net inputs held t stopped outlets
has_stopped net other inputs others held limits before old t after stopped outlets same_net same_inputs limits_are first left caught =
    let here : HasCaughtUp net inputs limits old before t after stopped = rw (same_net, same_inputs) at caught in
    record {
      since = subst (λ (ls : List ℕ). StoppedSince net inputs ls t stopped) limits_are here.since;
      within = subst (λ (ls : List ℕ). KeepsLimits net ls (first_table net) t) limits_are
          (subst (λ (x : TableView). KeepsLimits net limits x t) first here.within);
      taken = subst (λ (os : List OutputView). HaveTakenAll net inputs t os) (sym left) here.taken;
    }

-- the world that begins there, once its rooms are set
pub again : (net other : Network) (inputs others : List (List ℤ)) (room : ℕ) (held : List ℕ) (t : TableView) (failed : List ℕ)
    (outlets : List OutletView) (opened first : WorldView) (stopped : Stopped) → HasStopped net inputs held t stopped outlets
    → map (λ (outlet : OutletView). outlet.channel) outlets ≡ output_channels 0 net.channels → other ≡ net → others ≡ inputs
    → ∥ HasRerun other others t ∥₁ → failed ≡ replicate (node_count net) 0
    → opened ≡ world_again other others (records_there other t) failed outlets
    → first ≡ with_rooms (even_rooms (nearest_room room)) opened → IsWorldAgain net inputs room held first
again net other inputs others room held t failed outlets opened first stopped far listed same_net same_inputs rerun never opening set = record {
  table = t;
  rerun = rw (same_net, same_inputs) at rerun;
  stopped = stopped;
  since = far.since;
  within = far.within;
  outlets = outlets;
  listed = listed;
  taken = far.taken;
  is = set
      ∙ ap (with_rooms (even_rooms (nearest_room room)))
      (opening
      ∙ (ap (λ (list : List ℕ). world_again other others (records_there other t) list outlets) never
      ∙ (ap (λ (n : Network). world_again n others (records_there n t) (replicate (node_count net) 0) outlets) same_net
      ∙ ap (λ (i : List (List ℤ)). world_again net i (records_there net t) (replicate (node_count net) 0) outlets)
      same_inputs)));
}

-- a run that goes on where outputs held nothing, and where they held something
pub begins_first : (none : Bool) (net : Network) (inputs : List (List ℤ)) (room : ℕ) (held : List ℕ) (first : WorldView)
    → none ≡ held_nothing held → none ≡ true → first ≡ first_world net inputs room → IsBeginning (Some held) net inputs room first
begins_first none net inputs room held first is nothing begins =
    subst (λ (b : Bool). BeginsBehind b net inputs room held first) (sym nothing ∙ is) begins

pub begins_again : (none : Bool) (net : Network) (inputs : List (List ℤ)) (room : ℕ) (held : List ℕ) (first : WorldView)
    → none ≡ held_nothing held → none ≡ false → IsWorldAgain net inputs room held first
    → IsBeginning (Some held) net inputs room first
begins_again none net inputs room held first is something begins =
    subst (λ (b : Bool). BeginsBehind b net inputs room held first) (sym something ∙ is) begins

-- one more channel was looked at
pub limits_next : (inner : ℕ) (held behind : List ℕ) (channels : List Channel) (k limit : ℕ) (d : Channel) (before now whole : List ℕ)
    → k < length channels → before ++ limits_from inner held (drop k channels) ≡ whole → now ≡ before ++ limit ∷ []
    → limit ≡ limit_of inner held (get_or channels k d) → behind ≡ held_behind held (get_or channels k d)
    → now ++ limits_from inner behind (drop (k + 1) channels) ≡ whole
limits_next inner held behind channels k limit d before now whole within so_far added limit_is behind_is =
    let channel = get_or channels k d in
    let next : suc k ≡ k + 1 = omega arith in
    let rest : List ℕ → ℕ → List ℕ = λ list n. limits_from inner list (drop n channels) in
    ap (λ (n : ℕ). now ++ rest behind n) (sym next)
    ∙ (ap (λ (list : List ℕ). now ++ rest list (suc k)) behind_is
    ∙ (ap (λ (list : List ℕ). list ++ rest (held_behind held channel) (suc k)) (added ∙ ap (λ (n : ℕ). before ++ n ∷ []) limit_is)
    ∙ (append_assoc before (limit_of inner held channel ∷ []) (rest (held_behind held channel) (suc k))
    ∙ (ap (λ (list : List Channel). before ++ limits_from inner held list) (sym (drop-cons channels k d within)) ∙ so_far))))
