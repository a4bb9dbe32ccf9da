-- Steps of the abstract machine between worlds of stations: one station acts, hears what was sent, or changes unseen.
use Rattle.std.proofs.Common.{◌≡◌, inl, inr, ℕ, zero, suc, List, [], ◌∷◌, ◌++◌, length, Some, refl, sym, ap, ◌∙◌}
use Rattle.std.specs.Prelude.{slice_get, slice_set}
use Rattle.std.proofs.Math.Path.{fun_ext}
use Rattle.std.proofs.lemmas.List.{map-set}
use Rattle.recovery_line.proofs.Basics.{same_or_other}
use Rattle.protocol.specs.World.Common.{Net, NodeStep, record_seen, Packet, World, Step, Reachable}
use Rattle.protocol.specs.World.Common.{Leads, WasSent, mode_seen, node_seen, world_seen, records_of, records_seen}
use Rattle.protocol.specs.World.Common.{outlets_seen, released_of, StationView}
use Rattle.recovery_line.specs.Nodes.{Node}
use Rattle.recovery_line.specs.Packets.{Hears}
use Rattle.recovery_line.specs.Worlds.{node_of, OnlyAt, Acts, Comes, Run}
use Rattle.protocol.specs.Join.Runs.{KeepRecords, WriteAtFirst}
use Rattle.protocol.specs.Join.Seen.{mode_or_new, modes_seen}
use Rattle.protocol.specs.World.RecoveryLine.{record_or_new}
use Rattle.protocol_laws.specs.World.OutputLaws.{map_at}
use Rattle.protocol_laws.specs.World.PairLaws.{elsewhere_set}

-- ---- runs

pub run_behind : (net : Net) (w u v : World) (first later : List World) → Run net w first u → Run net u later v
    → Run net w (first ++ later) v
run_behind net w u v [] later one other = rw one other
run_behind net w u v (x ∷ first) later one other = (one.0, run_behind net x u v first later one.1 other)

-- a world that steps led to, and steps that lead on from there
pub reached_then : (net : Net) (w v : World) → Reachable net w → Leads net w v → Reachable net v
reached_then net w v reached leads = record {
  start = reached.start;
  may = reached.may;
  worlds = reached.worlds ++ leads.worlds;
  run = run_behind net reached.start w v reached.worlds leads.worlds reached.run leads.run;
}

pub leads_here : (net : Net) (w v : World) → v ≡ w → Leads net w v
leads_here net w v same = record { worlds = []; run = sym same; once = tt }

pub leads_by : (net : Net) (w v : World) → Step net w v → Leads net w v
leads_by net w v step = record { worlds = v ∷ []; run = (step, refl); once = tt }

-- from a world that is the same
pub leads_from : (net : Net) (w u v : World) → u ≡ w → Leads net u v → Leads net w v
leads_from net w u v same leads = rw same at leads

-- a run on which no record is written ends with the records with which it began
pub records_at_end : (net : Net) (w v : World) (worlds : List World) → Run net w worlds v → KeepRecords w worlds
    → v.records ≡ w.records
records_at_end net w v [] run keeps = ap (λ (x : World). x.records) (sym run)
records_at_end net w v (u ∷ worlds) run keeps =
    records_at_end net u v worlds run.1 (kept_from worlds keeps.1) ∙ keeps.0
  where
    kept_from : (others : List World) → KeepRecords w others → KeepRecords u others
    kept_from [] kept = tt
    kept_from (x ∷ others) kept = (kept.0 ∙ sym keeps.0, kept_from others kept.1)

keeps_behind : (w v : World) (worlds : List World) → KeepRecords w worlds → v.records ≡ w.records
    → KeepRecords w (worlds ++ (v ∷ []))
keeps_behind w v [] keeps same = (same, tt)
keeps_behind w v (u ∷ worlds) keeps same = (keeps.0, keeps_behind w v worlds keeps.1 same)

-- one step more, which writes no record
pub leads_then : (net : Net) (w u v : World) → Leads net w u → Step net u v → v.records ≡ u.records → Leads net w v
leads_then net w u v leads step same = by leads.worlds leads.run leads.once
  where
    by : (worlds : List World) → Run net w worlds u → WriteAtFirst worlds → Leads net w v
    by [] run once = leads_by net w v (rw run step)
    by (x ∷ worlds) run once = record {
      worlds = x ∷ (worlds ++ (v ∷ []));
      run = (run.0, run_behind net x u v worlds (v ∷ []) run.1 (step, refl));
      once = keeps_behind x v worlds once (same ∙ records_at_end net x u worlds run.1 once);
    }

-- ---- one element of a list

pub set_there : {A : Type 0} (xs : List A) (k : ℕ) (x y : A) → slice_get xs k ≡ Some x
    → slice_get (slice_set xs k y) k ≡ Some y
set_there [] k x y there = absurd (cc)
set_there (z ∷ xs) zero x y there = refl
set_there (z ∷ xs) (suc k) x y there = set_there xs k x y there

pub set_again : {A : Type 0} (xs : List A) (k : ℕ) (x y : A) → slice_set (slice_set xs k x) k y ≡ slice_set xs k y
set_again [] k x y = refl
set_again (z ∷ xs) zero x y = refl
set_again (z ∷ xs) (suc k) x y = rw (set_again xs k x y) refl

pub set_itself : {A : Type 0} (xs : List A) (k : ℕ) (x : A) → slice_get xs k ≡ Some x → slice_set xs k x ≡ xs
set_itself [] k x there = refl
set_itself (z ∷ xs) zero x there = cc
set_itself (z ∷ xs) (suc k) x there = rw (set_itself xs k x there) refl

-- ---- one station

pub record_at : (stations : List StationView) (k : ℕ) (x : StationView) → slice_get stations k ≡ Some x
    → records_seen (records_of stations) k ≡ record_seen x.node.kept
record_at stations k x there = ap record_or_new (map_at (λ (s : StationView). s.node.kept) stations k x there)

pub mode_at : (stations : List StationView) (k : ℕ) (x : StationView) → slice_get stations k ≡ Some x
    → modes_seen stations k ≡ mode_seen x.node.mode
mode_at stations k x there = ap mode_or_new there

pub node_at : (stations : List StationView) (sent : List Packet) (k : ℕ) (x : StationView)
    → slice_get stations k ≡ Some x
    → node_of (world_seen stations sent) k ≡ node_seen x (outlets_seen stations)
node_at stations sent k x there = rw (record_at stations k x there, mode_at stations k x there) refl

left_same : (c : ℕ) (stations : List StationView) (k : ℕ) (x y : StationView) → slice_get stations k ≡ Some x
    → y.outlets ≡ x.outlets → released_of c (slice_set stations k y) ≡ released_of c stations
left_same c [] k x y there same = refl
left_same c (s ∷ stations) zero x y there same = let here : s ≡ x = cc in rw (here, same) refl
left_same c (s ∷ stations) (suc k) x y there same = rw (left_same c stations k x y there same) refl

-- a station in place of one at its place
module _ (stations : List StationView) (k : ℕ) (x y : StationView) (there : slice_get stations k ≡ Some x) where
  -- as much has left then, where its outlets are the same
  pub outlets_same : y.outlets ≡ x.outlets → outlets_seen (slice_set stations k y) ≡ outlets_seen stations
  outlets_same same = fun_ext (λ c. ap length (left_same c stations k x y there same))

  -- the records are the same, where its own is
  pub same_records : y.node.kept ≡ x.node.kept
      → records_seen (records_of (slice_set stations k y)) ≡ records_seen (records_of stations)
  same_records same =
      let own = map_at (λ (s : StationView). s.node.kept) stations k x there in
      rw (map-set (λ (s : StationView). s.node.kept) stations k y, same, set_itself (records_of stations) k _ own) refl

  pub only_here : (sent : List Packet) → OnlyAt (world_seen stations sent) (world_seen (slice_set stations k y) sent) k
  only_here sent = record {
    records = λ j other. rw (map-set (λ (s : StationView). s.node.kept) stations k y)
        (ap record_or_new (elsewhere_set (records_of stations) k y.node.kept j other));
    modes = λ j other. ap mode_or_new (elsewhere_set stations k y j other);
    flight = λ packet is. is;
  }

  node_then : (sent : List Packet) → outlets_seen (slice_set stations k y) ≡ outlets_seen stations
      → node_of (world_seen (slice_set stations k y) sent) k ≡ node_seen y (outlets_seen stations)
  node_then sent same = rw (node_at (slice_set stations k y) sent k y (set_there stations k x y there), same) refl

  -- a relation between the two nodes is one between what is seen of them in the two worlds
  carried : (sent : List Packet) → outlets_seen (slice_set stations k y) ≡ outlets_seen stations
      → (R : Node → Node → Type 0) → R (node_seen x (outlets_seen stations)) (node_seen y (outlets_seen stations))
      → R (node_of (world_seen stations sent) k) (node_of (world_seen (slice_set stations k y) sent) k)
  carried sent same R related = rw (node_at stations sent k x there, node_then sent same) related

  -- it acts by itself
  pub acts : (net : Net) (sent : List Packet) → outlets_seen (slice_set stations k y) ≡ outlets_seen stations
      → NodeStep net k (node_seen x (outlets_seen stations)) (node_seen y (outlets_seen stations))
      → Step net (world_seen stations sent) (world_seen (slice_set stations k y) sent)
  acts net sent same step = Acts k (only_here sent) (carried sent same (NodeStep net k) step)

  -- it hears what was sent
  pub hears : (net : Net) (sent : List Packet) → outlets_seen (slice_set stations k y) ≡ outlets_seen stations
      → (packet : Packet) → WasSent sent packet
      → Hears net k packet (node_seen x (outlets_seen stations)) (node_seen y (outlets_seen stations))
      → Step net (world_seen stations sent) (world_seen (slice_set stations k y) sent)
  hears net sent same packet was step =
      Comes k packet was (only_here sent) (carried sent same (Hears net k packet) step)

  -- it is seen as it was
  pub unseen : (sent : List Packet) → y.outlets ≡ x.outlets → record_seen y.node.kept ≡ record_seen x.node.kept
      → mode_seen y.node.mode ≡ mode_seen x.node.mode
      → world_seen (slice_set stations k y) sent ≡ world_seen stations sent
  unseen sent outlets records modes = rw (fun_ext each_record, fun_ext each_mode, outlets_same outlets) refl
    where
      later : slice_get (slice_set stations k y) k ≡ Some y
      later = set_there stations k x y there

      each_record : (j : ℕ)
          → records_seen (records_of (slice_set stations k y)) j ≡ records_seen (records_of stations) j
      each_record j = elim (same_or_other j k) [
        | inl here ↦ rw (here, record_at (slice_set stations k y) k y later, record_at stations k x there) records
        | inr other ↦ (only_here sent).records j other
      ]

      each_mode : (j : ℕ) → modes_seen (slice_set stations k y) j ≡ modes_seen stations j
      each_mode j = elim (same_or_other j k) [
        | inl here ↦ rw (here, mode_at (slice_set stations k y) k y later, mode_at stations k x there) modes
        | inr other ↦ (only_here sent).modes j other
      ]
