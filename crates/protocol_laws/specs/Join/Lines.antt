-- The recovery line of stations to which steps of the abstract machine lead is in order, also at a moment inside an
-- event.
use Rattle.std.proofs.Common.{◌≡◌, ◌⊎◌, inl, inr, ℕ, zero, suc, ◌≤◌, List, [], ◌∷◌, Some, refl, sym, ap, subst, ◌∙◌}
use Rattle.std.specs.Prelude.{slice_get, slice_set}
use Rattle.std.proofs.lemmas.List.{map-set}
use Rattle.protocol.specs.Node.Common.{Network, RecordView}
use Rattle.recovery_line.proofs.Theorems.{line_is_sound, line_covers, line_never_falls_back, commits_while_held}
use Rattle.recovery_line.proofs.Theorems.{decides_for_the_needed, holders_are_named, no_smaller_decision}
use Rattle.recovery_line.proofs.Theorems.{over_stays_out, stays_committed, stays_over}
use Rattle.protocol.specs.World.Common.{Net, Packet, Record, World, Reachable, Step, AreInLine, AreEither, Leads}
use Rattle.protocol.specs.World.Common.{world_seen, net_seen, records_of, records_seen, outlets_seen, StationView}
use Rattle.recovery_line.specs.Laws.{NamesTheNeeded}
use Rattle.recovery_line.specs.Line.{Sound, Covers, NotBehind, AtMoment, Over}
use Rattle.recovery_line.specs.Records.{effective}
use Rattle.recovery_line.specs.Worlds.{Run}
use Rattle.protocol.specs.World.InLine.{IsCoordinatedInside, nodes_seen}
use Rattle.protocol.specs.Join.Runs.{WriteAtFirst}
use Rattle.protocol_laws.specs.Join.Leading.{leads_by, leads_here, outlets_same, reached_then, records_at_end}
use Rattle.protocol_laws.specs.Join.Sent.{waits}

-- steps lead from the world to one with these records, from which so many items have left
pub record LeadsTo (net : Net) (w : World) (records : ℕ → Record) (left : ℕ → ℕ) : Type 0 where
  pub world : World
  pub leads : Leads net w world
  pub records_are : world.records ≡ records
  pub outlets_are : world.outlets ≡ left

pub record LineHolds (net : Net) (w : World) (records : ℕ → Record) (left : ℕ → ℕ) : Type 0 where
  pub sound : Sound net (effective records) left
  pub covers : Covers net records left
  pub not_behind : NotBehind w.records records
  pub more_left : (c : ℕ) → w.outlets c ≤ left c

-- Where steps lead to records from a world that steps led to, the line that follows from them is sound, covers what has
-- left, and isn't behind the line of that world.
abbrev pub LinesHold : Type 0
LinesHold =
    (net : Net) (w : World) (records : ℕ → Record) (left : ℕ → ℕ) → Reachable net w → LeadsTo net w records left
    → LineHolds net w records left

pub lines_hold : LinesHold
lines_hold net w records left reached to =
    let there = reached_then net w to.world reached to.leads in
    let moment : AtMoment to.world to.world records left =
    record { of_records = inl (sym to.records_are); of_outlets = inl (sym to.outlets_are) } in
    let on = line_never_falls_back net w to.world to.world to.leads.worlds records left reached to.leads.run
    (waits net to.world) moment in
    record {
      sound = line_is_sound net to.world to.world records left there (waits net to.world) moment;
      covers = line_covers net to.world to.world records left there (waits net to.world) moment;
      not_behind = on.0;
      more_left = on.1;
    }

-- ---- the records that a crash inside an event leaves

-- where no station has another one, they are those of before
pub none_other : (kepts records : List RecordView) → AreEither kepts kepts records → records ≡ kepts
none_other [] [] either = refl
none_other (k ∷ kepts) (r ∷ records) either =
    let rest = none_other kepts records either.1 in
    elim either.0 [ inl one ↦ cc | inr other ↦ cc ]
none_other kepts records either = absurd either

-- where one station has, they are those of before, or those with its next one
pub one_other : (kepts records : List RecordView) (place : ℕ) (next : RecordView)
    → AreEither kepts (slice_set kepts place next) records
    → (records ≡ kepts) ⊎ (records ≡ slice_set kepts place next)
one_other [] [] place next either = inl refl
one_other (k ∷ kepts) (r ∷ records) zero next either =
    let rest = none_other kepts records either.1 in
    elim either.0 [ inl old ↦ inl (cc) | inr new ↦ inr (cc) ]
one_other (k ∷ kepts) (r ∷ records) (suc place) next either =
    let first : r ≡ k = elim either.0 [ inl one ↦ one | inr other ↦ other ] in
    elim (one_other kepts records place next either.1) [ inl old ↦ inl (cc) | inr new ↦ inr (cc) ]
one_other (k ∷ kepts) [] zero next either = absurd either
one_other kepts records place next either = absurd either

-- ---- the step that writes

-- a step from this world, behind which no record is written any more
pub record FirstStep (net : Net) (w v : World) : Type 0 where
  pub world : World
  pub step : Step net w world
  pub same : world.records ≡ v.records

pub first_step : (net : Net) (w v : World) → Leads net w v → FirstStep net w v
first_step net w v leads = by leads.worlds leads.run leads.once
  where
    by : (worlds : List World) → Run net w worlds v → WriteAtFirst worlds → FirstStep net w v
    by [] run once = record { world = w; step = waits net w; same = ap (λ (x : World). x.records) run }
    by (u ∷ worlds) run once =
        record { world = u; step = run.0; same = sym (records_at_end net u v worlds run.1 once) }

-- what is over, whatever is in flight
pub over_there : (stations : List StationView) (sent : List Packet) (x n : ℕ) → Over (world_seen stations sent) x n
    → Over (nodes_seen stations) x n
over_there stations sent x n over = search over

pub over_here : (stations : List StationView) (sent : List Packet) (x n : ℕ) → Over (nodes_seen stations) x n
    → Over (world_seen stations sent) x n
over_here stations sent x n over = search over

-- and whom a decision names
pub named_there : (net : Net) (stations : List StationView) (sent : List Packet) (records : ℕ → Record) (x n : ℕ)
    → NamesTheNeeded net (world_seen stations sent) records x n → NamesTheNeeded net (nodes_seen stations) records x n
named_there net stations sent records x n names = search names

-- Checkpoints are coordinated by the records to which steps lead, of which none but the first writes one.
coordinated_inside : (net : Net) (before : List StationView) (sent : List Packet) (v : World) (records : ℕ → Record)
    → Reachable net (world_seen before sent) → Leads net (world_seen before sent) v → v.records ≡ records
    → IsCoordinatedInside net (nodes_seen before) records
coordinated_inside net before sent v records reached leads are =
    let w = world_seen before sent in
    let first = first_step net w v leads in
    let then_reached = reached_then net w first.world reached (leads_by net w first.world first.step) in
    subst (IsCoordinatedInside net (nodes_seen before)) (first.same ∙ are) (record {
      commits_while_held = λ x n p. commits_while_held net w first.world x n p reached first.step;
      stays_committed = λ x n p image. stays_committed net w first.world x n p image reached first.step;
      holders_are_named = λ x n p image. holders_are_named net first.world x n p image then_reached;
      stays_over = λ x n over. let later =
          stays_over net w first.world (first.world ∷ []) x n reached (first.step, refl)
          (over_here before sent x n over) in (later.used, later.undecided);
      over_stays_out = λ k. elim (over_stays_out net w first.world k reached first.step) [
        | inl same ↦ inl same
        | inr new ↦ inr (new.0, new.1, new.2, λ over. new.3 (over_here before sent new.0 new.1 over))
      ];
      names_the_needed = λ x n never now.
          named_there net before sent first.world.records x n
          (decides_for_the_needed net w first.world x n reached first.step never now);
      no_smaller_decision = λ x n p part. no_smaller_decision net w first.world x n p part reached first.step;
    })

-- ---- stations

-- a run of no steps leads from a world to its own records
still : (net : Network) (stations : List StationView) (sent : List Packet)
    → LeadsTo (net_seen net) (world_seen stations sent) (records_seen (records_of stations)) (outlets_seen stations)
still net stations sent = record {
  world = world_seen stations sent;
  leads = leads_here (net_seen net) (world_seen stations sent) (world_seen stations sent) refl;
  records_are = refl;
  outlets_are = refl;
}

line_stays : (net : Network) (before after : List StationView) (sent : List Packet) (records : List RecordView)
    → Reachable (net_seen net) (world_seen before sent)
    → LeadsTo (net_seen net) (world_seen before sent) (records_seen records) (outlets_seen before)
    → LeadsTo (net_seen net) (world_seen before sent) (records_seen records) (outlets_seen after)
    → AreInLine net before after records
line_stays net before after sent records reached first last =
    let one = lines_hold _ _ _ (outlets_seen before) reached first in
    let other = lines_hold _ _ _ (outlets_seen after) reached last in
    record {
      at_first = record { sound = one.sound; covers = one.covers };
      at_last = record { sound = other.sound; covers = other.covers };
      not_behind = one.not_behind;
      coordinated = ∣ coordinated_inside (net_seen net) before sent first.world (records_seen records) reached
          first.leads first.records_are ∣₁;
    }

module _ (net : Network) (before : List StationView) (sent : List Packet)
    (reached : Reachable (net_seen net) (world_seen before sent)) where
  -- An event at one place leaves the records of before, or with the next one what steps lead to; nothing leaves in it.
  pub line_at_put : (k : ℕ) (old next : StationView) (later : List Packet) (after : List StationView)
      (records : List RecordView) → slice_get before k ≡ Some old → next.outlets ≡ old.outlets
      → Leads (net_seen net) (world_seen before sent) (world_seen (slice_set before k next) later)
      → outlets_seen after ≡ outlets_seen before
      → AreEither (records_of before) (slice_set (records_of before) k next.node.kept) records
      → AreInLine net before after records
  line_at_put k old next later after records there outlets leads same left =
      let to : LeadsTo (net_seen net) (world_seen before sent) (records_seen records) (outlets_seen before) =
      elim (one_other (records_of before) records k next.node.kept left) [
        | inl kept ↦ rw kept (still net before sent)
        | inr new ↦ record {
          world = world_seen (slice_set before k next) later;
          leads = leads;
          records_are = rw (new, map-set (λ (s : StationView). s.node.kept) before k next) refl;
          outlets_are = outlets_same before k old next there outlets;
        }
      ] in
      line_stays net before after sent records reached to (rw same to)

  -- an event puts no record, and an item may leave in it
  pub line_at_release : (after : List StationView) (later : List Packet) (records : List RecordView)
      → Leads (net_seen net) (world_seen before sent) (world_seen after later)
      → records_of after ≡ records_of before → AreEither (records_of before) (records_of before) records
      → AreInLine net before after records
  line_at_release after later records leads same left =
      let are = none_other (records_of before) records left in
      line_stays net before after sent records reached (rw are (still net before sent)) (record {
        world = world_seen after later;
        leads = leads;
        records_are = rw (are, same) refl;
        outlets_are = refl;
      })

-- the records that stations keep are in line with themselves
pub line_now : (net : Network) (stations : List StationView) (sent : List Packet)
    → Reachable (net_seen net) (world_seen stations sent) → AreInLine net stations stations (records_of stations)
line_now net stations sent reached =
    let here = still net stations sent in
    line_stays net stations stations sent (records_of stations) reached here here
