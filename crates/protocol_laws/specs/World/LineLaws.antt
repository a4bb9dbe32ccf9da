-- Laws of the recovery line: whatever records a crash leaves in an event, the line that follows from them is in order.
-- It all follows from the run of the abstract machine that a world is.
use Rattle.std.proofs.Common.{◌≡◌, ◌≢◌, ◌==◌, ◌⊎◌, inl, inr, ℕ, zero, suc, ◌+◌, Bool, true, false, List, [], ◌∷◌, map}
use Rattle.std.proofs.Common.{Option, Some, None, refl, ap, ◌∙◌, arith}
use Rattle.std.specs.Prelude.{slice_get, slice_set}
use Rattle.std.proofs.lemmas.Bool.{eq-eqb, eqb-true, ne_eqb}
use Rattle.protocol.specs.Node.Common.{RecordView, IsBehind}
use Rattle.recovery_line.specs.Line.{NotBehind}
use Rattle.protocol_laws.specs.Join.Leading.{set_itself}
use Rattle.protocol_laws.specs.Join.Whole.{deeds_keep_the_line, lines_are_sound, releases_keep_the_line}
use Rattle.protocol_laws.specs.Join.Lines.{none_other}
use Rattle.protocol.specs.World.Common.{EventView, ByNode, ByNetwork, Install, Release, event_node, AreSound}
use Rattle.protocol.specs.World.Common.{IsNumbered, WorldInvariant, AreInLine, AreEither, next_kept, records_of}
use Rattle.protocol.specs.World.Common.{records_seen, ReplyView, StationView, IsAct, IsActOf, IsStationStep, Setting}
use Rattle.protocol.specs.World.Common.{WorldView, plan_of, setting_of, IsSoundSetting, IsSoundStation}
use Rattle.protocol.specs.declared.event.Deed.TheVariants as event
use Rattle.protocol.specs.World.RecoveryLine.{LinesFollow, next_for}
use Rattle.protocol_laws.specs.World.DeedLaws.{deed_sound}
use Rattle.protocol.specs.Node.AtHand.{HasGotBy, HaveGot}
use Rattle.protocol_laws.specs.Node.AtHandLaws.{got_later}
use Rattle.protocol_laws.specs.World.KeptLaws.{next_node, step_kept}
use Rattle.protocol_laws.specs.World.OrderLaws.{behind_itself}
use Rattle.protocol_laws.specs.World.OutputLaws.{map_at}
use Rattle.protocol_laws.specs.World.PlanLaws.{next_record_ahead}
use Rattle.protocol_laws.specs.World.StepKeeps.{act_keeps, act_numbered, stands_in, world_station, world_sure}
use Rattle.protocol.specs.declared.outcome.Outcome.{Outcome}

-- ---- the record that an event puts

module _ (setting : Setting) (sure : IsSoundSetting setting) where
  -- has a permanent image that isn't behind
  pub next_ahead : (e : EventView) (old : StationView) → IsSoundStation setting old
      → IsBehind old.node.kept.permanent (next_kept setting e old).permanent
  next_ahead (ByNode k deed) old sound =
      next_record_ahead setting.net setting.inputs old (plan_of setting k deed old).prospect
      (deed_sound setting sure old sound k deed)
  next_ahead (Install done) old sound = behind_itself old.node.kept.permanent
  next_ahead (Release k) old sound = behind_itself old.node.kept.permanent
  next_ahead (ByNetwork k place act) old sound = behind_itself old.node.kept.permanent

-- ---- the records that a crash leaves, station by station

module _ (setting : Setting) (e : EventView) where
  -- the stations of this list are those from a number on
  abbrev AreFrom : ℕ → List StationView → Type 0
  AreFrom first stations =
      (i : ℕ) (station : StationView) → slice_get stations i ≡ Some station → station.number ≡ first + i

  rest_from : (first : ℕ) (s : StationView) (stations : List StationView) → AreFrom first (s ∷ stations)
      → AreFrom (suc first) stations
  rest_from first s stations from i station is = (let number = from (suc i) station is in omega (arith, number))

  -- of a station of another node
  other_next : (station : StationView) → station.number ≢ event_node e
      → next_for setting e station ≡ station.node.kept
  other_next station other = rw (ne_eqb station.number (event_node e) other) refl

  own_next : (station : StationView) → station.number ≡ event_node e
      → next_for setting e station ≡ next_kept setting e station
  own_next station same = rw (eq-eqb station.number (event_node e) same) refl

  -- where no station is of the event's node, the next records are those of before
  none_next : (stations : List StationView)
      → ((i : ℕ) (station : StationView) → slice_get stations i ≡ Some station → station.number ≢ event_node e)
      → map (next_for setting e) stations ≡ records_of stations
  none_next [] others = refl
  none_next (s ∷ stations) others =
      rw (other_next s (others 0 s refl), none_next stations (λ i station is. others (suc i) station is)) refl

  -- each is the one of before
  all_same : (stations : List StationView)
      → AreEither (records_of stations) (map (next_for setting e) stations) (records_of stations)
  all_same [] = tt
  all_same (s ∷ stations) = (inl refl, all_same stations)

  -- At the place of the event's node stands its station: the next records are those of before, but for its own.
  one_next : (first place : ℕ) (stations : List StationView) (station : StationView) → AreFrom first stations
      → event_node e ≡ first + place → slice_get stations place ≡ Some station
      → map (next_for setting e) stations ≡ slice_set (records_of stations) place (next_kept setting e station)
  one_next first place [] station from here there = absurd (cc)
  one_next first zero (s ∷ stations) station from here there =
      let same : s ≡ station = cc in
      let number = from 0 station there in
      let others = none_next stations (λ i other is at.
      (let later = from (suc i) other is in omega (arith, later, at, here))) in
      rw (same, own_next station (omega (arith, number, here)), others) refl
  one_next first (suc place) (s ∷ stations) station from here there =
      let number = from 0 s refl in
      let rest = one_next (suc first) place stations station (rest_from first s stations from) (omega (arith, here)) there in
      rw (other_next s (λ same. omega (arith, number, here, same)), rest) refl

-- ---- the line

module _ (world : WorldView) (inv : WorldInvariant world) (answer : ReplyView) (came : Outcome)
    (records : List RecordView) where
  -- where nothing changes
  line_stays : (new : List StationView) → new ≡ world.stations
      → AreEither (records_of world.stations) (records_of world.stations) records
      → AreInLine world.net world.stations new records
  line_stays new same left =
      rw (same, none_other (records_of world.stations) records left)
      (lines_are_sound world.net world.stations world.traffic inv.run)

  as_kept : (k : ℕ) (station : StationView) → slice_get world.stations k ≡ Some station
      → AreEither (records_of world.stations) (slice_set (records_of world.stations) k station.node.kept) records
      → AreEither (records_of world.stations) (records_of world.stations) records
  as_kept k station there left =
      rw (set_itself (records_of world.stations) k station.node.kept
      (map_at (λ (s : StationView). s.node.kept) world.stations k station there)) at left

  -- an event of a station (a turn that comes back puts as little as a node that idles)
  line_then : (room : RecordView → Bool) (e : EventView) (station later : StationView)
      → slice_get world.stations (event_node e) ≡ Some station
      → IsNumbered (slice_set world.stations (event_node e) later)
      → AreSound world.net world.inputs (slice_set world.stations (event_node e) later)
      → IsStationStep (setting_of world) room e came station answer later
      → AreEither (records_of world.stations)
      (slice_set (records_of world.stations) (event_node e) (next_kept (setting_of world) e station)) records
      → AreInLine world.net world.stations (slice_set world.stations (event_node e) later) records
  line_then room (ByNode k deed) station later there numbered sound step left =
      deeds_keep_the_line (setting_of world) world.stations k station later deed records
      (stands_in world inv k station there) (ap (λ (s : StationView). s.outlets) step.same) left inv.run
  line_then room (Install done) station later there numbered sound step left =
      deeds_keep_the_line (setting_of world) world.stations (event_node (Install done)) station later event.Idle records
      (stands_in world inv (event_node (Install done)) station there)
      (ap (λ (s : StationView). s.outlets) step.same) left inv.run
  line_then room (Release k) station later there numbered sound step left =
      releases_keep_the_line world.net world.inputs world.stations k station later world.round answer world.traffic
      records there inv.numbered inv.stations numbered sound step (as_kept k station there left) inv.run
  line_then room (ByNetwork k place act) station later there numbered sound step left =
      line_stays (slice_set world.stations k later)
      (ap (slice_set world.stations k) step.1 ∙ set_itself world.stations k station there)
      (as_kept k station there left)

  -- one that didn't happen
  line_undone : (e : EventView) (station : StationView) → slice_get world.stations (event_node e) ≡ Some station
      → AreEither (records_of world.stations)
      (slice_set (records_of world.stations) (event_node e) (next_kept (setting_of world) e station)) records
      → AreInLine world.net world.stations world.stations records
  line_undone (ByNode k deed) station there left =
      rw (set_itself world.stations k station there) at
      (deeds_keep_the_line (setting_of world) world.stations k station station deed records
      (stands_in world inv k station there) refl left inv.run)
  line_undone e station there left = line_stays world.stations refl (as_kept (event_node e) station there left)

  -- at the place of the event's node stands the record that the event puts
  next_there : (e : EventView) (station : StationView) → slice_get world.stations (event_node e) ≡ Some station
      → AreEither (records_of world.stations) (map (next_for (setting_of world) e) world.stations) records
      → AreEither (records_of world.stations)
      (slice_set (records_of world.stations) (event_node e) (next_kept (setting_of world) e station)) records
  next_there e station there left =
      rw (one_next (setting_of world) e 0 (event_node e) world.stations station (λ i other is.
      (let number = (inv.numbered i other is).0 in omega (arith, number))) (omega arith) there) at left

  line_of_act : (e : EventView) (room : Option (RecordView → Bool)) (o : Option StationView)
      (new : List StationView) → slice_get world.stations (event_node e) ≡ o → IsNumbered new
      → AreSound world.net world.inputs new
      → IsActOf (setting_of world) (event_node e) room o e came world.stations answer new
      → AreEither (records_of world.stations) (map (next_for (setting_of world) e) world.stations) records
      → AreInLine world.net world.stations new records
  line_of_act e room None new there numbered sound act left =
      let unchanged : new ≡ world.stations = grind arith in
      line_stays new unchanged
      (rw (none_next (setting_of world) e world.stations (λ i station is same.
      (let place = (inv.numbered i station is).0 in cc))) at left)
  line_of_act e None (Some station) new there numbered sound act left =
      rw act.1 (line_undone e station there (next_there e station there left))
  line_of_act e (Some fits) (Some station) new there numbered sound act left =
      rw act.stations (line_then fits e station act.later there (rw act.stations at numbered) (rw act.stations at sound)
      act.step (next_there e station there left))

in_line : (world : WorldView) (rooms : List (RecordView → Bool)) (e : EventView) (came : Outcome)
    (answer : ReplyView) (new : List StationView) (records : List RecordView) → WorldInvariant world
    → IsAct (setting_of world) (event_node e) rooms e came world.stations answer new
    → AreEither (records_of world.stations) (map (next_for (setting_of world) e) world.stations) records
    → AreInLine world.net world.stations new records
in_line world rooms e came answer new records inv act left =
    let setting = setting_of world in
    let sure = world_sure world inv in
    let room = slice_get rooms (event_node e) in
    let found = slice_get world.stations (event_node e) in
    line_of_act world inv answer came records e room found new refl
    (act_numbered setting sure (event_node e) room found e came world.stations answer new refl
    (world_station world inv (event_node e)) inv.numbered act)
    (act_keeps setting sure (event_node e) room found e came world.stations answer new refl
    (world_station world inv (event_node e)) inv.stations act) act left

-- Whatever records a crash of all nodes leaves at moments of an event, of each station the one of before or the one
-- that the event puts there: their line is one of what had left before and of what has left then, and isn't behind the
-- line of before.
pub act_in_line : (rooms : List (RecordView → Bool)) (e : EventView) (came : Outcome) (world : WorldView)
    (answer : ReplyView) (setting : Setting) (number : ℕ) (new : List StationView) (records : List RecordView)
    → WorldInvariant world → setting ≡ setting_of world → number ≡ event_node e
    → IsAct setting number rooms e came world.stations answer new
    → AreEither (records_of world.stations) (map (next_for setting e) world.stations) records
    → AreInLine world.net world.stations new records
act_in_line rooms e came world answer setting number new records inv same_setting same_number act left =
    in_line world rooms e came answer new records inv
    (rw (same_setting, same_number) at act) (rw same_setting at left)

-- ---- the records that are kept in the end

-- of each station it is the one of before or the next one
kept_either : (setting : Setting) (sure : IsSoundSetting setting) (e : EventView) (came : Outcome) (answer : ReplyView)
    (room : RecordView → Bool) (stations : List StationView) (first place : ℕ) (station later : StationView)
    → AreFrom setting e first stations → event_node e ≡ first + place → slice_get stations place ≡ Some station
    → IsSoundStation setting station → IsStationStep setting room e came station answer later
    → AreEither (records_of stations) (map (next_for setting e) stations) (records_of (slice_set stations place later))
kept_either setting sure e came answer room [] first place station later from here there sound step = absurd (cc)
kept_either setting sure e came answer room (s ∷ stations) first zero station later from here there sound step =
    let same : s ≡ station = cc in
    let number = from 0 station there in (
      rw (same, own_next setting e station (omega (arith, number, here)))
          (step_kept setting sure room e came station answer later sound step),
      all_same setting e stations,
    )
kept_either setting sure e came answer room (s ∷ stations) first (suc place) station later from here there sound
    step = (
      inl refl,
      kept_either setting sure e came answer room stations (suc first) place station later
          (rest_from setting e first s stations from) (omega (arith, here)) there sound step,
    )

act_kept : (world : WorldView) (inv : WorldInvariant world) (e : EventView) (came : Outcome) (answer : ReplyView)
    (room : Option (RecordView → Bool)) (o : Option StationView) (new : List StationView)
    → slice_get world.stations (event_node e) ≡ o
    → IsActOf (setting_of world) (event_node e) room o e came world.stations answer new
    → AreEither (records_of world.stations) (map (next_for (setting_of world) e) world.stations) (records_of new)
act_kept world inv e came answer None o new there act = rw act.1 (all_same (setting_of world) e world.stations)
act_kept world inv e came answer (Some room) None new there act =
    rw act.1 (all_same (setting_of world) e world.stations)
act_kept world inv e came answer (Some room) (Some station) new there act =
    rw act.stations
    (kept_either (setting_of world) (world_sure world inv) e came answer room world.stations 0 (event_node e) station
    act.later (λ i other is. (let number = (inv.numbered i other is).0 in omega (arith, number))) (omega arith) there
    (world_station world inv (event_node e) station there) act.step)

-- ---- what was let go of

-- Whatever an event leaves of the records, of each station the one of before or the one that the event puts there: what their permanent images
-- had got they have got still.
got_either : (setting : Setting) (sure : IsSoundSetting setting) (e : EventView) (bases : List ℕ) (stations : List StationView)
    (records : List RecordView)
    → ((i : ℕ) (station : StationView) → slice_get stations i ≡ Some station → IsSoundStation setting station)
    → AreEither (records_of stations) (map (next_for setting e) stations) records
    → HaveGot setting.net bases (records_of stations) → HaveGot setting.net bases records
got_either setting sure e bases [] [] sound either got = tt
got_either setting sure e bases [] (r ∷ records) sound either got = absurd either
got_either setting sure e bases (s ∷ stations) [] sound either got = absurd either
got_either setting sure e bases (s ∷ stations) (r ∷ records) sound either got = (
  got_now either.0,
  got_either setting sure e bases stations records (λ i station is. sound (suc i) station is) either.1 got.1,
)
  where
    next_got : HasGotBy setting.net bases (next_kept setting e s)
    next_got =
        rw (next_node setting sure e s (sound 0 s refl))
        (got_later setting.net s.node.kept.node bases s.node.kept.permanent (next_kept setting e s).permanent
        (next_ahead setting sure e s (sound 0 s refl)) got.0)

    next_for_got : (own : Bool) → (s.number == event_node e) ≡ own → HasGotBy setting.net bases (next_for setting e s)
    next_for_got true is = rw (own_next setting e s (eqb-true s.number (event_node e) (search (is)))) next_got
    next_for_got false is = rw (other_next setting e s (λ same. (let so = eq-eqb s.number (event_node e) same in absurd (cc)))) got.0

    got_now : (r ≡ s.node.kept) ⊎ (r ≡ next_for setting e s) → HasGotBy setting.net bases r
    got_now (inl same) = rw same got.0
    got_now (inr same) = rw same (next_for_got (s.number == event_node e) refl)

-- An event lets no permanent image fall behind: it has got what was let go of, if the one before had.
pub act_got : (bases : List ℕ) (rooms : List (RecordView → Bool)) (e : EventView) (came : Outcome) (world : WorldView)
    (answer : ReplyView) (setting : Setting) (number : ℕ) (new : List StationView) → WorldInvariant world
    → setting ≡ setting_of world → number ≡ event_node e
    → IsAct setting number rooms e came world.stations answer new
    → HaveGot world.net bases (records_of world.stations) → HaveGot world.net bases (records_of new)
act_got bases rooms e came world answer setting number new inv same_setting same_number act got =
    let acted = rw (same_setting, same_number) at act in
    got_either (setting_of world) (world_sure world inv) e bases world.stations (records_of new)
    (λ i station is. world_station world inv i station is)
    (act_kept world inv e came answer (slice_get rooms (event_node e)) (slice_get world.stations (event_node e)) new
    refl acted) got

-- The line at the end of an event isn't behind the one before it.
pub line_goes_on : (rooms : List (RecordView → Bool)) (e : EventView) (came : Outcome) (world : WorldView)
    (answer : ReplyView) (setting : Setting) (number : ℕ) (new : List StationView) → WorldInvariant world
    → setting ≡ setting_of world → number ≡ event_node e
    → IsAct setting number rooms e came world.stations answer new
    → NotBehind (records_seen (records_of world.stations)) (records_seen (records_of new))
line_goes_on rooms e came world answer setting number new inv same_setting same_number act =
    let acted = rw (same_setting, same_number) at act in
    (in_line world rooms e came answer new (records_of new) inv acted
    (act_kept world inv e came answer (slice_get rooms (event_node e)) (slice_get world.stations (event_node e)) new
    refl acted)).not_behind

-- and the line of the records that are kept is in order at any time
pub line_now : (world : WorldView) → WorldInvariant world
    → AreInLine world.net world.stations world.stations (records_of world.stations)
line_now world inv = lines_are_sound world.net world.stations world.traffic inv.run

-- counts that don't fall from a first line to a second, nor from that to a third, don't fall from the first to the
-- third
pub lines_follow : LinesFollow
lines_follow first second third one other k c =
    let a = one k c in
    let b = other k c in
    (omega (arith, a.0, b.0), omega (arith, a.1, b.1), omega (arith, a.2, b.2))
