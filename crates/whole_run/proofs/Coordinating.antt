-- Checkpoints are coordinated in whatever happens while the disks are there.
use Rattle.std.proofs.Common.{◌≡◌, inl, inr, List, [], ◌∷◌, ◌++◌, refl, sym, ap, subst, ◌∙◌}
use Rattle.std.proofs.Math.Logic.{∥∥₁_map₂}
use Rattle.protocol.specs.Join.Runs.{KeepRecords, WriteAtFirst}
use Rattle.protocol.specs.Node.Common.{Network, RecordView}
use Rattle.protocol.specs.World.Common.{HasRun, Leads, Net, net_seen, OutputView, records_of, records_seen, RunsOn}
use Rattle.protocol.specs.World.Common.{StationView, Step, Traffic, World, WorldInvariant, world_seen, WorldView}
use Rattle.protocol.specs.World.Coordination.{AreCoordinated}
use Rattle.protocol_laws.specs.Join.Flown.{in_flight_was_sent}
use Rattle.protocol_laws.specs.Join.Leading.{leads_then, records_at_end, run_behind}
use Rattle.protocol_laws.specs.World.CoordinationLaws.{coordinated_still, event_is_coordinated, events_are_coordinated}
use Rattle.protocol_laws.specs.World.StepKeeps.{step_runs_on}
use Rattle.recovery_line.specs.Worlds.{Run, Send}
use Rattle.starting_again.proofs.Again.{goes_on_again, has_the_same, runs_on_again, traffic_again}
use Rattle.starting_again.specs.StartsAgain.{WorldStartsAgain}
use Rattle.whole_run.proofs.Going.{goes, goes_there, lies, on_inputs_of, starts_again}
use Rattle.whole_run.proofs.Inside.{LeadsToLeft}
use Rattle.whole_run.specs.Runs.{ByEvent, ByItems, ByNothing, ByRooms, ByStop, EachNext, GoesOn}

-- ---- steps of which none but the first writes a record, and behind them steps that write none

keeps_from : (w v : World) (worlds : List World) → v.records ≡ w.records → KeepRecords v worlds → KeepRecords w worlds
keeps_from w v [] same keeps = tt
keeps_from w v (x ∷ worlds) same keeps = (keeps.0 ∙ same, keeps_from w v worlds same keeps.1)

keeps_both : (w : World) (one other : List World) → KeepRecords w one → KeepRecords w other
    → KeepRecords w (one ++ other)
keeps_both w [] other first second = second
keeps_both w (x ∷ one) other first second = (first.0, keeps_both w one other first.1 second)

-- where the last records are the first ones, all are
keeps_all : (net : Net) (v u : World) (worlds : List World) → Run net v worlds u → WriteAtFirst worlds
    → u.records ≡ v.records → KeepRecords v worlds
keeps_all net v u [] run once same = tt
keeps_all net v u (x ∷ worlds) run once same =
    let first : x.records ≡ v.records = sym (records_at_end net x u worlds run.1 once) ∙ same in
    (first, keeps_from v x worlds first once)

leads_on : (net : Net) (w v u : World) → Leads net w v → Leads net v u → u.records ≡ v.records → Leads net w u
leads_on net w v u one other same = record {
  worlds = one.worlds ++ other.worlds;
  run = run_behind net w v u one.worlds other.worlds one.run other.run;
  once = by one.worlds one.run one.once;
}
  where
    by : (worlds : List World) → Run net w worlds v → WriteAtFirst worlds → WriteAtFirst (worlds ++ other.worlds)
    by [] run once = other.once
    by (x ∷ worlds) run once =
        keeps_both x worlds other.worlds once
        (keeps_from x v other.worlds (records_at_end net x v worlds run.1 once)
        (keeps_all net v u other.worlds other.run other.once same))

-- ---- an event, and then a stop

-- A world goes on, and then goes on by steps that write no record.
runs_on_then : (net : Network) (first next last : List StationView) (traffic between flown : Traffic)
    → RunsOn net first traffic next between → RunsOn net next between last flown → records_of last ≡ records_of next
    → RunsOn net first traffic last flown
runs_on_then net first next last traffic between flown one other same =
    let seen = net_seen net in
    let w = world_seen first one.run.sent in
    let v = world_seen next one.sent in
    let u = world_seen next other.run.sent in
    record {
      run = one.run;
      sent = other.sent;
      leads = leads_on seen w u (world_seen last other.sent) (leads_then seen w v u one.leads loses refl) other.leads
          (ap records_seen same);
      carries = other.carries;
    }
  where
    loses : Step (net_seen net) (world_seen next one.sent) (world_seen next other.run.sent)
    loses = Send (record {
      records = refl;
      modes = refl;
      outlets = refl;
      flight = λ told was. inl (in_flight_was_sent between one.sent told one.carries (other.run.flown told was));
    })

module _ (old new : WorldView) (records : List RecordView) (outputs : List OutputView) (inv : WorldInvariant old)
    (leads : LeadsToLeft old records outputs) (again : WorldStartsAgain leads.next (on_inputs_of old new)) where
  abbrev next : WorldView
  next = leads.next

  ran : ∥ HasRun old.net next.stations next.traffic ∥₁
  ran = subst (λ (net : Network). ∥ HasRun net next.stations next.traffic ∥₁) leads.same_net
      (goes_there old records outputs inv leads).sound.run

  stop_coordinated : AreCoordinated old new
  stop_coordinated = elim leads.comes [
    | inl same ↦
        subst (λ (w : WorldView). AreCoordinated w new) same
        (goes_on_again leads.next (on_inputs_of old new) (goes_there old records outputs inv leads).sound again)
    | inr event ↦
        ∥∥₁_map₂ (step_runs_on event.0 event.1 old event.2 leads.next inv event.3) ran
        (λ on run. event_is_coordinated old.net old.inputs inv.valid old.stations new.stations old.traffic new.traffic
        inv.traffic (traffic_again old.net old.inputs new.traffic again.nothing)
        (runs_on_then old.net old.stations next.stations new.stations old.traffic next.traffic new.traffic on
        (runs_on_again old.net next.stations new.stations next.traffic new.traffic again.stations again.nothing run)
        (has_the_same next (on_inputs_of old new) again).1))
  ]

coordinated_next : (old new : WorldView) → WorldInvariant old → GoesOn old new → AreCoordinated old new
coordinated_next old new inv (ByEvent fits event answer step) =
    events_are_coordinated fits event old answer new inv step
coordinated_next old new inv (ByRooms rooms is) = subst (AreCoordinated old) (sym is) (coordinated_still old inv)
coordinated_next old new inv (ByItems inputs later is) = subst (AreCoordinated old) (sym is) (coordinated_still old inv)
coordinated_next old new inv (ByNothing same) = subst (AreCoordinated old) (sym same) (coordinated_still old inv)
coordinated_next old new inv (ByStop records outputs there later opens) =
    let leads = lies old records outputs inv there in
    stop_coordinated old new records outputs inv leads (starts_again old new records outputs inv leads later opens)

pub coordinated_all : (world : WorldView) (worlds : List WorldView) → WorldInvariant world
    → EachNext GoesOn world worlds
    → EachNext AreCoordinated world worlds
coordinated_all world [] inv all = tt
coordinated_all world (next ∷ worlds) inv all = (
  coordinated_next world next inv all.0,
  coordinated_all next worlds (goes world next inv all.0).sound all.1,
)
