-- What happens in a run is steps of the abstract machine, each of which begins with the very world with which the one
-- before ends.
use Rattle.std.proofs.Common.{◌≡◌, inl, List, [], ◌∷◌, ◌++◌, refl, sym, subst}
use Rattle.protocol.specs.Join.Runs.{Carries}
use Rattle.protocol.specs.Node.Common.{Network}
use Rattle.protocol.specs.World.Common.{HasRun, net_seen, Packet, Reachable, RunsOn, StationView, Step, Traffic}
use Rattle.protocol.specs.World.Common.{world_seen, WorldView}
use Rattle.protocol_laws.specs.Join.Flown.{all_flown, flown_carries, in_flight_was_sent, is_flown}
use Rattle.protocol_laws.specs.Join.Leading.{leads_by, reached_then, run_behind}
use Rattle.recovery_line.specs.Worlds.{Run, Send}
use Rattle.whole_run.specs.Machine.{IsOneRun, machine_world}

-- whatever else was sent may be lost
forgets : (net : Network) (stations : List StationView) (traffic : Traffic) (sent : List Packet) → Carries traffic sent
    → Step (net_seen net) (world_seen stations sent) (world_seen stations (all_flown traffic))
forgets net stations traffic sent carries =
    Send (record {
      records = refl;
      modes = refl;
      outlets = refl;
      flight = λ told was. inl (in_flight_was_sent traffic sent told carries (is_flown traffic told was));
    })

-- and what is in flight is what a run of the machine says to be under way
recalls : (net : Network) (stations : List StationView) (traffic : Traffic) (run : HasRun net stations traffic)
    → Step (net_seen net) (world_seen stations (all_flown traffic)) (world_seen stations run.sent)
recalls net stations traffic run =
    Send (record {
      records = refl;
      modes = refl;
      outlets = refl;
      flight =
          λ told was. inl
          (in_flight_was_sent traffic (all_flown traffic) told (flown_carries traffic) (run.flown told was));
    })

pub has_reached : (world : WorldView) → HasRun world.net world.stations world.traffic
    → Reachable (net_seen world.net) (machine_world world)
has_reached world run =
    reached_then (net_seen world.net) (world_seen world.stations run.sent) (machine_world world) run.reached
    (leads_by (net_seen world.net) (world_seen world.stations run.sent) (machine_world world)
    (forgets world.net world.stations world.traffic run.sent run.carries))

-- where a world goes on
pub runs_as_one : (old new : WorldView) → RunsOn old.net old.stations old.traffic new.stations new.traffic
    → IsOneRun old new
runs_as_one old new on =
    let net = net_seen old.net in
    let middle = world_seen new.stations on.sent in
    record {
      reached = has_reached old on.run;
      worlds = (world_seen old.stations on.run.sent ∷ on.leads.worlds) ++ (machine_world new ∷ []);
      run = run_behind net (machine_world old) middle (machine_world new)
          (world_seen old.stations on.run.sent ∷ on.leads.worlds) (machine_world new ∷ [])
          (recalls old.net old.stations old.traffic on.run, on.leads.run)
          (forgets old.net new.stations new.traffic on.sent on.carries, refl);
    }

-- where nothing is seen to change
pub runs_still : (old new : WorldView) → machine_world new ≡ machine_world old → HasRun old.net old.stations old.traffic
    → IsOneRun old new
runs_still old new same run = record { reached = has_reached old run; worlds = []; run = sym same }

-- two runs are one
pub runs_then : (first next last : WorldView) → next.net ≡ first.net → IsOneRun first next → IsOneRun next last
    → IsOneRun first last
runs_then first next last same one other = record {
  reached = one.reached;
  worlds = one.worlds ++ other.worlds;
  run = run_behind (net_seen first.net) (machine_world first) (machine_world next) (machine_world last) one.worlds
      other.worlds one.run
      (subst (λ (net : Network). Run (net_seen net) (machine_world next) other.worlds (machine_world last)) same
      other.run);
}
