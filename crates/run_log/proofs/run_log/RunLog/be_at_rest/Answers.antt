use Rattle.std.proofs.Common.{◌≡◌, List, Bool, true, ap, sym, subst}
use Rattle.std.proofs.Math.Logic.{∥∥₁_map}
use Rattle.protocol.specs.World.Common.{WorldView}
use Rattle.replay.specs.Armed.{ArmedView}
use Rattle.replay.specs.Rests.{AllRest, next_turn}
use Rattle.replay.specs.declared.kept.NextTurn.TheVariants.{Rest}
use Rattle.replay.proofs.Rests.{noted, rest_silence, silence_is_rest}
use Rattle.world.specs.WholeView.{world_of}
use Rattle.run_log.proofs.run_log.RunLog.be_at_rest.Goals as goal

pub be_silent-requires-clause-own : goal.be_silent-requires-clause-own
be_silent-requires-clause-own g c =
    let log = c.args.self.now in
    ∣ rest_silence g.ThisRun.Run.script log.passed (world_of log.armed.world) c.args.node c.requires.rests ∣₁

-- the world is the same, in which the node rests
pub invariant_of-self : goal.invariant_of-self
invariant_of-self g c =
    let log = c.be_silent.new.self in
    let world = world_of log.armed.world in
    let rests : next_turn world c.args.node ≡ Rest =
    subst (λ (w : WorldView). next_turn w c.args.node ≡ Rest) (sym (ap (λ (a : ArmedView). a.world) c.in_ok-be_silent.ensures.world))
    c.requires.rests in
    record {
      replays = log.replays;
      same_keeps = log.same_keeps;
      same_rooms = log.same_rooms;
      same_script = log.same_script;
      numbers = log.numbers;
      running = log.running;
      same_stops = log.same_stops;
      still = log.still;
      rest = ∥∥₁_map log.rest (λ all. subst (λ (list : List Bool). AllRest list world) (sym c.note_event.ensures)
          (noted log.resting world world c.args.node true true all (λ yes k other resting. resting)
          (λ yes passed. silence_is_rest world c.args.node log.armed.world.sound rests)));
    }

pub returns-clause-answered : goal.returns-clause-answered
returns-clause-answered g c =
    let said = c.in_ok-be_silent.ensures in
    record {
      seat = record { counts = said.counts; home = tt; told = said.told };
      written = said.added;
      turned = (c.requires.in_time, c.requires.rests, said.world);
      passed = said.passed;
      running = said.running;
    }
