use Rattle.run_log.proofs.run_log.RunLog.drop.Goals as goal

-- what the type keeps of a log that is let go of (nine facts over thirteen fields are more than a search goes through)
pub invariant_of-self : goal.invariant_of-self
invariant_of-self g c =
    let self = c.args.self in
    record {
      replays = self.replays;
      same_keeps = self.same_keeps;
      same_rooms = self.same_rooms;
      same_script = self.same_script;
      numbers = self.numbers;
      running = self.running;
      same_stops = self.same_stops;
      still = self.still;
      rest = self.rest;
    }
