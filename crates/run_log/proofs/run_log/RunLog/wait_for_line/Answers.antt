use Rattle.run_log.proofs.run_log.RunLog.wait_for_line.Goals as goal

pub be_silent-requires-clause-own : goal.be_silent-requires-clause-own
be_silent-requires-clause-own g c = ∣ c.requires.late ∣₁

pub returns-clause-answered : goal.returns-clause-answered
returns-clause-answered g c =
    let said = c.in_ok-be_silent.ensures in
    record {
      seat = record { counts = said.counts; home = tt; told = said.told };
      written = said.added;
      turned = (c.requires.late, said.world);
      passed = said.passed;
      running = said.running;
    }
