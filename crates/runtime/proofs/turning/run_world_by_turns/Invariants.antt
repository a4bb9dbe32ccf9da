use Rattle.run_log.specs.LedgerNames.{names_of}
use Rattle.world.specs.WholeView.{world_of}
use Rattle.world.specs.WorldView.{rooms}
use Rattle.runtime.proofs.turning.run_world_by_turns.Given as goal

abbrev pub ghosts-play_by_turns-ThisRun-Run : goal.ghosts-play_by_turns-ThisRun-Run
ghosts-play_by_turns-ThisRun-Run g a = record {
  opening = world_of a.world;
  rooms = rooms a.world.stations.items;
  script = a.script.items;
  keeps = a.keeps;
}

abbrev pub ghosts-play_by_turns-ThisRun-RunLedgers : goal.ghosts-play_by_turns-ThisRun-RunLedgers
ghosts-play_by_turns-ThisRun-RunLedgers g a = record { names = names_of a.ledgers; seats = 1 }
