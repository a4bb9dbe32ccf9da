use Rattle.std.proofs.Common.{◌+◌, true}
use Rattle.journal.specs.Histories.{journal_id}
use Rattle.marks.specs.Seats.{table_of}
use Rattle.run_log.specs.LedgerNames.{names_of}
use Rattle.world.specs.WholeView.{world_of}
use Rattle.world.specs.WorldView.{rooms}
use Rattle.runtime.proofs.playing.run_world.Given as goal

abbrev pub ghosts-play-ThisRun-Run : goal.ghosts-play-ThisRun-Run
ghosts-play-ThisRun-Run g a = record {
  opening = world_of a.world;
  rooms = rooms a.world.stations.items;
  script = a.script.items;
  keeps = a.keeps;
}

abbrev pub ghosts-play-ThisRun-RunLedgers : goal.ghosts-play-ThisRun-RunLedgers
ghosts-play-ThisRun-RunLedgers g a = record { names = names_of a.ledgers; seats = a.nodes + 1 }

abbrev pub ghosts-play-ItsMarks-MarksName : goal.ghosts-play-ItsMarks-MarksName
ghosts-play-ItsMarks-MarksName g a = record { table = table_of a.opened }

abbrev pub ghosts-play-ThisRun-HubRun : goal.ghosts-play-ThisRun-HubRun
ghosts-play-ThisRun-HubRun g a = record {
  channels = a.channels.now;
  bounds = a.bounds;
  may_stop = g.W.RunWatch.may_stop;
  begun = true;
  journal = journal_id a.journal;
}
