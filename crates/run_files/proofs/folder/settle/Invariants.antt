use Rattle.run_files.specs.Opening.{OfFirst}
use Rattle.run_files.specs.Rules.{GoesOn}
use Rattle.run_files.specs.Syncing.{IsSynced}
use Rattle.run_files.specs.Wanted.{wanted_of}
use Rattle.run_files.proofs.folder.settle.Given as goal

abbrev pub invariant-loop-path : goal.invariant-loop-path
invariant-loop-path g l = record {
  goes : GoesOn g.J.Judge.accepts (wanted_of l.fn.names) (g.H.Host.asked l.fn.host) (g.H.Host.asked l.host);
  synced : OfFirst IsSynced l.path-index l.paths (g.H.Host.asked l.host);
}
