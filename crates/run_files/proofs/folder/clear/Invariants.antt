use Rattle.std.proofs.Common.{take}
use Rattle.run_files.specs.Opening.{OfFirst}
use Rattle.run_files.specs.Removing.{IsFileRemoved}
use Rattle.run_files.specs.Leftovers.{AreGone, IsFirst}
use Rattle.run_files.specs.Rules.{GoesOn}
use Rattle.run_files.specs.Wanted.{wanted_of}
use Rattle.run_files.proofs.folder.clear.Given as goal

abbrev pub invariant-loop-path : goal.invariant-loop-path
invariant-loop-path g l = record {
  goes : GoesOn g.J.Judge.accepts (wanted_of l.fn.names) (g.H.Host.asked l.fn.host) (g.H.Host.asked l.host);
  removed : OfFirst IsFileRemoved l.path-index (take l.fn.made l.fn.paths) (g.H.Host.asked l.host);
  gone : AreGone (IsFirst l.path-index (take l.fn.made l.fn.paths)) (g.H.Host.asked l.host);
}
