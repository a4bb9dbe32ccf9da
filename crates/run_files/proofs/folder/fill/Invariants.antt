use Rattle.std.proofs.Common.{◌≡◌}
use Rattle.run_files.specs.Rules.{GoesWith}
use Rattle.run_files.specs.Leftovers.{IsFirst}
use Rattle.run_files.specs.Wanted.{wanted_of}
use Rattle.run_files.specs.Opening.{AreMade}
use Rattle.run_files.proofs.folder.fill.Given as goal

abbrev pub invariant-loop-path : goal.invariant-loop-path
invariant-loop-path g l = record {
  goes : GoesWith (IsFirst l.made l.paths) g.J.Judge.accepts (wanted_of l.fn.names) (g.H.Host.asked l.fn.host) (g.H.Host.asked l.host);
  count : l.made ≡ l.path-index;
  made : AreMade l.made l.paths (g.H.Host.asked l.host);
}
