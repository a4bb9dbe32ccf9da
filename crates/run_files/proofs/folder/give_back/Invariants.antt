use Rattle.std.proofs.Common.{◌≡◌, ◌++◌, List, length}
use Rattle.std.specs.Vec.Iter.{into_iter_items}
use Rattle.output_file.specs.declared.resumed.ResumedOutlet.{ResumedOutlet}
use Rattle.run_files.specs.Rules.{GoesOn}
use Rattle.run_files.specs.Wanted.{wanted_of}
use Rattle.run_files.specs.Opening.{AreUsed}
use Rattle.run_files.proofs.folder.give_back.Given as goal

-- the files that were given back, and those that remain
abbrev pub invariant-loop-outlet : goal.invariant-loop-outlet
invariant-loop-outlet g l = record {
  goes : GoesOn g.J.Judge.accepts (wanted_of l.fn.names) (g.H.Host.asked l.fn.host) (g.H.Host.asked l.host);
  used : (done : List (ResumedOutlet g.row.H-Lines.Denot g.H.Lines.LineFile)) × AreUsed l.opened done (g.H.Host.asked l.host)
      × (l.next ≡ length done) × (done ++ into_iter_items l.outlet-iterator ≡ l.fn.outlets.items);
}
