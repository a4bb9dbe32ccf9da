use Rattle.std.proofs.Common.{ℕ, ◌<◌, Err, codes}
use Rattle.host.specs.Requests.{Has, MadeFile}
use Rattle.host.specs.declared.fault.HostFault.TheVariants as host
use Rattle.run_files.specs.Causes.{tried_name}
use Rattle.run_files.specs.Rules.{GoesOn}
use Rattle.run_files.specs.Wanted.{wanted_of}
use Rattle.run_files.proofs.folder.make_text.Given as goal

abbrev pub invariant-loop-nth : goal.invariant-loop-nth
invariant-loop-nth g l = record {
  goes : GoesOn g.J.Judge.accepts (wanted_of l.fn.names) (g.H.Host.asked l.fn.host) (g.H.Host.asked l.host);
  taken : (k : ℕ) → k < l.nth → Has (MadeFile (tried_name l.stem (codes "making") k) (Err host.IsThere)) (g.H.Host.asked l.host);
}
