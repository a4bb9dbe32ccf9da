use Rattle.std.proofs.Common.{drop}
use Rattle.history_text.specs.Headers.{processes_text}
use Rattle.history_text.proofs.Writes.{WroteUpTo}
use Rattle.history_text.proofs.header.write_processes.Given as goal

abbrev pub invariant-loop-number : goal.invariant-loop-number
invariant-loop-number g l =
    WroteUpTo (g.W.Write.contents l.fn.out) (g.W.Write.contents l.out)
    (processes_text l.number (drop l.number l.processes) (drop l.number l.names)) (processes_text 0 l.processes l.names)
