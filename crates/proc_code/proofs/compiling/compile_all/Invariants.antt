use Rattle.std.proofs.Common.{◌≡◌, map, take}
use Rattle.kahn_net.specs.Common.{code_of}
use Rattle.proc_code.specs.CodeView.{code_view}
use Rattle.proc_code.specs.Translation.{flat_code}
use Rattle.proc_code.proofs.compiling.compile_all.Given as goal

abbrev pub invariant-loop-process : goal.invariant-loop-process
invariant-loop-process l =
    map code_view l.codes.items ≡ map flat_code (map code_of (take l.process-index l.processes))
