use Rattle.std.proofs.Common.{arith, ◌<◌, List, drop, length}
use Rattle.std.proofs.lemmas.List.{at_drop_all}
use Rattle.kahn_net.specs.declared.program.Process.{Process}
use Rattle.history_text.specs.Headers.{processes_text}
use Rattle.history_text.proofs.Names.{next_process}
use Rattle.history_text.proofs.Writes.{all_written, nothing_yet, one_more}
use Rattle.history_text.proofs.header.write_processes.Goals as goal

pub loop-number-init : goal.loop-number-init
loop-number-init g c = nothing_yet _ _

pub loop-number-preserved : goal.loop-number-preserved
loop-number-preserved g c =
    let enough : c.loop-number.number < length c.args.names.now =
    omega (arith, c.loop-number-test.true, c.requires) in
    one_more _ _ _ _ _ _ _ c.loop-number.invariant c.in_ok-write_process.ensures
    (next_process c.args.processes.now c.args.names.now c.loop-number.number _ _ c.index-names-number.result _
    c.loop-number-test.true enough c.index-processes-number.is c.index-names-number.is)

pub returns : goal.returns
returns g c =
    let i = c.loop-number.number in
    all_written _ _ _ _ c.loop-number.invariant
    (at_drop_all (λ (x : List Process). processes_text i x (drop i c.args.names.now)) c.args.processes.now i
    c.loop-number-test.false)
