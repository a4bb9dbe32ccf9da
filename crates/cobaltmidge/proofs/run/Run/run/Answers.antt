use Rattle.std.proofs.lemmas.Result.{IfErr-weaker}
use Rattle.protocol.specs.Node.Common.{network_of}
use Rattle.cobaltmidge.specs.Remaining.{IsFar, IsLeft}
use Rattle.cobaltmidge.specs.Names.{script_of}
use Rattle.cobaltmidge.specs.declared.unfinished.Unfinished.{Unfinished}
use Rattle.cobaltmidge.proofs.Remaining.{far_of}
use Rattle.cobaltmidge.proofs.run.Run.run.Goals as goal

pub returns-clause-left : goal.returns-clause-left
returns-clause-left g c =
    let run = c.args.self in
    let net = network_of run.network.now.net.value.program in
    IfErr-weaker c.run_into.result
    (λ (unfinished : Unfinished _ _). IsLeft run.settings net run.inputs (script_of run.script) _ unfinished.left)
    (λ (unfinished : Unfinished _ _). IsFar run.settings net run.inputs (script_of run.script) unfinished.left)
    (λ unfinished is. far_of run.settings net run.inputs (script_of run.script) _ unfinished.left is) c.run_into.ensures.left
