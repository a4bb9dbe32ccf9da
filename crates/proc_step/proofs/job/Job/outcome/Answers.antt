use Rattle.std.proofs.Common.{get_or, ap, ◌∙◌}
use Rattle.std.proofs.lemmas.Result.{IfOk-weaker}
use Rattle.kahn_net.specs.Common.{network_of}
use Rattle.net_check.specs.declared.net.Net.{Net}
use Rattle.proc_code.specs.Laws.Codes.{code_there}
use Rattle.proc_step.proofs.job.Job.outcome.Goals as goal

pub returns : goal.returns
returns c =
    let job = c.args.self.now in
    let net = job.net.value in
    let code = c.index-code.result.now in
    let at = c.index-code.ensures ∙ ap (λ (n : Net). get_or n.codes.items job.process code) c.deref-net.ensures in
    IfOk-weaker c.take_turn.result _ _
    (λ after turn. ∣ (λ process here.
    let valid = net.valid.codes job.process process here in
    turn process valid.passes valid.repeats
    (code_there net.codes.items (network_of net.program).codes net.compiled job.process code process at here)) ∣₁)
    (rw (c.deref.ensures.value, c.deref-2.ensures.value) at c.take_turn.ensures)
