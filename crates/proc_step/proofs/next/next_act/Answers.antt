use Rattle.std.proofs.Common.{ap, ◌∙◌, sym, arith}
use Rattle.std.proofs.lemmas.List.{length-map}
use Rattle.kahn_net.specs.Common.{next_of, code_of, network_of, standing_in}
use Rattle.kahn_net.specs.declared.state.Mode.{Mode}
use Rattle.proc_code.specs.Laws.Codes.{as_many, code_there}
use Rattle.proc_step.proofs.next.next_act.Goals as goal

pub index-requires : goal.index-requires
index-requires c =
    let net = c.args.net.now in
    let many = as_many net.codes.items (network_of net.program).codes net.compiled in
    let named = length-map net.program.processes.items code_of in
    omega (arith, many, named, c.requires)

pub returns-in-At : goal.returns-in-At
returns-in-At c code is =
    let net = c.args.net.now in
    c.act_of.ensures code
    (code_there net.codes.items (network_of net.program).codes net.compiled c.args.process c.index.result.now code
    c.index.ensures is)
    ∙ ap (λ (m : Mode). next_of code (standing_in m c.args.state.now.variables.items)) (sym c.in-At.is)
