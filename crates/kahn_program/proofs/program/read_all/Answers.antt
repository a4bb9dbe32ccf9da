use Rattle.std.proofs.Common.{rules}
use Rattle.std.proofs.lemmas.Result.{err_from_is_err_and}
use Rattle.run_files.proofs.Going.{goes_then}
use Rattle.kahn_program.proofs.Causes.{by_inputs, by_net, by_script, by_unread_inputs, by_unread_net}
use Rattle.std.proofs.lemmas.Grind.{elements}
use Rattle.std.proofs.Common.{arith}
use Rattle.kahn_program.proofs.program.read_all.Goals as goal

pub returns-in_err-inputs_text-clause-goes : goal.returns-in_err-inputs_text-clause-goes
returns-in_err-inputs_text-clause-goes g c = search (rules, goes_then)

pub returns-in_err-inputs-clause-goes : goal.returns-in_err-inputs-clause-goes
returns-in_err-inputs-clause-goes g c = search (rules, goes_then)

pub returns-in_err-script-clause-goes : goal.returns-in_err-script-clause-goes
returns-in_err-script-clause-goes g c = search (rules, goes_then)

pub returns-clause-goes : goal.returns-clause-goes
returns-clause-goes g c = search (rules, goes_then)

pub returns-clause-read : goal.returns-clause-read
returns-clause-read g c = record {
  net = c.read_lines.ensures.goes.later _ (c.read_bytes-2.ensures.goes.later _ c.in_ok-net_text.ensures.read);
  inputs = c.read_lines.ensures.goes.later _ c.in_ok-inputs_text.ensures.read;
  script = c.in_ok-script.ensures.read;
}

pub returns-in_err-net_text-clause-cause : goal.returns-in_err-net_text-clause-cause
returns-in_err-net_text-clause-cause g c = search (rules, by_unread_net)

pub returns-in_err-net-clause-cause : goal.returns-in_err-net-clause-cause
returns-in_err-net-clause-cause g c =
    let p = err_from_is_err_and c.from_residual-in_err-net.result c.from_residual-in_err-net.ensures.1 in
    rw (p.1, p.2) (by_net _ _ _ _ c.in_ok-net_text.ensures.read c.in_err-net.ensures.cause)

pub returns-in_err-inputs_text-clause-cause : goal.returns-in_err-inputs_text-clause-cause
returns-in_err-inputs_text-clause-cause g c = search (rules, by_unread_inputs)

pub returns-in_err-inputs-clause-cause : goal.returns-in_err-inputs-clause-cause
returns-in_err-inputs-clause-cause g c =
    let p = err_from_is_err_and c.from_residual-in_err-inputs.result c.from_residual-in_err-inputs.ensures.1 in
    rw (p.1, p.2) (by_inputs _ (g.H.Host.asked c.read_bytes.new.host) _ _ _ _ _ c.read_bytes-2.ensures.goes.later c.in_ok-net_text.ensures.read
    c.in_ok-net.ensures.net c.in_ok-inputs_text.ensures.read c.in_err-inputs.ensures.cause)

pub returns-in_err-script-clause-cause : goal.returns-in_err-script-clause-cause
returns-in_err-script-clause-cause g c =
    let p = err_from_is_err_and c.from_residual-in_err-script.result c.from_residual-in_err-script.ensures.1 in
    rw (p.1, p.2) (by_script _ _ _ _ _ _ _ _ c.read_bytes-2.ensures.goes.later c.read_lines.ensures.goes.later c.in_ok-net_text.ensures.read
    c.in_ok-net.ensures.net c.node_count.ensures.count c.in_err-script.ensures.cause)

pub returns-clause-lines : goal.returns-clause-lines
returns-clause-lines g c = grind (arith, elements)

pub returns-clause-net : goal.returns-clause-net
returns-clause-net g c = grind (arith, elements)
