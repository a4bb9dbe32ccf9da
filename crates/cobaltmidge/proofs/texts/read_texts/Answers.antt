use Rattle.std.proofs.Common.{rules, None}
use Rattle.std.proofs.lemmas.Result.{err_from_is_err_and}
use Rattle.run_files.proofs.Going.{goes_then}
use Rattle.cobaltmidge.specs.KeptStreams.{files_refused, inputs_stop, net_stops}
use Rattle.cobaltmidge.proofs.Given.{no_script}
use Rattle.std.proofs.lemmas.Grind.{elements}
use Rattle.std.proofs.Common.{arith}
use Rattle.cobaltmidge.proofs.texts.read_texts.Goals as goal

pub returns-in_err-inputs-clause-goes : goal.returns-in_err-inputs-clause-goes
returns-in_err-inputs-clause-goes g c = search (rules, goes_then)

pub returns-in_err-items-clause-goes : goal.returns-in_err-items-clause-goes
returns-in_err-items-clause-goes g c = search (rules, goes_then)

pub returns-in_err-tell_apart-clause-goes : goal.returns-in_err-tell_apart-clause-goes
returns-in_err-tell_apart-clause-goes g c = search (rules, goes_then)

pub returns-clause-goes : goal.returns-clause-goes
returns-clause-goes g c = search (rules, goes_then)

pub returns-clause-ready : goal.returns-clause-ready
returns-clause-ready g c =
    let read_net = c.tell_apart.ensures.goes.later _ (c.read_bytes-2.ensures.goes.later _ c.in_ok-net.ensures.read) in
    let read_inputs = c.tell_apart.ensures.goes.later _ c.in_ok-inputs.ensures.read in
    record {
      given = record { net = c.in_ok-net.net.items; inputs = c.in_ok-inputs.inputs.items; script = None; kept = None };
      read = record { net = read_net; inputs = read_inputs; script = no_script _ _ c.requires };
      accepted = record {
        net = c.in_ok-network.network.net.value;
        inputs = c.in_ok-items.items;
        of_net = c.in_ok-network.ensures.net;
        of_inputs = c.in_ok-items.ensures.inputs;
        of_script = tt;
        of_kept = tt;
      };
      apart = c.in_ok-tell_apart.ensures.apart;
    }

pub returns-clause-net_read : goal.returns-clause-net_read
returns-clause-net_read g c = c.tell_apart.ensures.goes.later _ (c.read_bytes-2.ensures.goes.later _ c.in_ok-net.ensures.read)

pub returns-clause-inputs_read : goal.returns-clause-inputs_read
returns-clause-inputs_read g c = c.tell_apart.ensures.goes.later _ c.in_ok-inputs.ensures.read

pub returns-in_err-network-clause-cause : goal.returns-in_err-network-clause-cause
returns-in_err-network-clause-cause g c =
    let p = err_from_is_err_and c.from_residual-in_err-network.result c.from_residual-in_err-network.ensures.1 in
    rw (p.1, p.2) (net_stops _ c.in_ok-net.ensures.read c.in_err-network.ensures.cause)

pub returns-in_err-items-clause-cause : goal.returns-in_err-items-clause-cause
returns-in_err-items-clause-cause g c =
    let p = err_from_is_err_and c.from_residual-in_err-items.result c.from_residual-in_err-items.ensures.1 in
    rw (p.1, p.2) (inputs_stop _ _ _ (c.read_bytes-2.ensures.goes.later _ c.in_ok-net.ensures.read) c.in_ok-network.ensures.net
    c.in_ok-inputs.ensures.read c.in_err-items.ensures.cause)

pub returns-in_err-tell_apart-clause-cause : goal.returns-in_err-tell_apart-clause-cause
returns-in_err-tell_apart-clause-cause g c =
    let p = err_from_is_err_and c.from_residual-in_err-tell_apart.result c.from_residual-in_err-tell_apart.ensures.1 in
    rw (p.1, p.2) (files_refused _ c.in_err-tell_apart.ensures.cause)

pub returns-clause-net : goal.returns-clause-net
returns-clause-net g c = grind (arith, elements)
