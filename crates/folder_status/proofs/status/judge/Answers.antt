use Rattle.std.proofs.Common.{◌∙◌, refl, sym}
use Rattle.kahn_net.specs.Syntax.{network_of}
use Rattle.rerun.specs.Tables.{first_table}
use Rattle.rerun.specs.Whole.{inputs_in, net_in, table_in}
use Rattle.folder_status.specs.Endings.{AreStreams, HasCome}
use Rattle.folder_status.proofs.Running.{at_same, come}
use Rattle.folder_status.proofs.status.judge.Goals as goal

pub returns-in-Ok-clause-come : goal.returns-in-Ok-clause-come
returns-in-Ok-clause-come c =
    let again = c.in_ok-again.again in
    let rerun = again.rerun in
    at_same (λ net inputs. HasCome net inputs c.args.kept.now c.in_ok-got.got.items) (net_in rerun) (network_of c.args.net.now.value.program) (inputs_in rerun)
    c.args.inputs.now.value (sym c.in_ok-again.ensures.net) (sym c.in_ok-again.ensures.inputs)
    (come (net_in rerun) (inputs_in rerun) c.args.kept.now c.in_ok-got.got.items (table_in rerun) (first_table (net_in rerun)) c.first_room-room.result
    again.stopped _ refl refl rerun.reached c.in_ok-again.ensures.since c.in_ok-again.ensures.within (c.in_ok-got.ensures.items ∙ c.got.ensures))

pub returns-in-Ok-clause-streams : goal.returns-in-Ok-clause-streams
returns-in-Ok-clause-streams c =
    let first = c.in_ok-again.again.rerun in
    let rerun = c.in_ok-again-2.again.rerun in
    at_same (λ net inputs. AreStreams net inputs c.args.kept.now c.in-Ok.field-0.compared.items) (net_in rerun)
    (network_of c.args.net.now.value.program) (inputs_in rerun) c.args.inputs.now.value
    (sym (c.in_ok-again-2.ensures.net ∙ c.in_ok-again.ensures.net)) (sym (c.in_ok-again-2.ensures.inputs ∙ c.in_ok-again.ensures.inputs))
    c.in-Ok.ensures.streams
