use Rattle.std.proofs.Common.{◌≡◌, ℕ, ◌+◌, true, refl, sym, ap, subst, ◌∙◌, arith}
use Rattle.std.specs.Prelude.{slice_get, Some}
use Rattle.std.proofs.lemmas.Option.{slice_get-get_or}
use Rattle.protocol.specs.Node.Common.{Network}
use Rattle.protocol_laws.specs.World.OutputLaws.{map_at}
use Rattle.rerun.specs.Tables.{is_output, log_on}
use Rattle.rerun.specs.Whole.{inputs_in, net_in, table_in}
use Rattle.resuming.proofs.Following.{all_let_go, as_many, one_let_go}
use Rattle.resuming.proofs.catching_up.let_go_all.Goals as goal
use Rattle.retained.specs.LogState.{IsInLog, trimmed}
use Rattle.station.specs.OutputView.{output_view, outputs_view}

pub loop-output-preserved : goal.loop-output-preserved
loop-output-preserved g c =
    let old = c.args.rerun.now in
    let now = c.loop-output.rerun in
    let then = c.let_go.new.self in
    let outputs = c.args.outputs.now in
    let output = c.output-item.result in
    let index = c.loop-output.output-index in
    let so_far = c.loop-output.invariant in
    let there : slice_get outputs index ≡ Some output =
    slice_get-get_or outputs index output (omega arith) ∙ ap Some (sym c.output-item.is) in
    let seen = map_at (output_view g.O.Outlet.taken) outputs index output there in
    let outside : is_output (net_in now).channels output.channel ≡ true =
    ap (λ (net : Network). is_output net.channels output.channel) so_far.net ∙ (c.requires index _ seen).outside in
    record {
      so_far = one_let_go (net_in old) (inputs_in old) index (index + 1) (outputs_view g.O.Outlet.taken outputs)
          (output_view g.O.Outlet.taken output) (table_in old) (table_in now) (table_in then) so_far.so_far refl seen
          c.requires
          (subst (λ (n : ℕ). IsInLog (log_on (table_in now) output.channel) n
          → log_on (table_in then) output.channel ≡ trimmed (log_on (table_in now) output.channel) n) c.len.ensures
          (c.let_go.ensures.let_go outside))
          c.let_go.ensures.others;
      net = c.let_go.ensures.net ∙ so_far.net;
      inputs = c.let_go.ensures.inputs ∙ so_far.inputs;
    }

pub returns-clause-taken : goal.returns-clause-taken
returns-clause-taken g c =
    let old = c.args.rerun.now in
    let outputs = c.args.outputs.now in
    let many = as_many (output_view g.O.Outlet.taken) outputs in
    all_let_go (net_in old) (inputs_in old) c.loop-output.output-index (outputs_view g.O.Outlet.taken outputs)
    (table_in old) (table_in c.loop-output.rerun) c.loop-output.invariant.so_far (omega (arith, many)) c.requires
