use Rattle.std.proofs.Common.{rules, ◌∙◌, ap, sym}
use Rattle.rerun.specs.Tables.{first_table}
use Rattle.rerun.specs.Whole.{inputs_in, net_in, table_in}
use Rattle.folder_status.proofs.Running.{none_taken, within_by}
use Rattle.folder_status.proofs.again.run_up_to.Goals as goal

pub go_on-requires-clause-taken : goal.go_on-requires-clause-taken
go_on-requires-clause-taken c =
    let rerun = c.in_ok-rerun.rerun in
    none_taken (net_in rerun) (inputs_in rerun) (table_in rerun) c.in_ok-outputs.outputs.items
    (c.in_ok-rerun.ensures.table ∙ ap first_table (sym c.in_ok-rerun.ensures.net)) c.in_ok-outputs.ensures.empty

pub returns-clause-within : goal.returns-clause-within
returns-clause-within c =
    let rerun = c.in_ok-rerun.rerun in
    within_by c.go_on.result (net_in rerun) _ (table_in rerun) c.args.kept.now c.args.room (search rules)
    (c.in_ok-rerun.ensures.table ∙ ap first_table (sym c.in_ok-rerun.ensures.net)) c.go_on.ensures.net c.go_on.ensures.within
