use Rattle.rerun.specs.Whole.{inputs_in, net_in, table_in}
use Rattle.folder_status.proofs.Running.{all_by}
use Rattle.folder_status.proofs.again.Again.has_all.Goals as goal

pub returns-in-Rests : goal.returns-in-Rests
returns-in-Rests c =
    let again = c.args.self.now in
    all_by (net_in again.rerun) (inputs_in again.rerun) (table_in again.rerun) again.stopped c.is_to_put.result again.since c.in-Rests.is
    c.is_to_put.ensures.all
