use Rattle.std.proofs.Common.{◌≡◌, ap, ◌∙◌, subst, sym}
use Rattle.kahn_net.specs.Syntax.{network_of}
use Rattle.net_check.specs.declared.net.Net.{Net}
use Rattle.rerun.specs.Rerunning.{first_stage}
use Rattle.rerun.specs.TableOf.{table_view}
use Rattle.rerun.specs.Tables.{TableView, HasRerun, IsAt, IsInOrder, first_table}
use Rattle.rerun.proofs.Kept.{first_at, first_ordered, first_rerun}
use Rattle.rerun.proofs.rerun.Rerun.new.Goals as goal

pub invariant_of-result : goal.invariant_of-result
invariant_of-result c =
    let net = network_of c.args.net.value.program in
    let inputs = c.args.inputs.value in
    let first : table_view c.in_ok-table.table ≡ first_table net =
    c.in_ok-table.ensures ∙ ap (λ (n : Net). first_table (network_of n.program)) c.deref.ensures in
    record {
      fits = c.requires;
      ordered = subst (λ (t : TableView). IsInOrder net inputs t) (sym first) (first_ordered net inputs);
      reached = subst (λ (t : TableView). ∥ HasRerun net inputs t ∥₁) (sym first) ∣ first_rerun net inputs ∣₁;
    }

pub returns-clause-stage : goal.returns-clause-stage
returns-clause-stage c =
    let net = network_of c.args.net.value.program in
    let inputs = c.args.inputs.value in
    let first : table_view c.in_ok-table.table ≡ first_table net =
    c.in_ok-table.ensures ∙ ap (λ (n : Net). first_table (network_of n.program)) c.deref.ensures in
    subst (λ (t : TableView). IsAt net inputs t (first_stage net inputs)) (sym first) (first_at net inputs)
