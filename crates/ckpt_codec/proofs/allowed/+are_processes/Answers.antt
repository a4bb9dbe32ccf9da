use Rattle.std.proofs.Common.{suc, ◌-◌, Some, length, take, drop, get_or, option_copied, subst, ap, ◌∙◌}
use Rattle.std.proofs.lemmas.List.{take_rest}
use Rattle.record.specs.Common.{SavedProcessView}
use Rattle.ckpt_codec.specs.RecordText.{process_fields, processes_fields}
use Rattle.ckpt_codec.proofs.Testing.{Tests, processes_not, processes_then, one_more}
use Rattle.ckpt_codec.proofs.allowed.+are_processes.Goals as goal

pub returns-then-not-is_process : goal.returns-then-not-is_process
returns-then-not-is_process t c =
    processes_not c.args.likes.now c.args.least c.args.processes.now c.process-item.result
    (option_copied c.first.result) _ c.in-len1-up.len_at_least c.first.ensures
    (subst (λ e. Tests c.is_process.result (process_fields (option_copied c.first.result) c.args.least e))
    c.process-item.is c.is_process.ensures) c.if-not-is_process.true

pub returns : goal.returns
returns t c =
    let all = c.args.processes.now in
    processes_then c.args.likes.now c.args.least c.args.processes.now c.process-item.result
    (option_copied c.first.result) _ c.in-len1-up.len_at_least c.first.ensures
    (subst (λ e. Tests c.is_process.result (process_fields (option_copied c.first.result) c.args.least e))
    c.process-item.is c.is_process.ensures) c.rest.result.now _ c.if-not-is_process.false c.rest.ensures
    (subst (λ xs. Tests c.are_processes.result
    (processes_fields (Some c.rest.result.now) (suc (get_or all 0 c.process-item.result).number) xs))
    (take_rest all 1)
    (subst (λ (e : SavedProcessView). Tests c.are_processes.result
    (processes_fields (Some c.rest.result.now) (suc e.number) (take (length all - 1) (drop 1 all))))
    c.process-item.is
    (subst (λ n. Tests c.are_processes.result
    (processes_fields (Some c.rest.result.now) n (take (length all - 1) (drop 1 all))))
    (one_more _ ∙ ap (λ (p : SavedProcessView). suc p.number) c.process.view_is) c.are_processes.ensures)))
