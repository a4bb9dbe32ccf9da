use Rattle.std.proofs.Common.{◌≡◌, Some, rules, length, option_copied, subst, ap, ◌∙◌}
use Rattle.std.specs.Prelude.{◌↔◌, IsTrue}
use Rattle.record.specs.Common.{MAX_PROCESSES, ImageView}
use Rattle.ckpt_codec.specs.Fields.{IsAllowed}
use Rattle.ckpt_codec.specs.RecordText.{at_most, wanted, wanted_or, processes_in, processes_fields}
use Rattle.ckpt_codec.proofs.Testing.{Tests, as_found, field_then, processes_listed}
use Rattle.ckpt_codec.proofs.allowed.processes_stand.Goals as goal

pub returns : goal.returns
returns c =
    let long : c.len.result ≡ length c.image.inside.processes.items = search rules in
    let like = option_copied c.args.like in
    let all = c.args.image.now.processes in
    let how_many = wanted (λ (i : ImageView). length i.processes) like in
    field_then (wanted_or how_many (at_most 1 MAX_PROCESSES (length all))) (processes_fields (processes_in like) 0 all)
    _ _
    (as_found c.wanted_processes.result how_many (at_most 1 MAX_PROCESSES (length all)) _ c.wanted_processes.ensures
    (subst (λ n. IsTrue c.length_stands.result
    ↔ IsAllowed (wanted_or c.wanted_processes.result (at_most 1 MAX_PROCESSES n)))
    (long ∙ ap (λ (i : ImageView). length i.processes) c.image.view_is) c.length_stands.ensures))
    c.if-not-length_stands.false
    (subst (λ fs. Tests c.are_processes.result fs) (processes_listed (processes_in like) 0 all)
    (subst (λ ls. Tests c.are_processes.result (processes_fields (Some ls) 0 all)) c.processes_of.ensures
    (subst (λ xs. Tests c.are_processes.result (processes_fields (Some c.processes_of.result.now) 0 xs))
    (c.as_slice.ensures.value ∙ ap (λ (i : ImageView). i.processes) c.image.view_is) c.are_processes.ensures)))
