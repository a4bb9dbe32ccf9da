use Rattle.std.proofs.Common.{◌≡◌, Some, rules, length, option_copied, subst, ap, ◌∙◌}
use Rattle.std.specs.Prelude.{◌↔◌, IsTrue}
use Rattle.record.specs.Common.{MAX_CHANNELS, ImageView}
use Rattle.ckpt_codec.specs.Fields.{IsAllowed}
use Rattle.ckpt_codec.specs.RecordText.{at_most, wanted, wanted_or, ends_in, ends_fields}
use Rattle.ckpt_codec.proofs.Testing.{Tests, as_found, field_then, ends_listed}
use Rattle.ckpt_codec.proofs.allowed.ends_stand.Goals as goal

pub returns : goal.returns
returns c =
    let long : c.len.result ≡ length c.image.inside.ends.items = search rules in
    let like = option_copied c.args.like in
    let all = c.args.image.now.ends in
    let how_many = wanted (λ (i : ImageView). length i.ends) like in
    field_then (wanted_or how_many (at_most 2 MAX_CHANNELS (length all))) (ends_fields (ends_in like) 0 all) _ _
    (as_found c.wanted_ends.result how_many (at_most 2 MAX_CHANNELS (length all)) _ c.wanted_ends.ensures
    (subst (λ n. IsTrue c.end_count_stands.result
    ↔ IsAllowed (wanted_or c.wanted_ends.result (at_most 2 MAX_CHANNELS n)))
    (long ∙ ap (λ (i : ImageView). length i.ends) c.image.view_is) c.end_count_stands.ensures))
    c.if-not-end_count_stands.false
    (subst (λ fs. Tests c.are_ends.result fs) (ends_listed (ends_in like) 0 all)
    (subst (λ ls. Tests c.are_ends.result (ends_fields (Some ls) 0 all)) c.ends_of.ensures
    (subst (λ xs. Tests c.are_ends.result (ends_fields (Some c.ends_of.result.now) 0 xs))
    (c.as_slice.ensures.value ∙ ap (λ (i : ImageView). i.ends) c.image.view_is) c.are_ends.ensures)))
