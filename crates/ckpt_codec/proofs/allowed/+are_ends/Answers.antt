use Rattle.std.proofs.Common.{suc, ◌-◌, Some, length, take, drop, get_or, option_copied, subst}
use Rattle.std.proofs.lemmas.List.{take_rest}
use Rattle.record.specs.declared.image.SavedEnd.{SavedEnd}
use Rattle.ckpt_codec.specs.RecordText.{saved_end_fields, ends_fields}
use Rattle.ckpt_codec.proofs.Testing.{Tests, ends_not, ends_then, one_more}
use Rattle.ckpt_codec.proofs.allowed.+are_ends.Goals as goal

pub returns-then-not-is_saved_end : goal.returns-then-not-is_saved_end
returns-then-not-is_saved_end t c =
    ends_not c.args.likes.now c.args.least c.args.ends.now c.saved-item.result (option_copied c.first.result)
    _ c.in-len1-up.len_at_least c.first.ensures
    (subst (λ e. Tests c.is_saved_end.result (saved_end_fields (option_copied c.first.result) c.args.least e))
    c.saved-item.is c.is_saved_end.ensures) c.if-not-is_saved_end.true

pub returns : goal.returns
returns t c =
    let all = c.args.ends.now in
    ends_then c.args.likes.now c.args.least c.args.ends.now c.saved-item.result (option_copied c.first.result)
    _ c.in-len1-up.len_at_least c.first.ensures
    (subst (λ e. Tests c.is_saved_end.result (saved_end_fields (option_copied c.first.result) c.args.least e))
    c.saved-item.is c.is_saved_end.ensures) c.rest.result.now _ c.if-not-is_saved_end.false c.rest.ensures
    (subst (λ xs. Tests c.are_ends.result
    (ends_fields (Some c.rest.result.now) (suc (get_or all 0 c.saved-item.result).channel) xs)) (take_rest all 1)
    (subst (λ (e : SavedEnd). Tests c.are_ends.result
    (ends_fields (Some c.rest.result.now) (suc e.channel) (take (length all - 1) (drop 1 all)))) c.saved-item.is
    (subst (λ n. Tests c.are_ends.result (ends_fields (Some c.rest.result.now) n (take (length all - 1) (drop 1 all))))
    (one_more c.saved-item.result.channel) c.are_ends.ensures)))
