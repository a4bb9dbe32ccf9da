use Rattle.std.proofs.Common.{◌≡◌, ◌<◌, ◌-◌, ℕ, ℤ, List, length, get_or, sym, ap, ◌∙◌, arith, rules}
use Rattle.std.specs.Prelude.{slice_set}
use Rattle.std.proofs.lemmas.List.{get_or-set_same, set-set, set-get_or, get_or_default, take_at, length-append}
use Rattle.retained.specs.LogState.{LogState, IsInLog, log_end, cut_at}
use Rattle.rerun.specs.Tables.{pushed}
use Rattle.rerun.proofs.taking.+push_from.Goals as goal

-- a log is cut where it had ended
cut_back : (log : LogState) (items : List ℤ) (end : ℕ) → end ≡ log_end log → cut_at (pushed log items) end ≡ log
cut_back log items end is =
    let count : length log.items ≡ end - log.base = omega (arith, is) in
    ap (λ (l : List ℤ). let made : LogState = record { base = log.base; items = l } in made)
    (take_at log.items items (end - log.base) count)

-- what was put behind a log of a list is taken off again
taken_back : (xs ys : List LogState) (k : ℕ) (x z w log cut : LogState) (items : List ℤ) (end : ℕ) → k < length xs
    → x ≡ get_or xs k x → z ≡ get_or xs k z → end ≡ log_end z → log ≡ pushed x items → ys ≡ slice_set xs k log
    → w ≡ get_or ys k w → (IsInLog w end → cut ≡ cut_at w end) → slice_set ys k cut ≡ xs
taken_back xs ys k x z w log cut items end within read again is put was there off =
    let same : z ≡ x = again ∙ (get_or_default xs k z x within ∙ sym read) in
    let now : w ≡ pushed x items =
    there ∙ (ap (λ (l : List LogState). get_or l k w) was ∙ (get_or-set_same xs k log w within ∙ put)) in
    let ends : end ≡ log_end x = is ∙ ap log_end same in
    let long = length-append x.items items in
    let inside : IsInLog (pushed x items) end =
    record { from_base = omega (arith, ends); to_end = omega (arith, ends, long) } in
    let back : cut ≡ x =
    off (rw now inside) ∙ (ap (λ (l : LogState). cut_at l end) now ∙ cut_back x items end ends) in
    ap (λ (l : List LogState). slice_set l k cut) was
    ∙ (set-set xs k log cut
    ∙ (ap (λ (l : LogState). slice_set xs k l) (back ∙ read) ∙ set-get_or xs k x))

pub returns-in-Err-push_from-clause-err : goal.returns-in-Err-push_from-clause-err
returns-in-Err-push_from-clause-err t c =
    taken_back c.args.logs.now.items _ c.args.from c.index_mut.result.now c.index.result.now
    c.index_mut-in-Err-push_from.result.now c.push.new.log c.cut.new.self c.put_by.result.now c.end-end.result
    (search rules) c.index_mut.ensures.value c.index.ensures c.end-end.ensures.value c.in-Ok.ensures.ok
    c.in-Err-push_from.ensures.err c.index_mut-in-Err-push_from.ensures.value c.cut.ensures.cut
