use Rattle.std.proofs.Common.{◌≡◌, ◌∙◌, List, ap, refl, subst, true, map}
use Rattle.std.proofs.lemmas.Result.{err_from_is_err_and}
use Rattle.clap.specs.Words.{App, HasKind, Row, Text, app_of, fault_of, found_of, is_simple}
use Rattle.clap.specs.Words.{is_simple_and_free, matches_of, rows_of}
use Rattle.status_program.specs.StatusWords.{kahnrun_status, IsStatusAsked}
use Rattle.status_program.proofs.options.status_options.Goals as goal

simple : is_simple kahnrun_status ≡ true
unfolding kahnrun_status
simple = refl

free : is_simple_and_free kahnrun_status ≡ true
unfolding kahnrun_status
free = refl

pub returns-in_err-matches-clause-refused : goal.returns-in_err-matches-clause-refused
returns-in_err-matches-clause-refused g c =
    let words : List Text = map g.S.AsStr.text c.args.words.now in
    let is : app_of c.in_ok-command.field-0 ≡ kahnrun_status = c.in_ok-command.ensures in
    let p = err_from_is_err_and c.from_residual-in_err-matches.result c.from_residual-in_err-matches.ensures.1 in
    let has =
    subst (λ (a : App). HasKind (fault_of a words) c.in_err-matches.field-0.0) is
    (c.in_err-matches.ensures.kinds (ap is_simple_and_free is ∙ free)) in
    rw (p.1, p.2) has

pub returns-clause-asked : goal.returns-clause-asked
returns-clause-asked g c =
    let words : List Text = map g.S.AsStr.text c.args.words.now in
    let is : app_of c.in_ok-command.field-0 ≡ kahnrun_status = c.in_ok-command.ensures in
    let rows : rows_of (found_of c.in_ok-matches.matches) ≡ matches_of kahnrun_status words =
    (c.in_ok-matches.ensures.matches (ap is_simple is ∙ simple)).0 ∙ ap (λ (a : App). matches_of a words) is in
    subst (λ (r : List Row). IsStatusAsked r c.in_ok-options.options) rows c.in_ok-options.ensures
