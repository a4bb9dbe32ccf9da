use Rattle.std.proofs.Common.{◌≡◌, ◌∙◌, List, ap, refl, subst, sym, true, map}
use Rattle.std.proofs.lemmas.Result.{err_from_is_err_and}
use Rattle.clap.specs.Words.{App, HasKind, Text, app_of, fault_of, is_simple, is_simple_and_free, matches_of}
use Rattle.stream_words.specs.CommandLine.{kahnrun_stream}
use Rattle.stream_words.proofs.options.matches_by.Goals as goal

simple : is_simple kahnrun_stream ≡ true
unfolding kahnrun_stream
simple = refl

free : is_simple_and_free kahnrun_stream ≡ true
unfolding kahnrun_stream
free = refl

pub returns-in_err-matches-clause-refused : goal.returns-in_err-matches-clause-refused
returns-in_err-matches-clause-refused c =
    let words : List Text = map (λ word. word.now) c.args.words.now in
    let is : app_of c.in_ok-command.field-0 ≡ kahnrun_stream = c.in_ok-command.ensures in
    let p = err_from_is_err_and c.from_residual-in_err-matches.result c.from_residual-in_err-matches.ensures.1 in
    let has =
    subst (λ (a : App). HasKind (fault_of a words) c.in_err-matches.field-0.0) is
    (c.in_err-matches.ensures.kinds (ap is_simple_and_free is ∙ free)) in
    rw (p.1, p.2) has

pub returns-clause-rows : goal.returns-clause-rows
returns-clause-rows c =
    let words : List Text = map (λ word. word.now) c.args.words.now in
    let is : app_of c.in_ok-command.field-0 ≡ kahnrun_stream = c.in_ok-command.ensures in
    (c.in_ok-matches.ensures.matches (ap is_simple is ∙ simple)).0 ∙ ap (λ (a : App). matches_of a words) is

pub returns-clause-right : goal.returns-clause-right
returns-clause-right c =
    let words : List Text = map (λ word. word.now) c.args.words.now in
    let is : app_of c.in_ok-command.field-0 ≡ kahnrun_stream = c.in_ok-command.ensures in
    ap (λ (a : App). fault_of a words) (sym is) ∙ c.in_ok-matches.ensures.kinds (ap is_simple_and_free is ∙ free)
