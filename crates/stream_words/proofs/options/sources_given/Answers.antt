use Rattle.std.proofs.Common.{◌≡◌, ◌∙◌, List, [], None, Option, Some, ap, codes, subst, sym}
use Rattle.std.specs.Prelude.{MatchResult, unwrap_or}
use Rattle.std.specs.List.{AllZip}
use Rattle.clap.specs.Words.{Text, all_of, found_of, rows_of}
use Rattle.clap.specs.Walk.{texts}
use Rattle.clap.proofs.WalkLemmas.{raw_values-rows}
use Rattle.stream_words.specs.Asked.{IsSource, IsSourceFault, values_of}
use Rattle.stream_words.proofs.options.sources_given.Goals as goal

pub returns-in-Some : goal.returns-in-Some
returns-in-Some c =
    let found = found_of c.args.matches.now in
    let all : Some (texts c.in-Some.values.now) ≡ all_of (codes "input") (rows_of found) =
    c.in-Some.ensures ∙ raw_values-rows found (codes "input") in
    let are : texts c.in-Some.values.now ≡ values_of (codes "input") (rows_of found) =
    ap (λ (given : Option (List Text)). unwrap_or given []) all in
    subst (λ (values : List Text). MatchResult c.sources_of.result (λ sources. AllZip IsSource values sources.items) (IsSourceFault values))
    are c.sources_of.ensures

pub returns-in-None : goal.returns-in-None
returns-in-None c =
    let found = found_of c.args.matches.now in
    let all : None ≡ all_of (codes "input") (rows_of found) = c.in-None.ensures ∙ raw_values-rows found (codes "input") in
    let are : [] ≡ values_of (codes "input") (rows_of found) =
    ap (λ (given : Option (List Text)). unwrap_or given []) all in
    rw (sym are, c.new.ensures.items) tt
