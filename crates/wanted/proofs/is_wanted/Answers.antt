use Rattle.std.proofs.Common.{Some, sym, ◌∙◌}
use Rattle.std.proofs.lemmas.Bool.Decides.{Decides-eqb}
use Rattle.std.proofs.lemmas.Slice.Eq.{strip_suffix_is}
use Rattle.wanted.proofs.is_wanted.Goals as goal

pub returns-in-Some-clause-whole : goal.returns-in-Some-clause-whole
returns-in-Some-clause-whole c =
    let apart = strip_suffix_is Decides-eqb _ _ (Some c.in-Some.first) c.in-Some.ensures.cases in
    λ whole. absurd (whole _ (sym c.as_bytes-wanted.ensures.value ∙ apart))
