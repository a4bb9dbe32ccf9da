use Rattle.std.proofs.Common.{Some, None, refl}
use Rattle.std.proofs.lemmas.Bool.Decides.{Decides-eqb}
use Rattle.std.proofs.lemmas.Slice.Eq.{strip_prefix_is}
use Rattle.wanted.proofs.Beginning.{nothing_follows, something_follows, nothing_begins}
use Rattle.wanted.proofs.begins.Goals as goal

pub returns-in-Some-empty : goal.returns-in-Some-empty
returns-in-Some-empty c =
    let apart =
    strip_prefix_is Decides-eqb c.args.came.now c.args.first.now (Some c.in-Some-empty.field-0)
    c.in-Some-empty.ensures.cases in
    ((λ _. nothing_follows _ _ _ apart c.in-Some-empty.len_below), λ _. refl)

pub returns-in-Some-len1-up : goal.returns-in-Some-len1-up
returns-in-Some-len1-up c =
    let apart =
    strip_prefix_is Decides-eqb c.args.came.now c.args.first.now (Some c.in-Some-len1-up.field-0)
    c.in-Some-len1-up.ensures.cases in
    something_follows _ _ _ apart c.in-Some-len1-up.len_at_least

pub returns-in-None : goal.returns-in-None
returns-in-None c =
    nothing_begins _ _ (strip_prefix_is Decides-eqb c.args.came.now c.args.first.now None c.in-None.ensures.cases)
