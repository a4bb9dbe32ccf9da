use Rattle.std.proofs.Common.{ℤ, List, length, map, sym, ap, subst, ◌∙◌}
use Rattle.kahn_net.specs.Fits.{AreCounted}
use Rattle.arrived.specs.ArrivedView.{ListView, none_gone}
use Rattle.arrived.proofs.Listing.{came_began, bases_began}
use Rattle.arrived.proofs.inputs.Arrived.new.Goals as goal

pub invariant_of-result : goal.invariant_of-result
invariant_of-result c =
    subst (λ (l : List (List ℤ)). AreCounted l)
    (sym (ap (map (λ (list : ListView). list.came)) c.in_ok-list_each.ensures ∙ came_began c.into_lists.result.items))
    c.into_lists.ensures.counted

pub returns-clause-came : goal.returns-clause-came
returns-clause-came c =
    ap (map (λ (list : ListView). list.came)) c.in_ok-list_each.ensures
    ∙ (came_began c.into_lists.result.items ∙ c.into_lists.ensures.lists)

pub returns-clause-bases : goal.returns-clause-bases
returns-clause-bases c =
    ap (map (λ (list : ListView). list.base)) c.in_ok-list_each.ensures
    ∙ (bases_began c.into_lists.result.items
    ∙ ap (λ (l : List (List ℤ)). none_gone (length l)) c.into_lists.ensures.lists)
