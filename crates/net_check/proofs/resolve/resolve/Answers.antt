use Rattle.std.proofs.Common.{◌≡◌, subst, arith, List, map, slice_get, Some}
use Rattle.net_text.specs.Trees.{process_tree}
use Rattle.net_text.specs.declared.tree.ProcessText.{ProcessText}
use Rattle.net_check.proofs.resolve.resolve.Goals as goal

pub resolve_all-requires : goal.resolve_all-requires
resolve_all-requires c p process h =
    let r = c.requires.ready p process
    (subst (λ (xs : List ProcessText). slice_get (map process_tree xs) p ≡ Some process) c.deref-2.ensures.value
    h) in
    let n = r.node in omega arith
