use Rattle.std.proofs.lemmas.Slice.Eq.{slice_eq-Decides}
use Rattle.std.specs.Cmp.{signed_Decides}
use Rattle.retained.proofs.log.are_same_items.Goals as goal

pub returns : goal.returns
returns c = slice_eq-Decides signed_Decides _ _ _ c.eq.ensures
