use Rattle.std.proofs.lemmas.Slice.Eq.{slice_eq-Decides}
use Rattle.std.specs.Cmp.{signed_Decides}
use Rattle.cobaltmidge.proofs.grown.is_same.Goals as goal

pub returns : goal.returns
returns c = slice_eq-Decides signed_Decides _ _ _ c.eq.ensures
