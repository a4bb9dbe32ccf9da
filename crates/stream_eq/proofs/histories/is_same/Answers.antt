use Rattle.std.proofs.Common.{◌≡◌}
use Rattle.std.specs.Bool.{Decides}
use Rattle.std.proofs.lemmas.Bool.Decides.{Decides-int_eq}
use Rattle.std.proofs.lemmas.Slice.Eq.{slice_eq-Decides}
use Rattle.stream_eq.proofs.histories.is_same.Goals as goal

pub returns : goal.returns
returns c =
    let d : Decides c.eq.result (c.as_slice.result.now ≡ c.as_slice-2.result.now) =
    slice_eq-Decides Decides-int_eq _ _ _ c.eq.ensures in
    rw (c.as_slice.ensures, c.as_slice-2.ensures) at d
