use Rattle.std.proofs.Common.{◌≡◌, ◌<◌, ℕ, ℤ, List, Some}
use Rattle.std.specs.Prelude.{slice_get}
use Rattle.station.specs.declared.output.Output.{Output}
use Rattle.folder_status.specs.Kept.{items_of}
use Rattle.folder_status.specs.declared.kept.KeptOutput.{KeptOutput}
use Rattle.folder_status.proofs.comparing.are_same.Given as goal

-- those before are
abbrev pub invariant-loop-place : goal.invariant-loop-place
invariant-loop-place l = (place : ℕ) (one : KeptOutput) (output : Output (List ℤ)) → place < l.place → slice_get l.kept place ≡ Some one
    → slice_get l.outputs place ≡ Some output → items_of one ≡ output.outlet
