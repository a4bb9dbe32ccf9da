use Rattle.std.proofs.Common.{◌≡◌, ◌<◌, ℕ, ℤ, List, Some}
use Rattle.std.specs.Prelude.{slice_get}
use Rattle.station.specs.declared.output.Output.{Output}
use Rattle.folder_status.specs.Endings.{IsRight}
use Rattle.folder_status.specs.declared.kept.KeptOutput.{KeptOutput}
use Rattle.folder_status.proofs.comparing.first_wrong.Given as goal

-- those before are right
abbrev pub invariant-loop-place : goal.invariant-loop-place
invariant-loop-place l = (place : ℕ) (one : KeptOutput) (output : Output (List ℤ)) → place < l.place → slice_get l.kept place ≡ Some one
    → slice_get l.outputs place ≡ Some output → IsRight l.all one output
