use Rattle.std.proofs.Common.{◌≡◌, ◌++◌, drop}
use Rattle.folder_status.specs.Endings.{are_compared}
use Rattle.folder_status.proofs.comparing.list_compared.Given as goal

-- what is listed, and what is still to come behind it
abbrev pub invariant-loop-place : goal.invariant-loop-place
invariant-loop-place l =
    l.compared.items ++ are_compared (drop l.place l.kept) (drop l.place l.outputs) ≡ are_compared l.kept l.outputs
