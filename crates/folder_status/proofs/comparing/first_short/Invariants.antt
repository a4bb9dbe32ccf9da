use Rattle.folder_status.proofs.comparing.first_short.Given as goal

-- (nothing is kept: what is answered is seen where it is answered)
abbrev pub invariant-loop-place : goal.invariant-loop-place
invariant-loop-place l = Unit {0}
