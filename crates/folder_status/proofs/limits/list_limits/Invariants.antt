use Rattle.std.proofs.Common.{◌≡◌, ◌++◌, drop}
use Rattle.folder_status.specs.Endings.{limits_from}
use Rattle.folder_status.proofs.limits.list_limits.Given as goal

-- what is listed, and what is still to come behind it
abbrev pub invariant-loop-number : goal.invariant-loop-number
invariant-loop-number l =
    l.limits.items ++ limits_from l.kept l.inner l.more l.number (drop l.number l.channels)
    ≡ limits_from l.kept l.inner l.more 0 l.channels
