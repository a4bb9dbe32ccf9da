use Rattle.std.proofs.Common.{◌≡◌, ◌++◌, drop}
use Rattle.cobaltmidge.specs.Beginning.{limits_from}
use Rattle.cobaltmidge.proofs.going_on.list_limits.Given as goal

-- what was listed, and then what is to come
abbrev pub invariant-loop-channel : goal.invariant-loop-channel
invariant-loop-channel l =
    l.limits.items ++ limits_from l.inner l.rest (drop l.channel-index l.channels) ≡ limits_from l.inner l.held l.channels
