use Rattle.std.proofs.Common.{◌≡◌, ◌++◌, drop, map}
use Rattle.kahn_net.specs.Common.{network_of}
use Rattle.marks.specs.Owners.{owner_in, owners_in}
use Rattle.marks.proofs.owners.list_owners.Given as goal

-- the owners listed, and those of the channels that weren't looked at
abbrev pub invariant-loop-channel : goal.invariant-loop-channel
invariant-loop-channel l =
    l.owners.items ++ map (owner_in (network_of l.net.program)) (drop l.channel-index l.channel-items)
    ≡ owners_in (network_of l.net.program)
