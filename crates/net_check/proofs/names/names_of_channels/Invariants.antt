use Rattle.std.proofs.Common.{◌≡◌, ◌++◌}
use Rattle.std.specs.Vec.Iter.{into_iter_items}
use Rattle.net_check.specs.Resolution.{channel_names}
use Rattle.net_check.proofs.names.names_of_channels.Given as goal

abbrev pub invariant-loop-channel : goal.invariant-loop-channel
invariant-loop-channel l =
    l.names.items ++ channel_names (into_iter_items l.channel-iterator) ≡ channel_names l.fn.channels.items
