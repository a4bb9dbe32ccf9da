use Rattle.std.proofs.Common.{drop, option_copied}
use Rattle.protocol.specs.Node.Common.{network_of}
use Rattle.protocol.specs.Node.Choosing.{is_ready}
use Rattle.protocol.specs.Node.Sharing.{share_in}
use Rattle.node_memory.proofs.Searching.{IsSearched}
use Rattle.node_memory.proofs.choosing.ready_from.Given as goal

abbrev pub invariant-loop-saved : goal.invariant-loop-saved
invariant-loop-saved l =
    IsSearched (is_ready (network_of l.net.program) l.inputs.came (share_in l.rooms l.share) l.image l.inboxes) l.saved-items
    (drop l.saved-index l.saved-items) l.start (option_copied l.found)
