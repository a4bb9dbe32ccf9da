use Rattle.std.proofs.Common.{◌≡◌, ◌++◌, ◌-◌, map, length}
use Rattle.kahn_net.specs.Syntax.{network_of}
use Rattle.protocol.specs.Node.Layout.{numbers_where}
use Rattle.protocol.specs.Node.Needs.{is_needed, need_on, needs_of}
use Rattle.ckpt_core.proofs.saying.needs_of.Given as goal

-- what is listed, and then what is to come
abbrev pub invariant-loop-channel : goal.invariant-loop-channel
invariant-loop-channel l =
    l.needs
    ++ map (need_on l.image)
    (numbers_where (is_needed (network_of l.net.program) l.home l.permanent l.image) l.channel
    (length l.net.program.channels.items - l.channel))
    ≡ needs_of (network_of l.net.program) l.home l.permanent l.image
