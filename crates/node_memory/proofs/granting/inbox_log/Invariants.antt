use Rattle.std.proofs.Common.{◌≡◌, drop}
use Rattle.protocol.specs.Node.Common.{inbox_log}
use Rattle.node_memory.proofs.granting.inbox_log.Given as goal

-- the inbox is among those that weren't looked at yet
abbrev pub invariant-loop-inbox : goal.invariant-loop-inbox
invariant-loop-inbox l = inbox_log (drop l.inbox-index l.inboxes) l.channel ≡ inbox_log l.inboxes l.channel
