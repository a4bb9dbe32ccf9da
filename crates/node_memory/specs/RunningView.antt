-- What a node has in memory, as data.
use Rattle.std.specs.Prelude.{option_map}
use Rattle.protocol.specs.Node.Common.{RunningView}
use Rattle.node_memory.specs.JobView.{shared_view}
use Rattle.node_memory.specs.declared.running.Running.{Running}

-- what a node has in memory while it runs, of a `Running`, without pointers
abbrev pub running_view : Running → RunningView
running_view running = record {
  current = running.current;
  out = option_map shared_view running.out;
  last = running.last;
  inboxes = running.inboxes.items;
  outboxes = running.outboxes.items;
  live = running.live;
}
