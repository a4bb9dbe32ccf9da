use Rattle.std.proofs.Common.{◌≡◌, length}
use Rattle.host_ports.specs.Ports.{PortsStand}
use Rattle.kahn_net.specs.declared.limits.TheConstants.{MAX_CHANNELS}
use Rattle.stream_program.specs.Streamed.{IsOpeningOf, IsPreparing}
use Rattle.stream_program.proofs.Opening.{AreOpenedBelow}
use Rattle.stream_program.proofs.program.open_ports.Given as goal

-- the sources in the first places were opened and stand to the log, and nothing came of any
abbrev pub invariant-loop-place : goal.invariant-loop-place
invariant-loop-place g l = record {
  prepares : IsPreparing (IsOpeningOf l.sources) (g.H.Host.asked l.fn.host) (g.H.Host.asked l.host);
  count : length l.ports.items ≡ MAX_CHANNELS;
  stand : PortsStand l.form g.H.Host.source_number (g.H.Host.asked l.host) l.ports.items;
  opened : AreOpenedBelow l.place l.sources l.numbers l.ports.items (g.H.Host.asked l.host);
}
