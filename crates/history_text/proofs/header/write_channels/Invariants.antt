use Rattle.std.proofs.Common.{drop}
use Rattle.history_text.specs.Headers.{channels_text}
use Rattle.history_text.proofs.Writes.{WroteUpTo}
use Rattle.history_text.proofs.header.write_channels.Given as goal

abbrev pub invariant-loop-number : goal.invariant-loop-number
invariant-loop-number g l =
    WroteUpTo (g.W.Write.contents l.fn.out) (g.W.Write.contents l.out)
    (channels_text l.number (drop l.number l.channels) (drop l.number l.names)) (channels_text 0 l.channels l.names)
