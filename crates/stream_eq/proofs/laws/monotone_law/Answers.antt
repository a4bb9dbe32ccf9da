use Rattle.kahn_net.specs.Laws.Streams.{monotone}
use Rattle.stream_eq.proofs.laws.monotone_law.Goals as goal

pub returns : goal.returns
returns c code small big channel passing prefixes = monotone code small big channel passing prefixes
