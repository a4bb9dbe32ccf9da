use Rattle.kahn_net.specs.Laws.Streams.{stands_on}
use Rattle.stream_eq.proofs.laws.standing_law.Goals as goal

pub returns : goal.returns
returns c code small big m standing passing prefixes stands =
    stands_on code small big m standing passing prefixes stands
