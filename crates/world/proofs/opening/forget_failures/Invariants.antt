use Rattle.std.proofs.Common.{◌≡◌, ◌++◌, map, take, drop}
use Rattle.station.specs.OutputView.{fresh}
use Rattle.world.proofs.opening.forget_failures.Given as goal

abbrev pub invariant-loop-output : goal.invariant-loop-output
invariant-loop-output g l =
    l.output-items
    ≡ map fresh (take l.output-index l.initial.output-items) ++ drop l.output-index l.initial.output-items
