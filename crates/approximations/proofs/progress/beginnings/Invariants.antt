use Rattle.std.proofs.Common.{◌≡◌, map, take}
use Rattle.approximations.specs.Progress.{progress_view, beginning_of}
use Rattle.approximations.proofs.progress.beginnings.Given as goal

abbrev pub invariant-loop-process : goal.invariant-loop-process
invariant-loop-process l =
    map progress_view l.all.items ≡ map (beginning_of l.channels) (take l.process-index l.processes)
