use Rattle.std.proofs.Common.{◌≡◌, ◌++◌}
use Rattle.proc_step.specs.Parts.{taken_of}
use Rattle.proc_step.proofs.outcome.count_taken.Given as goal

abbrev pub invariant-loop-items : goal.invariant-loop-items
invariant-loop-items l =
    l.taken.items ++ taken_of l.items-iterator.a.rest.now l.items-iterator.b.rest.now ≡ taken_of l.items l.left
