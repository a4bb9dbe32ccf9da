use Rattle.std.proofs.Common.{◌≡◌, ◌++◌}
use Rattle.std.specs.Vec.Iter.{into_iter_items}
use Rattle.world.proofs.closing.add_outputs.Given as goal

-- what was added, and then what is to come
abbrev pub invariant-loop-output : goal.invariant-loop-output
invariant-loop-output g l =
    l.outputs.items ++ into_iter_items l.output-iterator ≡ l.initial.outputs.items ++ l.fn.own.items
