use Rattle.std.proofs.Common.{◌≡◌, ◌++◌, ◌+◌, ◌≤◌, length}
use Rattle.std.specs.Prelude.{not, filter, vec_capacity, vec_len}
use Rattle.std.specs.Vec.Iter.{into_iter_items}
use Rattle.protocol.specs.Node.Common.{network_of}
use Rattle.protocol.specs.World.Common.{is_output}
use Rattle.world.specs.OpeningWorld.{own_outputs}
use Rattle.world.proofs.opening.part_outputs.Given as goal

-- what was parted, and then what is to come, for which there is room
abbrev pub invariant-loop-output : goal.invariant-loop-output
invariant-loop-output g l =
    (l.own.items ++ own_outputs (network_of l.net.program) l.home (into_iter_items l.output-iterator)
    ≡ l.fn.own.items ++ own_outputs (network_of l.net.program) l.home l.fn.outputs.items)
    × (l.others.items
    ++ filter (λ output. not (is_output (network_of l.net.program) l.home output.channel))
    (into_iter_items l.output-iterator)
    ≡ l.fn.others.items
    ++ filter (λ output. not (is_output (network_of l.net.program) l.home output.channel)) l.fn.outputs.items)
    × (vec_len l.own + length (into_iter_items l.output-iterator) ≤ vec_capacity l.own)
    × (vec_len l.others + length (into_iter_items l.output-iterator) ≤ vec_capacity l.others)
