use Rattle.std.proofs.Common.{◌≡◌, ℕ, ◌<◌, true, false}
use Rattle.std.specs.Prelude.{slice_index_or, IsTrue}
use Rattle.protocol.specs.Node.Common.{network_of}
use Rattle.world.specs.Feeding.{is_input}
use Rattle.world.proofs.world.World.is_closed.Given as goal

abbrev pub invariant-loop-number : goal.invariant-loop-number
invariant-loop-number g l =
    (number : ℕ) → number < l.number → IsTrue (is_input (network_of l.self.net.value.program) number)
    → slice_index_or l.self.closed number false ≡ true
