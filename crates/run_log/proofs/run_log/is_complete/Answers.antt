use Rattle.std.proofs.Common.{◌≡◌, Bool, false, ◌&&◌, ℕ, ◌∙◌, sym, ap}
use Rattle.protocol.specs.World.Common.{are_quiet, WorldView}
use Rattle.protocol.specs.World.Quiet.{is_node_quiet}
use Rattle.protocol_laws.specs.World.QuietLaws.{quiet_first}
use Rattle.world.specs.WholeView.{world_of}
use Rattle.run_log.proofs.run_log.is_complete.Goals as goal

-- where a node isn't quiet, the world isn't
busy : (world : WorldView) (node : ℕ) (quiet : Bool) → quiet ≡ is_node_quiet world node → quiet ≡ false
    → false ≡ are_quiet world
busy world node quiet is told = ap (λ (one : Bool). one && are_quiet world) (sym told ∙ is) ∙ quiet_first world node

pub returns-then-not-is_quiet : goal.returns-then-not-is_quiet
returns-then-not-is_quiet g c = busy (world_of c.args.world.now) _ _ c.is_quiet.ensures c.if-not-is_quiet.true

pub returns-then-not-is_quiet-2 : goal.returns-then-not-is_quiet-2
returns-then-not-is_quiet-2 g c =
    busy (world_of c.args.world.now) _ _ c.is_quiet-in-loop-node.ensures c.if-not-is_quiet-2.true
