-- What every change of a record leaves alone.
use Rattle.std.proofs.Common.{◌≡◌, length, length-set, refl}
use Rattle.protocol.specs.Node.Common.{RecordView}
use Rattle.node.specs.Planned.{changed}
use Rattle.node.specs.declared.plan.Change.{Change}
use Rattle.node.specs.declared.plan.Change.TheVariants as change_is

-- of how many nodes it lists a number
pub same_nodes : (change : Change) (kept : RecordView) → length (changed change kept).highest ≡ length kept.highest
same_nodes (change_is.Takes image initiator number) kept = length-set kept.highest initiator number
same_nodes (change_is.Decides number participants) kept = refl
same_nodes (change_is.MakesPermanent initiator number) kept = refl
same_nodes (change_is.Drops initiator number) kept = refl
same_nodes (change_is.Confirms number node) kept = refl
same_nodes change_is.Raises kept = refl

-- whose it is
pub same_node : (change : Change) (kept : RecordView) → (changed change kept).node ≡ kept.node
same_node (change_is.Takes image initiator number) kept = refl
same_node (change_is.Decides number participants) kept = refl
same_node (change_is.MakesPermanent initiator number) kept = refl
same_node (change_is.Drops initiator number) kept = refl
same_node (change_is.Confirms number node) kept = refl
same_node change_is.Raises kept = refl
