-- A stage as the abstract machine of recovery lines sees it. A run of that machine may begin there.
use Rattle.std.specs.Prelude.{◌≤◌, ℕ, ℤ, List, cond, length, Option, Some, None}
use Rattle.kahn_net.specs.Fits.{Fits}
use Rattle.kahn_net.specs.Syntax.{Network}
use Rattle.kahn_net.specs.Valid.{IsValid}
use Rattle.protocol.specs.Node.Layout.{is_node}
use Rattle.protocol.specs.World.RecoveryLine.{net_seen}
use Rattle.recovery_line.specs.Images.{Image, IsOutput}
use Rattle.recovery_line.specs.Nodes.{Mode}
use Rattle.recovery_line.specs.Starts.{IsStart, IsUnbegun, world_at}
use Rattle.rerun.specs.Rerunning.{Stage, Reruns, first_stage}

-- from where on a channel is kept: behind what its consumer got, or, of an output, behind what has left
abbrev pub base_by : Option ℕ → ℕ → ℕ → ℕ
base_by None got left = left
base_by (Some q) got left = got

-- the image of a node at a stage, where so many items of each output have left
abbrev pub image_at : Network → Stage → (ℕ → ℕ) → ℕ → Image
image_at net s left k = record {
  received = λ c. cond (is_node k ((net_seen net).consumer c)) (s.got c) 0;
  base = λ c. cond (is_node k ((net_seen net).producer c)) (base_by ((net_seen net).consumer c) (s.got c) (left c)) 0;
  sent = λ c. cond (is_node k ((net_seen net).producer c)) (length (s.put c)) 0;
}

-- a run may begin at this stage, however much of what was put on outputs has left
abbrev pub IsBeginning : Network → Stage → Type 0
IsBeginning net s = (left : ℕ → ℕ) (modes : ℕ → Mode)
    → ((c p : ℕ) → IsOutput (net_seen net) c p → left c ≤ length (s.put c))
    → ((k : ℕ) → IsUnbegun (image_at net s left) modes k)
    → IsStart (net_seen net) (world_at (image_at net s left) modes left)

-- so at each stage to which turns lead from the first one
abbrev pub StagesAreLines : Type 0
StagesAreLines = (net : Network) (inputs : List (List ℤ)) (stages : List Stage) (s : Stage) → IsValid net
    → Fits net inputs → Reruns net (first_stage net inputs) stages s → IsBeginning net s
