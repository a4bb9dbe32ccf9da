-- What is true of a node with its outputs, whatever events came before.
use Rattle.std.specs.Prelude.{◌≡◌, ℕ, suc, ◌≤◌, Bool, true, false, ◌&&◌, if◌then◌else◌, ℤ, List, [], ◌∷◌, map, length}
use Rattle.std.specs.Prelude.{Option, Some, None, slice_get}
use Rattle.ckpt_codec.specs.Common.{Network, approximation, Channel, Port, Outside, Process, sent_of, IsPrefix}
use Rattle.kahn_net.specs.Common.{sent_on}
use Rattle.protocol.specs.Node.JobView.{JobView}
use Rattle.protocol.specs.Node.Layout.{numbers_where, port_on}
use Rattle.protocol.specs.Node.NodeView.{RunningNode}
use Rattle.record.specs.Common.{base_of}
use Rattle.protocol.specs.Node.Reached.{HasReached, IsLaidOut, LinksAreLaidOut, CountsAreWithin, LogsAreWithin}
use Rattle.protocol.specs.Node.Reached.{InboxesStand, IsJobOf, acts_of}
use Rattle.protocol.specs.World.OutputView.{OutputView}

-- items go outside there
abbrev pub goes_outside : Port → Bool
goes_outside Outside = true
goes_outside (Process p) = false

-- its image has the processes and ends of its node, no more was received than there is, its logs are within their
-- limits (a view of a node doesn't say so, and without it a turn might not fit), and it has its ends of the channels
-- between nodes
pub record NodeIsSound (net : Network) (inputs : List (List ℤ)) (node : RunningNode) : Type 0 where
  pub laid_out : IsLaidOut net node.kept.node node.current
  pub counts : CountsAreWithin net inputs node.current
  pub logs : LogsAreWithin node.current
  pub links : LinksAreLaidOut net node.kept.node node

-- the log of an output goes back to what its outlet has, and the permanent image covers all of that
pub record OutputIsSound (node : RunningNode) (output : OutputView) : Type 0 where
  pub no_gap : base_of node.current output.channel ≤ length output.taken
  pub covered : length output.taken ≤ sent_of node.kept.permanent output.channel

abbrev pub OutputsAreSound : RunningNode → List OutputView → Type 0
OutputsAreSound node outputs =
    (j : ℕ) (output : OutputView) → slice_get outputs j ≡ Some output → OutputIsSound node output

-- The node's images stand on one approximation of the histories; what came from other nodes is of that same
-- approximation; the job that is out is of where its process stands now; and what has left of each output is, on that
-- approximation, a beginning of what its process has put by now.
pub record HasCome (net : Network) (inputs : List (List ℤ)) (node : RunningNode) (outputs : List OutputView) : Type 0
  where
    pub reached : HasReached net inputs node
    pub inboxes : InboxesStand (approximation net inputs reached.n) node.inboxes
    pub out : (job : JobView) → node.out ≡ Some job → IsJobOf net inputs node.current node.inboxes job
    pub released : (j p : ℕ) (output : OutputView) (channel : Channel) → slice_get outputs j ≡ Some output
        → slice_get net.channels output.channel ≡ Some channel → channel.producer ≡ Process p
        → IsPrefix output.taken
        (sent_on output.channel (acts_of net (approximation net inputs reached.n) reached.current_acts p))

-- the channels whose items go outside, the first one of this number
abbrev pub output_channels : ℕ → List Channel → List ℕ
output_channels number [] = []
output_channels number (channel ∷ channels) =
    if goes_outside channel.consumer then number
    ∷ output_channels (suc number) channels else output_channels (suc number) channels

-- a process of the node puts there what goes outside
abbrev pub leaves_from : Network → ℕ → Option Channel → Bool
leaves_from net home None = false
leaves_from net home (Some channel) = goes_outside channel.consumer && port_on net home channel.producer

-- this channel is an output of the node: its items go outside, and its producer is there
abbrev pub is_output : Network → ℕ → ℕ → Bool
is_output net home c = leaves_from net home (slice_get net.channels c)

-- the outputs of the node
abbrev pub outputs_on : Network → ℕ → List ℕ
outputs_on net home = numbers_where (is_output net home) 0 (length net.channels)

-- All of it: there is an outlet for each output of the node, in order, and what is said above.
pub record IsSound (net : Network) (inputs : List (List ℤ)) (node : RunningNode) (outputs : List OutputView) : Type 0
  where
    pub listed : map (λ (output : OutputView). output.channel) outputs ≡ outputs_on net node.kept.node
    pub kept : NodeIsSound net inputs node
    pub covered : OutputsAreSound node outputs
    pub come : ∥ HasCome net inputs node outputs ∥₁
