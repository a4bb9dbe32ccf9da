use Rattle.std.proofs.Common.{arith}
use Rattle.std.proofs.lemmas.Grind.{elements}
use Rattle.std.proofs.Common.{◌≡◌, ℕ, ℤ, List, Some, None, ap, subst, ◌∙◌}
use Rattle.std.specs.Prelude.{if◌then◌else◌}
use Rattle.protocol.specs.Node.Common.{JobView, Net, Network, RunningNode, SavedProcessView, network_of, running_node}
use Rattle.protocol.specs.Node.Choosing.{job_up_to, may_grant, next_process}
use Rattle.protocol.specs.Node.Granting.{job_for}
use Rattle.protocol.specs.Node.Sharing.{share_in}
use Rattle.protocol.specs.declared.links.Inbox.{Inbox}
use Rattle.node_memory.specs.JobView.{job_view}
use Rattle.node_memory.specs.RunningView.{running_view}
use Rattle.node_memory.proofs.AtHand.{at_hand_for}
use Rattle.node_memory.proofs.Choices.{job_chosen}
use Rattle.node_memory.proofs.running.Running.grant.Goals as goal

pub returns-clause-job : goal.returns-clause-job
returns-clause-job c =
    let net : Network = network_of c.args.net.now.value.program in
    let inputs : List (List ℤ) = c.args.inputs.now.came in
    let node : RunningNode = running_node c.args.kept.now c.args.version (running_view c.args.self.now) in
    let saved : SavedProcessView = c.in-Some.saved.now in
    let share : ℕ → ℕ = share_in c.args.rooms.now c.share_of-share.result in
    let chosen =
    subst (λ (n : Net). Some saved
    ≡ (if may_grant node then next_process (network_of n.program) inputs share node.current node.inboxes node.last else None))
    c.deref.ensures c.in-Some.ensures.chosen in
    let made =
    c.in_ok-job.ensures
    ∙ ap (λ (inboxes : List Inbox). job_for share net inputs node.current inboxes saved.number saved.standing node.version)
    c.deref-2.ensures.value in
    ap (λ (job : JobView). Some job) (ap job_view c.in_ok-job-2.ensures.ok ∙ made)
    ∙ (job_chosen net inputs share node saved chosen
    ∙ ap (λ (n : ℕ). job_up_to net inputs (share_in c.args.rooms.now n) node) c.share_of-share.ensures)

pub overflow_cast-self : goal.overflow_cast-self
overflow_cast-self c = grind (arith, elements)

pub returns-in_default-clause-job : goal.returns-in_default-clause-job
returns-in_default-clause-job c = grind (arith, elements)

pub returns-in_default-clause-state : goal.returns-in_default-clause-state
returns-in_default-clause-state c = grind (arith, elements)

pub make_job-requires-clause-at_hand : goal.make_job-requires-clause-at_hand
make_job-requires-clause-at_hand c =
    at_hand_for (network_of c.args.net.now.value.program).channels c.args.inputs.now.bases (running_view c.args.self.now).current _
    c.requires.at_hand c.in-Some.ensures.place
