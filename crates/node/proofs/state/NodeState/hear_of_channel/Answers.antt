use Rattle.std.proofs.Common.{refl, ap, ◌∙◌}
use Rattle.protocol.specs.Node.Common.{Body, hearing, on_running}
use Rattle.node.specs.NodeView.{node_view}
use Rattle.node.proofs.Hears.{comes_to, where_ok}
use Rattle.node.proofs.state.NodeState.hear_of_channel.Goals as goal

pub returns-in-Data-clause-ok : goal.returns-in-Data-clause-ok
returns-in-Data-clause-ok c = λ kept net home from.
    let was = node_view kept c.args.self.now in
    where_ok c.hear.result
    (λ same. comes_to net home from c.args.packet.now.body _ was (node_view kept c.hear.new.self) _ c.in-Data.is refl
    (same ∙ ap (λ (b : Body). on_running (hearing b) was) c.in-Data.is))
    (c.hear.ensures.ok kept)

pub returns-in-Ack-clause-ok : goal.returns-in-Ack-clause-ok
returns-in-Ack-clause-ok c = λ kept net home from.
    let was = node_view kept c.args.self.now in
    where_ok c.hear-in-Ack.result
    (λ same. comes_to net home from c.args.packet.now.body _ was (node_view kept c.hear-in-Ack.new.self) _ c.in-Ack.is
    refl
    (same ∙ ap (λ (b : Body). on_running (hearing b) was) c.in-Ack.is))
    (c.hear-in-Ack.ensures.ok kept)

pub returns-in-Kept-clause-ok : goal.returns-in-Kept-clause-ok
returns-in-Kept-clause-ok c = λ kept net home from.
    comes_to net home from c.args.packet.now.body _ (node_view kept c.args.self.now) (node_view kept c.cut.new.self) _
    c.in-Kept.is refl (c.cut.ensures.cut kept)
