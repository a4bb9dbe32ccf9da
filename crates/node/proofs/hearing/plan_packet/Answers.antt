use Rattle.std.proofs.Common.{rules, refl, sym, ap, ◌∙◌}
use Rattle.protocol.specs.Node.Common.{hear_prospect, network_of}
use Rattle.node.specs.NodeView.{node_view}
use Rattle.node.proofs.Hears.{hears_as}
use Rattle.std.proofs.Common.{arith}
use Rattle.std.proofs.lemmas.Grind.{elements}
use Rattle.node.proofs.hearing.plan_packet.Goals as goal

pub returns-in-Data-clause-view : goal.returns-in-Data-clause-view
returns-in-Data-clause-view c =
    hears_as (network_of c.args.net.now.program) c.args.home c.args.packet.now.from
    (node_view c.args.kept.now c.args.state.now) c.hears.result _ c.args.packet.now.body _
    c.hears.ensures c.in-Data.is (search rules)

pub returns-in-Ack-clause-view : goal.returns-in-Ack-clause-view
returns-in-Ack-clause-view c =
    hears_as (network_of c.args.net.now.program) c.args.home c.args.packet.now.from
    (node_view c.args.kept.now c.args.state.now) c.hears-in-Ack.result _ c.args.packet.now.body _
    c.hears-in-Ack.ensures c.in-Ack.is refl

pub returns-in-Kept-clause-view : goal.returns-in-Kept-clause-view
returns-in-Kept-clause-view c =
    hears_as (network_of c.args.net.now.program) c.args.home c.args.packet.now.from
    (node_view c.args.kept.now c.args.state.now) c.silently.result _ c.args.packet.now.body _
    c.silently.ensures c.in-Kept.is refl

pub returns-in-Covered-clause-view : goal.returns-in-Covered-clause-view
returns-in-Covered-clause-view c =
    hears_as (network_of c.args.net.now.program) c.args.home c.args.packet.now.from
    (node_view c.args.kept.now c.args.state.now) c.silently-in-Covered.result _ c.args.packet.now.body _
    c.silently-in-Covered.ensures c.in-Covered.is refl

pub returns-in-Refused-clause-view : goal.returns-in-Refused-clause-view
returns-in-Refused-clause-view c =
    c.on_refused.ensures.view
    ∙ ap (λ body. hear_prospect (network_of c.args.net.now.program) c.args.home c.args.packet.now.from body
    (node_view c.args.kept.now c.args.state.now)) (sym c.in-Refused.is)

pub returns-in-Settled-clause-view : goal.returns-in-Settled-clause-view
returns-in-Settled-clause-view c =
    c.on_settled.ensures.view
    ∙ ap (λ body. hear_prospect (network_of c.args.net.now.program) c.args.home c.args.packet.now.from body
    (node_view c.args.kept.now c.args.state.now)) (sym c.in-Settled.is)

pub on_undone-requires-clause-counts : goal.on_undone-requires-clause-counts
on_undone-requires-clause-counts c = grind (arith, elements)

pub returns-in_ok-only-in-Query-clause-view : goal.returns-in_ok-only-in-Query-clause-view
returns-in_ok-only-in-Query-clause-view c = grind (arith, elements)

pub returns-in_ok-only-in-Query-clause-can : goal.returns-in_ok-only-in-Query-clause-can
returns-in_ok-only-in-Query-clause-can c = grind (arith, elements)

pub on_took-requires-clause-needs : goal.on_took-requires-clause-needs
on_took-requires-clause-needs c = grind (arith, elements)
