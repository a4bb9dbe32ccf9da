use Rattle.std.proofs.Common.{◌≡◌, ⊎_elim, List, [], ap, map, refl, subst, sym, ◌∙◌}
use Rattle.std.specs.Prelude.{All}
use Rattle.protocol.specs.Node.Common.{IsPacket, Packet, packets_by}
use Rattle.node.specs.NodeOf.{view_of}
use Rattle.node.specs.Planned.{prospect_view}
use Rattle.node.specs.declared.plan.Prospect.{Prospect}
use Rattle.protocol.specs.World.Common.{sending_of}
use Rattle.protocol.specs.declared.outcome.Outcome.TheVariants as outcome
use Rattle.protocol.specs.declared.outcome.Refusal.TheVariants.{TooLarge}
use Rattle.station.specs.Coming.{IsReadyFor}
use Rattle.station.proofs.Ready.{all_writable}
use Rattle.station.proofs.station.Station.ready_for.Goals as goal

pub prepare-requires-clause-made : goal.prepare-requires-clause-made
prepare-requires-clause-made g c =
    let view = view_of c.args.self.now.node in
    all_writable _ (subst (λ (p : Prospect). All IsPacket (packets_by (prospect_view view p) outcome.Made)) c.in-Planned.is
    (c.requires outcome.Made))

pub prepare-requires-clause-declined : goal.prepare-requires-clause-declined
prepare-requires-clause-declined g c =
    let view = view_of c.args.self.now.node in
    all_writable _ (subst (λ (p : Prospect). All IsPacket (packets_by (prospect_view view p) (outcome.Refused TooLarge)))
    c.in-Planned.is (c.requires (outcome.Refused TooLarge)))

-- where nothing can be made nothing is said
pub returns-in-Undue-clause-made : goal.returns-in-Undue-clause-made
returns-in-Undue-clause-made g c =
    let view = view_of c.args.self.now.node in
    let silent : (p : Prospect) → c.args.prospect.now ≡ p → packets_by (prospect_view view p) outcome.Made ≡ []
    → IsReadyFor c.args.wire.now c.args.lent.now.round
    (map sending_of (packets_by (prospect_view view c.args.prospect.now) outcome.Made)) c.nothing.result.made =
    (λ p same none. subst (λ (packets : List Packet). IsReadyFor c.args.wire.now c.args.lent.now.round (map sending_of packets)
    c.nothing.result.made) (sym (ap (λ (q : Prospect). packets_by (prospect_view view q) outcome.Made) same ∙ none))
    (c.nothing.ensures c.args.wire.now c.args.lent.now.round).0) in
    ⊎_elim (λ undue. silent _ undue refl) (λ spent. silent _ spent refl) c.in-Undue.is

pub returns-in-Undue-clause-declined : goal.returns-in-Undue-clause-declined
returns-in-Undue-clause-declined g c =
    let view = view_of c.args.self.now.node in
    let silent : (p : Prospect) → c.args.prospect.now ≡ p → packets_by (prospect_view view p) (outcome.Refused TooLarge) ≡ []
    → IsReadyFor c.args.wire.now c.args.lent.now.round
    (map sending_of (packets_by (prospect_view view c.args.prospect.now) (outcome.Refused TooLarge)))
    c.nothing.result.declined =
    (λ p same none. subst (λ (packets : List Packet). IsReadyFor c.args.wire.now c.args.lent.now.round (map sending_of packets)
    c.nothing.result.declined)
    (sym (ap (λ (q : Prospect). packets_by (prospect_view view q) (outcome.Refused TooLarge)) same ∙ none))
    (c.nothing.ensures c.args.wire.now c.args.lent.now.round).1) in
    ⊎_elim (λ undue. silent _ undue refl) (λ spent. silent _ spent refl) c.in-Undue.is
