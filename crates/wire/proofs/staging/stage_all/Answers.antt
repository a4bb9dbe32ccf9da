use Rattle.std.proofs.Common.{sym, ap, ◌∙◌}
use Rattle.std.specs.Vec.Iter.{into_iter_items}
use Rattle.std.proofs.lemmas.List.Elements.{All-rest}
use Rattle.wire.specs.Traffic.{AreNodes, all_sent}
use Rattle.wire.specs.Staging.{ruled}
use Rattle.wire.specs.declared.sending.Sending.{Sending}
use Rattle.std.proofs.Common.{List}
use Rattle.std.proofs.lemmas.Grind.{common_steps}
use Rattle.std.proofs.Common.{arith}
use Rattle.wire.proofs.staging.stage_all.Goals as goal

pub loop-sending-preserved : goal.loop-sending-preserved
loop-sending-preserved c =
    let more = into_iter_items c.next.new.self in
    let i = c.loop-sending.invariant in (
      c.stage.ensures.len ∙ i.0,
      All-rest AreNodes c.in-Some.sending more (into_iter_items c.loop-sending.sending-iterator)
          (c.in-Some.ensures.steps).0 i.1,
      ap (all_sent c.args.round more) c.in_ok-stage.ensures.ok
          ∙ (ap (λ (sendings : List Sending). all_sent c.args.round sendings
          (ruled c.args.rules.now c.loop-sending.staged)) (sym (c.in-Some.ensures.steps).0) ∙ i.2),
    )

pub returns-clause-ok : goal.returns-clause-ok
returns-clause-ok c = grind (arith, common_steps)
