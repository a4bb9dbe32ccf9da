use Rattle.std.proofs.Common.{rules, ◌∙◌, length, refl, arith}
use Rattle.kahn_net.specs.declared.limits.TheConstants.{MAX_CHANNELS}
use Rattle.stream_program.specs.Causes.{refused}
use Rattle.stream_program.specs.Streamed.{IsOpeningAt, IsOpeningOf}
use Rattle.stream_program.proofs.Opening.{count_replicate, count_set, none_stand, opened_all, opened_next, read_at, stand_set}
use Rattle.stream_program.proofs.Preparing.{prepares_by, prepares_nothing, prepares_then}
use Rattle.stream_program.proofs.program.open_ports.Goals as goal

pub loop-place-init : goal.loop-place-init
loop-place-init g c = record {
  prepares = prepares_nothing (IsOpeningOf c.args.sources.now) (g.H.Host.asked c.args.host.now);
  count = count_replicate _ MAX_CHANNELS _ c.in-Ok.ensures;
  stand = none_stand c.args.form g.H.Host.source_number _ _ MAX_CHANNELS c.in-Ok.ensures;
  opened = λ k number one below. absurd (omega (arith, below));
}

pub returns-in-Err-clause-prepares : goal.returns-in-Err-clause-prepares
returns-in-Err-clause-prepares g c =
    let here = read_at c.args.sources.now (length c.args.numbers.now) c.loop-place.place c.index-sources-place.result c.requires.each c.loop-place-test.true in
    prepares_then _ _ _ c.loop-place.invariant.prepares
    (prepares_by (IsOpeningAt _) (IsOpeningOf c.args.sources.now) _ _ (λ r is. (c.loop-place.place, _, here, is)) c.open_port.ensures.prepares)

pub returns-in-Err-clause-unread : goal.returns-in-Err-clause-unread
returns-in-Err-clause-unread g c =
    refused c.loop-place.place _ _
    (read_at c.args.sources.now (length c.args.numbers.now) c.loop-place.place c.index-sources-place.result c.requires.each c.loop-place-test.true)
    (read_at c.args.numbers.now (length c.args.numbers.now) c.loop-place.place 0 refl c.loop-place-test.true)
    c.in-Err.ensures.unread

pub loop-place-preserved : goal.loop-place-preserved
loop-place-preserved g c =
    let here = read_at c.args.sources.now (length c.args.numbers.now) c.loop-place.place c.index-sources-place.result c.requires.each c.loop-place-test.true in
    let there = read_at c.args.numbers.now (length c.args.numbers.now) c.loop-place.place 0 refl c.loop-place-test.true in
    record {
      prepares = prepares_then _ _ _ c.loop-place.invariant.prepares
          (prepares_by (IsOpeningAt _) (IsOpeningOf c.args.sources.now) _ _ (λ r is. (c.loop-place.place, _, here, is)) c.open_port.ensures.prepares);
      count = count_set _ _ _ ∙ c.loop-place.invariant.count;
      stand = rw (c.from.ensures) (stand_set c.args.form g.H.Host.source_number _ _ c.loop-place.ports.items _ _ c.open_port.ensures.prepares c.loop-place.invariant.stand
          c.in-Ok-open_port.ensures.port);
      opened = rw (c.from.ensures) (opened_next c.loop-place.place c.args.sources.now c.args.numbers.now c.loop-place.ports.items _ _ _ _ _
          c.open_port.ensures.prepares.later (search rules) here there c.in-Ok-open_port.ensures.opened c.loop-place.invariant.opened);
    }

pub returns-clause-opened : goal.returns-clause-opened
returns-clause-opened g c =
    opened_all c.loop-place.place c.args.sources.now c.args.numbers.now c.loop-place.ports.items (g.H.Host.asked c.loop-place.host) c.requires.each
    c.loop-place-test.false c.loop-place.invariant.opened
