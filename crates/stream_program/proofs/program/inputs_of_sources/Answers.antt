use Rattle.std.proofs.Common.{rules, refl, arith}
use Rattle.stream_program.proofs.Naming.{one_more_source, source_twice, source_unknown, standard_next}
use Rattle.stream_program.proofs.program.inputs_of_sources.Goals as goal

pub returns-in-Err-clause-fault : goal.returns-in-Err-clause-fault
returns-in-Err-clause-fault c =
    source_unknown c.args.network.now.net.value c.args.sources.now c.loop-place.place c.index-sources-place.result c.in-Err.failure c.loop-place-test.true
    c.index-sources-place.is c.in-Err.ensures.unknown.0 c.in-Err.ensures.unknown.1

pub returns-then-either-clause-fault : goal.returns-then-either-clause-fault
returns-then-either-clause-fault c =
    source_twice c.args.network.now.net.value c.args.sources.now c.loop-place.numbers.items c.loop-place.place c.in-Ok.number
    c.index-sources-place.result _ c.contains.result c.loop-place.standard c.is_standard-here.result c.both.result c.either.result
    c.loop-place.invariant.first c.loop-place.invariant.standard c.loop-place-test.true c.index-sources-place.is c.in-Ok.ensures.number
    (rw (← c.deref.ensures.value) c.contains.ensures.value) c.is_standard-here.ensures c.both.ensures c.either.ensures c.if-either.true refl

pub loop-place-preserved : goal.loop-place-preserved
loop-place-preserved c =
    record {
      first = one_more_source c.args.network.now.net.value c.args.sources.now c.loop-place.numbers.items c.push.new.self.items c.loop-place.place
          c.in-Ok.number c.index-sources-place.result c.loop-place.invariant.first c.loop-place-test.true c.index-sources-place.is
          c.in-Ok.ensures.number (search rules);
      standard = standard_next c.args.sources.now c.loop-place.place c.index-sources-place.result c.loop-place.standard
          c.is_standard-here.result c.either-standard.result c.loop-place.invariant.standard c.loop-place-test.true c.index-sources-place.is
          c.is_standard-here.ensures c.either-standard.ensures;
    }
