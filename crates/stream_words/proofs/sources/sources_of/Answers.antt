use Rattle.std.proofs.Common.{◌≡◌, ◌<◌, ◌++◌, ◌∷◌, [], List, arith, length, subst, sym, take, ◌+◌}
use Rattle.std.proofs.lemmas.Grind.{common_steps, elements}
use Rattle.std.specs.List.{AllZip}
use Rattle.clap.specs.Walk.{texts}
use Rattle.stream_words.specs.Asked.{IsSource}
use Rattle.stream_words.specs.declared.sources.InputSource.{InputSource}
use Rattle.stream_words.proofs.Walking.{fault_at, source_more}
use Rattle.stream_words.proofs.sources.sources_of.Goals as goal

pub returns-in-Err : goal.returns-in-Err
returns-in-Err c =
    let values = texts c.args.values.now in
    let test = c.loop-value-test.true in
    let within : c.loop-value.value-index < length values = grind (arith, elements) in
    fault_at values c.loop-value.value-index _ c.in-Err.fault c.in-Err.ensures within (grind (arith, elements))

pub loop-value-preserved : goal.loop-value-preserved
loop-value-preserved c =
    let values = texts c.args.values.now in
    let test = c.loop-value-test.true in
    let within : c.loop-value.value-index < length values = grind (arith, elements) in
    let more =
    source_more values c.loop-value.value-index _ c.loop-value.sources.items c.in-Ok.source c.in-Ok.ensures c.loop-value.invariant within
    (grind (arith, elements)) in
    let pushed : c.push.new.self.items ≡ c.loop-value.sources.items ++ c.in-Ok.source ∷ [] = grind (arith, common_steps) in
    subst (λ (sources : List InputSource). AllZip IsSource (take (c.loop-value.value-index + 1) values) sources) (sym pushed) more
