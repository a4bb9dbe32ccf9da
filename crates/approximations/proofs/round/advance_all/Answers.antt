use Rattle.std.proofs.Common.{◌≡◌, ◌++◌, ℤ, List, [], length, take, drop, get_or, ap, sym, ◌∙◌, subst, arith}
use Rattle.std.proofs.lemmas.Grind.{common_steps}
use Rattle.std.proofs.lemmas.List.{length-replicate}
use Rattle.kahn_net.specs.Common.{network_of, standing_of}
use Rattle.approximations.specs.Progress.{HasMade, IsSameElsewhere}
use Rattle.approximations.proofs.Rounds.{on_at_first, inside_at_first, short_at_first, on_further, put_further}
use Rattle.approximations.proofs.Rounds.{inside_further, there_at}
use Rattle.std.proofs.lemmas.Grind.{elements}
use Rattle.approximations.proofs.round.advance_all.Goals as goal

pub loop-process-init : goal.loop-process-init
loop-process-init c =
    let net = network_of c.args.net.now.value.program in
    let here = c.args.histories.now in
    let added = c.in_ok-added.added.items in
    let none = c.in_ok-added.ensures in
    record {
      on = on_at_first net here c.args.all.now added (length here) none c.requires.on;
      put = λ p lt. absurd (omega (arith, lt));
      inside = inside_at_first net added (length here) none;
      short = short_at_first here added (length here) none c.requires.short;
      wide = ap (length {A = List ℤ}) none ∙ length-replicate {A = List ℤ} (length here) [];
    }

pub advance-requires-clause-counts : goal.advance-requires-clause-counts
advance-requires-clause-counts c =
    (c.loop-process.invariant.on.each c.loop-process.process
    (get_or c.loop-process.all c.loop-process.process c.index-all-process.result)
    (there_at c.loop-process.all c.loop-process.process c.index-all-process.result (omega arith))).0

pub advance-requires-clause-on : goal.advance-requires-clause-on
advance-requires-clause-on c code its =
    let net = network_of c.args.net.now.value.program in
    let progress = get_or c.loop-process.all c.loop-process.process c.index-all-process.result in
    subst (λ (added : List (List ℤ)). ∥ HasMade net c.loop-process.process code c.args.histories.now
    (standing_of progress.state) progress.got.items added ∥₁) (sym c.deref_mut.ensures.value)
    ((c.loop-process.invariant.on.each c.loop-process.process progress
    (there_at c.loop-process.all c.loop-process.process c.index-all-process.result (omega arith))).1 code its)

pub loop-process-preserved : goal.loop-process-preserved
loop-process-preserved c =
    let net = network_of c.args.net.now.value.program in
    let here = c.args.histories.now in
    let p = c.loop-process.process in
    let before = c.loop-process.added.items in
    let after = c.advance.new.added in
    let e = c.in_ok-advance.ensures in
    let progress = get_or c.loop-process.all p c.index-all-process.result in
    let counts =
    (c.loop-process.invariant.on.each p progress
    (there_at c.loop-process.all p c.index-all-process.result (omega arith))).0 in
    let same : IsSameElsewhere net p before after =
    subst (λ (added : List (List ℤ)). IsSameElsewhere net p added after) c.deref_mut.ensures.value e.elsewhere in
    let whole : take c.loop-process.added.len (after ++ drop (length after) before) ≡ after =
    grind (arith, common_steps) in
    rw whole (record {
      on = on_further net here c.loop-process.all p c.advance.new.progress before after c.loop-process.invariant.on
          (e.counts ∙ counts) e.on same;
      put = put_further net here p before after c.loop-process.invariant.put e.all same;
      inside = inside_further net p before after c.loop-process.invariant.inside same;
      short = e.short;
      wide = c.advance.auto.added
          ∙ (ap (length {A = List ℤ}) c.deref_mut.ensures.value ∙ c.loop-process.invariant.wide);
    })

pub advance-requires-clause-short : goal.advance-requires-clause-short
advance-requires-clause-short c = grind (arith, elements)

pub advance-requires-clause-here : goal.advance-requires-clause-here
advance-requires-clause-here c = grind (arith, elements)
