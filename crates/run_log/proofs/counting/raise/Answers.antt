use Rattle.std.proofs.Common.{◌∙◌, Some, ap, refl}
use Rattle.run_log.proofs.Raising.{found_line, numbers_raised_there, same_happenings}
use Rattle.std.proofs.Common.{arith}
use Rattle.std.proofs.lemmas.Grind.{elements}
use Rattle.run_log.proofs.counting.raise.Goals as goal

pub returns-else-count-ge-MAX_COUNT-clause-same : goal.returns-else-count-ge-MAX_COUNT-clause-same
returns-else-count-ge-MAX_COUNT-clause-same c =
    let there = found_line c.args.lines.now.items c.args.place c.requires.0 c.args.reason c.index_mut.result.now
    c.requires.1 c.index_mut.ensures.value in
    same_happenings c.args.lines.now.items c.args.place _ _ (there ∙ ap Some c.in-Silent.is) refl

pub returns-else-count-ge-MAX_COUNT-clause-counts : goal.returns-else-count-ge-MAX_COUNT-clause-counts
returns-else-count-ge-MAX_COUNT-clause-counts c =
    let there = found_line c.args.lines.now.items c.args.place c.requires.0 c.args.reason c.index_mut.result.now
    c.requires.1 c.index_mut.ensures.value in
    numbers_raised_there c.args.lines.now.items c.args.place c.requires.0 c.in-Silent.count c.args.reason
    c.in-Silent.reason c.requires.1 (there ∙ ap Some c.in-Silent.is)

pub returns-then-count-ge-MAX_COUNT-clause-full : goal.returns-then-count-ge-MAX_COUNT-clause-full
returns-then-count-ge-MAX_COUNT-clause-full c = grind (arith, elements)

pub index_mut-requires : goal.index_mut-requires
index_mut-requires c = grind (arith, elements)

pub returns-in_default : goal.returns-in_default
returns-in_default c = grind (arith, elements)
