use Rattle.net_text.proofs.Steps.{past_gap}
use Rattle.std.proofs.lemmas.Grind.{common_steps}
use Rattle.std.proofs.Common.{arith}
use Rattle.net_text.proofs.lexer.after_gap.Goals as goal

pub returns : goal.returns
returns c =
    let back = c.split_at.ensures.back in
    let h = past_gap c.args.bytes.now c.args.place c.gap_len-gap.result c.args.line c.requires.within
    (rw back at c.gap_len-gap.ensures.within) (rw back at c.gap_len-gap.ensures.rest) c.requires.line in
    rw (c.line_feeds.ensures, c.split_at-2.ensures.front, back) h

pub overflow_add-result-2 : goal.overflow_add-result-2
overflow_add-result-2 c = grind (arith, common_steps)
