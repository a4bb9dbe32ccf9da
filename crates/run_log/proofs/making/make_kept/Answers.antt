use Rattle.std.proofs.Common.{◌++◌, ◌∷◌, [], List, ap, ◌∙◌}
use Rattle.replay.specs.Replay.{Made}
use Rattle.replay.specs.Replies.{KeptReply}
use Rattle.replay.specs.declared.kept.Maker.TheVariants.{Node}
use Rattle.run_log.specs.Counts.{numbers_in}
use Rattle.run_log.specs.Lines.{happenings, kept_view}
use Rattle.run_log.specs.Numbers.{counted}
use Rattle.run_log.specs.declared.history.Line.{Line}
use Rattle.run_log.specs.declared.seat_count.Counted.TheVariants as kind
use Rattle.std.proofs.Common.{arith}
use Rattle.std.proofs.lemmas.Grind.{elements}
use Rattle.run_log.proofs.making.make_kept.Goals as goal

pub returns-clause-added : goal.returns-clause-added
returns-clause-added g c =
    let kept = kept_view c.in-Ok.kept in
    let said = c.keep_reply-said in
    record {
      kept = kept;
      happened = λ yes. c.put_entry.ensures.happened
          ∙ (ap (λ (lines : List Line). happenings lines ++ Made (Node c.args.node) kept said.result ∷ []) c.reserve.ensures.items
          ∙ ap (λ (answer : KeptReply). happenings c.args.lines.now.items ++ Made (Node c.args.node) kept answer ∷ []) said.ensures);
      counts = λ yes stops. c.put_entry.ensures.counts stops
          ∙ ap (λ (lines : List Line). counted kind.Entry (numbers_in lines stops)) c.reserve.ensures.items;
      is_kept = c.in-Ok.ensures;
    }

pub returns-clause-home : goal.returns-clause-home
returns-clause-home g c = grind (arith, elements)

pub put_entry-requires : goal.put_entry-requires
put_entry-requires g c = grind (arith, elements)
