use Rattle.std.proofs.Common.{◌<◌, length, arith}
use Rattle.ckpt_codec.specs.Spelling.{saved_end_text, EndHasItems}
use Rattle.ckpt_codec.proofs.Walking.{put_more, all_more}
use Rattle.std.proofs.lemmas.Grind.{elements}
use Rattle.ckpt_codec.proofs.putting.put_ends.Goals as goal

pub loop-saved-preserved : goal.loop-saved-preserved
loop-saved-preserved c =
    let lt : c.loop-saved.saved-index < length c.args.ends.now = omega arith in (
      put_more saved_end_text c.args.ends.now c.loop-saved.saved-index c.args.out.now.items c.loop-saved.out.items
          c.put_saved_end.new.out.items c.saved-item.result lt c.saved-item.is c.loop-saved.invariant.0
          c.in_ok-put_saved_end.ensures.put,
      all_more EndHasItems c.args.ends.now c.loop-saved.saved-index c.saved-item.result lt c.saved-item.is
          c.loop-saved.invariant.1 c.in_ok-put_saved_end.ensures.fit,
    )

pub returns-clause-fit : goal.returns-clause-fit
returns-clause-fit c = grind (arith, elements)

pub returns-clause-put : goal.returns-clause-put
returns-clause-put c = grind (arith, elements)
