use Rattle.std.proofs.Common.{◌<◌, length, arith}
use Rattle.ckpt_codec.specs.Spelling.{process_text, HasItems}
use Rattle.ckpt_codec.proofs.Walking.{put_more, all_more}
use Rattle.std.proofs.lemmas.Grind.{elements}
use Rattle.ckpt_codec.proofs.putting.put_processes.Goals as goal

pub loop-process-preserved : goal.loop-process-preserved
loop-process-preserved c =
    let lt : c.loop-process.process-index < length c.args.processes.now = omega arith in (
      put_more process_text c.args.processes.now c.loop-process.process-index c.args.out.now.items
          c.loop-process.out.items c.put_process.new.out.items c.process-item.result lt c.process-item.is
          c.loop-process.invariant.0 c.in_ok-put_process.ensures.put,
      all_more HasItems c.args.processes.now c.loop-process.process-index c.process-item.result lt c.process-item.is
          c.loop-process.invariant.1 c.in_ok-put_process.ensures.fit,
    )

pub returns-clause-fit : goal.returns-clause-fit
returns-clause-fit c = grind (arith, elements)

pub returns-clause-put : goal.returns-clause-put
returns-clause-put c = grind (arith, elements)
