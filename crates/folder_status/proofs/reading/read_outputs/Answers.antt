use Rattle.folder_status.proofs.Asked.{only_then}
use Rattle.folder_status.proofs.Held.{channel_more, one_file_more}
use Rattle.folder_status.proofs.reading.read_outputs.Goals as goal

pub returns-in_err-read_output-clause-asked : goal.returns-in_err-read_output-clause-asked
returns-in_err-read_output-clause-asked g c = only_then _ _ _ _ c.loop-output.invariant.asked c.read_output.ensures.asked

pub returns-in_err-push-clause-asked : goal.returns-in_err-push-clause-asked
returns-in_err-push-clause-asked g c = only_then _ _ _ _ c.loop-output.invariant.asked c.read_output.ensures.asked

pub loop-output-preserved : goal.loop-output-preserved
loop-output-preserved g c = record {
  asked = only_then _ _ _ _ c.loop-output.invariant.asked c.read_output.ensures.asked;
  listed = channel_more c.loop-output.kept.items c.push.new.self.items c.in_ok-read_output.field-0 c.args.outputs.now c.loop-output.output-index
      c.output-item.result c.in_ok-push.ensures.items c.in_ok-read_output.ensures.channel c.loop-output-test.true c.output-item.is
      c.loop-output.invariant.listed;
  held = one_file_more _ _ _ _ c.loop-output.kept.items c.push.new.self.items c.in_ok-read_output.field-0 c.in_ok-push.ensures.items
      c.read_output.ensures.asked c.loop-output.invariant.held c.in_ok-read_output.ensures.held;
}
