use Rattle.output_file.proofs.Placing.{put_or_waiting}
use Rattle.output_file.proofs.resumed.ResumedOutlet.file.Goals as goal

pub returns-clause-lines : goal.returns-clause-lines
returns-clause-lines g c =
    put_or_waiting c.args.self.now.items.items c.args.self.now.held _ _ _ _ c.args.self.now.written

pub returns-clause-order : goal.returns-clause-order
returns-clause-order g c = c.args.self.now.written.order
