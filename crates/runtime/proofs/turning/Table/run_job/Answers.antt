use Rattle.std.proofs.Common.{◌∙◌}
use Rattle.std.proofs.lemmas.Result.{IfOk-weaker}
use Rattle.protocol.specs.World.Common.{Install}
use Rattle.replay.specs.Armed.{OfWorld}
use Rattle.replay.specs.declared.kept.Maker.TheVariants.{Node}
use Rattle.run_log.specs.Added.{IsAdded}
use Rattle.station.specs.DoneView.{done_view}
use Rattle.station.specs.ReplyView.{Reply, reply_view}
use Rattle.runtime.proofs.Beginnings.{installed}
use Rattle.runtime.proofs.Calls.{either_so, refused_so}
use Rattle.std.proofs.Common.{arith}
use Rattle.std.proofs.lemmas.Grind.{elements}
use Rattle.runtime.proofs.turning.Table.run_job.Goals as goal

pub invariant_of-self : goal.invariant_of-self
invariant_of-self g c =
    let log = c.args.self.now.log in
    let held = refused_so c.install.result (λ held refused. refused.same) c.install.ensures.refused in
    record {
      one_part = c.install.ensures.parts ∙ c.args.self.now.one_part;
      running = either_so c.install.result (λ answer told. told.running) (λ same. same.stopped) c.install.ensures.made held ∙ c.args.self.now.running;
      begins = λ keeps.
          installed _ c.args.self.now.log.lines.items c.install.new.self.lines.items _
          (c.args.self.now.log.same_keeps ∙ keeps) (c.args.self.now.begins keeps) (λ same. same.lines) _ _
          c.install.result
          (IfOk-weaker c.install.result _
          (λ (reply : Reply). IsAdded log.keeps (Node c.args.node) (OfWorld (Install (done_view c.in-Ok.done))) (reply_view reply) log.lines.items
          c.install.new.self.lines.items) (λ reply made. made.added) c.install.ensures.made)
          held;
    }

pub returns-in-Ok-install-clause-follows : goal.returns-in-Ok-install-clause-follows
returns-in-Ok-install-clause-follows g c = grind (arith, elements)
