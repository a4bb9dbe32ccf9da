use Rattle.std.proofs.Common.{refl, subst}
use Rattle.node_memory.specs.JobView.{shared_view}
use Rattle.protocol.specs.World.Common.{IsGrantedAt}
use Rattle.station.specs.ReplyView.{Reply, reply_view}
use Rattle.runtime.proofs.turning.Table.follow.Goals as goal

-- a job that the node is granted is of a process of it
pub run_job-requires : goal.run_job-requires
run_job-requires g c = record {
  home = subst (λ (reply : Reply). IsGrantedAt c.args.node (reply_view reply)) c.in-Granted.is c.requires.home
      (shared_view c.in-Granted.job) refl;
}
