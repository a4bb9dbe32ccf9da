use Rattle.std.proofs.Common.{sym, ◌∙◌}
use Rattle.protocol.specs.Node.Common.{record_in}
use Rattle.node.proofs.node.Node.hear_of_channel.Goals as goal

-- a node that is up stays so, and its store isn't touched
pub invariant_of-self : goal.invariant_of-self
invariant_of-self g c =
    let kept = c.args.self.now.kept in
    record {
      kept = record {
        listed = kept.listed;
        named = kept.named;
        ready = λ up. kept.ready (sym c.hear_of_channel.ensures.mode ∙ up);
        settled = kept.settled;
      };
    }

pub returns-clause-heard : goal.returns-clause-heard
returns-clause-heard g c = λ net home from. c.hear_of_channel.ensures.ok (record_in c.args.self.now.store) net home from
