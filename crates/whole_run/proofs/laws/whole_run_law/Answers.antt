use Rattle.protocol.specs.World.Coordination.{last_of}
use Rattle.whole_run.proofs.Begun.{begins_soundly}
use Rattle.whole_run.proofs.Gone.{kept_all}
use Rattle.whole_run.proofs.Whole.{is_right}
use Rattle.whole_run.proofs.laws.whole_run_law.Goals as goal

pub returns : goal.returns
returns c first before after records outputs begun happened then_happened there =
    is_right (last_of first before) after records outputs
    (kept_all first before (begins_soundly first begun) happened).sound then_happened there
