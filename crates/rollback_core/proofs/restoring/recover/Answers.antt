use Rattle.std.proofs.Common.{◌≤◌, sym, subst}
use Rattle.kahn_net.specs.declared.limits.TheConstants.{MAX_COUNT}
use Rattle.record.specs.Ends.{received_of}
use Rattle.record.specs.RecordView.{RecordView}
use Rattle.std.proofs.lemmas.Grind.{elements}
use Rattle.std.proofs.Common.{arith}
use Rattle.rollback_core.proofs.restoring.recover.Goals as goal

pub restore-requires-clause-counts : goal.restore-requires-clause-counts
restore-requires-clause-counts c =
    λ channel. subst (λ (kept : RecordView). received_of kept.permanent channel ≤ MAX_COUNT) (sym c.kept.view_is)
    (c.requires.counts channel)

pub returns-in_ok-restore-in_default : goal.returns-in_ok-restore-in_default
returns-in_ok-restore-in_default c = grind (arith, elements)
