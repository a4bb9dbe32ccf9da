use Rattle.std.proofs.Common.{false, sym, subst}
use Rattle.ckpt_codec.specs.RecordText.{count, end_fields}
use Rattle.ckpt_codec.specs.Testing.{log_fields}
use Rattle.ckpt_codec.proofs.Testing.{Tests, field_not, field_then, single}
use Rattle.ckpt_codec.proofs.allowed.is_end.Goals as goal

pub returns-then-not-is_count : goal.returns-then-not-is_count
returns-then-not-is_count c =
    subst (λ e. Tests false (end_fields e)) (sym c.in-Both.is)
    (field_not (count c.in-Both.received) (log_fields c.in-Both.received c.in-Both.received c.in-Both.log)
    _ c.is_count-in-Both.ensures c.if-not-is_count.true)

pub returns-in-Receives : goal.returns-in-Receives
returns-in-Receives c =
    subst (λ e. Tests c.is_count.result (end_fields e)) (sym c.in-Receives.is)
    (single (count c.in-Receives.received) _ c.is_count.ensures)

pub returns-in-Sends : goal.returns-in-Sends
returns-in-Sends c = subst (λ e. Tests c.is_log.result (end_fields e)) (sym c.in-Sends.is) c.is_log.ensures

pub returns-else-not-is_count : goal.returns-else-not-is_count
returns-else-not-is_count c =
    subst (λ e. Tests c.is_log-in-Both.result (end_fields e)) (sym c.in-Both.is)
    (field_then (count c.in-Both.received) (log_fields c.in-Both.received c.in-Both.received c.in-Both.log)
    _ _ c.is_count-in-Both.ensures c.if-not-is_count.false c.is_log-in-Both.ensures)
