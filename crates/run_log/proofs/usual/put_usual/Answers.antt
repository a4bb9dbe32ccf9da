use Rattle.std.proofs.Common.{rules, arith, ◌≡◌, ◌+◌, ◌-◌, ◌<◌, get_or, length}
use Rattle.run_log.specs.declared.history.Usual.{Usual}
use Rattle.run_log.specs.declared.history.UsualEvent.TheVariants.{Deliver}
use Rattle.run_log.proofs.Usuals.{counted_in, placed}
use Rattle.run_log.proofs.usual.put_usual.Goals as goal

pub returns-then-last-lt255-clause-put : goal.returns-then-last-lt255-clause-put
returns-then-last-lt255-clause-put c = λ yes.
    let none : Usual = record { node = 0; event = Deliver; times = 0 } in
    let within : c.rows_taken-taken.result - 1 < length c.args.rows.now = omega arith in
    let next : c.rows_taken-taken.result ≡ c.rows_taken-taken.result - 1 + 1 = omega arith in
    let event : (get_or c.args.rows.now (c.rows_taken-taken.result - 1) none).event ≡ c.args.row.event = search rules in
    counted_in c.args.rows.now _ _ c.args.row none next within c.if-last-row.true event c.rows_taken-taken.ensures.none

pub returns-then-taken-lt-USUALS-clause-put : goal.returns-then-taken-lt-USUALS-clause-put
returns-then-taken-lt-USUALS-clause-put c = λ yes.
    let within : c.rows_taken-taken.result < length c.args.rows.now = omega arith in
    placed c.args.rows.now _ c.args.row within c.requires c.rows_taken-taken.ensures.none c.rows_taken-taken.ensures.no_times
