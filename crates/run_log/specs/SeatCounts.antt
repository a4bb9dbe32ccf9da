-- What a run's tokens and a seat's stand for.
use Rattle.std.specs.Prelude.{ℕ}
use Rattle.run_log.specs.Numbers.{Numbers, numbers}
use Rattle.run_log.specs.declared.seat_count.RunCount.{RunCount}
use Rattle.run_log.specs.declared.seat_count.SeatCount.{SeatCount}

abbrev pub run_numbers : {ThisRun : Type 0} → RunCount ThisRun → Numbers
run_numbers {ThisRun} totals =
    numbers totals.entries.total totals.nothings.total totals.not_yets.total totals.no_mores.total totals.stops.total

abbrev pub seat_numbers : {ThisRun : Type 0} → SeatCount ThisRun → Numbers
seat_numbers {ThisRun} count =
    numbers count.entries.amount count.nothings.amount count.not_yets.amount count.no_mores.amount count.stops.amount

-- of how many seats it is
abbrev pub seat_parts : {ThisRun : Type 0} → SeatCount ThisRun → ℕ
seat_parts {ThisRun} count = count.entries.parts
