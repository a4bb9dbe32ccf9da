use Rattle.std.proofs.Common.{◌≡◌, ◌+◌, length}
use Rattle.std.specs.List.{All}
use Rattle.journal.specs.Histories.{Begins, journal_id, seen, written}
use Rattle.run_log.specs.Numbers.{added}
use Rattle.runtime.specs.Seats.{numbers_of_seats}
use Rattle.runtime.specs.declared.seat.NodeSeat.{NodeSeat}
use Rattle.run_log.specs.SeatCounts.{seat_numbers, seat_parts}
use Rattle.runtime.proofs.seat.DriverSeat.with_all.Given as goal

abbrev pub invariant-loop-seat : goal.invariant-loop-seat
invariant-loop-seat g l = record {
  parts : seat_parts l.all ≡ length l.yielded + 1;
  same : journal_id l.journal ≡ journal_id l.fn.journal;
  same_lines : written l.journal ≡ written l.fn.journal;
  shown : All (λ (seat : NodeSeat _ _ _). Begins (seen seat.reader) (written l.fn.journal)) l.yielded;
  numbers : seat_numbers l.all ≡ added (numbers_of_seats l.yielded) (seat_numbers l.fn.self.count);
}
