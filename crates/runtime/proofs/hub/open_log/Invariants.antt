use Rattle.std.proofs.Common.{◌≡◌, ◌+◌, ◌≤◌, vec_len}
use Rattle.journal.specs.Histories.{journal_id, written}
use Rattle.std.specs.Vec.{vec_capacity}
use Rattle.run_log.specs.Numbers.{no_numbers}
use Rattle.runtime.specs.Seats.{AreOfNodes}
use Rattle.run_log.specs.SeatCounts.{seat_numbers, seat_parts}
use Rattle.runtime.proofs.hub.open_log.Given as goal

abbrev pub invariant-loop-node : goal.invariant-loop-node
invariant-loop-node g l = record {
  parts : seat_parts l.all + l.node ≡ l.nodes + 1;
  numbers : seat_numbers l.all ≡ no_numbers;
  room : l.nodes ≤ vec_capacity l.seats;
  count : vec_len l.seats ≡ l.node;
  numbered : AreOfNodes l.node l.seats.items;
  same_journal : journal_id l.journal ≡ journal_id l.fn.journal;
  unwritten : written l.journal ≡ written l.fn.journal;
}
