use Rattle.std.proofs.Common.{arith}
use Rattle.std.proofs.lemmas.Grind.{elements}
use Rattle.run_log.proofs.seat_count.SeatCount.split_off.Goals as goal

pub split_off-requires-5-clause-left_backed : goal.split_off-requires-5-clause-left_backed
split_off-requires-5-clause-left_backed g c = grind (arith, elements)
