use Rattle.std.proofs.Common.{◌<◌, arith}
use Rattle.journal.proofs.Moves.{deals}
use Rattle.journal.proofs.journal.Journal.reader.Goals as goal

pub split_seat-fresh-requires : goal.split_seat-fresh-requires
split_seat-fresh-requires c =
    let self = c.args.self.now in
    let some_word : 0 < self.table.shared.table_id.words = let one = self.one_word in omega arith in
    (self.here, some_word, deals self.seat.id self.seat.me.0 self.own)
