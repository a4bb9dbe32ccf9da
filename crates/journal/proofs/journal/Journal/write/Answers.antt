use Rattle.std.proofs.Common.{◌<◌, arith, ◌∙◌}
use Rattle.journal.proofs.Moves.{writes}
use Rattle.journal.proofs.journal.Journal.write.Goals as goal

pub compare_exchange_with-requires : goal.compare_exchange_with-requires
compare_exchange_with-requires c =
    let self = c.args.self.now in
    let some_word : 0 < self.table.shared.table_id.words = let one = self.one_word in omega arith in
    (self.here, some_word, writes _ self.seat.id self.seat.me c.args.lines.now self.own c.requires.grows)

pub invariant_of-self : goal.invariant_of-self
invariant_of-self c =
    let self = c.args.self.now in
    let wrote = c.compare_exchange_with.ensures in
    record { one_word = self.one_word; here = wrote.0 ∙ self.here; own = wrote.1 ∙ self.own }
