use Rattle.std.proofs.Common.{◌<◌, arith, ◌∙◌, List, ap, sym, subst}
use Rattle.std.specs.Prelude.{Vec}
use Rattle.std.specs.declared.alloc.Global.{Global}
use mathlib.Core.List.{IsPrefix}
use Rattle.atomic_table.specs.Table.{Me}
use Rattle.journal.specs.declared.view.View.{View}
use Rattle.run_log.specs.Lines.{happenings}
use Rattle.run_log.specs.declared.history.Line.{Line}
use Rattle.journal.specs.Histories.{lines_of, written}
use Rattle.journal.proofs.Moves.{joins, one_view, recalls}
use Rattle.journal.proofs.journal.Journal.recall.Goals as goal

pub into_seat-other-requires : goal.into_seat-other-requires
into_seat-other-requires c = one_view c.args.reader.badge.views c.args.reader.one_view

pub join_seat-requires : goal.join_seat-requires
join_seat-requires c =
    let self = c.args.self.now in
    let other = c.into_seat-other.result in
    let made = c.into_seat-other.ensures in
    let some_word : 0 < self.table.shared.table_id.words = let one = self.one_word in omega arith in (
      self.here,
      made.0 ∙ c.requires.here,
      made.3,
      some_word,
      joins self.seat.id self.seat.me.0 other.id other.me.0 self.own,
    )

pub load-requires : goal.load-requires
load-requires c =
    let self = c.args.self.now in
    let joined = c.join_seat.ensures in
    let seat = c.join_seat.new.seat in
    let some_word : 0 < self.table.shared.table_id.words = let one = self.one_word in omega arith in
    (joined.0 ∙ self.here, some_word, recalls _ seat.id seat.me (joined.1 ∙ self.own))

pub invariant_of-self : goal.invariant_of-self
invariant_of-self c =
    let self = c.args.self.now in
    let joined = c.join_seat.ensures in
    let recalled = c.load.ensures in
    record { one_word = self.one_word; here = recalled.0 ∙ (joined.0 ∙ self.here); own = recalled.1 ∙ (joined.1 ∙ self.own) }

pub returns-clause-begins : goal.returns-clause-begins
returns-clause-begins c =
    subst (λ (lines : List Line). ∥ IsPrefix (happenings lines) (happenings (written c.args.self.now)) ∥₁)
    (sym (ap lines_of c.into_seat-other.ensures.2))
    (subst (λ (me : Me (Vec Line Global) View). ∥ IsPrefix (happenings me.0.seen) (happenings me.0.lines) ∥₁) c.join_seat.ensures.2
    c.load.ensures.2.begins)
