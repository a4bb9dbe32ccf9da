use Rattle.std.proofs.Common.{◌≡◌, ◌<◌, ◌∙◌, ℕ, ap, sym, subst, arith, Option}
use Rattle.std.specs.Prelude.{Vec}
use Rattle.std.specs.declared.alloc.Global.{Global}
use Rattle.atomic_table.specs.Table.{Enters}
use Rattle.marks.specs.declared.view.View.{View}
use Rattle.marks.specs.Known.{known_of}
use Rattle.marks.specs.Rules.{HoldsOfMarks, first_view}
use Rattle.marks.proofs.Moves.{enters, nothing_first}
use Rattle.marks.proofs.marks.Marks.reader.Goals as goal

pub load_new_seat-word-requires : goal.load_new_seat-word-requires
load_new_seat-word-requires g c =
    let self = c.args.self.now in
    let inside : 0 < self.table.shared.table_id.words = let room = self.room in omega arith in
    let AtKey =
    λ (key : Vec (Option ℕ) Global). Enters {S = Unit {0}} (λ s. HoldsOfMarks key.items s)
    self.table.shared.table_id.slots 0 (λ _ w. w ≡ first_view key.items) in
    (inside, subst AtKey (sym self.same) (enters self.owners.items _))

pub of_table-requires : goal.of_table-requires
of_table-requires g c =
    let self = c.args.self.now in
    let made = c.load_new_seat-word.ensures in
    record { here = made.0 ∙ self.here; own_node = ap (λ (view : View). view.node) made.2 }

pub returns-clause-fresh : goal.returns-clause-fresh
returns-clause-fresh g c = λ channel.
    ap (λ (me : _). known_of me.0 channel) c.of_table.ensures.seat
    ∙ (ap (λ (view : View). known_of view channel) c.load_new_seat-word.ensures.2
    ∙ nothing_first _ channel)
