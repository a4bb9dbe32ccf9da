-- What the contracts say of a journal and of a reader, in place of their fields.
use Rattle.std.specs.Prelude.{List, [], ◌∷◌}
use mathlib.Core.List.{IsPrefix}
use Rattle.atomic_table.specs.Seated.{TableId}
use Rattle.journal.specs.declared.journal.Journal.{Journal}
use Rattle.journal.specs.declared.journal.Reader.{Reader}
use Rattle.journal.specs.declared.view.View.{View}
use Rattle.run_log.specs.Lines.{happenings}
use Rattle.run_log.specs.declared.history.Line.{Line}

-- what the first lines say that happened begins what the others say
abbrev pub Begins : List Line → List Line → Type 0
Begins part whole = ∥ IsPrefix (happenings part) (happenings whole) ∥₁

-- the lines of the history, as it was written last
abbrev pub written : Journal → List Line
written journal = journal.seat.me.0.lines

-- those that the first of these views has
abbrev pub lines_of : List View → List Line
lines_of [] = []
lines_of (view ∷ others) = view.lines

-- those that a reader was shown last
abbrev pub seen : Reader → List Line
seen reader = lines_of reader.badge.views

-- which journal it is
abbrev pub journal_id : Journal → TableId
journal_id journal = journal.table.shared.table_id

-- of which one a reader is
abbrev pub journal_of : Reader → TableId
journal_of reader = reader.badge.table_id
