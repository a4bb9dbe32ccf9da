-- The rule of a journal's table: whatever holds between any two steps.
use Rattle.std.specs.Prelude.{◌≡◌, ℕ, List, [], length}
use Rattle.std.specs.Prelude.{Vec}
use Rattle.std.specs.declared.alloc.Global.{Global}
use mathlib.Core.List.{IsPrefix}
use mathlib.Core.Option.{Option, none, some}
use lib.ListN.{get_elem?}
use Rattle.atomic_table.specs.Table.{State}
use Rattle.journal.specs.declared.view.View.{View}
use Rattle.replay.specs.Replay.{Happening}
use Rattle.run_log.specs.Lines.{happenings}
use Rattle.run_log.specs.declared.history.Line.{Line}

-- what a seat knows that was shown nothing
abbrev pub nothing_seen : View
nothing_seen = record { lines = []; seen = [] }

-- a seat knows only what happened
pub record KnowsHistory (all : List Happening) (view : View) : Type 0 where
  pub lines : ∥ IsPrefix (happenings view.lines) all ∥₁
  pub seen : ∥ IsPrefix (happenings view.seen) all ∥₁

-- There is one history. The first seat, the journal's own, knows the whole of it, and each one a beginning.
pub record HoldsOfJournal (table : State (Vec Line Global) View) : Type 0 where
  pub all : List Happening
  pub one_word : length table.words ≡ 1
  pub own : (view : View) → get_elem? table.views 0 ≡ some view → happenings view.lines ≡ all
  pub views : (place : ℕ) (view : View) → get_elem? table.views place ≡ some view → KnowsHistory all view

-- the journal's seat knows the history that it was told, and what it took in was a beginning of the one before
abbrev pub HasWritten : Option (Vec Line Global) → View → View → Type 0
HasWritten none before after = Unit {0}
HasWritten (some lines) before after = after ≡ record before { lines = lines.items }

-- what the journal's seat took in begins the history
pub record HasRecalled (before after : View) : Type 0 where
  pub same : after ≡ before
  pub begins : ∥ IsPrefix (happenings before.seen) (happenings before.lines) ∥₁

-- the journal's seat, once it has made another one
abbrev pub writer_of : View → View
writer_of view = view

-- the seat that it makes
abbrev pub reader_of : View → View
reader_of view = record { lines = view.lines; seen = [] }

-- the journal's seat, once it has taken in another one
abbrev pub taken_in : View → View → View
taken_in view other = record { lines = view.lines; seen = other.lines }
