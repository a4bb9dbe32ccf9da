-- The rule of a table of marks: whatever holds between any two steps.
use Rattle.std.specs.Prelude.{◌≡◌, ◌≢◌, ℕ, ◌+◌, ◌≤◌, ◌<◌, ◌⊎◌, List, [], map, length, replicate, slice_index}
use Rattle.std.specs.Prelude.{Option, Some, None}
use mathlib.Core.Option.{some}
use lib.ListN.{get_elem?}
use Rattle.atomic_table.specs.Table.{State}
use Rattle.marks.specs.declared.view.View.{View}
use Rattle.marks.specs.Owners.{owner_at}
use Rattle.marks.specs.Known.{greatest, BeginsWith, known_of}

-- A seat knows a beginning of what was raised for each channel, and the seat of a channel's owner knows all of it: so
-- whatever a seat knows to have been raised was raised by the seat of the owner.
pub record KnowsRaises (owners : List (Option ℕ)) (raised : ℕ → List ℕ) (view : View) : Type 0 where
  pub channels : length view.known ≡ length owners
  pub begins : (channel : ℕ) → channel < length owners → BeginsWith (raised channel) (known_of view channel)
  pub whole : (channel node : ℕ) → owner_at owners channel ≡ Some node → view.node ≡ Some node
      → known_of view channel ≡ raised channel

-- The first seat is the driver's and has dealt the seats of the nodes from 0 on. Any other seat is one of these, or of no
-- node: then it only reads. No two seats are of one node, and nothing was raised for a node whose seat isn't dealt yet.
pub record AreSeated (owners : List (Option ℕ)) (raised : ℕ → List ℕ) (views : List View) : Type 0 where
  pub some_seat : 0 < length views
  pub driver : (view : View) → get_elem? views 0 ≡ some view → view.node ≡ None
  pub later : (first view : View) (place : ℕ) → get_elem? views 0 ≡ some first → get_elem? views place ≡ some view
      → place ≢ 0 → (view.node ≡ None) ⊎ ((node : ℕ) × (view.node ≡ Some node) × (node < first.dealt))
  pub apart : (i j : ℕ) (one other : View) → get_elem? views i ≡ some one → get_elem? views j ≡ some other
      → (node : ℕ) → one.node ≡ Some node → other.node ≡ Some node → i ≡ j
  pub not_dealt : (first : View) (channel node : ℕ) → get_elem? views 0 ≡ some first
      → owner_at owners channel ≡ Some node → first.dealt ≤ node → raised channel ≡ []

-- There are lists of the numbers that were raised for each channel such that the word of a channel is the greatest of
-- them, and the seats know of them what is said above. A word more than there are channels stands last, unused.
pub record HoldsOfMarks (owners : List (Option ℕ)) (table : State (Unit {0}) View) : Type 0 where
  pub raised : ℕ → List ℕ
  pub words : (channel : ℕ) → channel < length owners → slice_index table.words channel ≡ greatest (raised channel)
  pub room : length table.words ≡ length owners + 1
  pub views : (place : ℕ) (view : View) → get_elem? table.views place ≡ some view → KnowsRaises owners raised view
  pub seated : AreSeated owners raised table.views

-- what the driver's seat knows first, and each seat that only reads
abbrev pub first_view : List (Option ℕ) → View
first_view owners = record { node = None; dealt = 0; known = replicate (length owners) [] }

-- the driver's seat, once it has dealt another one
abbrev pub dealer : View → View
dealer view = record view { dealt = view.dealt + 1 }

-- the seat that it deals: that of the next node, which knows of no raise
abbrev pub dealt : View → View
dealt view = record { node = Some view.dealt; dealt = 0; known = map (λ (_ : List ℕ). []) view.known }
