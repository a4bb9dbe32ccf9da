-- What a file was asked so that lines stand in it.
use Rattle.std.specs.Prelude.{◌≡◌, ◌⊎◌, ℕ, ◌+◌, ◌^◌, ◌≤◌, ℤ, Bool, true, ◌||◌, is_some, List, [], ◌∷◌, ◌++◌, length, Option, Result, Ok, Err}
use Rattle.outlet.specs.declared.fault.OutletFault.{OutletFault}
use Rattle.outlet.specs.declared.fault.OutletFault.TheVariants.{NoMemory, Failed}
use Rattle.output_file.specs.Lines.{item_line, lines_of}
use Rattle.host.specs.LineRequests.{Request, bytes_put, has_failed, go_on_from}

-- A file that was opened with its lines ending at `start` was asked to put these bytes there, but for those at their end
-- that are still in a block. They end at `end`. It is broken where a put failed; then no other put was asked since.
pub record IsWritten (start : ℕ) (lines : List ℕ) (asked : List Request) (end : ℕ) (block : List ℕ) (broken : Bool) : Type
    0 where
  pub put : bytes_put asked ++ block ≡ lines
  pub order : go_on_from start asked ≡ true
  pub ends : end ≡ start + length lines
  pub failed : broken ≡ has_failed asked

-- an outlet over a file of lines
pub record OutputView : Type 0 where
  -- those that the file held when it was opened, and those appended since
  pub items : List ℤ
  -- how many the file held when it was opened
  pub held : ℕ
  -- how many were taken: the held items met again, and those appended
  pub count : ℕ
  -- the position of the held item from which one differed, and that one
  pub difference : Option ℕ
  pub differing : Option ℤ
  -- a put failed
  pub broken : Bool
  -- lines that wait to be put
  pub block : List ℕ
  -- what the file was asked since it was opened, the newest first
  pub asked : List Request

-- it takes nothing any more
abbrev pub is_refusing : OutputView → Bool
is_refusing output = output.broken || is_some output.difference

-- it has the item behind those that it had, and took it
pub record HasAppended (old : OutputView) (item : ℤ) (new : OutputView) : Type 0 where
  pub items : new.items ≡ old.items ++ item ∷ []
  pub count : new.count ≡ old.count + 1
  pub held : new.held ≡ old.held
  pub difference : new.difference ≡ old.difference
  pub differing : new.differing ≡ old.differing
  pub broken : new.broken ≡ old.broken

-- it has and took what it had and took before
pub record HasSameItems (old new : OutputView) : Type 0 where
  pub items : new.items ≡ old.items
  pub count : new.count ≡ old.count
  pub held : new.held ≡ old.held
  pub difference : new.difference ≡ old.difference
  pub differing : new.differing ≡ old.differing

-- how an item is appended behind the last one: a failure means that a put failed, or that the file would be too long
abbrev pub Appends : OutputView → ℤ → Result (Unit {0}) OutletFault → OutputView → Type 0
Appends old item (Ok done) new = HasAppended old item new
Appends old item (Err NoMemory) new = new ≡ old
Appends old item (Err Failed) new = HasSameItems old new
    × ((new.broken ≡ true) ⊎ (2 ^ 64 ≤ length (lines_of old.items) + length (item_line item)))
