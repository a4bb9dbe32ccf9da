-- A process that can move does something.
use Rattle.std.specs.Prelude.{◌≡◌, ◌<◌, ℕ, ℤ, List, length, slice_index, true}
use Rattle.kahn_net.specs.Fits.{Fits}
use Rattle.kahn_net.specs.Processes.{Standing, NotBegun}
use Rattle.kahn_net.specs.Streams.{history_of}
use Rattle.kahn_net.specs.Syntax.{Network}
use Rattle.kahn_net.specs.Valid.{IsValid}
use Rattle.rerun.specs.Tables.{TableView, HasRerun, IsInOrder, Turned, can_move}

-- a process that stood so began, or took an item, or put one
pub data DidSomething (before : Standing) (taken : List ℕ) (sent : List (List ℤ)) : Type 0 where
  Began : (vars : List ℤ) → before ≡ NotBegun vars → DidSomething before taken sent
  Took : (c : ℕ) → 0 < slice_index taken c → DidSomething before taken sent
  Put : (c : ℕ) → 0 < length (history_of sent c) → DidSomething before taken sent

-- a turn in which something was done
pub record Moved (net : Network) (inputs : List (List ℤ)) (limits : List ℕ) (p : ℕ) (old new : TableView) : Type 0 where
  pub turned : Turned net inputs limits p old new
  pub did : DidSomething turned.before turned.taken turned.sent

-- a process does something in its turn where it can move
abbrev pub MovesWhereItCan : Type 0
MovesWhereItCan = (net : Network) (inputs : List (List ℤ)) (limits : List ℕ) (p : ℕ) (old new : TableView) → IsValid net
    → Fits net inputs → IsInOrder net inputs old → HasRerun net inputs old → can_move net inputs limits old p ≡ true
    → Turned net inputs limits p old new → Moved net inputs limits p old new
