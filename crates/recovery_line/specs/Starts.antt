-- The worlds with which runs begin, and those to which they lead.
use Rattle.std.specs.Prelude.{◌≡◌, ◌⊎◌, ℕ, ◌≤◌, List, None}
use Rattle.recovery_line.specs.Images.{Image, Net, IsOutput, blank}
use Rattle.recovery_line.specs.Records.{new_record}
use Rattle.recovery_line.specs.Nodes.{Mode, Down, Running}
use Rattle.recovery_line.specs.Worlds.{World, Run}
use Rattle.recovery_line.specs.Line.{Sound}

-- Images fit together: no more was got of a channel than put, what is kept of it goes back to what was got or has left,
-- and no more has left than was put.
pub record IsLine (net : Net) (images : ℕ → Image) (outlets : ℕ → ℕ) : Type 0 where
  pub sound : Sound net images outlets
  pub covered : (c p : ℕ) → IsOutput net c p → outlets c ≤ (images p).sent c
  pub logs : (c p : ℕ) → (images p).base c ≤ (images p).sent c

-- A node does nothing yet: it is down, or it runs and nothing was got or put there.
abbrev pub IsUnbegun : (ℕ → Image) → (ℕ → Mode) → ℕ → Type 0
IsUnbegun images modes k = (modes k ≡ Down) ⊎ ((modes k ≡ Running blank None) × (images k ≡ blank))

-- each node has its image as the permanent one, and no other; nothing is decided, and no packet is under way
abbrev pub world_at : (ℕ → Image) → (ℕ → Mode) → (ℕ → ℕ) → World
world_at images modes outlets = record {
  records = λ k. record new_record { permanent = images k };
  modes = modes;
  outlets = outlets;
  flight = λ place. None;
}

-- A run may begin with a world of images that fit together, in which no node does anything yet. The opening world is
-- one, of images that have nothing.
pub record IsStart (net : Net) (w : World) : Type 0 where
  pub images : ℕ → Image
  pub modes : ℕ → Mode
  pub outlets : ℕ → ℕ
  pub line : IsLine net images outlets
  pub unbegun : (k : ℕ) → IsUnbegun images modes k
  pub is : w ≡ world_at images modes outlets

-- some run of steps leads there from such a world
pub record Reachable (net : Net) (w : World) : Type 0 where
  pub start : World
  pub may : IsStart net start
  pub worlds : List World
  pub run : Run net start worlds w
