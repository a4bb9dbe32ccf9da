-- The recovery line: what restarts, if all nodes do, and what is to hold of it.
use Rattle.std.specs.Prelude.{◌≡◌, ◌≢◌, ◌⊎◌, ℕ, ◌≤◌, Bool, false, Option, Some, None, if◌then◌else◌}
use Rattle.recovery_line.specs.Images.{Image, AtMost, Net, IsCross, IsOutput}
use Rattle.recovery_line.specs.Records.{Tentative, Record, effective}
use Rattle.recovery_line.specs.Nodes.{Live}
use Rattle.recovery_line.specs.Worlds.{World, IsLive}

-- No orphan: nobody received what its producer would have to put again. Nothing lost: whatever is still
-- to be received stands in its producer's log, and whatever is still to be released in the output's.
pub record Sound (net : Net) (line : ℕ → Image) (outlets : ℕ → ℕ) : Type 0 where
  pub no_orphan : (c p q : ℕ) → net.producer c ≡ Some p → net.consumer c ≡ Some q
      → (line q).received c ≤ (line p).sent c
  pub nothing_lost : (c p q : ℕ) → net.producer c ≡ Some p → net.consumer c ≡ Some q
      → (line p).base c ≤ (line q).received c
  pub outputs : (c p : ℕ) → IsOutput net c p → (line p).base c ≤ outlets c

-- whatever was released is behind the effective images, and behind the permanent ones
pub record Covers (net : Net) (records : ℕ → Record) (outlets : ℕ → ℕ) : Type 0 where
  pub by_line : (c p : ℕ) → IsOutput net c p → outlets c ≤ (effective records p).sent c
  pub by_permanent : (c p : ℕ) → IsOutput net c p → outlets c ≤ (records p).permanent.sent c

-- no count of the line falls
abbrev pub NotBehind : (ℕ → Record) → (ℕ → Record) → Type 0
NotBehind records later = (k : ℕ) → AtMost (effective records k) (effective later k)

-- the instance's number was used, and it is neither decided nor live
pub record Over (w : World) (x n : ℕ) : Type 0 where
  pub used : n ≤ (w.records x).highest x
  pub undecided : (w.records x).decided n ≡ false
  pub closed : (live : Live) → IsLive w x live → live.number ≢ n

-- What may be found at a moment inside a step, or before or after it: the write of a record took place or not, and so
-- an outlet's.
pub record AtMoment (w v : World) (records : ℕ → Record) (outlets : ℕ → ℕ) : Type 0 where
  pub of_records : (records ≡ w.records) ⊎ (records ≡ v.records)
  pub of_outlets : (outlets ≡ w.outlets) ⊎ (outlets ≡ v.outlets)

abbrev pub tentative_or : Image → Option Tentative → Image
tentative_or other None = other
tentative_or other (Some t) = t.image

-- the line in which just this set of nodes takes its tentative images
abbrev pub line_with : (ℕ → Record) → (ℕ → Bool) → ℕ → Image
line_with records set k =
    if set k then tentative_or (effective records k) (records k).tentative else effective records k

-- no channel between two nodes has an orphan
abbrev pub NoOrphan : Net → (ℕ → Image) → Type 0
NoOrphan net line = (c p q : ℕ) → IsCross net c p q → (line q).received c ≤ (line p).sent c
