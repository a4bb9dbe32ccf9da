-- What a file was asked to write, one call of the system each, the newest first.
use Rattle.std.specs.Prelude.{◌≡◌, ◌⊎◌, ◌<◌, ◌≤◌, ◌+◌, ◌^◌, ℕ, Bool, true, false, List}
use Rattle.std.specs.Prelude.{[], ◌∷◌, ◌++◌, take, drop, length, Option, Some, None}

-- these bytes from this offset on, and how many of them the host took; or a sync
pub data Write : Type 0 where
  Wrote : (at : ℕ) (bytes : List ℕ) (took : Option ℕ) → Write
  Synced : (done : Bool) → Write

-- the bytes that the host took, the first first
abbrev pub taken : List Write → List ℕ
taken [] = []
taken (Wrote at bytes (Some count) ∷ earlier) = taken earlier ++ take count bytes
taken (Wrote at bytes None ∷ earlier) = taken earlier
taken (Synced done ∷ earlier) = taken earlier

-- these calls put these bytes from this offset on, and do nothing else: each is of all that the host hasn't taken yet,
-- at its place
abbrev pub ArePuts : ℕ → List ℕ → List Write → Type 0
ArePuts at bytes [] = Unit {0}
ArePuts at bytes (Wrote here these took ∷ earlier) =
    (here ≡ at + length (taken earlier)) × (these ≡ drop (length (taken earlier)) bytes) × ArePuts at bytes earlier
ArePuts at bytes (Synced done ∷ earlier) = ⊥

-- the newest call took nothing
abbrev pub HasTakenNone : List Write → Type 0
HasTakenNone [] = ⊥
HasTakenNone (Wrote at bytes (Some count) ∷ earlier) = count ≡ 0
HasTakenNone (Wrote at bytes None ∷ earlier) = Unit {0}
HasTakenNone (Synced done ∷ earlier) = ⊥

-- What stands in the log behind a put of these bytes from this offset on. Where it is done the host took all of them, at
-- their places and in order. Where it isn't the host took less, a beginning: then it was asked for the rest and took none
-- of it, or the rest lies beyond what an offset can say. In any case nothing else was asked.
pub record IsPut (at : ℕ) (bytes : List ℕ) (done : Bool) (old new : List Write) : Type 0 where
  pub calls : List Write
  pub log : new ≡ calls ++ old
  pub puts : ArePuts at bytes calls
  pub begun : taken calls ≡ take (length (taken calls)) bytes
  pub whole : done ≡ true → taken calls ≡ bytes
  pub refused : done ≡ false
      → (length (taken calls) < length bytes) × (HasTakenNone calls ⊎ (2 ^ 64 ≤ at + length (taken calls)))

-- the same, and where that waits for the disk a sync behind it
abbrev pub IsPutAndSynced : (at : ℕ) (bytes : List ℕ) (waits done : Bool) (old new : List Write) → Type 0
IsPutAndSynced at bytes true true old new =
    (put : List Write) × IsPut at bytes true old put × (new ≡ Synced true ∷ put)
IsPutAndSynced at bytes true false old new =
    IsPut at bytes false old new ⊎ ((put : List Write) × IsPut at bytes true old put × (new ≡ Synced false ∷ put))
IsPutAndSynced at bytes false done old new = IsPut at bytes done old new
