-- What a crash may leave of sectors some of which are in doubt.
use Rattle.std.specs.Prelude.{◌≡◌, ℕ, Bool, false, if◌then◌else◌, List, length, ◌/◌, ◌<◌, refl}
use Rattle.std.proofs.Common.{get_or}
use Rattle.sector_disk.specs.declared.TheConstants.{SECTOR_BYTES}

-- each byte of a sector that isn't in doubt, and as many as there are
pub record MayLeave (bytes : List ℕ) (in_doubt : List Bool) (c : List ℕ) : Type 0 where
  pub size : length c ≡ length bytes
  pub settled : (i : ℕ) → i < length bytes → get_or in_doubt (i / SECTOR_BYTES) false ≡ false
      → get_or c i 0 ≡ get_or bytes i 0

-- each sector in doubt is filled by this byte, and the others are as they were
pub record IsSettledBy (fill : ℕ) (in_doubt : List Bool) (old new : List ℕ) : Type 0 where
  pub size : length new ≡ length old
  pub bytes : (i : ℕ) → i < length old
      → get_or new i 0 ≡ (if get_or in_doubt (i / SECTOR_BYTES) false then fill else get_or old i 0)

-- it may happen that a crash leaves everything
pub may_lose_nothing : (bytes : List ℕ) (in_doubt : List Bool) → MayLeave bytes in_doubt bytes
may_lose_nothing bytes in_doubt = record { size = refl; settled = λ i lt settled. refl }
