-- A process's part of an image, without pointers.
use Rattle.std.specs.Prelude.{ℕ}
use Rattle.kahn_net.specs.Common.{Standing}

-- a process in an image: its number, and where it stands with its variables
pub record SavedProcessView : Type 0 where
  pub number : ℕ
  pub standing : Standing
