-- The moves of a record: each is one write of it, which a crash lets happen or not.
use Rattle.std.specs.Prelude.{◌≡◌, ◌≢◌, ℕ, ◌<◌, Bool, true, false, None}
use Rattle.recovery_line.specs.Images.{Image}
use Rattle.recovery_line.specs.Records.{Record, Holds}

-- The image becomes the tentative one of an instance, whose number was above the highest seen and now is it.
pub record Takes (r s : Record) (x n : ℕ) (image : Image) : Type 0 where
  pub free : r.tentative ≡ None
  pub new : r.highest x < n
  pub holds : Holds s x n image
  pub highest : s.highest x ≡ n
  pub others : (y : ℕ) → y ≢ x → s.highest y ≡ r.highest y
  pub permanent : s.permanent ≡ r.permanent
  pub decided : s.decided ≡ r.decided
  pub named : s.named ≡ r.named

-- The tentative image becomes permanent, and a decision names those who took it; without takers there is none.
pub record Decides (r s : Record) (x n : ℕ) (image : Image) (takers : ℕ → Bool) : Type 0 where
  pub held : Holds r x n image
  pub permanent : s.permanent ≡ image
  pub free : s.tentative ≡ None
  pub highest : s.highest ≡ r.highest
  pub decided : (p : ℕ) → takers p ≡ true → s.decided n ≡ true
  pub alone : ((p : ℕ) → takers p ≡ false) → s.decided n ≡ false
  pub named : (p : ℕ) → s.named n p ≡ takers p
  pub others : (m : ℕ) → m ≢ n → (s.decided m ≡ r.decided m) × (s.named m ≡ r.named m)

-- The tentative image becomes permanent at another's word.
pub record Settles (r s : Record) (x n : ℕ) (image : Image) : Type 0 where
  pub held : Holds r x n image
  pub permanent : s.permanent ≡ image
  pub free : s.tentative ≡ None
  pub highest : s.highest ≡ r.highest
  pub decided : s.decided ≡ r.decided
  pub named : s.named ≡ r.named

-- The tentative image goes.
pub record Drops (r s : Record) (x n : ℕ) (image : Image) : Type 0 where
  pub held : Holds r x n image
  pub permanent : s.permanent ≡ r.permanent
  pub free : s.tentative ≡ None
  pub highest : s.highest ≡ r.highest
  pub decided : s.decided ≡ r.decided
  pub named : s.named ≡ r.named

-- A decision no longer names a node, and goes where it named nobody else.
pub record Confirms (r s : Record) (n p : ℕ) : Type 0 where
  pub permanent : s.permanent ≡ r.permanent
  pub tentative : s.tentative ≡ r.tentative
  pub highest : s.highest ≡ r.highest
  pub leaves : s.named n p ≡ false
  pub stays : (q : ℕ) → q ≢ p → s.named n q ≡ r.named n q
  pub less : s.decided n ≡ true → r.decided n ≡ true
  pub kept : (q : ℕ) → q ≢ p → r.named n q ≡ true → s.decided n ≡ r.decided n
  pub others : (m : ℕ) → m ≢ n → (s.decided m ≡ r.decided m) × (s.named m ≡ r.named m)

pub data Move (r s : Record) : Type 0 where
  Take : (x n : ℕ) (image : Image) → Takes r s x n image → Move r s
  Decide : (x n : ℕ) (image : Image) (takers : ℕ → Bool) → Decides r s x n image takers → Move r s
  Settle : (x n : ℕ) (image : Image) → Settles r s x n image → Move r s
  Drop : (x n : ℕ) (image : Image) → Drops r s x n image → Move r s
  Confirm : (n p : ℕ) → Confirms r s n p → Move r s
