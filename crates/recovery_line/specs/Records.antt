-- What a node keeps on its disk, and the effective image that follows from the records of all nodes.
use Rattle.std.specs.Prelude.{◌≡◌, ℕ, Bool, false, Option, Some, None, if◌then◌else◌}
use Rattle.recovery_line.specs.Images.{Image, blank}

-- a second image, kept for one instance until its verdict; the instance is its initiator with a number
pub record Tentative : Type 0 where
  pub initiator : ℕ
  pub number : ℕ
  pub image : Image

pub record Record : Type 0 where
  -- by initiator the highest number seen; at the node itself, the highest that it used
  pub highest : ℕ → ℕ
  -- which of its own instances the node decided, until all have confirmed it, and whom such a decision names
  pub decided : ℕ → Bool
  pub named : ℕ → ℕ → Bool
  pub permanent : Image
  pub tentative : Option Tentative

-- the node keeps this tentative image for this instance
abbrev pub Holds : Record → ℕ → ℕ → Image → Type 0
Holds r x n i = r.tentative ≡ Some (record { initiator = x; number = n; image = i })

abbrev pub new_record : Record
new_record =
    record { highest = λ x. 0; decided = λ n. false; named = λ n p. false; permanent = blank; tentative = None }

abbrev pub chosen : (ℕ → Record) → Image → Option Tentative → Image
chosen records permanent None = permanent
chosen records permanent (Some t) = if (records t.initiator).decided t.number then t.image else permanent

-- the tentative image where its instance is committed, and else the permanent one
abbrev pub effective : (ℕ → Record) → ℕ → Image
effective records k = chosen records (records k).permanent (records k).tentative
