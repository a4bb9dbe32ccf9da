-- What an edition of the language has.
use Rattle.std.specs.Prelude.{ℕ, Bool, true, false, ◌&&◌, leb, Option, Some, None}
use Rattle.net_text.specs.declared.edition.Edition.{Edition}
use Rattle.net_text.specs.declared.edition.Edition.TheVariants.{First, Second}
use Rattle.kahn_net.specs.declared.limits.TheConstants.{MAX_TIMES}
use Rattle.kahn_net.specs.declared.program.Operator.{Operator}
use Rattle.kahn_net.specs.declared.program.Operator.TheVariants.{Add, Subtract, Multiply, Divide, Remainder, Equal}
use Rattle.kahn_net.specs.declared.program.Operator.TheVariants.{NotEqual, Less, LessOrEqual, Greater, GreaterOrEqual}

-- the number by which a text names its edition
abbrev pub edition_number : Edition → ℕ
edition_number First = 1
edition_number Second = 2

abbrev pub is_second : Edition → Bool
is_second First = false
is_second Second = true

-- an edition has this operator
abbrev pub has_this : Operator → Edition → Bool
has_this Divide edition = is_second edition
has_this Remainder edition = is_second edition
has_this Add edition = true
has_this Subtract edition = true
has_this Multiply edition = true
has_this Equal edition = true
has_this NotEqual edition = true
has_this Less edition = true
has_this LessOrEqual edition = true
has_this Greater edition = true
has_this GreaterOrEqual edition = true

-- what only the second edition has
abbrev pub if_second : {A : Type 0} → Edition → A → Option A
if_second First x = None
if_second Second x = Some x

-- How often a repetition may be made: a number within the limits, as texts are read; or any number, which tells a
-- number outside them from a token that can't stand there.
pub data Counts : Type 0 where
  Ranged : Counts
  Unranged : Counts

abbrev pub is_count : Counts → ℕ → Bool
is_count Ranged n = leb 1 n && leb n MAX_TIMES
is_count Unranged n = true
