-- The numbers of a history.
use Rattle.std.specs.Prelude.{◌≡◌, ◌≤◌, ◌⊎◌, ℕ, List, [], ◌∷◌, ◌++◌, Some, slice_get, sum_by}
use Rattle.kahn_net.specs.declared.limits.TheConstants.{MAX_COUNT}
use Rattle.replay.specs.Replay as happening
use Rattle.replay.specs.declared.kept.Silence.{Silence}
use Rattle.replay.specs.declared.kept.Silence.TheVariants.{Nothing, Late, NotYet, NoMore}
use Rattle.run_log.specs.Lines.{happenings}
use Rattle.run_log.specs.Numbers.{Numbers, numbers}
use Rattle.run_log.specs.Numbers as number
use Rattle.run_log.specs.declared.history.Line.{Line}
use Rattle.run_log.specs.declared.history.Line.TheVariants.{Few, Left, CameBack, Long, Silent, Widened}
use Rattle.run_log.specs.declared.history.Usual.{Usual}
use Rattle.run_log.specs.declared.seat_count.Counted.{Counted}
use Rattle.run_log.specs.declared.seat_count.Counted.TheVariants as counted

-- as what an answer without an event counts
abbrev pub kind_of : Silence → Counted
kind_of (Nothing node) = counted.Nothing
kind_of (Late node) = counted.Nothing
kind_of NotYet = counted.NotYet
kind_of NoMore = counted.NoMore

abbrev pub times_of : Usual → ℕ
times_of row = row.times

-- that a channel got more room counts as an event
abbrev pub events_in : Line → ℕ
events_in (Few rows) = sum_by times_of rows
events_in (Left node output times first) = times
events_in (CameBack node is_taken job) = 1
events_in (Long long) = long.value.times
events_in (Silent reason count) = 0
events_in (Widened channel) = 1

abbrev pub nothings_in : Line → ℕ
nothings_in (Few rows) = 0
nothings_in (Left node output times first) = 0
nothings_in (CameBack node is_taken job) = 0
nothings_in (Long long) = 0
nothings_in (Silent (Nothing node) count) = count
nothings_in (Silent (Late node) count) = count
nothings_in (Silent NotYet count) = 0
nothings_in (Silent NoMore count) = 0
nothings_in (Widened channel) = 0

abbrev pub not_yets_in : Line → ℕ
not_yets_in (Few rows) = 0
not_yets_in (Left node output times first) = 0
not_yets_in (CameBack node is_taken job) = 0
not_yets_in (Long long) = 0
not_yets_in (Silent (Nothing node) count) = 0
not_yets_in (Silent (Late node) count) = 0
not_yets_in (Silent NotYet count) = count
not_yets_in (Silent NoMore count) = 0
not_yets_in (Widened channel) = 0

abbrev pub no_mores_in : Line → ℕ
no_mores_in (Few rows) = 0
no_mores_in (Left node output times first) = 0
no_mores_in (CameBack node is_taken job) = 0
no_mores_in (Long long) = 0
no_mores_in (Silent (Nothing node) count) = 0
no_mores_in (Silent (Late node) count) = 0
no_mores_in (Silent NotYet count) = 0
no_mores_in (Silent NoMore count) = count
no_mores_in (Widened channel) = 0

-- the numbers of a run with these lines and so many answers `Stopped`
abbrev pub numbers_in : List Line → ℕ → Numbers
numbers_in lines stops =
    numbers (sum_by events_in lines) (sum_by nothings_in lines) (sum_by not_yets_in lines) (sum_by no_mores_in lines)
    stops

-- An answer without an event was counted, for this reason: where it was given since the last event, or in a line of its own.
pub record IsCounted (reason : Silence) (before now : List Line) : Type 0 where
  pub lines : (happenings now ≡ happenings before) ⊎ (happenings now ≡ happenings before ++ happening.Silent reason ∷ [])
  pub counts : (stops : ℕ) → numbers_in now stops ≡ number.counted (kind_of reason) (numbers_in before stops)

-- it was said as often as can be counted that no event was made
pub record HasFullLine (lines : List Line) : Type 0 where
  pub place : ℕ
  pub reason : Silence
  pub count : ℕ
  pub said : slice_get lines place ≡ Some (Silent reason count)
  pub full : MAX_COUNT ≤ count
