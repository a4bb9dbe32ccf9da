-- The exit status of a run that comes to a report.
use Rattle.std.specs.Prelude.{ℕ, Bool, true, false}

-- the status of a run with a report: 0 where it is complete, 3 where it isn't
abbrev pub status_of_run : Bool → ℕ
status_of_run true = 0
status_of_run false = 3
