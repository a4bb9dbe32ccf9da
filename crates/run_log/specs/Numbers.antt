-- How often seats are answered, in five numbers.
use Rattle.std.specs.Prelude.{ℕ, ◌+◌}
use Rattle.run_log.specs.declared.seat_count.Counted.{Counted}
use Rattle.run_log.specs.declared.seat_count.Counted.TheVariants.{Entry, Nothing, NotYet, NoMore, Stop}

-- what the five ledgers of a run are called
pub record Names : Type 0 where
  pub entries : ℕ
  pub nothings : ℕ
  pub not_yets : ℕ
  pub no_mores : ℕ
  pub stops : ℕ

abbrev pub no_names : Names
no_names = record { entries = 0; nothings = 0; not_yets = 0; no_mores = 0; stops = 0 }

-- how many events a run had, and how many answers of each kind without one
pub record Numbers : Type 0 where
  pub entries : ℕ
  pub nothings : ℕ
  pub not_yets : ℕ
  pub no_mores : ℕ
  pub stops : ℕ

abbrev pub numbers : ℕ → ℕ → ℕ → ℕ → ℕ → Numbers
numbers entries nothings not_yets no_mores stops =
    record { entries = entries; nothings = nothings; not_yets = not_yets; no_mores = no_mores; stops = stops }

abbrev pub no_numbers : Numbers
no_numbers = numbers 0 0 0 0 0

-- one more of this kind
abbrev pub counted : Counted → Numbers → Numbers
counted Entry n = numbers (n.entries + 1) n.nothings n.not_yets n.no_mores n.stops
counted Nothing n = numbers n.entries (n.nothings + 1) n.not_yets n.no_mores n.stops
counted NotYet n = numbers n.entries n.nothings (n.not_yets + 1) n.no_mores n.stops
counted NoMore n = numbers n.entries n.nothings n.not_yets (n.no_mores + 1) n.stops
counted Stop n = numbers n.entries n.nothings n.not_yets n.no_mores (n.stops + 1)

-- both together
abbrev pub added : Numbers → Numbers → Numbers
added m n =
    numbers (m.entries + n.entries) (m.nothings + n.nothings) (m.not_yets + n.not_yets) (m.no_mores + n.no_mores)
    (m.stops + n.stops)
