-- Ledgers that no run has yet.
use Rattle.std.specs.Prelude.{◌≡◌, ℕ}
use Rattle.run_log.specs.Numbers.{Names}
use Rattle.run_log.specs.declared.seat_count.UnusedLedgers.{UnusedLedgers}

abbrev pub names_of : UnusedLedgers → Names
names_of ledgers = record {
  entries = ledgers.entries.name;
  nothings = ledgers.nothings.name;
  not_yets = ledgers.not_yets.name;
  no_mores = ledgers.no_mores.name;
  stops = ledgers.stops.name;
}

-- each is for so many seats
abbrev pub HaveParts : UnusedLedgers → ℕ → Type 0
HaveParts ledgers seats =
    (ledgers.entries.parts ≡ seats) × (ledgers.nothings.parts ≡ seats) × (ledgers.not_yets.parts ≡ seats)
    × (ledgers.no_mores.parts ≡ seats) × (ledgers.stops.parts ≡ seats)
