-- How a run goes by what the command line asks for.
use Rattle.std.specs.Prelude.{ℕ, Bool, true, false, Option, Some, None, is_some, not}
use Rattle.cobaltmidge.specs.declared.settings.Settings.{Settings}
use Rattle.cobaltmidge.specs.declared.settings.TheConstants.{DEFAULT_ROUNDS}
use Rattle.kahn_program.specs.declared.asked.Options.{Options}
use Rattle.kahn_program.specs.declared.asked.TheConstants.{MAX_ROUNDS}

-- The rounds after which a run ends: as many as are asked for, and else by default, with a folder and without.
abbrev pub rounds_of : Option ℕ → Bool → ℕ
rounds_of (Some rounds) kept = rounds
rounds_of None true = MAX_ROUNDS
rounds_of None false = DEFAULT_ROUNDS

-- how a run goes, by what the command line asks for
abbrev pub settings_of : Options → Settings
settings_of options = record {
  rounds = rounds_of options.rounds (is_some options.state);
  items = options.items;
  room = options.room;
  threads = not options.plain;
  history = is_some options.history;
}
