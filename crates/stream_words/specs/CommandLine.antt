-- The command line of the streaming mode as `clap` sees it.
use Rattle.std.specs.Prelude.{ℕ, true, [], ◌∷◌, Some, codes}
use Rattle.clap.specs.Words.{App, Rule, Text, new_app, new_rule, with_rule}
use Rattle.clap.specs.declared.builder.action.ArgAction.TheVariants.{Append, SetTrue}
use Rattle.clap.specs.declared.builder.value_parser.ValueParser.TheVariants.{Unsigned}
use Rattle.stream_words.specs.declared.command.TheConstants.{LEAST_ROOM, MOST_ROOM}

-- an argument that has to be there
abbrev pub required : Rule → Rule
required rule = record rule { required = true }

-- `--NAME`
abbrev pub flag : Text → Rule
flag name = record (new_rule name) { long = Some name; action = Some SetTrue }

-- `--NAME VALUE`, which may come several times
abbrev pub several : Text → Rule
several name = record (new_rule name) { long = Some name; value_names = 1; action = Some Append }

-- `--NAME N`, of a number within these bounds, and of this text where the command line has none
abbrev pub number : Text → ℕ → ℕ → Text → Rule
number name least most text = record (new_rule name) {
  long = Some name;
  value_names = 1;
  parser = Some (Unsigned least most);
  defaults = text ∷ [];
}

-- `--version`, besides `--help`
abbrev pub with_version : App → App
with_version app = record app { top = record (app.top) { has_version = true } }

-- kahnrun --stream [--input NAME=FILE].. [--binary] [--room N] [--explain] NET [INPUTS]
unfoldable pub kahnrun_stream : App
kahnrun_stream =
    let net = with_rule (with_version (new_app (codes "kahnrun"))) (required (new_rule (codes "NET"))) in
    let inputs = with_rule net (new_rule (codes "INPUTS")) in
    let stream = with_rule inputs (required (flag (codes "stream"))) in
    let input = with_rule stream (several (codes "input")) in
    let binary = with_rule input (flag (codes "binary")) in
    let room = with_rule binary (number (codes "room") LEAST_ROOM MOST_ROOM (codes "4096")) in
    with_rule room (flag (codes "explain"))
