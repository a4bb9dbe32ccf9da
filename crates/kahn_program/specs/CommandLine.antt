-- The command line as `clap` sees it, and what its matches ask for.
use Rattle.std.specs.Prelude.{◌≡◌, ◌≢◌, ℕ, ◌≤◌, true, false, Bool, List, [], ◌∷◌, Option, Some, None, codes, option_map, string_bytes}
use Rattle.std.specs.Str.Parse.{IsNumeral, digits_value, without_leading_plus}
use Rattle.clap.specs.Words.{App, HasKind, Row, Rule, Text, fault_of, matches_of, new_app, new_rule, with_rule, first_of, one_of}
use Rattle.clap.specs.declared.error.Error.{Error}
use Rattle.clap.specs.declared.error.kind.ErrorKind.TheVariants.{MissingRequiredArgument}
use Rattle.clap.specs.declared.builder.action.ArgAction.TheVariants.{SetTrue}
use Rattle.clap.specs.declared.builder.value_parser.ValueParser.TheVariants.{Unsigned}
use Rattle.kahn_program.specs.declared.asked.Options.{Options}
use Rattle.kahn_program.specs.declared.asked.TheConstants.{MAX_ROUNDS, MAX_ITEMS, MAX_APPROXIMATION}
use Rattle.protocol.specs.declared.limits.TheConstants.{MIN_ROOM}
use Rattle.protocol.specs.Node.Common.{MAX_RETAINED_ITEMS}

-- an argument that has to be there
abbrev pub required : Text → Rule
required name = record (new_rule name) { required = true }

-- `--NAME FILE`, or with a folder
abbrev pub file_option : Text → Rule
file_option name = record (new_rule name) { long = Some name; value_names = 1 }

-- `--NAME N`, of a number within these bounds
abbrev pub number : Text → ℕ → ℕ → Rule
number name least most =
    record (new_rule name) { long = Some name; value_names = 1; parser = Some (Unsigned least most) }

-- and with this text where the command line has none
abbrev pub by_default : Text → Rule → Rule
by_default text rule = record rule { defaults = text ∷ [] }

-- `--NAME`
abbrev pub flag : Text → Rule
flag name = record (new_rule name) { long = Some name; action = Some SetTrue }

-- `--version`, besides `--help`
abbrev pub with_version : App → App
with_version app = record app { top = record (app.top) { has_version = true } }

-- kahnrun [--script FILE] [--state FOLDER [--sync]] [--rounds N] [--items N] [--room N] [--plain] [--approx N] [--explain] [--history FILE] [--quiet]
-- NET INPUTS
unfoldable pub kahnrun : App
kahnrun =
    let net = with_rule (with_version (new_app (codes "kahnrun"))) (required (codes "NET")) in
    let inputs = with_rule net (required (codes "INPUTS")) in
    let script = with_rule inputs (file_option (codes "script")) in
    let state = with_rule script (file_option (codes "state")) in
    let sync = with_rule state (flag (codes "sync")) in
    let rounds = with_rule sync (number (codes "rounds") 1 MAX_ROUNDS) in
    let items = with_rule rounds (number (codes "items") 0 MAX_ITEMS) in
    let room =
    with_rule items (by_default (codes "4096") (number (codes "room") MIN_ROOM MAX_RETAINED_ITEMS)) in
    let plain = with_rule room (flag (codes "plain")) in
    let approx = with_rule plain (number (codes "approx") 0 MAX_APPROXIMATION) in
    let explain = with_rule approx (flag (codes "explain")) in
    let history = with_rule explain (file_option (codes "history")) in
    with_rule history (flag (codes "quiet"))

-- what an option's text gives: a number within these bounds, which the text writes in decimal, or none where the option
-- has no text
abbrev pub IsNumber : ℕ → ℕ → Option Text → Option ℕ → Type 0
IsNumber least most None None = Unit {0}
IsNumber least most None (Some number) = ⊥
IsNumber least most (Some text) None = ⊥
IsNumber least most (Some text) (Some number) =
    IsNumeral 10 (without_leading_plus text) × (number ≡ digits_value 10 (without_leading_plus text))
    × (least ≤ number) × (number ≤ most)

-- what a flag's text gives
pub record IsFlag (text : Option Text) (is_set : Bool) : Type 0 where
  pub set : text ≡ Some (codes "true") → is_set ≡ true
  pub not_set : text ≡ Some (codes "false") → is_set ≡ false
  pub absent : text ≡ None → is_set ≡ false

-- each of the values is that of the matches, defaults included, and within its bounds
pub record IsAsked (rows : List Row) (options : Options) : Type 0 where
  pub net : first_of (codes "NET") rows ≡ Some (string_bytes options.net)
  pub inputs : first_of (codes "INPUTS") rows ≡ Some (string_bytes options.inputs)
  pub script : first_of (codes "script") rows ≡ option_map string_bytes options.script
  pub state : first_of (codes "state") rows ≡ option_map string_bytes options.state
  pub sync : IsFlag (one_of (codes "sync") rows) options.sync
  pub rounds : IsNumber 1 MAX_ROUNDS (one_of (codes "rounds") rows) options.rounds
  pub items : IsNumber 0 MAX_ITEMS (one_of (codes "items") rows) options.items
  pub room : IsNumber MIN_ROOM MAX_RETAINED_ITEMS (one_of (codes "room") rows) (Some options.room)
  pub plain : IsFlag (one_of (codes "plain") rows) options.plain
  pub approx : IsNumber 0 MAX_APPROXIMATION (one_of (codes "approx") rows) options.approx
  pub explain : IsFlag (one_of (codes "explain") rows) options.explain
  pub history : first_of (codes "history") rows ≡ option_map string_bytes options.history
  pub quiet : IsFlag (one_of (codes "quiet") rows) options.quiet

-- `--sync` was given, and no folder
pub record IsSyncAlone (rows : List Row) : Type 0 where
  pub given : one_of (codes "sync") rows ≢ None
  pub not_off : one_of (codes "sync") rows ≢ Some (codes "false")
  pub state : first_of (codes "state") rows ≡ None

-- why words are refused: for what is wrong with one of them or lacks, or because `--sync` has no folder. Want of memory may be told in
-- either place.
pub data IsRefusal : List Text → Error → Type 0 where
  by_words : {words : List Text} {error : Error} → HasKind (fault_of kahnrun words) error → IsRefusal words error
  by_sync : {words : List Text} {error : Error} → IsSyncAlone (matches_of kahnrun words)
      → HasKind (MissingRequiredArgument ∷ []) error → IsRefusal words error
