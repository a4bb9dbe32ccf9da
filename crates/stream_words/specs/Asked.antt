-- What the words of the streaming mode ask for, and why they are refused.
use Rattle.std.specs.Prelude.{◌≡◌, ℕ, ◌≤◌, ◌<◌, Bool, true, false, List, [], ◌∷◌, ◌++◌, Option, Some, None, ◌==◌, codes, length}
use Rattle.std.specs.Prelude.{option_map, string_bytes, unwrap_or}
use Rattle.std.specs.List.{AllZip, Any, list_any}
use Rattle.std.specs.Str.Parse.{IsNumeral, digits_value, without_leading_plus}
use Rattle.clap.specs.Words.{HasKind, Row, Text, all_of, fault_of, first_of, matches_of, one_of}
use Rattle.clap.specs.declared.error.Error.{Error}
use Rattle.clap.specs.declared.error.kind.ErrorKind.TheVariants.{MissingRequiredArgument, ValueValidation}
use Rattle.stream_words.specs.declared.command.TheConstants.{LEAST_ROOM, MOST_ROOM}
use Rattle.stream_words.specs.declared.sources.InputSource.{InputSource}
use Rattle.stream_words.specs.declared.sources.SourceFault.{SourceFault}
use Rattle.stream_words.specs.declared.sources.SourceFault.TheVariants.{NoMemory, WithoutForm}
use Rattle.stream_words.specs.declared.options.StreamOptions.{StreamOptions}
use Rattle.stream_words.specs.CommandLine.{kahnrun_stream}

-- the value is this name, `=` (61), and this path; the `=` is the first one
pub record IsSplit (value name path : Text) : Type 0 where
  pub whole : value ≡ name ++ 61 ∷ path
  pub first : list_any (λ byte. byte == 61) name ≡ false
  pub named : 0 < length name
  pub placed : 0 < length path

-- the value of an `--input` says that the input's items come from there
abbrev pub IsSource : Text → InputSource → Type 0
IsSource value source = IsSplit value (string_bytes source.input) (string_bytes source.path)

-- the value has no form NAME=FILE
abbrev pub IsWithoutForm : Text → Type 0
IsWithoutForm value = (name path : Text) → IsSplit value name path → ⊥

-- the values of an option that may come several times, in order
abbrev pub values_of : Text → List Row → List Text
values_of name rows = unwrap_or (all_of name rows) []

-- a number within these bounds, which the option's text writes in decimal
abbrev pub IsNumber : ℕ → ℕ → Option Text → ℕ → Type 0
IsNumber least most None number = ⊥
IsNumber least most (Some text) number =
    IsNumeral 10 (without_leading_plus text) × (number ≡ digits_value 10 (without_leading_plus text))
    × (least ≤ number) × (number ≤ most)

-- what a flag's text gives
pub record IsFlag (text : Option Text) (is_set : Bool) : Type 0 where
  pub set : text ≡ Some (codes "true") → is_set ≡ true
  pub not_set : text ≡ Some (codes "false") → is_set ≡ false
  pub absent : text ≡ None → is_set ≡ false

-- Each of the values is that of the matches, defaults included, and within its bounds. The sources are the values of `--input`, in order.
pub record IsStreamAsked (rows : List Row) (options : StreamOptions) : Type 0 where
  pub net : first_of (codes "NET") rows ≡ Some (string_bytes options.net)
  pub inputs : first_of (codes "INPUTS") rows ≡ option_map string_bytes options.inputs
  pub sources : AllZip IsSource (values_of (codes "input") rows) options.sources.items
  pub binary : IsFlag (one_of (codes "binary") rows) options.binary
  pub room : IsNumber LEAST_ROOM MOST_ROOM (one_of (codes "room") rows) options.room
  pub explain : IsFlag (one_of (codes "explain") rows) options.explain

-- the matches have a `--binary` that isn't off
pub record HasBinary (rows : List Row) : Type 0 where
  pub given : ¬ (one_of (codes "binary") rows ≡ None)
  pub not_off : ¬ (one_of (codes "binary") rows ≡ Some (codes "false"))

-- Why words are refused: for what `clap` finds wrong with them; or, where it finds nothing, because the value of an `--input` has no form
-- NAME=FILE, or because they ask for items as bytes, and not for these alone. Want of memory may be told in any place.
pub data IsStreamRefusal (bare : Bool) : List Text → Error → Type 0 where
  by_words : {words : List Text} {error : Error} → HasKind (fault_of kahnrun_stream words) error → IsStreamRefusal bare words error
  by_source : {words : List Text} {error : Error} → fault_of kahnrun_stream words ≡ []
      → Any IsWithoutForm (values_of (codes "input") (matches_of kahnrun_stream words))
      → HasKind (ValueValidation ∷ []) error → IsStreamRefusal bare words error
  by_binary : {words : List Text} {error : Error} → fault_of kahnrun_stream words ≡ [] → bare ≡ false
      → HasBinary (matches_of kahnrun_stream words) → HasKind (MissingRequiredArgument ∷ []) error → IsStreamRefusal bare words error

-- why a value gives no source: it has no such form, or there is no memory
abbrev pub IsValueFault : Text → SourceFault → Type 0
IsValueFault value NoMemory = Unit {0}
IsValueFault value (WithoutForm here) = IsWithoutForm value

-- why these values give no sources: one of them has no such form, or there is no memory
abbrev pub IsSourceFault : List Text → SourceFault → Type 0
IsSourceFault values NoMemory = Unit {0}
IsSourceFault values (WithoutForm here) = Any IsWithoutForm values
