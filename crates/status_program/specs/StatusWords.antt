-- Which words of a command line ask what a folder holds, and what they ask for.
use Rattle.std.specs.Prelude.{◌≡◌, Bool, List, ◌==◌, Some, codes, drop, string_bytes}
use Rattle.std.specs.List.{before_first}
use Rattle.std.specs.Str.{bytes_eq}
use Rattle.clap.specs.Words.{App, first_of, new_app, new_rule, one_of, Row, Rule, Text, with_rule}
use Rattle.stream_words.specs.Asked.{IsFlag}
use Rattle.stream_words.specs.CommandLine.{flag, required, with_version}
use Rattle.stream_words.specs.FlagWords.{has_option}
use Rattle.status_program.specs.declared.options.StatusOptions.{StatusOptions}

-- `--status`, alone or with a value behind `=` (61)
abbrev pub is_status : Text → Bool
is_status word = bytes_eq (before_first (λ byte. byte == 61) word) (codes "--status")

-- the words, of which the first is the program's name, ask what a folder holds
abbrev pub asks_for_status : List Text → Bool
asks_for_status words = has_option is_status (drop 1 words)

-- `--NAME VALUE`
abbrev pub valued : Text → Rule
valued name = record (new_rule name) { long = Some name; value_names = 1 }

-- kahnrun --status FOLDER [--explain]
unfoldable pub kahnrun_status : App
kahnrun_status =
    let status = with_rule (with_version (new_app (codes "kahnrun"))) (required (valued (codes "status"))) in
    with_rule status (flag (codes "explain"))

-- each of the values is that of the matches
pub record IsStatusAsked (rows : List Row) (options : StatusOptions) : Type 0 where
  pub folder : first_of (codes "status") rows ≡ Some (string_bytes options.folder)
  pub explain : IsFlag (one_of (codes "explain") rows) options.explain
