-- Which words of a command line ask for the streaming mode, and how `clap` is given them.
use Rattle.std.specs.Prelude.{Bool, false, List, [], ◌∷◌, ◌||◌, ◌==◌, if◌then◌else◌, codes, drop}
use Rattle.std.specs.List.{before_first}
use Rattle.std.specs.Str.{bytes_eq}
use Rattle.clap.specs.Words.{Text}

-- `--`, behind which no word is an option
abbrev pub is_end : Text → Bool
is_end word = bytes_eq word (codes "--")

-- `--stream`, alone or with a value behind `=` (61)
abbrev pub is_stream : Text → Bool
is_stream word = bytes_eq (before_first (λ byte. byte == 61) word) (codes "--stream")

-- `--stream=bare`
abbrev pub is_bare : Text → Bool
is_bare word = bytes_eq word (codes "--stream=bare")

-- one of these words passes the test, and no `--` stands before it
abbrev pub has_option : (Text → Bool) → List Text → Bool
has_option test [] = false
has_option test (word ∷ rest) = if is_end word then false else (test word || has_option test rest)

-- the words, of which the first is the program's name, ask for items as they come
abbrev pub asks_for_stream : List Text → Bool
asks_for_stream words = has_option is_stream (drop 1 words)

-- and for the items of the one output alone
abbrev pub asks_for_bare : List Text → Bool
asks_for_bare words = has_option is_bare (drop 1 words)

-- `--stream` in place of `--stream=bare`
abbrev pub flag_word : Text → Text
flag_word word = if is_bare word then codes "--stream" else word

-- the same in each word before a `--`
abbrev pub flag_words : List Text → List Text
flag_words [] = []
flag_words (word ∷ rest) = if is_end word then word ∷ rest else flag_word word ∷ flag_words rest

-- and none behind it
abbrev pub flag_words_from : Bool → List Text → List Text
flag_words_from ended words = if ended then words else flag_words words

-- The words as `clap` is given them, to which `--stream` is a flag. The first is the program's name.
abbrev pub given_words : List Text → List Text
given_words [] = []
given_words (name ∷ rest) = name ∷ flag_words rest
