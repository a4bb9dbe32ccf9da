use Rattle.std.proofs.Common.{◌≡◌, ◌++◌, drop, map}
use Rattle.clap.specs.Walk.{texts}
use Rattle.stream_words.specs.FlagWords.{flag_words, flag_words_from}
use Rattle.stream_words.proofs.flags.add_flag_words.Given as goal

-- what was added, and then what is to come
abbrev pub invariant-loop-word : goal.invariant-loop-word
invariant-loop-word g l =
    texts l.given.items ++ flag_words_from l.ended (map g.S.AsStr.text (drop l.word-index l.words))
    ≡ texts l.fn.given.items ++ flag_words (map g.S.AsStr.text l.fn.words)
