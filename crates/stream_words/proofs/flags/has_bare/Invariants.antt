use Rattle.std.proofs.Common.{◌≡◌, drop, map}
use Rattle.stream_words.specs.FlagWords.{has_option, is_bare}
use Rattle.stream_words.proofs.flags.has_bare.Given as goal

abbrev pub invariant-loop-word : goal.invariant-loop-word
invariant-loop-word g l =
    has_option is_bare (map g.S.AsStr.text (drop l.word-index l.words)) ≡ has_option is_bare (map g.S.AsStr.text l.fn.words)
