use Rattle.std.proofs.Common.{◌≡◌, drop, map}
use Rattle.stream_words.specs.FlagWords.{has_option, is_stream}
use Rattle.stream_words.proofs.flags.has_stream.Given as goal

abbrev pub invariant-loop-word : goal.invariant-loop-word
invariant-loop-word g l =
    has_option is_stream (map g.S.AsStr.text (drop l.word-index l.words)) ≡ has_option is_stream (map g.S.AsStr.text l.fn.words)
