use Rattle.std.proofs.Common.{◌≡◌, drop, map}
use Rattle.stream_words.specs.FlagWords.{has_option}
use Rattle.status_program.specs.StatusWords.{is_status}
use Rattle.status_program.proofs.flags.has_status.Given as goal

abbrev pub invariant-loop-word : goal.invariant-loop-word
invariant-loop-word g l =
    has_option is_status (map g.S.AsStr.text (drop l.word-index l.words)) ≡ has_option is_status (map g.S.AsStr.text l.fn.words)
