use Rattle.std.proofs.Common.{◌≡◌, true, take}
use Rattle.std.specs.List.{list_all}
use Rattle.net_text.specs.Spellings.{continues_word}
use Rattle.net_text.proofs.lexer.word_len.Given as goal

abbrev pub invariant-loop-i : goal.invariant-loop-i
invariant-loop-i l = list_all continues_word (take l.i l.bytes) ≡ true
