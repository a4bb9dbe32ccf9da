use Rattle.std.proofs.Common.{◌≡◌, drop}
use Rattle.net_text.specs.Tokens.{after_gap, after_gap_in}
use Rattle.net_text.proofs.lexer.gap_len.Given as goal

abbrev pub invariant-loop-i : goal.invariant-loop-i
invariant-loop-i l = after_gap_in l.in_comment (drop l.i l.bytes) ≡ after_gap l.bytes
