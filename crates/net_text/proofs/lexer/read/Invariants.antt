use Rattle.std.proofs.Common.{◌≡◌, ◌-◌, ◌≤◌, length}
use Rattle.net_text.specs.Tokens.{line_at, lexemes, AreTokensTo}
use Rattle.net_text.proofs.lexer.read.Given as goal

abbrev pub invariant-tokens : goal.invariant-tokens
invariant-tokens l = record {
  within : l.place ≤ length l.source;
  line_is : l.line ≡ line_at l.source l.place;
  read : AreTokensTo l.source 0 (lexemes l.tokens.items) l.place;
}

abbrev pub decreases-tokens : goal.decreases-tokens
decreases-tokens l = length l.source - l.place
