-- How the parser's recursion ends: what a function calls opens one more, or stands below it in the grammar.
use Rattle.std.proofs.Common.{ℕ, ◌+◌, ◌*◌}
use Rattle.net_text.specs.declared.parser.Level.{Level}
use Rattle.net_text.specs.declared.parser.Level.TheVariants.{Product, Sum, Comparison}

abbrev pub rank : Level → ℕ
rank Product = 0
rank Sum = 4
rank Comparison = 8

abbrev pub at_level : ℕ → Level → ℕ → ℕ
at_level left level step = 16 * left + (rank level + step)
