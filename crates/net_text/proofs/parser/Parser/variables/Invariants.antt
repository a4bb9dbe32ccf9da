use Rattle.std.proofs.Common.{◌≡◌, length}
use Rattle.net_text.specs.Reading.{variables_at}
use Rattle.net_text.proofs.Many.{after_items}
use Rattle.net_text.proofs.parser.Parser.variables.Given as goal

abbrev pub decreases-loop-self : goal.decreases-loop-self
decreases-loop-self l = length l.self

abbrev pub invariant-loop-self : goal.invariant-loop-self
invariant-loop-self l = after_items l.variables.items (variables_at l.self) ≡ variables_at l.initial.self
