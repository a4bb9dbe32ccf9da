-- What is kept of one decision where another is added.
use Rattle.std.specs.Prelude.{ℕ, nat_lt, if◌then◌else◌, List, [], ◌∷◌}
use Rattle.ckpt_codec.specs.Common.{DecisionView}

-- the decision, if its number is lower
abbrev pub below_one : ℕ → DecisionView → List DecisionView
below_one number decision = if nat_lt decision.number number then decision ∷ [] else []
