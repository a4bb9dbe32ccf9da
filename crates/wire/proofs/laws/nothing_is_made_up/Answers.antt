use Rattle.std.proofs.Common.{ℕ, Bool, List}
use Rattle.std.specs.Prelude.{IsTrue}
use Rattle.wire.proofs.Passing.{sent_passes, repeated_passes, delayed_passes, gone_passes, arrived_passes}
use Rattle.wire.proofs.laws.nothing_is_made_up.Goals as goal

abbrev Passes : (List ℕ → Bool) → List ℕ → Type 0
Passes test packet = IsTrue (test packet)

pub returns-clause-sent : goal.returns-clause-sent
returns-clause-sent c = λ test. sent_passes (Passes test)

pub returns-clause-repeated : goal.returns-clause-repeated
returns-clause-repeated c = λ test. repeated_passes (Passes test)

pub returns-clause-delayed : goal.returns-clause-delayed
returns-clause-delayed c = λ test. delayed_passes (Passes test)

pub returns-clause-gone : goal.returns-clause-gone
returns-clause-gone c = λ test. gone_passes (Passes test)

pub returns-clause-arrives : goal.returns-clause-arrives
returns-clause-arrives c = λ test. arrived_passes (Passes test)
