use Rattle.std.proofs.Common.{◌≡◌, ◌<◌, ℕ, Some}
use Rattle.std.specs.Prelude.{slice_get, false}
use Rattle.kahn_net.specs.NextActs.{next_of}
use Rattle.kahn_net.specs.Processes.{Standing}
use Rattle.kahn_net.specs.Syntax.{Code}
use Rattle.rerun.specs.Resting.{is_put}
use Rattle.rerun.specs.Whole.{net_in, table_in}
use Rattle.rerun.proofs.rerun.Rerun.is_to_put.Given as goal

abbrev pub invariant-loop-process : goal.invariant-loop-process
invariant-loop-process l = (p : ℕ) (code : Code) (standing : Standing) → p < l.process
    → slice_get (net_in l.self).codes p ≡ Some code → slice_get (table_in l.self).standings p ≡ Some standing
    → is_put (next_of code standing) ≡ false
