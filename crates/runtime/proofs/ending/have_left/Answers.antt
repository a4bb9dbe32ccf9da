use Rattle.std.proofs.Common.{ℕ, ℤ, List, length}
use Rattle.std.specs.Prelude.{nat_le}
use Rattle.protocol.specs.World.Common.{released_of}
use Rattle.world.specs.WholeView.{world_of}
use Rattle.runtime.proofs.Left.{all_next}
use Rattle.std.proofs.Common.{arith}
use Rattle.std.proofs.lemmas.Grind.{common_steps}
use Rattle.runtime.proofs.ending.have_left.Goals as goal

pub loop-number-preserved : goal.loop-number-preserved
loop-number-preserved g c =
    all_next (λ (channel : ℕ). released_of channel (world_of c.args.world.now).stations)
    (λ (stream : List ℤ). nat_le c.args.items (length stream))
    c.args.channels.now c.loop-number.number _ c.has_left.result _ c.loop-number-test.true c.loop-number.invariant
    c.has_left.ensures c.if-not-has_left.false

pub returns-then-not-has_left : goal.returns-then-not-has_left
returns-then-not-has_left g c = grind (arith, common_steps)

pub returns : goal.returns
returns g c = grind (arith, common_steps)
