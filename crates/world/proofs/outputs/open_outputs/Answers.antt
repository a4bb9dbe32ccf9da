use Rattle.std.proofs.Common.{rules}
use Rattle.world.proofs.Openings.{listed_next}
use Rattle.std.proofs.Common.{arith}
use Rattle.std.proofs.lemmas.Grind.{common_steps}
use Rattle.world.proofs.outputs.open_outputs.Goals as goal

pub loop-number-preserved : goal.loop-number-preserved
loop-number-preserved g c = (
  listed_next c.args.channels.now c.loop-number.number _ _ _ _ (search rules) c.loop-number.invariant.0
      c.in_ok-add_output.ensures.listed,
  c.in_ok-add_output.ensures.empty,
  c.in_ok-add_output.ensures.made,
  c.in_ok-add_output.ensures.none_failed c.loop-number.invariant.3,
)

pub returns-clause-listed : goal.returns-clause-listed
returns-clause-listed g c = grind (arith, common_steps)
