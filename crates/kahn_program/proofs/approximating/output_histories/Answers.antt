use Rattle.std.proofs.Common.{rules, ℕ}
use Rattle.protocol.specs.Node.Common.{history_of}
use Rattle.kahn_program.proofs.Released.{streams_next}
use Rattle.std.proofs.lemmas.Grind.{common_steps}
use Rattle.std.proofs.Common.{arith}
use Rattle.kahn_program.proofs.approximating.output_histories.Goals as goal

pub loop-number-preserved : goal.loop-number-preserved
loop-number-preserved c =
    streams_next (λ (channel : ℕ). history_of c.args.histories.now channel) c.args.channels.now c.loop-number.number
    _ _ _ _ (search rules) c.loop-number.invariant c.in_ok-add_history.ensures

pub returns : goal.returns
returns c = grind (arith, common_steps)
