use Rattle.std.proofs.Common.{rules, ℕ}
use Rattle.protocol.specs.World.Common.{released_of}
use Rattle.cobaltmidge.specs.Common.{world_of}
use Rattle.kahn_program.specs.Runs.{first_items}
use Rattle.kahn_program.proofs.Released.{streams_next}
use Rattle.std.proofs.lemmas.Grind.{common_steps}
use Rattle.std.proofs.Common.{arith}
use Rattle.kahn_program.proofs.network_run.streams.Goals as goal

pub loop-number-preserved : goal.loop-number-preserved
loop-number-preserved g c =
    streams_next (λ (channel : ℕ). first_items c.args.cut (released_of channel (world_of c.args.world.now).stations))
    c.args.channels.now c.loop-number.number _ _ _ _ (search rules) c.loop-number.invariant
    c.in_ok-add_stream.ensures

pub returns : goal.returns
returns g c = grind (arith, common_steps)
