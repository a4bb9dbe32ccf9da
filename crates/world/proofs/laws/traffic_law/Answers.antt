use Rattle.protocol_laws.specs.World.DeedLaws.{only_nodes_that_are_up_send}
use Rattle.protocol_laws.specs.World.FlightLaws.{each_was_sent, nothing_at_first, nothing_is_made_up}
use Rattle.world.proofs.laws.traffic_law.Goals as goal

pub returns-clause-first : goal.returns-clause-first
returns-clause-first c = nothing_at_first

pub returns-clause-made : goal.returns-clause-made
returns-clause-made c = nothing_is_made_up

pub returns-clause-step : goal.returns-clause-step
returns-clause-step c = each_was_sent

pub returns-clause-up : goal.returns-clause-up
returns-clause-up c = only_nodes_that_are_up_send
