-- Events that carry no turn, as events of a world with armed crashes.
use Rattle.protocol.specs.World.EventView.{plain_view}
use Rattle.replay.specs.Armed.{ArmedEvent, OfWorld, ArmCrash}
use Rattle.replay.specs.declared.kept.RunEvent.{RunEvent}
use Rattle.replay.specs.declared.kept.RunEvent.TheVariants as run

abbrev pub run_view : RunEvent → ArmedEvent
run_view (run.World event) = OfWorld (plain_view event)
run_view (run.ArmCrash crash) = ArmCrash crash
