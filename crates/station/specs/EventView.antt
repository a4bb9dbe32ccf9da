-- Events as data.
use Rattle.std.specs.Prelude.{Bool, true, false}
use Rattle.protocol.specs.World.Common.{ByNode, EventView, Install}
use Rattle.protocol.specs.World.EventView.{plain_view}
use Rattle.protocol.specs.declared.event.Deed.TheVariants.{Idle}
use Rattle.station.specs.DoneView.{done_view}
use Rattle.station.specs.declared.event.Event.{Event}
use Rattle.station.specs.declared.event.Event.TheVariants as event

-- an `Event` without pointers
abbrev pub event_view : Event → EventView
event_view (event.Plain plain) = plain_view plain
event_view (event.Install done) = Install (done_view done)

-- an event by which a turn passes
abbrev pub is_idle : EventView → Bool
is_idle (ByNode node Idle) = true
is_idle event = false
