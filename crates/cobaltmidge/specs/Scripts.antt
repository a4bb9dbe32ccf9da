-- What a script's lines do, as events.
use Rattle.std.specs.Prelude.{ℕ}
use Rattle.fail_script.specs.declared.act.Act.{Act}
use Rattle.fail_script.specs.declared.act.Act.TheVariants.{Lose, Repeat, Delay, Crash, CrashAtDelivery, StopAtCall}
use Rattle.fail_script.specs.declared.act.Act.TheVariants.{FailCall, Start}
use Rattle.fail_script.specs.declared.act.ScriptLine.{ScriptLine}
use Rattle.replay.specs.declared.kept.ScriptedEvent.{ScriptedEvent}
use Rattle.replay.specs.declared.kept.RunEvent.{RunEvent}
use Rattle.replay.specs.declared.kept.RunEvent.TheVariants as run
use Rattle.protocol.specs.World.EventView.{armed_by}
use Rattle.protocol.specs.declared.event.Deed.{Deed}
use Rattle.protocol.specs.declared.event.Deed.TheVariants as deed
use Rattle.protocol.specs.declared.event.PlainEvent.TheVariants.{ByNode}
use Rattle.wire.specs.declared.rule.Change.{Change}
use Rattle.wire.specs.declared.rule.Change.TheVariants as change

-- a packet of this number is changed so
abbrev pub armed_packet : (from to count : ℕ) → Change → RunEvent
armed_packet from to count what =
    run.World (armed_by (record { from = from; to = to; nth = count; change = what }))

-- a node does this, or this is done to it
abbrev pub at_node : ℕ → Deed → RunEvent
at_node node what = run.World (ByNode node what)

-- a device call of this number fails, a crash then settles by this byte, and the node may be recovered so many rounds later
abbrev pub armed_call : (node count fill rounds : ℕ) → RunEvent
armed_call node count fill rounds = at_node node (deed.Arm (record { call = count; fill = fill }) rounds)

-- The event of what a script's line does. A mere failure of a device is one by which a crash would fill with 0, and
-- the node may be recovered in the next round.
abbrev pub event_of : Act → RunEvent
event_of (Lose from to count) = armed_packet from to count change.Lose
event_of (Repeat from to count) = armed_packet from to count change.Repeat
event_of (Delay from to count rounds) = armed_packet from to count (change.Delay rounds)
event_of (Crash node fill rounds) = at_node node (deed.Crash fill rounds)
event_of (CrashAtDelivery node count fill rounds) =
    run.ArmCrash (record { node = node; delivery = count; fill = fill; rounds = rounds })
event_of (StopAtCall node count fill rounds) = armed_call node count fill rounds
event_of (FailCall node count) = armed_call node count 0 1
event_of (Start node) = at_node node deed.Start

abbrev pub scripted_of : ScriptLine → ScriptedEvent
scripted_of line = record { round = line.round; event = event_of line.act }
