-- That what came on inputs, a node's state, a network, a job and a line of a history may cross threads. (A network has recursive types in it, and
-- so no proof of its own on which others could stand: each type above it would be searched from the ground, and a search ends after 1,000 lemmas.)
use denote.Param.Send.{IsSend, IsSync, sendable}
use denote.RattleType.{RattleType}
use Rattle.std.proofs.Crossing.{crosses}
use Rattle.kahn_net.proofs.history.History.TheSendSync.{the_send as history_s, the_sync as history_y}
use Rattle.kahn_net.proofs.program.Channel.TheSendSync.{the_send as channel_s, the_sync as channel_y}
use Rattle.kahn_net.proofs.program.Operator.TheSendSync.{the_field_send as operator_t, the_field_sync as operator_z}
use Rattle.kahn_net.proofs.state.ProcState.TheSendSync.{the_field_send as pstate_t, the_field_sync as pstate_z}
use Rattle.net_text.proofs.name.Name.TheSendSync.{the_send as name_s, the_sync as name_y}
use Rattle.protocol.proofs.links.Inbox.TheSendSync.{the_send as inbox_s}
use Rattle.protocol.proofs.links.Outbox.TheSendSync.{the_send as outbox_s}
use Rattle.protocol.proofs.armed_restart.ArmedRestart.TheSendSync.{the_send as armed_s}
use Rattle.record.proofs.image.Image.TheSendSync.{the_send as image_s}
use Rattle.kahn_net.proofs.program.Expr.TheLaws.TheKnot.{send-Expr, sync-Expr}
use Rattle.kahn_net.proofs.program.Statement.TheLaws.TheKnot.{send-Statement, sync-Statement}
use Rattle.decide_core.proofs.initiator.Initiator.TheSendSync.{the_send as initiator_s}
use Rattle.arrived.specs.contracts.inputs.Arrived.{the_row as arrived_row}
use Rattle.proc_step.specs.contracts.job.Job.{the_row as job_row}
use Rattle.node_memory.specs.contracts.running.Running.{the_field as running_field}
use Rattle.node.specs.contracts.mode.Mode.{the_field as mode_field}
use Rattle.node.specs.contracts.state.NodeState.{the_field as state_field}
use Rattle.net_check.specs.contracts.net.Net.{the_row as net_row}
use Rattle.replay.proofs.kept.RunEvent.TheSendSync.{the_send as run_s}
use Rattle.run_log.specs.contracts.history.Entry.{the_field as entry_field}
use Rattle.run_log.specs.contracts.history.Line.{the_row as line_row}
use Rattle.run_log.specs.contracts.history.LongLine.{the_row as long_row}
use Rattle.atomic_table.proofs.owned.Table.TheSendSync.{the_send as table_s, the_field_send as table_t}
use Rattle.atomic_table.proofs.shared.Seat.TheSendSync.{the_send as table_seat_s}
use Rattle.journal.specs.contracts.journal.Journal.{the_field as journal_field}
use Rattle.marks.specs.declared.seat.MarksName.{Ghosts as MarksWords}
use Rattle.run_log.specs.declared.seat_count.Run.{Ghosts as RunWords}
use Rattle.run_log.specs.declared.seat_count.RunLedgers.{Ghosts as LedgerWords}
use Rattle.runtime.specs.contracts.desks.Desk.{the_row as desk_row}
use Rattle.runtime.specs.declared.hub_run.HubRun.{Ghosts as HubWords}
use Rattle.runtime.proofs.threads.NodeSeats.TheSendSync.{the_field_send as seats_t, the_send as seats_s}

-- (It has snapshots in it, and so no proof of its own either.)
pub arrived_send : IsSend arrived_row
arrived_send = search (sendable, crosses) depth 60 fits 100000

pub net_send : IsSend net_row
net_send = search (sendable, crosses, channel_s, operator_t, name_s, send-Expr, send-Statement) depth 60 fits 100000

pub net_sync : IsSync net_row
net_sync = search (sendable, crosses, channel_y, operator_z, name_y, sync-Expr, sync-Statement) depth 60 fits 100000

pub job_send : IsSend job_row
job_send = search (sendable, crosses, net_send, net_sync, history_s, pstate_t) depth 60 fits 100000

pub job_sync : IsSync job_row
job_sync = search (sendable, crosses, net_send, net_sync, history_y, pstate_z) depth 60 fits 100000

running_field_send : IsSend (running_field.row)
running_field_send =
    search (sendable, crosses, job_send, job_sync, image_s, inbox_s, outbox_s, initiator_s) depth 60 fits 100000

mode_field_send : IsSend (mode_field.row)
mode_field_send = search (sendable, crosses, running_field_send) depth 60 fits 100000

pub state_field_send : IsSend (state_field.row)
state_field_send = search (sendable, crosses, armed_s, mode_field_send) depth 60 fits 100000

entry_field_send : IsSend (entry_field.row)
entry_field_send = search (sendable, crosses, job_send, job_sync, run_s) depth 60 fits 100000

pub long_send : IsSend long_row
long_send = search (sendable, crosses, entry_field_send) depth 60 fits 100000

pub line_send : IsSend line_row
line_send = search (sendable, crosses, job_send, job_sync, long_send) depth 60 fits 100000

pub journal_field_send : IsSend (journal_field.row)
journal_field_send = search (sendable, crosses, table_s, table_t, table_seat_s, line_send) depth 60 fits 100000

-- a desk, with the seats of a node or a job that waits there
pub desk_send : (ThisRun ItsMarks : RattleType) (hub : HubWords ThisRun.Denot) (run : RunWords ThisRun.Denot)
    (marks : MarksWords ItsMarks.Denot) (ledgers : LedgerWords ThisRun.Denot) → IsSend (desk_row ThisRun ItsMarks hub run marks ledgers)
desk_send ThisRun ItsMarks hub run marks ledgers =
    search (sendable, crosses, job_send, job_sync, seats_s, seats_t) depth 60 fits 1000000
