use denote.Param.Send.{sendable}
use Rattle.std.proofs.Crossing.{crosses}
use Rattle.ckpt_store.proofs.store.Store.TheSendSync.{the_field_send as store_t}
use Rattle.wire.proofs.wire.Wire.TheSendSync.{the_send as wire_s}
use Rattle.station.proofs.output.Output.TheSendSync.{the_field_send as output_t}
use Rattle.protocol.proofs.round_turns.RoundTurns.TheSendSync.{the_field_send as turns_t}
use Rattle.marks.proofs.marks.Marks.TheSendSync.{the_field_sync as marks_z}
use Rattle.replay.proofs.kept.ScriptedEvent.TheSendSync.{the_send as script_s}
use Rattle.run_log.proofs.armed_crashes.ArmedCrashes.TheSendSync.{the_send as crashes_s}
use Rattle.run_log.proofs.seat_count.RunCount.TheSendSync.{the_field_send as totals_t}
use Rattle.runtime.proofs.cause.Cause.TheSendSync.{the_send as cause_s, the_field_send as cause_t}
use Rattle.runtime.proofs.workers.Workers.TheSendSync.{the_field_send as workers_t}
use Rattle.runtime.proofs.seen.Seen.TheSendSync.{the_send as seen_s}
use Rattle.runtime.proofs.Sends.{arrived_send, desk_send, job_send, job_sync, journal_field_send, line_send, long_send, net_send, net_sync, state_field_send}
use Rattle.runtime.proofs.threads.start.Goals as goal

-- what a worker takes with it may cross threads
pub spawn-requires-send-F : goal.spawn-requires-send-F
spawn-requires-send-F g c κs within =
    let s = c.type_bounds.send-C in
    let o = c.type_bounds.send-O in
    let a = c.type_bounds.send-ThisRun in
    let b = c.type_bounds.sync-ThisRun in
    let d = c.type_bounds.send-ItsMarks in
    let e = c.type_bounds.sync-ItsMarks in
    let h = c.type_bounds.sync-W in
    let r = c.type_bounds.sync-R in
    search (sendable, crosses, workers_t, seen_s, cause_s, cause_t, state_field_send, job_send, job_sync, net_send, net_sync, store_t, wire_s, output_t, turns_t, arrived_send, marks_z, crashes_s, line_send, long_send, journal_field_send, script_s, totals_t, desk_send) depth 200 fits 12000000
