-- The names of worlds, their events and the recovery line that the crates above cite most, passed on from one place. Declares nothing.
pub use Rattle.protocol.specs.Join.Joined.{IsJoined, LiveIsSound, MayBeAskedFor}
pub use Rattle.protocol.specs.Join.Runs.{HasRun, Leads, RunsOn, SaysWhatWasSent, WasSent}
pub use Rattle.protocol.specs.Join.Seen.{all_seen, live_seen, mode_seen, need_of, node_seen, question_seen}
pub use Rattle.protocol.specs.Join.Seen.{questions_seen, world_seen}
pub use Rattle.protocol.specs.World.Choice.{choice}
pub use Rattle.protocol.specs.World.DoneView.{DoneView}
pub use Rattle.protocol.specs.World.EventView.{ByNetwork, ByNode, EventView, Install, Release, event_node, node_in}
pub use Rattle.protocol.specs.World.Headline.{AreApproximated}
pub use Rattle.protocol.specs.World.InLine.{AreInLine}
pub use Rattle.protocol.specs.World.Invariant.{AreSound, IsNumbered, IsSoundSetting, IsSoundStation, RunsSoundly}
pub use Rattle.protocol.specs.World.Invariant.{StationInvariant, WorldInvariant, output_of, outputs_of}
pub use Rattle.protocol.specs.World.OpeningWorld.{opening_world}
pub use Rattle.protocol.specs.World.OutputView.{OutputView}
pub use Rattle.protocol.specs.World.Pairs.{HasMoved, LeaveEitherSince}
pub use Rattle.protocol.specs.World.Quiet.{are_quiet}
pub use Rattle.protocol.specs.World.RecordSound.{RecordIsSound}
pub use Rattle.protocol.specs.World.RecoveryLine.{AreEither, net_seen, next_kept, outlets_seen, records_of}
pub use Rattle.protocol.specs.World.RecoveryLine.{records_seen}
pub use Rattle.protocol.specs.World.Released.{released_of, taken_or}
pub use Rattle.protocol.specs.World.Replies.{IsGrantedAt, act_reply, answer_by, back_reply, delivery_reply}
pub use Rattle.protocol.specs.World.Replies.{grant_reply, has_happened, install_reply}
pub use Rattle.protocol.specs.World.ReplyView.{ReplyView}
pub use Rattle.protocol.specs.World.Sound.{HasCome, IsSound, goes_outside, is_output, output_channels, outputs_on}
pub use Rattle.protocol.specs.World.StationView.{OutletView, StationView}
pub use Rattle.protocol.specs.World.Steps.{IsAct, IsActOf, IsInstalled, IsPlanned, IsRelease, IsStationStep, IsStep}
pub use Rattle.protocol.specs.World.Steps.{Setting, StationPlan, WorldView, can_act, deliver_plan, due_bytes}
pub use Rattle.protocol.specs.World.Steps.{first_waiting, flight_at, moved_to, next_release, plan_of, round_after}
pub use Rattle.protocol.specs.World.Steps.{sending_of, setting_of, traffic_acted, traffic_after, traffic_left}
pub use Rattle.protocol.specs.World.Steps.{turns_by, with_rooms}
pub use Rattle.protocol.specs.World.Still.{stands_still}
pub use Rattle.protocol.specs.World.Traffic.{BytesAreSound, TrafficIsSound}
pub use Rattle.protocol.specs.World.Turns.{turns_of}
pub use Rattle.recovery_line.specs.Images.{Image, IsCross, Net}
pub use Rattle.recovery_line.specs.Nodes.{Answer, Awaited, By_covered, By_took, Mode, NodeStep, live_of}
pub use Rattle.recovery_line.specs.Observers.{decides, has_node, image_seen, names, record_seen}
pub use Rattle.recovery_line.specs.Packets.{Packet}
pub use Rattle.recovery_line.specs.Records.{Record}
pub use Rattle.recovery_line.specs.Starts.{Reachable}
pub use Rattle.recovery_line.specs.Worlds.{Step, World}
pub use Rattle.wire.specs.Queue.{is_due}
pub use Rattle.wire.specs.Traffic.{Traffic, all_sent, flights_to, opening_traffic, traffic_of, traffic_without}
pub use Rattle.wire.specs.declared.queue.Flight.{Flight}
pub use Rattle.wire.specs.declared.queue.TheConstants.{NODES}
pub use Rattle.wire.specs.declared.sending.Sending.{Sending}
