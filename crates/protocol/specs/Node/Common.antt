-- The names of networks, records, packets and nodes that the crates above cite most, passed on from one place. Declares nothing.
pub use Rattle.ckpt_codec.specs.Lengths.{image_length}
pub use Rattle.ckpt_codec.specs.RecordText.{IsRecord, role_of, variables_of}
pub use Rattle.ckpt_codec.specs.declared.lengths.TheConstants.{MAX_RETAINED_ITEMS}
pub use Rattle.ckpt_store.specs.Spelling.{Spells, fits_in}
pub use Rattle.ckpt_store.specs.StoreView.{Changes, cell_in, known_in, record_in}
pub use Rattle.ckpt_store.specs.declared.fault.StoreFault.{StoreFault}
pub use Rattle.ckpt_store.specs.declared.store.Store.{Store}
pub use Rattle.datagram.specs.PacketText.{IsPacket}
pub use Rattle.datagram.specs.declared.packet.Body.{Body}
pub use Rattle.datagram.specs.declared.packet.Need.{Need}
pub use Rattle.datagram.specs.declared.packet.Packet.{Packet}
pub use Rattle.gate_cell.specs.declared.TheConstants.{SECTORS}
pub use Rattle.kahn_net.specs.Approximations.{approximation}
pub use Rattle.kahn_net.specs.Fits.{Fits}
pub use Rattle.kahn_net.specs.Nodes.{node_count}
pub use Rattle.kahn_net.specs.Processes.{Standing, StandsAt, got_on, process_trace, sent_on}
pub use Rattle.kahn_net.specs.Processes.Standing.{At}
pub use Rattle.kahn_net.specs.Statements.{Step}
pub use Rattle.kahn_net.specs.States.{standing_of}
pub use Rattle.kahn_net.specs.Streams.{IsPrefix, history_of}
pub use Rattle.kahn_net.specs.Syntax.{Code, Network, code_of, network_of}
pub use Rattle.kahn_net.specs.Valid.{IsValid}
pub use Rattle.kahn_net.specs.declared.limits.TheConstants.{MAX_CHANNELS, MAX_COUNT, MAX_NODES}
pub use Rattle.kahn_net.specs.declared.program.Channel.{Channel}
pub use Rattle.kahn_net.specs.declared.program.Port.{Port}
pub use Rattle.kahn_net.specs.declared.program.Port.TheVariants.{Outside, Process}
pub use Rattle.net_check.specs.declared.net.Net.{Net}
pub use Rattle.proc_step.specs.declared.job.Job.{Job}
pub use Rattle.protocol.specs.Node.Addresses.{are_nodes, names_right, names_run, producer_node}
pub use Rattle.protocol.specs.Node.Answering.{AskAnswer, CoveredBefore, Declines, Silent, TakesNow, TookBefore}
pub use Rattle.protocol.specs.Node.Answering.{answer_to_ask, holds, kept_then, with_current_as}
pub use Rattle.protocol.specs.Node.ArmedRestarts.{restart_after, round_later, with_armed}
pub use Rattle.protocol.specs.Node.Beginning.{beginning, begun, collecting, in_front, live_asks, live_in, may_start}
pub use Rattle.protocol.specs.Node.Beginning.{start_prospect}
pub use Rattle.protocol.specs.Node.Choosing.{grant_prospect, granted, may_grant, next_job, node_job, with_grant}
pub use Rattle.protocol.specs.Node.Collecting.{GivesUp, Ignores, Joins, answer_to_took, hearing_covered, is_live}
pub use Rattle.protocol.specs.Node.Collecting.{joined_live, refused_prospect, took_prospect, was_asked, with_answer}
pub use Rattle.protocol.specs.Node.Collecting.{with_needs}
pub use Rattle.protocol.specs.Node.Delivering.{hearing, packet_for, taking}
pub use Rattle.protocol.specs.Node.GoingBack.{GoesBack, Notes, PassesOver, handled, noting_undone, set_back_to}
pub use Rattle.protocol.specs.Node.GoingBack.{undone_prospect}
pub use Rattle.protocol.specs.Node.Granting.{first_log, inbox_log, is_process, items_from, next_in_log, next_items}
pub use Rattle.protocol.specs.Node.Granting.{room_from, source_of}
pub use Rattle.protocol.specs.Node.Hearing.{deliver_prospect, hear_prospect}
pub use Rattle.protocol.specs.Node.Installing.{ImageTakes, IsInstall, IsOut, TakesTurn, inbox_turned, installed}
pub use Rattle.protocol.specs.Node.Installing.{moved, put_on, saved_counted, saved_pushed, taken_from}
pub use Rattle.protocol.specs.Node.JobView.{JobView}
pub use Rattle.protocol.specs.Node.Layout.{comes_in, consumer_of, has_end, has_process, incoming_on, is_incoming}
pub use Rattle.protocol.specs.Node.Layout.{is_on, is_outgoing, numbers_where, port_away, port_on, producer_of}
pub use Rattle.protocol.specs.Node.Layout.{role_by}
pub use Rattle.protocol.specs.Node.LiveView.{LiveView, QuestionView}
pub use Rattle.protocol.specs.Node.Modes.{crashed, is_down, is_none, is_running, next_number, with_kept}
pub use Rattle.protocol.specs.Node.Needs.{is_needed, need_on, question_on}
pub use Rattle.protocol.specs.Node.NodeView.{Down, InDoubt, ModeView, NodeView, RunningNode, RunningView, Runs}
pub use Rattle.protocol.specs.Node.NodeView.{on_mode, on_running, running_in, running_node, running_of}
pub use Rattle.protocol.specs.Node.Opening.{opening_ends, opening_image, opening_record}
pub use Rattle.protocol.specs.Node.Plans.{Exhausted, IsCarriedOut, IsMade, IsPut, Plan, Planned, Prospect, Undue}
pub use Rattle.protocol.specs.Node.Plans.{becoming, if_due, next_record, packets_by, putting, room_for, telling}
pub use Rattle.protocol.specs.Node.Plans.{unless_spent}
pub use Rattle.protocol.specs.Node.Reached.{CountIsWithin, CountsAreWithin, HasReached, ImageStands, InboxIsSound}
pub use Rattle.protocol.specs.Node.Reached.{InboxStands, InboxesStand, IsJobOf, IsLaidOut, LinksAreLaidOut}
pub use Rattle.protocol.specs.Node.Reached.{LogsAreWithin, acts_of, first_acts, is_counting}
pub use Rattle.protocol.specs.Node.Recovering.{IsRestorable, recover_prospect, restored, restored_mode}
pub use Rattle.protocol.specs.Node.Sending.{IsWritable, first_due, inbox_packets}
pub use Rattle.protocol.specs.Node.Sharing.{is_logging, log_share}
pub use Rattle.protocol.specs.Node.Starting.{AreInOrder, IsBehind, IsLikeNow, own_at}
pub use Rattle.protocol.specs.Node.Telling.{kept_packet, turn_packets}
pub use Rattle.protocol.specs.Node.Trimming.{HasNext, TookNext, current_log, cut_at, trimmed_node}
pub use Rattle.protocol.specs.Node.Verdicts.{after_verdict, commit_prospect, commit_to, concluded, decide_prospect}
pub use Rattle.protocol.specs.Node.Verdicts.{ended_prospect, may_decide, mode_then, participants_of, settled_packets}
pub use Rattle.protocol.specs.Node.Verdicts.{settled_prospect, verdict_packets}
pub use Rattle.record.specs.Changes.{log_with, trimmed_image, trimmed_log}
pub use Rattle.record.specs.DecisionView.{DecisionView}
pub use Rattle.record.specs.Ends.{base_in, base_of, end_of, log_at, log_of, received_at, received_of, sent_in}
pub use Rattle.record.specs.Ends.{sent_of}
pub use Rattle.record.specs.ImageView.{ImageView}
pub use Rattle.record.specs.Moves.{highest_seen, with_confirmed, with_decision, with_epoch, with_permanent}
pub use Rattle.record.specs.Moves.{with_tentative, without_tentative}
pub use Rattle.record.specs.ProcessView.{SavedProcessView}
pub use Rattle.record.specs.RecordView.{RecordView}
pub use Rattle.record.specs.declared.image.End.{End}
pub use Rattle.record.specs.declared.image.End.TheVariants.{Both, Receives, Sends}
pub use Rattle.record.specs.declared.image.SavedEnd.{SavedEnd}
pub use Rattle.record.specs.declared.record.Tentative.{Tentative}
pub use Rattle.record.specs.declared.record.TheConstants.{MAX_DECISIONS}
pub use Rattle.retained.specs.LogState.{IsInLog, IsLogOf, LogState, items_since, log_end}
pub use Rattle.sector_disk.specs.Clock.{Only}
pub use Rattle.sector_disk.specs.MemDisk.{sectors_of}
pub use Rattle.sector_disk.specs.declared.TheConstants.{SECTOR_BYTES}
pub use Rattle.slot_cell.specs.SplitLayout.{slot_room_on}
pub use Rattle.slot_cell.specs.Whole.{Whole}
pub use Rattle.stream_eq.specs.Reached.{HistoryReaches}
pub use Rattle.window_link.specs.Windows.{popped_times, ready_items}
