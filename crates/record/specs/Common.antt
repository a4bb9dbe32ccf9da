-- The names of networks, logs and records that the crates above cite most, passed on from one place. Declares nothing.
pub use Rattle.kahn_net.specs.Processes.{Standing}
pub use Rattle.kahn_net.specs.Processes.Standing.{At, Done, NotBegun}
pub use Rattle.kahn_net.specs.States.{standing_in}
pub use Rattle.kahn_net.specs.declared.limits.TheConstants.{MAX_CHANNELS, MAX_COUNT, MAX_NODES, MAX_PROCESSES}
pub use Rattle.kahn_net.specs.declared.limits.TheConstants.{MAX_REPEATS, MAX_TIMES, MAX_VARIABLES}
pub use Rattle.record.specs.Ascending.{AreAscending}
pub use Rattle.record.specs.DecisionView.{DecisionView}
pub use Rattle.record.specs.Ends.{base_of, received_of, sent_of}
pub use Rattle.record.specs.ImageView.{ImageView}
pub use Rattle.record.specs.Moves.{confirmed, confirmed_one, decided_below, decided_by, decision_by, highest_seen}
pub use Rattle.record.specs.Moves.{last_image, with_confirmed, with_decision, with_epoch, with_permanent}
pub use Rattle.record.specs.Moves.{with_tentative, without_node, without_own, without_tentative}
pub use Rattle.record.specs.ProcessView.{SavedProcessView}
pub use Rattle.record.specs.RecordView.{RecordView}
pub use Rattle.retained.specs.LogState.{LogState}
pub use Rattle.retained.specs.declared.log.TheConstants.{MAX_LOG_ITEMS}
