-- The names of records and their bytes that the crates above cite most, passed on from one place. Declares nothing.
pub use Rattle.ckpt_codec.specs.Fields.{AreAllowed, Field, IsAllowed}
pub use Rattle.ckpt_codec.specs.HeaderText.{IsHeaderText, IsImageAdded, IsImageSpelled, IsImageText, header_of}
pub use Rattle.ckpt_codec.specs.HeaderView.{HeaderView}
pub use Rattle.ckpt_codec.specs.Lengths.{image_length}
unfoldable pub use Rattle.ckpt_codec.specs.Lengths.{spelled_length}
pub use Rattle.ckpt_codec.specs.RecordText.{IsRecord, at_most, count, image_fields, tentative_fields}
pub use Rattle.kahn_net.specs.Approximations.{approximation}
pub use Rattle.kahn_net.specs.Nodes.{node_count}
pub use Rattle.kahn_net.specs.Processes.{Standing}
pub use Rattle.kahn_net.specs.Streams.{IsPrefix, history_of}
pub use Rattle.kahn_net.specs.Syntax.{Code, Network}
pub use Rattle.kahn_net.specs.declared.limits.TheConstants.{MAX_CHANNELS, MAX_COUNT, MAX_PROCESSES, MAX_VARIABLES}
pub use Rattle.kahn_net.specs.declared.program.Channel.{Channel}
pub use Rattle.kahn_net.specs.declared.program.Port.{Port}
pub use Rattle.kahn_net.specs.declared.program.Port.TheVariants.{Outside, Process}
pub use Rattle.record.specs.Changes.{LogTakes, counted, pushed}
pub use Rattle.record.specs.DecisionView.{DecisionView}
pub use Rattle.record.specs.Ends.{received_of, sent_of}
pub use Rattle.record.specs.ImageView.{ImageView}
pub use Rattle.record.specs.Moves.{confirmed, decided_below, decided_by, decision_by, highest_seen, last_image}
pub use Rattle.record.specs.Moves.{with_confirmed, with_decision, with_epoch, with_permanent, with_tentative}
pub use Rattle.record.specs.Moves.{without_own, without_tentative}
pub use Rattle.record.specs.ProcessView.{SavedProcessView}
pub use Rattle.record.specs.RecordView.{RecordView}
pub use Rattle.record.specs.declared.image.End.TheVariants.{Receives, Sends}
pub use Rattle.record.specs.declared.image.SavedEnd.{SavedEnd}
pub use Rattle.record.specs.declared.record.Tentative.{Tentative}
pub use Rattle.record.specs.declared.record.TheConstants.{MAX_DECISIONS}
pub use Rattle.retained.specs.LogState.{LogState}
