-- The names that a program's own contracts and proofs over this crate cite most, passed on from one place. Declares nothing.
pub use Rattle.sector_disk.specs.Clock.{Only}
pub use Rattle.sector_disk.specs.Past.{states_of}
pub use Rattle.slot_cell.specs.SplitLayout.{whole_on}
pub use Rattle.ckpt_store.specs.StoreView.{record_spelled}
pub use Rattle.protocol.specs.Node.Common.{Fits, Network, RecordView, SECTOR_BYTES, SECTORS, Spells, Whole, network_of, node_count}
pub use Rattle.protocol.specs.World.Common.{are_quiet, output_channels, released_of}
pub use Rattle.starting_again.specs.WasLeft.{WasLeft}
pub use Rattle.station.specs.OutputView.{outputs_view}
pub use Rattle.station.specs.declared.output.Output.{Output}
pub use Rattle.world.specs.Left.{AreLeft, HoldsRecord, record_on, records_on}
pub use Rattle.world.specs.OpeningWorld.{IsMade, IsUnused}
pub use Rattle.world.specs.WholeView.{capacities_in, inputs_in, net_in, world_of}
pub use Rattle.history_text.specs.Histories.{history_text}
pub use Rattle.runtime.specs.Logs.{happenings}
pub use Rattle.cobaltmidge.specs.FirstWorld.{HasNoFailures}
