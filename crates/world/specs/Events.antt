-- What the crates above say of events, passed on from one place: they need not name `station` then. Declares nothing.
pub use Rattle.station.specs.DoneView.{done_view, job_view}
pub use Rattle.station.specs.EventView.{event_view, is_idle}
pub use Rattle.station.specs.ReplyView.{reply_view, shared_view}
pub use Rattle.station.specs.declared.event.Event.{Event}
