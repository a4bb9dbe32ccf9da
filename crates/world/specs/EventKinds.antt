-- The kinds of an event, passed on as `Events` does it. Declares nothing.
pub use Rattle.station.specs.declared.event.Event.TheVariants.{Install, Plain}
