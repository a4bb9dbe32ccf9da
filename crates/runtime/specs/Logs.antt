-- What the crates above say of the log of a run, passed on from one place: they need not name `run_log` then. Declares nothing.
pub use Rattle.run_log.specs.Happened.{HasRun}
pub use Rattle.run_log.specs.Lines.{happenings}
pub use Rattle.run_log.specs.declared.answer.HubFault.{HubFault}
pub use Rattle.run_log.specs.declared.answer.HubFault.TheVariants.{NoMemory, PastNumber}
