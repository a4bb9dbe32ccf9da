pub mod InitiatorView
pub mod NoteLaws
