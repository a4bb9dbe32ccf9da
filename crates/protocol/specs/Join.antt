-- How a world of stations is seen by the abstract machine of recovery lines (the crate `recovery_line`), and what is
-- true of it then.
pub mod Seen
pub mod Runs
pub mod Joined
