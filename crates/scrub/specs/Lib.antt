-- What the check and the scrub of a stripe promise.
pub mod ScrubSays
pub mod CheckSays
pub mod Verdicts
