-- What a bill of a hosted rebuild is, and its cents.
pub mod Bills
pub mod Cents
