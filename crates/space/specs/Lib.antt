-- What the space call promises, and its refusals.
pub mod Says
pub mod Refusals
