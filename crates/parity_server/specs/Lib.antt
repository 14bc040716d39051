-- What writing and rebuilding a server promise, and what mending one server asks.
pub mod Says
pub mod Turns
pub mod Checked
