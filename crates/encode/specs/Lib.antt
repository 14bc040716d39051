-- What encoding a stripe promises, and what a group of data disks adds to the parity cells.
pub mod Says
pub mod Extras
pub mod Added
pub mod Groups
