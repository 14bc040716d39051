-- Cells lost one by one, on any disks.
pub mod Mending
pub mod Nearing
