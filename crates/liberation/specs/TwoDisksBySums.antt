-- The rebuild of two lost data disks from sums of surviving cells.
pub mod Sums
