-- How two lost data disks are walked.
pub mod WalkDisks
