-- What the rebuild of two lost disks promises.
pub mod Says
