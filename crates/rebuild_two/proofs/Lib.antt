-- The refusals, the promise from what was refused or done, which two disks they are, and which way
-- the walk goes.
pub mod TwoRefusals
pub mod DiskLaws
pub mod DataLaws
pub mod RoleLaws
pub mod UpLaws
