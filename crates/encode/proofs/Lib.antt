-- The promise of encoding from what was refused or done; groups of data disks added to the parity
-- cells, set by set and group by group.
pub mod EncodeLaws
pub mod ExtraLists
pub mod SetLoops
pub mod ParityCells
pub mod GroupLoops
pub mod GroupSums
pub mod GroupLists
