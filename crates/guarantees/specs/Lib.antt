-- What the theorems about the calls speak of: the limits of every call in plain words, the cells
-- that a read list has on a disk, and the way of a film through the calls on units.
pub mod FurtherPlans
pub mod Limits
pub mod Units
