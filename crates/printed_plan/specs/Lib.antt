-- The printed plan.
pub mod Text
pub mod Says
pub mod Input
