-- A unit that is opened: which pieces are missing, the refusals, and the promise of the call.
pub mod Opening
pub mod Refusals
pub mod Says
