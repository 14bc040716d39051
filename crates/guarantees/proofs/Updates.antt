-- Theorems about the update of a cell, from its promise alone.
pub mod Updates
pub mod UpdateOrders
