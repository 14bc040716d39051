-- Squares mod p, and the balanced plan.
pub mod Squares
pub mod Balanced
