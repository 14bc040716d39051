-- Equations over bits, as words.
pub mod Parity
pub mod Rows
