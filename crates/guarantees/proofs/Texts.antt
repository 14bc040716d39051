-- Theorems about the calls on plans as text, from their promises alone.
pub mod Texts
