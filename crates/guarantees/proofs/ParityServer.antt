-- Theorems about the parity server, from the promises of the calls alone.
pub mod Servers
pub mod Losses
