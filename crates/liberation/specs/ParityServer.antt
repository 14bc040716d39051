-- A parity server.
pub mod Servers
pub mod ServerClaims
