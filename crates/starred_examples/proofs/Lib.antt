-- The starred examples agree with the definitions: one proof.
pub mod Starred
