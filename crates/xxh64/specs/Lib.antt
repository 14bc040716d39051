-- The definition that the contracts of `xxh64` cite.
pub mod Checksum
