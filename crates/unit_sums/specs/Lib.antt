-- Checksums of the pieces of a unit, the limits of a unit, the refusals and promises of the calls,
-- and what a collision is.
pub mod Sums
pub mod UnitLimits
pub mod Refusals
pub mod Sealing
pub mod OneBlock
pub mod OnePiece
pub mod Collisions
