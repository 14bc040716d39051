-- The laws that the proofs cite, and known sums.
pub mod WordLaws
pub mod ByteLaws
pub mod LoopLaws
pub mod KnownSums
