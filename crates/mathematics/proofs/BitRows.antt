-- Laws of sums of bits, and of the reduction of equations.
pub mod ParityLaws
pub mod BitLaws
pub mod Reducing
