-- The promises of the check and the scrub, the survivors of an equation as a list, and the test of
-- a disk by its equations.
pub mod ScrubRefusals
pub mod FitLaws
pub mod EquationLists
pub mod CheckLaws
pub mod EquationTests
