-- The plan that reads the fewest cells of all that the library makes.
pub mod Greatest
pub mod Fewest
