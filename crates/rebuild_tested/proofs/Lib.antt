-- The promise of the rebuild with tested survivors.
pub mod TestedRefusals
pub mod TestedRows
