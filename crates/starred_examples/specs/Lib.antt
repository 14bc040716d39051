-- The table of document 01's starred examples.
pub mod Table
