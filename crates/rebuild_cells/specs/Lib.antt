-- What the rebuild of missing cells promises, its theory, and what the loops over words ask.
pub mod Says
pub mod Theory
pub mod Listed
pub mod Words
pub mod Renewed
pub mod Checked
pub mod RowLists
pub mod Alone
