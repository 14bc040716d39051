-- What the rebuild with tested survivors promises.
pub mod Says
