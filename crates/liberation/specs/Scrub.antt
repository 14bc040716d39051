-- The disk that explains a dirty stripe, and what is claimed of it.
pub mod Survivors
pub mod Explained
