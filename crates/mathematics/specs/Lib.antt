-- Definitions that know nothing of the code: choices, lists as sets, finite sums, XOR of bytes,
-- equations over bits.
pub mod Choice
pub mod Lists
pub mod Sums
pub mod Xor
pub mod BitRows
