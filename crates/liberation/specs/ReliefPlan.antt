-- Plans whose rows with a diagonal are an arithmetic progression mod p, and the one of them that
-- relieves a named disk; the balanced plan in part-filled arrays.
pub mod Relief
pub mod Quiet
