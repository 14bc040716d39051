-- Theorems about a parity server: the list of the servers, the refusals, mending one stripe and all
-- of them, writing and rebuilding a server, what is not read.
pub mod UpTo
pub mod ServerRefusalLaws
pub mod Mending
pub mod ServerLaws
pub mod Writing
pub mod MendingAll
pub mod ServerBack
pub mod Unread
