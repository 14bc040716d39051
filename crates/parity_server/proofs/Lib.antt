-- The promises from what was refused or done: the refusals, the losses mended server by server, and
-- the XOR of the other servers.
pub mod ServerCallRefusals
pub mod Turning
pub mod OtherServers
pub mod LossRefusals
pub mod ServerRefusals
