-- What demand 1 asks of a call, the limits of every call in plain words, and demand 1 of all calls.
pub mod Limits
pub mod Calls
pub mod UnitCalls
pub mod ImageCalls
pub mod Demand1
