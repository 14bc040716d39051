-- Where the bytes of an image stand, the refusals of a layout, what the calls promise, and what is
-- shown of every accepted layout.
pub mod Layouts
pub mod Limits
pub mod Says
pub mod Stands
