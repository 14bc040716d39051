-- The XOR of parts and of a stretch, tested block by block.
pub mod LastLaws
