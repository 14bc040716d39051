-- Laws of numbers as bytes, of the refusals, of blocks and pieces, and the theorems.
pub mod NumberLaws
pub mod UnitRefusals
pub mod PlaceLaws
pub mod PieceLaws
pub mod BlockLaws
pub mod SealLaws
pub mod RightPieces
pub mod FitLaws
pub mod KnownSeeds
