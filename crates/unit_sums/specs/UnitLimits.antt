-- What refusals 1, 13, 2, 25 and 5 leave of a unit with pieces of s bytes, its set's name and its block.
use Rattle.std.specs.Prelude.{◌≡◌, List, ℕ, ◌<◌, length}
use Rattle.liberation.specs.Stripes.StripeLimits.{Sized}
use Rattle.unit_sums.specs.Sums.{block_long}

pub record InUnit (p k s : ℕ) (name block t : List ℕ) : Type 0 where
  pub sized : Sized p k s t
  pub some : 0 < s
  pub named : length name ≡ 16
  pub summed : length block ≡ block_long p k
