-- Two different pieces of one place that have one checksum.
use Rattle.std.specs.Prelude.{◌≡◌, List, ℕ, ◌+◌, ◌*◌, ◌<◌}
use Rattle.liberation.specs.Stripes.Stripes.{cell_at}
use Rattle.xxh64.specs.Checksum.{xxh64}
use Rattle.unit_sums.specs.Sums.{seed_at}

-- the units t and u have them at one place
pub record Collision (p k s : ℕ) (name : List ℕ) (unit : ℕ) (t u : List ℕ) : Type 0 where
  pub place : ℕ
  pub below : place < p * (k + 2)
  pub apart : cell_at s t place ≡ cell_at s u place → ⊥
  pub sums : xxh64 (cell_at s t place) (seed_at p name unit place) ≡ xxh64 (cell_at s u place) (seed_at p name unit place)
