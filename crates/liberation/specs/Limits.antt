-- The limits within which the functions below the public calls work (document 01, "Reasons to turn
-- a call away").
use Rattle.std.specs.Prelude.{◌≡◌, true, ℕ, ◌≤◌, ◌<◌}
use Rattle.liberation.specs.Sets.{is_width}

-- what refusals 1 and 13 leave: p is one of the ten widths, and the array has k data disks, from 2
-- to p
pub record InArray (p k : ℕ) : Type 0 where
  pub width : is_width p ≡ true
  pub some : 0 < p
  pub widest : p ≤ 31
  pub two : 2 ≤ k
  pub disks : k ≤ p

-- the bytes of the largest cell that they take: a piece of an image. Refusal 2 of the calls comes
-- from a smaller number on (`size_refusal`)
abbrev pub largest_cell : ℕ
largest_cell = 32768
