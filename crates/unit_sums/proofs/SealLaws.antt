-- The checksum block made piece by piece: each turn puts a checksum into its place, so the first
-- places hold the first checksums; the guard goes after the last.
use mathlib.Core.Path.{◌≡◌, sym, ap, ◌∙◌}
use mathlib.Core.List.{List, ◌++◌}
use mathlib.Core.Logic.{⊎_elim}
use Prim.Native.Nat.{ℕ, ◌+◌, ◌-◌, ◌*◌, ◌≤◌, ◌<◌}
use native.Mathlib.Omega.{arith}
use lib.ListN.{length, take}
use lib.Seq.{length-take-le}
use borrow.Rule.Slice.PartMut.{put_mid, Post-is}
use Rattle.mathematics.proofs.ListLaws.{part_front}
use Rattle.mathematics.proofs.OrderLaws.{lt_or_le}
use Rattle.liberation.specs.Stripes.Stripes.{cell_at, with_cell}
use Rattle.liberation.proofs.Stripes.StripeCellLaws.{cell_fits, cell_with, cell_other, cells_equal}
use Rattle.unit_sums.specs.Sums.{little_endian, sum_of, sums_of, block_long}
use Rattle.unit_sums.proofs.BlockLaws.{sums_long, sums_cell}
use Rattle.unit_sums.specs.UnitLimits.{InUnit}

-- one checksum
pub sum_put : (x : ℕ) (sum block : List ℕ) → put_mid (x * 8) (x * 8 + 8 - x * 8) block sum ≡ with_cell 8 x sum block
sum_put x sum block = ap (λ (w : List ℕ). take (x * 8) block ++ (sum ++ w)) (Post-is (x * 8) (x * 8 + 8) block (omega arith))

-- a turn: the places before are not written
pub sums_more :
    (f : ℕ → List ℕ) (x : ℕ) (b : List ℕ) → length (f x) ≡ 8 → x * 8 + 8 ≤ length b → ((y : ℕ) → y < x → cell_at 8 b y ≡ f y)
    → (y : ℕ) → y < x + 1 → cell_at 8 (with_cell 8 x (f x) b) y ≡ f y
sums_more f x b l h g y k =
    ⊎_elim (λ w. cell_other 8 x (f x) b l h y (λ e. omega arith) ∙ g y w)
    (λ w. let e : y ≡ x = omega arith in ap (cell_at 8 (with_cell 8 x (f x) b)) e ∙ cell_with 8 x (f x) b l h ∙ ap f (sym e)) (lt_or_le y x)

module _ (p k s : ℕ) (name : List ℕ) (unit : ℕ) (t b : List ℕ) (long : length b ≡ block_long p k) where
  -- after the last turn
  pub sums_end : ((y : ℕ) → y < p * (k + 2) → cell_at 8 b y ≡ little_endian 8 (sum_of p name unit y (cell_at s t y))) → take (p * (k + 2) * 8) b ≡ sums_of p k s name unit t
  sums_end h =
      cells_equal (p * (k + 2)) 8 (take (p * (k + 2) * 8) b) (sums_of p k s name unit t) (length-take-le (p * (k + 2) * 8) b (omega arith)) (sums_long p s name unit t (p * (k + 2)) 0)
      (λ x l. part_front (x * 8) 8 (p * (k + 2) * 8) b (cell_fits (p * (k + 2)) 8 x l) ∙ h x l ∙ sym (sums_cell p s name unit t (p * (k + 2)) 0 x l ∙ at x))
    where
      at : (x : ℕ) → little_endian 8 (sum_of p name unit (0 + x) (cell_at s t (0 + x))) ≡ little_endian 8 (sum_of p name unit x (cell_at s t x))
      at x = let z : 0 + x ≡ x = omega arith in ap (λ (y : ℕ). little_endian 8 (sum_of p name unit y (cell_at s t y))) z

-- another block of the same length is within the limits too
pub block_kept : (p k s : ℕ) (name b c t : List ℕ) → InUnit p k s name b t → length c ≡ length b → InUnit p k s name c t
block_kept p k s name b c t q e = record { sized = q.sized; some = q.some; named = q.named; summed = e ∙ q.summed }
