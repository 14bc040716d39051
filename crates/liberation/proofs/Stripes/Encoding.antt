-- Encoding makes a stripe clean, touches no data cell, and gives the only clean stripe with those
-- data: its steps make every set's XOR zero, first the row sets by P, then the diagonal sets by Q,
-- and row sets have no cell on Q. In a clean stripe P is told by the data, and Q by the data and P.
use mathlib.Core.Path.{◌≡◌, sym, ap, ◌∙◌}
use mathlib.Core.Bool.{true}
use mathlib.Core.List.{List, []}
use Prim.Native.Nat.{ℕ, suc, ◌+◌, ◌*◌, ◌≤◌, ◌<◌}
use native.Mathlib.Omega.{arith}
use Rattle.liberation.specs.Sets.{place, disk_at, row_set}
use Rattle.liberation.specs.Plans.{plan_of}
use Rattle.liberation.specs.Claims.{uses}
use Rattle.liberation.proofs.PlaceLaws.{some_row, disk_below, below_disk, row_disk}
use Rattle.liberation.proofs.ReadLaws.{holds}
use Rattle.liberation.proofs.AcceptedLaws.{Passes, accepted_passes}
use Rattle.liberation.proofs.RowLaws.{uses_all, holds_all}
use Rattle.liberation.proofs.ParityPlans.{plan_row_parity, plan_diagonal_parity, row_parity_accepted, diagonal_parity_accepted}
use Rattle.liberation.specs.Stripes.Stripes.{cell_at, is_stripe, clean, followed, encoded}
use Rattle.liberation.proofs.Stripes.OverLaws.{over_ext}
use Rattle.liberation.proofs.Stripes.Solving.{SetZero, clean_of, cell_alike, stripes_alike}
use Rattle.liberation.proofs.Stripes.Following.{followed_stripe, followed_off, followed_zero}
use Rattle.liberation.proofs.Stripes.Rebuilding.{steps_back}

module _ (p k : ℕ) where
  row_steps_lem : Passes p k k [] (plan_of p k k)
  row_steps_lem = accepted_passes p k k (plan_of p k k) (row_parity_accepted p k)

  diagonal_steps_lem : Passes p k (suc k) [] (plan_of p k (suc k))
  diagonal_steps_lem = accepted_passes p k (suc k) (plan_of p k (suc k)) (diagonal_parity_accepted p k)

  -- they name every set of their kind
  names_rows : (i : ℕ) → i < p → uses 0 i (plan_of p k k) ≡ true
  names_rows i l = ap (uses 0 i) (plan_row_parity p k) ∙ uses_all p 0 0 i (omega arith) (omega arith)

  names_diagonals : (i : ℕ) → i < p → uses 1 i (plan_of p k (suc k)) ≡ true
  names_diagonals i l = ap (uses 1 i) (plan_diagonal_parity p k) ∙ uses_all p 1 0 i (omega arith) (omega arith)

  -- the survivors that the plan for P reads are data cells
  rows_read : (x : ℕ) → (disk_at p x ≡ k → ⊥) → holds p k x (plan_of p k k) ≡ true → x < p * k
  rows_read x n h =
      let w = holds_all p k x p 0 0 (ap (holds p k x) (sym (plan_row_parity p k)) ∙ h) in
      let l : disk_at p x ≤ k = row_disk p k w.0 x (omega arith) w.2 in
      below_disk p k x (omega arith) (omega arith)

module _ (p k s : ℕ) (t : List ℕ) (stripe : is_stripe p k s t ≡ true) where
  -- the stripe once P is written
  with_rows : List ℕ
  with_rows = followed p k s k (plan_of p k k) t

  rows_stripe : is_stripe p k s with_rows ≡ true
  unfolding with_rows
  rows_stripe = followed_stripe p k s k (row_steps_lem p k) t stripe

  pub encoded_stripe : is_stripe p k s (encoded p k s t) ≡ true
  unfolding with_rows encoded
  encoded_stripe = followed_stripe p k s (suc k) (diagonal_steps_lem p k) with_rows rows_stripe

  -- writing Q touches no other disk
  off_q : (x : ℕ) → (disk_at p x ≡ suc k → ⊥) → cell_at s (encoded p k s t) x ≡ cell_at s with_rows x
  unfolding with_rows encoded
  off_q x n = followed_off p k s (suc k) (diagonal_steps_lem p k) with_rows rows_stripe x n

  pub encoded_data : (x : ℕ) → x < p * k → cell_at s (encoded p k s t) x ≡ cell_at s t x
  unfolding with_rows
  encoded_data x h =
      let l : disk_at p x < k = disk_below p k x h in
      off_q x (λ e. omega arith) ∙ followed_off p k s k (row_steps_lem p k) t stripe x (λ e. omega arith)

  pub encoded_clean : clean p k s (encoded p k s t) ≡ true
  unfolding with_rows encoded
  encoded_clean = clean_of p k s (encoded p k s t) rows (λ i l. followed_zero p k s (suc k) (diagonal_steps_lem p k) with_rows rows_stripe 1 i (names_diagonals p k i l))
    where
      rows : (i : ℕ) → i < p → SetZero p k s (encoded p k s t) 0 i
      rows i l =
          over_ext s (cell_at s (encoded p k s t)) (cell_at s with_rows) (row_set p k i) (λ y h. off_q y (λ e. omega (arith, row_disk p k i y l h)))
          ∙ followed_zero p k s k (row_steps_lem p k) t stripe 0 i (names_rows p k i l)

  -- no other clean stripe has those data
  pub encoded_only : (u : List ℕ) → is_stripe p k s u ≡ true → clean p k s u ≡ true → ((x : ℕ) → x < p * k → cell_at s u x ≡ cell_at s t x) → u ≡ encoded p k s t
  unfolding with_rows encoded
  encoded_only u hu cu same =
      sym (stripes_alike p k s (suc k) (encoded p k s t) u encoded_stripe hu (λ x l n. off_q x n ∙ off x l n) on_q)
    where
      on_p : (r : ℕ) → r < p → cell_at s with_rows (place p r k) ≡ cell_at s u (place p r k)
      on_p = steps_back p k s k (plan_of p k k) (row_parity_accepted p k) t u stripe hu (λ x l n h. sym (same x (rows_read p k x n h))) cu

      -- data cells and P
      off : (x : ℕ) → x < p * (k + 2) → (disk_at p x ≡ suc k → ⊥) → cell_at s with_rows x ≡ cell_at s u x
      off x l n =
          cell_alike p k s k with_rows u x l
          (λ m. followed_off p k s k (row_steps_lem p k) t stripe x m ∙ sym (same x (below_disk p k x (some_row p (k + 2) x l) (omega (arith, disk_below p (k + 2) x l, m, n)))))
          on_p

      on_q : (r : ℕ) → r < p → cell_at s (encoded p k s t) (place p r (suc k)) ≡ cell_at s u (place p r (suc k))
      on_q = steps_back p k s (suc k) (plan_of p k (suc k)) (diagonal_parity_accepted p k) with_rows u rows_stripe hu (λ x l n h. off x l n) cu
