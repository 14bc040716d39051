-- All rows as one run: the offsets of row 0's cells are those of the columns, and the XOR of the
-- other columns, put in place of a disk's column, does the steps of all row sets for that disk,
-- since no step reads what another one writes.
use mathlib.Core.Path.{◌≡◌, sym, subst, ap, ◌∙◌}
use mathlib.Core.Bool.{true, ◌&&◌, not}
use mathlib.Core.Logic.{◌⊎◌, ⊎_elim}
use mathlib.Core.List.{List, append-nil}
use Prim.Native.Nat.{ℕ, zero, suc, ◌+◌, ◌*◌, ◌≤◌, ◌<◌}
use native.Mathlib.Nat.{mod-lt}
use native.Mathlib.Omega.{arith}
use lib.Dec.{eqb, leb}
use lib.ListN.{length, get_or}
use borrow.Author.Tests.{eqb-true, eqb-false, leb-true, not-true}
use Rattle.mathematics.specs.Lists.{is_in}
use Rattle.mathematics.proofs.Flags.{and_l, and_r}
use Rattle.mathematics.proofs.MemberLaws.{at_in}
use Rattle.mathematics.proofs.OrderLaws.{lt_or_le}
use Rattle.liberation.specs.Sets.{place, disk_at, row_at, row_set, surviving_in}
use Rattle.liberation.specs.Plans.{all_of}
use Rattle.liberation.proofs.SetLaws.{place_of, in_row, in_surviving}
use Rattle.liberation.specs.Stripes.Stripes.{cell_at, with_cell, xor_over, without, followed, column_of, with_column, stripe_long}
use Rattle.liberation.proofs.Stripes.StripeCellLaws.{cell_fits, cells_apart, cell_long, cells_equal, cell_with, cell_other, length_with, column_same, cell_off, column_put}
use Rattle.liberation.proofs.Stripes.OverLaws.{over_ext}
use Rattle.xor.specs.Parts.{with_part, xor_offsets}
use Rattle.xor.specs.Reach.{Reached}
use Rattle.xor.proofs.BlockLaws.{offsets_long}
use Rattle.xor.proofs.StoreLaws.{part_long}
use Rattle.xor_in_place.specs.Beside.{Apart}
use Rattle.stripe_cells.specs.Offsets.{scaled}
use Rattle.stripe_cells.proofs.OffsetLaws.{over_offsets, each_offset}
use Rattle.stripe_cells.proofs.RunLaws.{run_cell}
use Rattle.stripe_cells.proofs.SetLists.{survivors_one}
use Rattle.stripe_cells.proofs.OrdinaryLaws.{others_are, row_own}

-- each of row 0's cells begins the column of its disk
module _ (p k s f : ℕ) (some : 0 < p) where
  begins : (y : ℕ) → is_in y (surviving_in p f (row_set p k 0)) ≡ true → (disk_at p y ≤ k) × (disk_at p y ≡ f → ⊥) × (y * s ≡ disk_at p y * (p * s))
  begins y h =
      let i : (not (eqb (disk_at p y) f) && is_in y (row_set p k 0)) ≡ true = sym (in_surviving p f y (row_set p k 0)) ∙ h in
      let j : (eqb (row_at p y) 0 && leb (disk_at p y) k) ≡ true =
      sym (in_row p k 0 (row_at p y) (disk_at p y) (mod-lt y some) some) ∙ ap (λ (x : ℕ). is_in x (row_set p k 0)) (place_of p y) ∙ and_r (not (eqb (disk_at p y) f)) (is_in y (row_set p k 0)) i in
      let r : row_at p y ≡ 0 = eqb-true (row_at p y) 0 (and_l (eqb (row_at p y) 0) (leb (disk_at p y) k) j) in
      let e : y ≡ disk_at p y * p + 0 = sym (place_of p y) ∙ ap (λ (x : ℕ). place p x (disk_at p y)) r in (
        leb-true (disk_at p y) k (and_r (eqb (row_at p y) 0) (leb (disk_at p y) k) j),
        eqb-false (disk_at p y) f (not-true (eqb (disk_at p y) f) (and_l (not (eqb (disk_at p y) f)) (is_in y (row_set p k 0)) i)),
        ap (λ (x : ℕ). x * s) e ∙ omega arith,
      )

  -- so the columns lie in the stripe, and apart from that of disk f
  module _ {at : List ℕ} {long : ℕ} (e : at ≡ scaled s (surviving_in p f (row_set p k 0))) (few : length at ≤ 100) (fits : (k + 2) * (p * s) ≤ long) where
    each : (P : ℕ → Type 0) → ((c : ℕ) → c ≤ k → (c ≡ f → ⊥) → P (c * (p * s))) → (i : ℕ) → i < length at → P (get_or at i 0)
    each P g =
        let xs = surviving_in p f (row_set p k 0) in
        subst (λ (l : List ℕ). (i : ℕ) → i < length l → P (get_or l i 0)) (sym e) (each_offset P s xs (λ i h. let b = begins (get_or xs i 0) (at_in i xs h) in subst P (sym b.2) (g (disk_at p (get_or xs i 0)) b.0 b.1)))

    pub columns_reached : Reached (p * s) long at
    columns_reached = record { few = few; inside = each (λ a. a + p * s ≤ long) (λ c h n. let l : c < k + 2 = omega arith in omega (arith, cell_fits (k + 2) (p * s) c l)) }

    pub columns_apart : f ≤ k → Apart (f * (p * s)) (p * s) long at
    columns_apart h =
        let l : f < k + 2 = omega arith in
        record {
          sources = columns_reached;
          fits = omega (arith, cell_fits (k + 2) (p * s) f l);
          apart = each (λ a. (a + p * s ≤ f * (p * s)) ⊎ (f * (p * s) + p * s ≤ a)) (λ c b n. cells_apart (p * s) c f n);
        }

-- the steps of the row sets for disk d, a data disk or P
module _ (p k s d : ℕ) (t : List ℕ) (some : 0 < p) (disk : d ≤ k) (long : length t ≡ stripe_long p k s) (reach : Reached (p * s) (length t) (scaled s (surviving_in p d (row_set p k 0)))) where
  abbrev new : List ℕ
  new = xor_offsets (p * s) t (scaled s (surviving_in p d (row_set p k 0)))

  new_long : length new ≡ p * s
  new_long = offsets_long (p * s) t (scaled s (surviving_in p d (row_set p k 0))) reach.inside

  disk_fits : d * (p * s) + p * s ≤ length t
  disk_fits = let l : d < k + 2 = omega arith in omega (arith, cell_fits (k + 2) (p * s) d l)

  -- what a step writes, whatever stands in the column
  step_writes : (j : ℕ) (col : List ℕ) → j < p → length col ≡ p * s → xor_over s (cell_at s (with_column p s d col t)) (without (place p j d) (row_set p k j)) ≡ cell_at s new j
  unfolding row_set
  step_writes j col h l =
      ap (xor_over s (cell_at s (with_column p s d col t))) (others_are p k 0 j d j (row_own p k j d h disk) ∙ append-nil (surviving_in p d (surviving_in p d (row_set p k j))) ∙ survivors_one p d (row_set p k j))
      ∙ over_ext s (cell_at s (with_column p s d col t)) (cell_at s t) (surviving_in p d (row_set p k j)) (λ y i. cell_off p s d col t l disk_fits y some (off y i))
      ∙ sym (over_offsets s t (surviving_in p d (row_set p k j)))
      ∙ sym (run_cell s p d (suc k) t j h)
    where
      off : (y : ℕ) → is_in y (surviving_in p d (row_set p k j)) ≡ true → disk_at p y ≡ d → ⊥
      off y i = eqb-false (disk_at p y) d (not-true (eqb (disk_at p y) d) (and_l (not (eqb (disk_at p y) d)) (is_in y (row_set p k j)) (sym (in_surviving p d y (row_set p k j)) ∙ i)))

  -- the last n steps, the rows before j being done
  steps_from_lem : (n j : ℕ) (col : List ℕ) → j + n ≡ p → length col ≡ p * s → ((i : ℕ) → i < j → cell_at s col i ≡ cell_at s new i) → followed p k s d (all_of n 0 j) (with_column p s d col t) ≡ with_column p s d new t
  unfolding followed all_of
  steps_from_lem zero j col e l done = ap (λ (c : List ℕ). with_column p s d c t) (cells_equal p s col new l new_long (λ i h. done i (omega arith)))
  steps_from_lem (suc n) j col e l done =
      ap (followed p k s d (all_of n 0 (suc j)))
      (ap (λ (v : List ℕ). with_cell s (place p j d) v (with_column p s d col t)) (step_writes j col (omega arith) l) ∙ sym (column_put p s d col t l disk_fits j (cell_at s new j) (omega arith)))
      ∙ steps_from_lem n (suc j) (with_cell s j (cell_at s new j) col) (omega arith) (length_with s j (cell_at s new j) col size fits ∙ l) more
    where
      fits : j * s + s ≤ length col
      fits = let h : j < p = omega arith in omega (arith, cell_fits p s j h)

      size : length (cell_at s new j) ≡ s
      size = cell_long s j new (omega (arith, new_long, fits))

      more : (i : ℕ) → i < suc j → cell_at s (with_cell s j (cell_at s new j) col) i ≡ cell_at s new i
      more i h =
          ⊎_elim
          (λ b. cell_other s j (cell_at s new j) col size fits i (λ q. omega arith) ∙ done i b)
          (λ b. let q : i ≡ j = omega arith in ap (cell_at s (with_cell s j (cell_at s new j) col)) q ∙ cell_with s j (cell_at s new j) col size fits ∙ ap (cell_at s new) (sym q))
          (lt_or_le i j)

  pub rows_solved : (at u : List ℕ) → at ≡ scaled s (surviving_in p d (row_set p k 0)) → u ≡ with_part (p * s) (d * (p * s)) (xor_offsets (p * s) t at) t → u ≡ followed p k s d (all_of p 0 0) t
  rows_solved at u e h =
      h
      ∙ ap (λ (l : List ℕ). with_column p s d (xor_offsets (p * s) t l) t) e
      ∙ sym (steps_from_lem p 0 (column_of p s d t) (omega arith) (part_long t (d * (p * s)) (p * s) disk_fits).size (λ i b. absurd (omega arith)))
      ∙ ap (followed p k s d (all_of p 0 0)) (column_same p s d t)
