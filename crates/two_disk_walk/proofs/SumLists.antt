-- Lists of a set's surviving cells, none of which is a lost cell.
use mathlib.Core.Path.{◌≡◌, ap, ◌∙◌}
use mathlib.Core.Bool.{true, false}
use mathlib.Core.Logic.{◌⊎◌, ⊎_elim}
use mathlib.Core.List.{List}
use Prim.Native.Nat.{ℕ, ◌+◌, ◌*◌, ◌≤◌, ◌<◌}
use native.Mathlib.Omega.{arith}
use lib.ListN.{length}
use Rattle.mathematics.specs.Lists.{is_in, all_below}
use Rattle.mathematics.proofs.KeptLaws.{kept_below, kept_short}
use Rattle.mathematics.proofs.Flags.{clash, flag}
use Rattle.liberation.specs.Sets.{place, set_of}
use Rattle.liberation.proofs.SetLaws.{place_below, set_below}
use Rattle.liberation.proofs.SetSizes.{size_most}
use Rattle.liberation.specs.Stripes.Steps.{cell_step}
use Rattle.liberation.specs.TwoDisks.PairSteps.{is_lost}
use Rattle.liberation.proofs.TwoDisks.Upward.{lost_first, lost_second}
use Rattle.liberation.specs.TwoDisksBySums.Sums.{summed}
use Rattle.liberation.proofs.TwoDisksBySums.Adding.{survivor_off}
use Rattle.xor.specs.Parts.{with_part, xor_offsets}
use Rattle.xor_in_place.specs.Beside.{Apart}
use Rattle.stripe_cells.specs.Offsets.{scaled}
use Rattle.stripe_cells.proofs.OffsetLaws.{over_offsets}
use Rattle.stripe_cells.proofs.SolvedLaws.{list_apart}
use Rattle.stripe_cells.proofs.OrdinaryLists.{survivors_keep}
use Rattle.stripe_cells.specs.OrdinaryCells.{survivors}
use Rattle.two_disk_walk.proofs.LostDisks.{Lost}

-- the survivors of a set, listed, lie apart from a lost cell, and their XOR is the set's sum
module _ (p k s x y : ℕ) (t list : List ℕ) (q : Lost p k s x y t) (kind i r f : ℕ) (numbered : i < p) (row : r < p) (on : (f ≡ x) ⊎ (f ≡ y)) (to : ℕ) (et : to ≡ place p r f * s) (e : list ≡ scaled s (survivors p x y (set_of p k kind i))) where
  lost_cell : is_lost p x y (place p r f) ≡ true
  lost_cell = ⊎_elim (λ e. ap (λ (d : ℕ). is_lost p x y (place p r d)) e ∙ lost_first p x y r row) (λ e. ap (λ (d : ℕ). is_lost p x y (place p r d)) e ∙ lost_second p x y r row) on

  cell_below : place p r f < p * (k + 2)
  cell_below = place_below p (k + 2) r f row (⊎_elim (λ e. omega (arith, q.one)) (λ e. omega (arith, q.other)) on)

  none : is_in (place p r f) (survivors p x y (set_of p k kind i)) ≡ false
  none = ⊎_elim (λ m. clash (is_lost p x y (place p r f)) lost_cell (survivor_off p x y (place p r f) (set_of p k kind i) m).0) (λ m. m) (flag (is_in (place p r f) (survivors p x y (set_of p k kind i))))

  few : length (survivors p x y (set_of p k kind i)) ≤ 100
  few = omega (arith, kept_short (survivors_keep p x y) (set_of p k kind i), size_most p k kind i, q.sized.array.disks, q.sized.array.widest)

  below : all_below (p * (k + 2)) (survivors p x y (set_of p k kind i)) ≡ true
  below = kept_below (survivors_keep p x y) (p * (k + 2)) (set_of p k kind i) (set_below p k kind i numbered)

  pub sum_apart : Apart to s (length t) list
  sum_apart = rw et (list_apart s (p * (k + 2)) list (survivors p x y (set_of p k kind i)) t e few below (q.sized.long ∙ omega arith) (place p r f) cell_below none)

  pub sum_done : (v : List ℕ) → v ≡ with_part s to (xor_offsets s t list) t → v ≡ summed p k s x y (cell_step (place p r f) kind i) t
  sum_done v ev = ev ∙ ap (λ (d : ℕ). with_part s d (xor_offsets s t list) t) et ∙ ap (λ (l : List ℕ). with_part s (place p r f * s) l t) (ap (xor_offsets s t) e ∙ over_offsets s t (survivors p x y (set_of p k kind i)))
