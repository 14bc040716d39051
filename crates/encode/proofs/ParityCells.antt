-- One set's parity cell with the group added; the other cells are as they were.
use mathlib.Core.Path.{◌≡◌, sym, ap, ◌∙◌}
use mathlib.Core.Bool.{Bool, true, false, false≢true}
use mathlib.Core.Logic.{⊎_elim}
use mathlib.Core.List.{List, [], ◌∷◌}
use Prim.Native.Nat.{ℕ, suc, ◌+◌, ◌*◌, ◌≤◌, ◌<◌}
use native.Mathlib.Omega.{arith}
use lib.Dec.{eqb}
use lib.ListN.{length}
use borrow.Author.Tests.{eqb-true}
use Rattle.mathematics.specs.Choice.{pick}
use Rattle.mathematics.specs.Lists.{is_in}
use Rattle.mathematics.proofs.Flags.{or_cases}
use Rattle.mathematics.proofs.MemberLaws.{in_below}
use Rattle.mathematics.proofs.ListLaws.{is_in_append}
use Rattle.liberation.specs.Sets.{place, disk_at}
use Rattle.liberation.proofs.SetLaws.{disk_place}
use Rattle.liberation.specs.Stripes.Stripes.{cell_at}
use Rattle.liberation.proofs.Stripes.StripeCellLaws.{cell_fits, cell_with, cell_other}
use Rattle.liberation.proofs.Stripes.OverLaws.{over_long, over_ext}
use Rattle.liberation.proofs.Stripes.Solving.{cells_long}
use Rattle.stripe_cells.specs.OrdinaryCells.{parity_disk}
use Rattle.encode.specs.Groups.{group_cells, parity_cell, group_sources, group_sum, added_set}
use Rattle.encode.proofs.GroupLists.{group_below, parity_below, sources_below}

-- every data cell of u is that of t
abbrev pub DataSame : ℕ → ℕ → ℕ → List ℕ → List ℕ → Type 0
DataSame p k s t u = (x : ℕ) → x < p * k → cell_at s u x ≡ cell_at s t x

-- a parity cell is no data cell, and no parity cell of another set
parity_past : (p k kind i : ℕ) → p * k ≤ parity_cell p k kind i
parity_past p k kind i = go (eqb kind 0)
  where
    go : (b : Bool) → p * k ≤ place p i (pick b k (suc k))
    go true = omega arith
    go false = omega arith

pub parity_apart : (p k kind other i j : ℕ) → i < p → j < p → (parity_disk k kind ≡ parity_disk k other → ⊥) → parity_cell p k kind i ≡ parity_cell p k other j → ⊥
parity_apart p k kind other i j h l n e = n (sym (disk_place p i (parity_disk k kind) h) ∙ ap (disk_at p) e ∙ disk_place p j (parity_disk k other) l)

module _ (p k s lo hi kind i : ℕ) (numbered : i < p) (ordered : lo ≤ hi) (last : hi ≤ k) where
  -- the sum depends on the group's data cells and the parity cell alone
  pub sum_same : (t u : List ℕ) → DataSame p k s t u → cell_at s u (parity_cell p k kind i) ≡ cell_at s t (parity_cell p k kind i) → group_sum p k s lo hi kind i u ≡ group_sum p k s lo hi kind i t
  unfolding group_sum
  sum_same t u same own =
      over_ext s (cell_at s u) (cell_at s t) (group_sources p k lo hi kind i)
      (λ x h. ⊎_elim (λ m. let e = is_own (eqb lo 0) x m in ap (cell_at s u) e ∙ own ∙ ap (cell_at s t) (sym e)) (λ m. same x (in_below (p * k) x (group_cells p lo hi kind i) (group_below p kind i k lo hi numbered ordered last) m))
      (or_cases (is_in x (pick (eqb lo 0) [] (parity_cell p k kind i ∷ []))) (is_in x (group_cells p lo hi kind i)) (sym (is_in_append x (pick (eqb lo 0) [] (parity_cell p k kind i ∷ [])) (group_cells p lo hi kind i)) ∙ h)))
    where
      is_own : (b : Bool) (x : ℕ) → is_in x (pick b [] (parity_cell p k kind i ∷ [])) ≡ true → x ≡ parity_cell p k kind i
      is_own true x h = absurd (false≢true h)
      is_own false x h = ⊎_elim (λ e. eqb-true x (parity_cell p k kind i) e) (λ e. absurd (false≢true e)) (or_cases (eqb x (parity_cell p k kind i)) false h)

  -- the parity cell written
  module _ (u v : List ℕ) (long : length u ≡ p * (k + 2) * s) (e : v ≡ added_set p k s lo hi kind i u) where
    sum_long : length (group_sum p k s lo hi kind i u) ≡ s
    unfolding group_sum
    sum_long = over_long s (cell_at s u) (group_sources p k lo hi kind i) (cells_long (p * (k + 2)) s (group_sources p k lo hi kind i) u long (sources_below p k lo hi kind i numbered ordered last))

    fits : parity_cell p k kind i * s + s ≤ length u
    fits = omega (arith, cell_fits (p * (k + 2)) s (parity_cell p k kind i) (parity_below p k kind i numbered))

    pub added_cell : cell_at s v (parity_cell p k kind i) ≡ group_sum p k s lo hi kind i u
    added_cell = ap (λ (l : List ℕ). cell_at s l (parity_cell p k kind i)) e ∙ cell_with s (parity_cell p k kind i) (group_sum p k s lo hi kind i u) u sum_long fits

    pub added_other : (y : ℕ) → (y ≡ parity_cell p k kind i → ⊥) → cell_at s v y ≡ cell_at s u y
    added_other y n = ap (λ (l : List ℕ). cell_at s l y) e ∙ cell_other s (parity_cell p k kind i) (group_sum p k s lo hi kind i u) u sum_long fits y n

    pub added_data : DataSame p k s u v
    added_data x h = added_other x (λ q. omega (arith, parity_past p k kind i))
