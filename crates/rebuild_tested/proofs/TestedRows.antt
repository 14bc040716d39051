-- A data disk or P by the row sets: the XOR of the other columns but Q's is the column that the
-- steps of all row sets leave, and where the disk fits it is the rebuilt one.
use mathlib.Core.Path.{◌≡◌, refl, sym, subst, ap, ◌∙◌}
use mathlib.Core.Bool.{true}
use mathlib.Core.List.{List, [], ◌++◌}
use Prim.Native.Nat.{ℕ, ◌+◌, ◌-◌, ◌*◌, ◌≤◌, ◌<◌}
use native.Mathlib.Omega.{arith}
use lib.ListN.{length}
use Rattle.mathematics.specs.Xor.{all_bytes}
use Rattle.liberation.specs.Plans.{all_of}
use Rattle.liberation.specs.Stripes.Stripes.{stripe_long, followed, column_of, with_column, rebuilt}
use Rattle.liberation.proofs.Stripes.StripeCellLaws.{cell_fits, column_with}
use Rattle.liberation.proofs.Stripes.Solving.{stripe_of}
use Rattle.liberation.specs.Scrub.Survivors.{fits}
use Rattle.liberation.proofs.Scrub.EquationLaws.{fits_rows}
use Rattle.xor.specs.Parts.{xor_offsets}
use Rattle.xor.specs.Reach.{Reached}
use Rattle.xor.proofs.BlockLaws.{offsets_long}
use Rattle.stripe_cells.specs.Offsets.{scaled, cells_from}
use Rattle.stripe_cells.proofs.SolvedLaws.{columns_lie, columns_put}
use Rattle.refusals.specs.StripeOf.{IsStripeOf}
use Rattle.refusals.specs.declared.array.Geometry.{Geometry}

-- the columns are those of the list, and n is the length of a column
module _ (p k s d n : ℕ) (t : List ℕ) (some : 0 < p) (disk : d ≤ k) (small : k ≤ 31) (long : length t ≡ stripe_long p k s) (size : n ≡ p * s) (a b list : List ℕ) (none : a ≡ []) (before : b ≡ a ++ scaled s (cells_from 0 (d - 0) p 0 0)) (after : list ≡ b ++ scaled s (cells_from 0 (k + 1 - (d + 1)) p 0 (d + 1))) where
  reach : Reached (p * s) (length t) list
  reach = (columns_lie p k s d some disk a b list t none before after long small).sources

  pub others_reached : (n ≤ length t) × Reached n (length t) list
  others_reached =
      let l : 0 < k + 2 = omega arith in
      (omega (arith, long, size, cell_fits (k + 2) (p * s) 0 l), subst (λ (m : ℕ). Reached m (length t) list) (sym size) reach)

  pub rows_gathered : (col : List ℕ) → col ≡ xor_offsets n t list → col ≡ column_of p s d (followed p k s d (all_of p 0 0) t)
  rows_gathered col h =
      let l : d < k + 2 = omega arith in
      let new = xor_offsets (p * s) t list in
      h
      ∙ ap (λ (m : ℕ). xor_offsets m t list) size
      ∙ sym (column_with p s d new t (offsets_long (p * s) t list reach.inside) (omega (arith, cell_fits (k + 2) (p * s) d l, long)))
      ∙ ap (column_of p s d) (columns_put p k s d some disk a b list t none before after long small (with_column p s d new t) refl)

-- a disk of a stripe within its limits whose survivors fit
pub rows_tested : (g : Geometry) (d : ℕ) (t : List ℕ) → d ≤ g.array.disks → IsStripeOf g t → fits g.array.width g.array.disks g.cell_size d t ≡ true → all_bytes t ≡ true
    → (col : List ℕ) → col ≡ column_of g.array.width g.cell_size d (followed g.array.width g.array.disks g.cell_size d (all_of g.array.width 0 0) t) → col ≡ rebuilt g.array.width g.array.disks g.cell_size d t
rows_tested g d t disk long h bytes col e = e ∙ fits_rows g.array.width g.array.disks g.cell_size d g.array.one_of_ten g.array.within disk t (stripe_of g.array.width g.array.disks g.cell_size t (long ∙ omega arith) bytes) h
