-- With the change in the data cell, handed on to its parity cells, and the new bytes put in last,
-- the stripe is updated in place.
use mathlib.Core.Path.{◌≡◌, ap, ◌∙◌}
use mathlib.Core.Bool.{true}
use mathlib.Core.List.{List}
use Prim.Native.Nat.{ℕ}
use native.Mathlib.Omega.{arith}
use lib.ListN.{length}
use lib.Seq.{take_all}
use Rattle.mathematics.specs.Xor.{xor_l, all_bytes}
use Rattle.liberation.specs.Sets.{place}
use Rattle.liberation.specs.Stripes.Stripes.{cell_at, with_cell}
use Rattle.liberation.proofs.Stripes.StripeCellLaws.{cell_long}
use Rattle.liberation.proofs.Stripes.Solving.{stripe_of}
use Rattle.liberation.specs.Update.Updates.{parity_of, added_from, change, updated, updated_in_place}
use Rattle.liberation.proofs.Update.InPlace.{in_place}
use Rattle.xor.specs.Parts.{part}
use Rattle.update.specs.Cells.{DataCell}
use Rattle.update.proofs.CellPlaces.{own_fits}

-- a data cell of a stripe, and new bytes for it
module _ (p k s r c : ℕ) (new t : List ℕ) (d : DataCell p k s r c t) (nl : length new ≡ s) where
  -- the new bytes added to the cell are the change
  pub change_put : xor_l (cell_at s t (place p r c)) (part (length (cell_at s t (place p r c))) 0 new) ≡ change s (place p r c) new t
  change_put = ap (xor_l (cell_at s t (place p r c))) (take_all (length (cell_at s t (place p r c))) new (omega (arith, nl, cell_long s (place p r c) t (own_fits p k s r c t d))))

  -- with the change in the cell, handed on, and the new bytes put in last, the stripe is updated
  pub cell_put : (u v w : List ℕ) → all_bytes t ≡ true → u ≡ with_cell s (place p r c) (change s (place p r c) new t) t → v ≡ added_from s (place p r c) (parity_of p k r c) u → w ≡ with_cell s (place p r c) new v → w ≡ updated p k s r c new t
  unfolding updated_in_place
  cell_put u v w b eu ev ew =
      ew
      ∙ ap (with_cell s (place p r c) new) (ev ∙ ap (added_from s (place p r c) (parity_of p k r c)) eu)
      ∙ in_place p k s r c d.odd d.row d.disk new nl t (stripe_of p k s t (omega (arith, d.long)) b)
