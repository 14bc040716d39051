-- The promise of `rebuild_cells`, from what its test and the mend gave.
use mathlib.Core.Path.{◌≡◌, refl, sym, ap, ◌∙◌}
use mathlib.Core.Bool.{Bool, true, false, not}
use mathlib.Core.List.{List}
use Prim.Native.Nat.{ℕ, ◌+◌, ◌*◌}
use native.Mathlib.Omega.{arith}
use lib.Dec.{eqb}
use lib.ListN.{length}
use Rattle.std.proofs.Common.{Result}
use Rattle.std.specs.Result.{IsErr}
use Rattle.mathematics.specs.Choice.{pick, when, first_of}
use Rattle.mathematics.specs.Xor.{all_bytes}
use Rattle.mathematics.proofs.ChoiceLaws.{first_none, first_kept, first_next}
use Rattle.liberation.specs.Sets.{shape_refusal, long_refusal}
use Rattle.liberation.proofs.RefusalLaws.{shape_of, long_of}
use Rattle.liberation.specs.Stripes.Stripes.{stripe_long}
use Rattle.liberation.specs.Stripes.StripeLimits.{Sized}
use Rattle.refusals.specs.declared.array.Geometry.{Geometry}
use Rattle.refusals.specs.declared.refusal.Refusal.{Refusal}
use Rattle.refusals.specs.declared.shape.Shape.{Shape}
use Rattle.refusals.specs.Refused.{refused, answer_of}
use Rattle.refusals.proofs.RefusalNumbers.{refused_some, refused_pick}
use Rattle.rebuild_cells.specs.Checked.{IsChecked}
use Rattle.rebuild_cells.specs.Listed.{Mended}
use Rattle.rebuild_cells.specs.Theory.Mending.{missing_cells, mendable, mended_cells}
use Rattle.rebuild_cells.specs.Says.{lent_refusal, mend_refusal, RebuildCellsSays}

-- none of the first refusals: marks and stripe are within the limits
pub lent_none : (p k s : ℕ) (ms t : List ℕ) → lent_refusal p k s ms t ≡ 0 → Sized p k s t × (length ms ≡ p * (k + 2))
lent_none p k s ms t e =
    let w = first_none (shape_refusal p k s) (first_of (long_refusal (p * (k + 2)) ms) (long_refusal (stripe_long p k s) t)) e in
    let v = first_none (long_refusal (p * (k + 2)) ms) (long_refusal (stripe_long p k s) t) w.1 in
    let q = shape_of p k s w.0 in
    (record { array = q.0; small = omega (arith, q.2); long = long_of (stripe_long p k s) t v.1 }, long_of (p * (k + 2)) ms v.0)

-- refused by one of the first refusals
pub mend_refused : (x : Shape) (ms t : List ℕ) (r : Result Unit Refusal) → IsErr r → refused r ≡ lent_refusal x.width x.disks x.cell_size ms t → all_bytes t ≡ true → RebuildCellsSays x.width x.disks x.cell_size ms t t (answer_of r)
mend_refused x ms t r i e y =
    let f : refused r ≡ mend_refusal x.width x.disks x.cell_size ms t = first_kept (refused r) (lent_refusal x.width x.disks x.cell_size ms t) _ e (refused_some r i) in
    record {
      answer = record { refusal = f; place = refl };
      stripe = refused_pick r (mend_refusal x.width x.disks x.cell_size ms t) (mended_cells x.width x.disks x.cell_size (missing_cells ms) t) t i f;
      bytes = y;
    }

-- mended, or not determined
pub mend_done :
    (x : Shape) (ms t u : List ℕ) (g : Geometry) (r : Result Unit Refusal) → 0 ≡ lent_refusal x.width x.disks x.cell_size ms t → IsChecked x (length ms) (length t) g
    → Mended g (missing_cells ms) t u r → all_bytes t ≡ true → RebuildCellsSays x.width x.disks x.cell_size ms t u (answer_of r)
mend_done x ms t u g r z is m y =
    let b : Bool = mendable x.width x.disks (missing_cells ms) in
    let v : List ℕ = mended_cells x.width x.disks x.cell_size (missing_cells ms) t in
    let e : refused r ≡ when (not b) 23 = rw (is.width, is.disks) at m.refusal in
    let f : refused r ≡ mend_refusal x.width x.disks x.cell_size ms t = first_next (refused r) (lent_refusal x.width x.disks x.cell_size ms t) (when (not b) 23) (sym z) e in
    record {
      answer = record { refusal = f; place = refl };
      stripe = rw (is.width, is.disks, is.size) at m.stripe ∙ picked b v t ∙ ap (λ (n : ℕ). pick (eqb n 0) v t) (sym e ∙ f);
      bytes = y;
    }
  where
    picked : (b : Bool) (v t : List ℕ) → pick b v t ≡ pick (eqb (when (not b) 23) 0) v t
    picked true v t = refl
    picked false v t = refl
