-- The promise of `update_cell`: its refusals 1, 13, 2, 3, 5 and 15 in this order, which leave the
-- stripe as it was, and the accepted call.
use mathlib.Core.Path.{◌≡◌, refl, sym, ◌∙◌}
use mathlib.Core.Bool.{Bool, true, not}
use mathlib.Core.List.{List}
use Prim.Native.Nat.{ℕ, ◌<◌}
use Rattle.std.proofs.Common.{Result, Ok}
use Rattle.std.specs.Result.{IsErr}
use lib.Dec.{eqb, leb}
use lib.ListN.{length}
use borrow.Author.Tests.{eqb-true, leb-false, not-false}
use Rattle.mathematics.specs.Choice.{first_of, when}
use Rattle.mathematics.specs.Xor.{all_bytes}
use Rattle.mathematics.proofs.ChoiceLaws.{first_none, when_none, pick_done}
use Rattle.liberation.specs.Sets.{shape_refusal}
use Rattle.liberation.proofs.Widths.{width_odd}
use Rattle.liberation.proofs.RefusalLaws.{shape_of}
use Rattle.liberation.specs.Stripes.Stripes.{stripe_long}
use Rattle.liberation.specs.Update.Updates.{updated}
use Rattle.refusals.specs.declared.refusal.Refusal.{Refusal}
use Rattle.refusals.specs.declared.shape.Shape.{Shape}
use Rattle.refusals.specs.Refused.{refused, answer_of}
use Rattle.refusals.proofs.RefusalNumbers.{refused_pick}
use Rattle.update.specs.declared.target.Target.{Target}
use Rattle.update.specs.Targets.{IsTarget}
use Rattle.update.specs.Cells.{DataCell}
use Rattle.update.specs.Says.{data_refusal, row_refusal, update_refusal, UpdateSays}

-- 5, for the stripe and then for the cell, of n and of m bytes, and 15
abbrev pub last_refusals : ℕ → ℕ → ℕ → ℕ → ℕ → ℕ → ℕ → ℕ
last_refusals p k s r c n m = first_of (when (not (eqb n (stripe_long p k s))) 5) (first_of (when (not (eqb m s)) 5) (row_refusal p r))

-- none of them: the cell is a data cell of a stripe within the limits, and the new one has its
-- length
pub refusal_none : (p k s r c : ℕ) (t new : List ℕ) → update_refusal p k s r c t new ≡ 0 → DataCell p k s r c t × (length new ≡ s) × (0 < s)
refusal_none p k s r c t new e =
    let a : Bool = eqb (length t) (stripe_long p k s) in
    let b : Bool = eqb (length new) s in
    let w = first_none (shape_refusal p k s) (first_of (data_refusal k c) (last_refusals p k s r c (length t) (length new))) e in
    let v = first_none (data_refusal k c) (last_refusals p k s r c (length t) (length new)) w.1 in
    let u = first_none (when (not a) 5) (first_of (when (not b) 5) (row_refusal p r)) v.1 in
    let o = first_none (when (not b) 5) (row_refusal p r) u.1 in
    let q = shape_of p k s w.0 in (
      record {
        odd = width_odd p q.0.width;
        widest = q.0.widest;
        disks = q.0.disks;
        row = leb-false p r (when_none (leb p r) 14 o.1);
        disk = leb-false k c (when_none (leb k c) 2 v.0);
        long = eqb-true (length t) (stripe_long p k s) (not-false a (when_none (not a) 4 u.0));
      },
      eqb-true (length new) s (not-false b (when_none (not b) 4 o.0)),
      q.1,
    )

-- a refusal
pub refused_update : (x : Shape) (r c : ℕ) (t new : List ℕ) (e : Result Unit Refusal) → IsErr e → refused e ≡ update_refusal x.width x.disks x.cell_size r c t new → all_bytes t ≡ true → all_bytes new ≡ true → UpdateSays x.width x.disks x.cell_size r c t new t (answer_of e)
refused_update x r c t new e i n b d =
    record {
      answer = record { refusal = n; place = refl };
      stripe = refused_pick e (update_refusal x.width x.disks x.cell_size r c t new) (updated x.width x.disks x.cell_size r c new t) t i n;
      bytes = b;
      cell_bytes = d;
    }

-- the accepted call
pub accepted_update : (x : Shape) (r c : ℕ) (t new t' : List ℕ) (g : Target) → 0 ≡ update_refusal x.width x.disks x.cell_size r c t new → IsTarget x r c (length t) (length new) g → t' ≡ updated g.geometry.array.width g.geometry.array.disks g.geometry.cell_size g.row g.disk new t → all_bytes t ≡ true → all_bytes new ≡ true → UpdateSays x.width x.disks x.cell_size r c t new t' (answer_of (Ok tt))
accepted_update x r c t new t' g z is e b d =
    record {
      answer = record { refusal = z; place = refl };
      stripe = rw (is.width, is.disks, is.size, is.row, is.disk) at e ∙ pick_done (update_refusal x.width x.disks x.cell_size r c t new) (updated x.width x.disks x.cell_size r c new t) t (sym z);
      bytes = b;
      cell_bytes = d;
    }
