-- `write_extra`: a row set has no extra cell, nor has D 0, nor has a diagonal whose extra cell would
-- be on an absent disk.
use mathlib.Core.Path.{◌≡◌, refl, sym, ap, subst, ◌∙◌}
use mathlib.Core.List.{List, [], ◌∷◌}
use Prim.Native.Nat.{ℕ, ◌-◌, ◌≤◌, ◌<◌}
use native.Mathlib.Omega.{arith}
use lib.ListN.{length}
use Rattle.liberation.specs.Sets.{place, extra_disk}
use Rattle.parity_sets.specs.declared.set.ParitySet.{ParitySet}
use Rattle.parity_sets.specs.declared.set.ParitySet.TheVariants.{Row, Diagonal}
use Rattle.parity_sets.specs.ParitySets.{kind_of, number_of}
use Rattle.stripe_cells.specs.Offsets.{scaled, Pushed}
use Rattle.stripe_cells.specs.OrdinaryCells.{survivors}
use Rattle.stripe_cells.specs.SetCells.{extra_in}
use Rattle.stripe_cells.proofs.PushedLaws.{none_pushed}
use Rattle.stripe_cells.proofs.SetLists.{survivors_none, extra_first, extra_absent, extra_some}
use Rattle.stripe_cells.proofs.surviving.write_extra.Goals as goal

-- nothing is written where the set has no extra cell
none : (p k s x y n : ℕ) (set : ParitySet) (l : List ℕ) → n < length l → extra_in p k (kind_of set) (number_of set) ≡ [] → Pushed l l n n (scaled s (survivors p x y (extra_in p k (kind_of set) (number_of set))))
none p k s x y n set l room e = none_pushed s n l (omega (arith, room)) (ap (survivors p x y) e ∙ survivors_none p x y)

module _ (p k : ℕ) (set : ParitySet) where
  of_row : (i : ℕ) → set ≡ Row i → extra_in p k (kind_of set) (number_of set) ≡ []
  of_row i e = rw e refl

  first : (i : ℕ) → set ≡ Diagonal i → i ≡ 0 → extra_in p k (kind_of set) (number_of set) ≡ []
  first i e z = rw e (extra_first p k 1 i z)

  absent : (i : ℕ) → set ≡ Diagonal i → (i ≡ 0 → ⊥) → k ≤ extra_disk p i → extra_in p k (kind_of set) (number_of set) ≡ []
  absent i e z h = rw e (extra_absent p k 1 i z h)

  there : (i d : ℕ) → set ≡ Diagonal i → (i ≡ 0 → ⊥) → d ≡ extra_disk p i → d < k → place p (p - 1 - i) d ∷ [] ≡ extra_in p k (kind_of set) (number_of set)
  there i d e z q h = rw e (ap (λ (f : ℕ). place p (p - 1 - i) f ∷ []) q ∙ sym (extra_some p k 1 i (λ t. absurd (omega arith)) z (omega (arith, q))))

pub returns-in_default : goal.returns-in_default
returns-in_default c =
    let a = c.args in
    let w = a.geometry in
    none w.array.width w.array.disks w.cell_size a.lost.low a.lost.high a.at a.set a.slots.now c.requires.room (of_row w.array.width w.array.disks a.set c.in_default.field-0 c.in_default.is)

pub returns-then-number-eq0 : goal.returns-then-number-eq0
returns-then-number-eq0 c =
    let a = c.args in
    let w = a.geometry in
    none w.array.width w.array.disks w.cell_size a.lost.low a.lost.high a.at a.set a.slots.now c.requires.room (first w.array.width w.array.disks a.set c.in-Diagonal.number c.in-Diagonal.is c.if-number-eq0.true)

pub returns-then-array-disk : goal.returns-then-array-disk
returns-then-array-disk c =
    let a = c.args in
    let w = a.geometry in
    none w.array.width w.array.disks w.cell_size a.lost.low a.lost.high a.at a.set a.slots.now c.requires.room
    (absent w.array.width w.array.disks a.set c.in-Diagonal.number c.in-Diagonal.is c.if-number-eq0.false (omega (arith, c.extra_disk-disk.ensures)))

pub returns : goal.returns
returns c =
    let a = c.args in
    let w = a.geometry in
    subst (λ (xs : List ℕ). Pushed a.slots.now c.write_cell.new.slots a.at c.write_cell.result (scaled w.cell_size (survivors w.array.width a.lost.low a.lost.high xs)))
    (there w.array.width w.array.disks a.set c.in-Diagonal.number c.extra_disk-disk.result c.in-Diagonal.is c.if-number-eq0.false c.extra_disk-disk.ensures (omega arith)) c.write_cell.ensures
