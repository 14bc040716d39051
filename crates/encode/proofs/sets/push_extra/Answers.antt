-- `push_extra`: a row set and D 0 have no extra cell; else it is on a disk before the group, after it,
-- or of it.
use mathlib.Core.Path.{◌≡◌, sym, ap, ◌∙◌}
use mathlib.Core.List.{List, [], ◌∷◌, ◌++◌}
use Prim.Native.Nat.{ℕ, ◌-◌, ◌*◌, ◌≤◌, ◌<◌}
use native.Mathlib.Omega.{arith}
use Rattle.liberation.specs.Sets.{place, extra_disk}
use Rattle.parity_sets.specs.declared.set.ParitySet.{ParitySet}
use Rattle.parity_sets.specs.declared.set.ParitySet.TheVariants.{Row, Diagonal}
use Rattle.parity_sets.specs.ParitySets.{kind_of, number_of}
use Rattle.stripe_cells.specs.Offsets.{scaled}
use Rattle.stripe_cells.proofs.AppendedLaws.{none_appended}
use Rattle.stripe_cells.proofs.SetLists.{extra_row_lem, extra_first, extra_absent, extra_some}
use Rattle.encode.specs.Extras.{extra_between}
use Rattle.encode.proofs.ExtraLists.{extra_before, extra_from, extra_none}
use Rattle.encode.proofs.sets.push_extra.Goals as goal
use Rattle.encode.proofs.sets.push_extra.Goals.{else-number-ne0-via-then-number-ne0+then-group-disk+else-disk-group, else-number-ne0-via-then-number-ne0+else-group-disk, else-number-ne0-via-else-number-ne0}

module _ (p lo hi s : ℕ) (set : ParitySet) (a : List ℕ) where
  abbrev Nothing : Type 0
  Nothing = a ≡ a ++ scaled s (extra_between p lo hi (kind_of set) (number_of set))

  of_row : (i : ℕ) → set ≡ Row i → Nothing
  of_row i e = rw e (none_appended s a (extra_none p 0 i lo hi (extra_row_lem p hi 0 i (omega arith))))

  of_first : (i : ℕ) → set ≡ Diagonal i → i ≡ 0 → Nothing
  of_first i e z = rw e (none_appended s a (extra_none p 1 i lo hi (extra_first p hi 1 i z)))

  before : (i d : ℕ) → set ≡ Diagonal i → d ≡ extra_disk p i → d < lo → Nothing
  before i d e q h = rw e (none_appended s a (extra_before p 1 i lo hi (omega (arith, q))))

  behind : (i d : ℕ) → set ≡ Diagonal i → (i ≡ 0 → ⊥) → d ≡ extra_disk p i → hi ≤ d → Nothing
  behind i d e n q h = rw e (none_appended s a (extra_none p 1 i lo hi (extra_absent p hi 1 i n (omega (arith, q)))))

  there : (i d : ℕ) (c : List ℕ) → set ≡ Diagonal i → (i ≡ 0 → ⊥) → d ≡ extra_disk p i → lo ≤ d → d < hi → c ≡ a ++ (place p (p - 1 - i) d * s ∷ []) → c ≡ a ++ scaled s (extra_between p lo hi (kind_of set) (number_of set))
  unfolding scaled
  there i d c e n q h l u =
      rw e (u ∙ ap (λ (xs : List ℕ). a ++ scaled s xs) (ap (λ (f : ℕ). place p (p - 1 - i) f ∷ []) q ∙ sym (extra_from p 1 i lo hi (omega (arith, q)) ∙ extra_some p hi 1 i (λ z. absurd (omega arith)) n (omega (arith, q)))))

pub returns-in-Row : goal.returns-in-Row
returns-in-Row c = let a = c.args in of_row a.group.geometry.array.width a.group.first a.group.end a.group.geometry.cell_size a.set a.list.now c.in-Row.field-0 c.in-Row.is

pub returns-then-disk-group : goal.returns-then-disk-group
returns-then-disk-group c =
    let a = c.args in
    there a.group.geometry.array.width a.group.first a.group.end a.group.geometry.cell_size a.set a.list.now c.in-Diagonal.number c.extra_disk-disk.result c.push.new.self c.in-Diagonal.is c.if-number-ne0.true c.extra_disk-disk.ensures c.if-group-disk.true c.if-disk-group.true c.push.ensures

pub returns-else-number-ne0 : goal.returns-else-number-ne0
returns-else-number-ne0 c =
    let a = c.args in
    let d = c.extra_disk-disk in
    elim c.else-number-ne0.branch [
      | else-number-ne0-via-then-number-ne0+then-group-disk+else-disk-group w ↦ behind a.group.geometry.array.width a.group.first a.group.end a.group.geometry.cell_size a.set a.list.now c.in-Diagonal.number d.result c.in-Diagonal.is w.if-number-ne0.true d.ensures w.if-disk-group.false
      | else-number-ne0-via-then-number-ne0+else-group-disk w ↦ before a.group.geometry.array.width a.group.first a.group.end a.group.geometry.cell_size a.set a.list.now c.in-Diagonal.number d.result c.in-Diagonal.is d.ensures w.if-group-disk.false
      | else-number-ne0-via-else-number-ne0 w ↦ of_first a.group.geometry.array.width a.group.first a.group.end a.group.geometry.cell_size a.set a.list.now c.in-Diagonal.number c.in-Diagonal.is w.if-number-ne0.false
    ]
