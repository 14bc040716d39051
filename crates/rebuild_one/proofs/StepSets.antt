-- The set of a plan's step, by its kind and its number.
use mathlib.Core.Path.{◌≡◌, sym, ap, subst, ◌∙◌}
use mathlib.Core.Bool.{Bool}
use Prim.Native.Nat.{ℕ, zero, suc}
use native.Mathlib.Omega.{arith}
use borrow.Author.Tests.{ne_eqb}
use Rattle.mathematics.specs.Choice.{pick}
use Rattle.mathematics.specs.Lists.{is_in}
use Rattle.liberation.specs.Sets.{place, row_set, diagonal_set, ordinary, set_of}
use Rattle.parity_sets.specs.declared.set.ParitySet.{ParitySet}
use Rattle.parity_sets.specs.ParitySets.{kind_of, number_of, cells_of, parity_set}
use Rattle.stripe_cells.specs.Cells.{Ordinary}

pub step_number : (s : ParitySet) (kind i : ℕ) → s ≡ parity_set kind i → number_of s ≡ i
step_number s zero i e = ap number_of e
step_number s (suc kind) i e = ap number_of e

pub step_cells : (s : ParitySet) (p k kind i : ℕ) → s ≡ parity_set kind i → cells_of p k s ≡ set_of p k kind i
step_cells s p k zero i e = ap (cells_of p k) e
step_cells s p k (suc kind) i e = ap (cells_of p k) e ∙ sym (ap (λ (b : Bool). pick b (row_set p k i) (diagonal_set p k i)) (ne_eqb (suc kind) 0 (λ z. absurd (omega arith))))

pub step_ordinary : (s : ParitySet) (p k kind i c r : ℕ) → s ≡ parity_set kind i → Ordinary p k kind i c r → Ordinary p k (kind_of s) (number_of s) c r
step_ordinary s p k zero i c r e o = subst (λ (x : ParitySet). Ordinary p k (kind_of x) (number_of x) c r) (sym e) o
step_ordinary s p k (suc kind) i c r e o = subst (λ (x : ParitySet). Ordinary p k (kind_of x) (number_of x) c r) (sym e) (record { numbered = o.numbered; row = o.row; own = sym (ap (λ (b : Bool). is_in (place p r c) (pick b (row_set p k i) (ordinary p k i))) (ne_eqb (suc kind) 0 (λ z. absurd (omega arith)))) ∙ o.own })
