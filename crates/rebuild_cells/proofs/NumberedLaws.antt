-- The sets numbered through: row sets have the numbers below the width, diagonals those from it on.
use mathlib.Core.Path.{◌≡◌, ap, ap₂, ◌∙◌}
use Prim.Native.Nat.{ℕ, ◌+◌, ◌*◌, ◌-◌, ◌/◌, ◌%◌, ◌≤◌, ◌<◌}
use native.Mathlib.Nat.{mod-eq_of_lt}
use native.Mathlib.Omega.{arith}
use lib.Arith.{digits_div}
use Rattle.mathematics.proofs.Modulo.{mod_unique}
use Rattle.liberation.specs.Sets.{set_of}
use Rattle.rebuild_cells.specs.Theory.Mending.{set_numbered}

pub numbered_row : (p k i : ℕ) → i < p → set_numbered p k i ≡ set_of p k 0 i
numbered_row p k i h =
    let e : i ≡ 0 * p + i = omega arith in
    ap₂ (λ (kind number : ℕ). set_of p k kind number) (ap (λ (n : ℕ). n / p) e ∙ digits_div 0 h) (mod-eq_of_lt h)

pub numbered_diagonal : (p k i : ℕ) → p ≤ i → i < 2 * p → set_numbered p k i ≡ set_of p k 1 (i - p)
numbered_diagonal p k i l h =
    let b : i - p < p = omega arith in
    let e : i ≡ 1 * p + (i - p) = omega arith in
    let f : i ≡ p * 1 + (i - p) = omega arith in
    ap₂ (λ (kind number : ℕ). set_of p k kind number) (ap (λ (n : ℕ). n / p) e ∙ digits_div 1 b) (ap (λ (n : ℕ). n % p) f ∙ mod_unique p 1 (i - p) b)
