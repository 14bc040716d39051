-- The quotient rounded up: x parts of d are too few for a exactly where x is below it, so it grows
-- with a and is at most a. A number of bytes rounded up is a multiple of 4,096.
use mathlib.Core.Path.{◌≡◌}
use Prim.Native.Nat.{ℕ, suc, ◌+◌, ◌-◌, ◌*◌, ◌%◌, ◌≤◌, ◌<◌}
use native.Mathlib.Nat.{le-div_iff_mul-le, div-lt_iff_lt-mul, div-mul-le_self, le-mul_of_pos_right}
use native.Mathlib.Omega.{arith}
use Rattle.space.specs.Says.{up_by}
use Rattle.image_layout.specs.Layouts.{rounded}

module _ (d : ℕ) (h : 0 < d) where
  pub up_above : (a x : ℕ) → x * d < a → x < up_by a d
  up_above a x l = let t : suc x ≤ up_by a d = (le-div_iff_mul-le h).1 (omega arith) in t

  pub up_below : (a x : ℕ) → x < up_by a d → x * d < a
  up_below a x l = let t : suc x * d ≤ a + (d - 1) = (le-div_iff_mul-le h).0 l in omega arith

  pub up_le : (a b : ℕ) → a ≤ b → up_by a d ≤ up_by b d
  up_le a b l = (le-div_iff_mul-le h).1 (omega (arith, div-mul-le_self (a + (d - 1)) d))

  pub up_most : (a : ℕ) → up_by a d ≤ a
  up_most a = let t : up_by a d < suc a = (div-lt_iff_lt-mul h).1 (omega (arith, le-mul_of_pos_right a h)) in omega arith

-- bytes rounded up
pub round_holds : (b : ℕ) → b ≤ rounded b
unfolding rounded
round_holds b = omega arith

pub round_most : (b : ℕ) → rounded b ≤ b + 4095
unfolding rounded
round_most b = omega arith

pub round_le : (a b : ℕ) → a ≤ b → rounded a ≤ rounded b
unfolding rounded
round_le a b l = omega arith

pub round_whole : (b : ℕ) → rounded b % 4096 ≡ 0
unfolding rounded
round_whole b = omega arith
