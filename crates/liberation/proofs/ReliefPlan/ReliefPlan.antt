-- The plan that relieves data disk c: with step g = 2(c - f), c is (p + 1)/2 steps from f, as g (p
-- + 1)/2 = (c - f)(p + 1) = c - f mod p. So it gives p - (p - 1)/2 cells, and no plan asks less of
-- it.
use mathlib.Core.Path.{◌≡◌, refl, sym, ap, ◌∙◌}
use mathlib.Core.Bool.{Bool}
use mathlib.Core.Logic.{⊎_elim}
use Prim.Native.Nat.{ℕ, ◌+◌, ◌-◌, ◌*◌, ◌/◌, ◌%◌, ◌<◌}
use native.Mathlib.Nat.{mod-lt, mod-eq_of_lt, mul-add-mod_self_left, add-mod_right}
use native.Mathlib.Omega.{arith}
use borrow.Author.Tests.{lt-leb}
use Rattle.mathematics.specs.Choice.{pick}
use Rattle.mathematics.proofs.Modulo.{mul_mod_l, cong_add}
use Rattle.mathematics.proofs.OrderLaws.{eq_or_ne}
use Rattle.liberation.proofs.Widths.{width_odd}
use Rattle.liberation.specs.BalancedPlan.Balanced.{reads_of}
use Rattle.liberation.specs.ReliefPlan.Relief.{relief_step, relief_plan, Progression, PlansRelief}
use Rattle.liberation.proofs.ReliefPlan.HalfAsked.{half_asked}
use Rattle.liberation.proofs.ReliefPlan.ProgressionPlan.{plans_progression}

-- 2 d times the half of p + 1
halved : (p d n : ℕ) → p + 1 ≡ 2 * n → 2 * d * n ≡ p * d + d
halved p d n e = omega (arith, ap (λ (x : ℕ). d * x) e)

-- (p + 1)/2 steps from f stands c
pub relief_lands : (p f c : ℕ) → p % 2 ≡ 1 → f < p → c < p → (f + relief_step p f c * ((p + 1) / 2)) % p ≡ c
relief_lands p f c odd h l =
    let d = c + p - f in
    let whole : f + (c + p - f) ≡ c + p = omega arith in
    cong_add p f f (2 * d % p * ((p + 1) / 2)) d refl (mul_mod_l (2 * d) ((p + 1) / 2) p ∙ ap (λ (x : ℕ). x % p) (halved p d ((p + 1) / 2) (omega arith)) ∙ mul-add-mod_self_left p d d)
    ∙ ap (λ (x : ℕ). x % p) whole
    ∙ add-mod_right c p
    ∙ mod-eq_of_lt l

-- so the step is not 0
pub relief_positive : (p f c : ℕ) → p % 2 ≡ 1 → f < p → c < p → (c ≡ f → ⊥) → 0 < relief_step p f c
relief_positive p f c odd h l other =
    ⊎_elim
    (λ e. let still : f + 0 * ((p + 1) / 2) ≡ f = omega arith in absurd (other (sym (relief_lands p f c odd h l) ∙ ap (λ (x : ℕ). (f + x * ((p + 1) / 2)) % p) e ∙ ap (λ (x : ℕ). x % p) still ∙ mod-eq_of_lt h)))
    (λ e. omega arith)
    (eq_or_ne (relief_step p f c) 0)

pub plans_relief : PlansRelief
plans_relief p k f c w most h l other =
    record {
      is_accepted = plan.is_accepted;
      relieved = relieved;
      relieved_most = λ ss t. omega (arith, relieved, half_asked p k f c ss w most (omega arith) l other t);
      full_count = plan.full_count;
      full_least = plan.full_least;
    }
  where
    odd : p % 2 ≡ 1
    odd = width_odd p w

    plan : Progression p k f (relief_step p f c)
    plan = plans_progression p k f (relief_step p f c) w most h (relief_positive p f c odd (omega arith) (omega arith) other) (mod-lt (2 * (c + p - f)) (omega arith))

    relieved : 2 * reads_of p k f c (relief_plan p k f c) ≡ p + 1
    relieved =
        let n = (p + 1) / 2 in
        omega (
          arith,
          odd,
          plan.data_share c n l other (omega arith) (relief_lands p f c odd (omega arith) (omega arith)),
          ap (λ (b : Bool). pick b n (p - n)) (lt-leb n (p - n) (omega (arith, odd))),
        )
