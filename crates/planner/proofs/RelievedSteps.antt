-- What a step relieves, summed disk by disk along the walk; and the steps tried one by one.
use mathlib.Core.Path.{◌≡◌, refl, sym, ap, ap₂, ◌∙◌}
use mathlib.Core.Bool.{Bool, true, false}
use Prim.Native.Nat.{ℕ, ◌+◌, ◌-◌, ◌*◌, ◌/◌, ◌%◌, ◌≤◌, ◌<◌}
use native.Mathlib.Nat.{mod-eq_of_lt, mod-add-mod, mul-le-mul_left, mod-lt}
use native.Mathlib.Numerals.{add-one}
use native.Mathlib.Omega.{arith}
use lib.Dec.{ltb, leb}
use Rattle.mathematics.specs.Choice.{pick, when}
use Rattle.mathematics.specs.Sums.{sum_to}
use Rattle.mathematics.proofs.SumLaws.{sum_zero, sum_suc}
use Rattle.liberation.specs.ReliefPlan.Relief.{distance}
use Rattle.liberation.specs.FewestPlan.Greatest.{first_most}
use Rattle.liberation.specs.FewestPlan.Fewest.{relieved_by, fewest_step}
use Rattle.liberation.proofs.FewestPlan.GreatestLaws.{most_more, most_same}

-- no disk is relieved of more than p cells
spared_most : (p k disk x : ℕ) → x ≤ p → when (ltb disk k) (distance p x) ≤ p
spared_most p k disk x h = go (ltb disk k) (leb x (p - x))
  where
    go : (a b : Bool) → when a (pick b x (p - x)) ≤ p
    go true true = omega arith
    go true false = omega arith
    go false b = omega arith

-- after x steps the walk is at this disk, and this is the sum so far
pub record Summed (p k f g x disk sum : ℕ) : Type 0 where
  pub few : x ≤ p
  pub at : disk ≡ (f + g * x) % p
  pub so_far : sum ≡ sum_to x (λ i. when (ltb ((f + g * i) % p) k) (distance p i))
  pub small : sum ≤ x * p

pub summed_none : (p k f g : ℕ) → f < p → Summed p k f g 0 f 0
summed_none p k f g h =
    let still : f + g * 0 ≡ f = omega arith in
    record { few = omega arith; at = sym (ap (λ (x : ℕ). x % p) still ∙ mod-eq_of_lt h); so_far = sym (sum_zero _); small = omega arith }

pub summed_next : (p k f g x disk sum d next : ℕ) → x < p → Summed p k f g x disk sum → d ≡ when (ltb disk k) (distance p x) → next ≡ (disk + g) % p → Summed p k f g (x + 1) next (sum + d)
summed_next p k f g x disk sum d next l u e q =
    record {
      few = omega arith;
      at = q ∙ ap (λ (y : ℕ). (y + g) % p) u.at ∙ mod-add-mod (f + g * x) p g ∙ ap (λ (y : ℕ). y % p) (omega arith);
      so_far = ap₂ ◌+◌ u.so_far (e ∙ ap (λ (y : ℕ). when (ltb y k) (distance p x)) u.at) ∙ sym (sum_suc x (λ i. when (ltb ((f + g * i) % p) k) (distance p i))) ∙ ap (λ (y : ℕ). sum_to y (λ i. when (ltb ((f + g * i) % p) k) (distance p i))) (sym (add-one x));
      small = omega (arith, u.small, e, spared_most p k disk x (omega arith));
    }

-- the sum stays small
pub summed_room : (p k f g x disk sum d : ℕ) → p ≤ 31 → x < p → Summed p k f g x disk sum → d ≡ when (ltb disk k) (distance p x) → sum + d ≤ 961
summed_room p k f g x disk sum d h l u e = omega (arith, u.small, e, spared_most p k disk x (omega arith), mul-le-mul_left x h)

pub summed_all_lem : (p k f g x disk sum : ℕ) → p ≤ x → Summed p k f g x disk sum → sum ≡ relieved_by p k f g
unfolding relieved_by
summed_all_lem p k f g x disk sum h u = let e : x ≡ p = omega (arith, u.few) in u.so_far ∙ ap (λ (y : ℕ). sum_to y (λ i. when (ltb ((f + g * i) % p) k) (distance p i))) e

-- the steps before this one are tried: the best of them, and what it relieves
pub record Tried (p k f step best most : ℕ) : Type 0 where
  pub low : 2 ≤ step
  pub high : step ≤ (p - 1) / 2 + 1
  pub best_is : best ≡ first_most (step - 2) (relieved_by p k f)
  pub most_is : most ≡ relieved_by p k f best

pub tried_first : (p k f most : ℕ) → 3 ≤ p → most ≡ relieved_by p k f 1 → Tried p k f 2 1 most
unfolding first_most
tried_first p k f most h e = record { low = omega arith; high = omega arith; best_is = refl; most_is = e }

pub tried_more : (p k f step best most sum b m : ℕ) → step ≤ (p - 1) / 2 → sum ≡ relieved_by p k f step → most < sum → b ≡ step → m ≡ sum → Tried p k f step best most → Tried p k f (step + 1) b m
tried_more p k f step best most sum b m h e l eb em u =
    let n : step - 2 + 1 ≡ step + 1 - 2 = omega (arith, u.low) in
    record {
      low = omega (arith, u.low);
      high = omega arith;
      best_is = eb ∙ most_more (step - 2) (relieved_by p k f) best step u.best_is (omega (arith, u.low)) (omega (arith, u.most_is)) ∙ ap (λ (x : ℕ). first_most x (relieved_by p k f)) n;
      most_is = em ∙ e ∙ ap (relieved_by p k f) (sym eb);
    }

pub tried_same : (p k f step best most sum b m : ℕ) → step ≤ (p - 1) / 2 → sum ≡ relieved_by p k f step → sum ≤ most → b ≡ best → m ≡ most → Tried p k f step best most → Tried p k f (step + 1) b m
tried_same p k f step best most sum b m h e l eb em u =
    let n : step - 2 + 1 ≡ step + 1 - 2 = omega (arith, u.low) in
    record {
      low = omega (arith, u.low);
      high = omega arith;
      best_is = eb ∙ most_same (step - 2) (relieved_by p k f) best step u.best_is (omega (arith, u.low)) (omega (arith, u.most_is)) ∙ ap (λ (x : ℕ). first_most x (relieved_by p k f)) n;
      most_is = em ∙ u.most_is ∙ ap (relieved_by p k f) (sym eb);
    }

pub tried_all : (p k f step best most : ℕ) → (p - 1) / 2 < step → Tried p k f step best most → best ≡ fewest_step p k f
unfolding fewest_step
tried_all p k f step best most h u = let n : step - 2 ≡ (p - 1) / 2 - 1 = omega (arith, u.high) in u.best_is ∙ ap (λ (x : ℕ). first_most x (relieved_by p k f)) n

pub summed_below : (p k f g x disk sum : ℕ) → f < p → Summed p k f g x disk sum → disk < p
summed_below p k f g x disk sum h u = omega (arith, u.at, mod-lt (f + g * x) {m = p} (omega arith))
