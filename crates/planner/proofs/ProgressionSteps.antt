-- The rows with a diagonal after n steps of the walk: one step more sets one place.
use mathlib.Core.Path.{◌≡◌, refl, sym, ap, ap₂, ◌∙◌}
use mathlib.Core.Bool.{Bool, ◌||◌}
use mathlib.Core.List.{List, ◌∷◌}
use Prim.Native.Nat.{ℕ, zero, suc, ◌+◌, ◌-◌, ◌*◌, ◌/◌, ◌%◌, ◌<◌}
use native.Mathlib.Nat.{mod-eq_of_lt, mod-add-mod, add-mod}
use native.Mathlib.Omega.{arith}
use lib.ListN.{set, replicate}
use borrow.Author.Tests.{eq-eqb, ne_eqb}
use Rattle.mathematics.specs.Choice.{pick}
use Rattle.liberation.specs.ReliefPlan.Relief.{in_steps, step_routes, start_row, progression_routes}
use Rattle.planner.specs.Walks.{row_after, walked}

-- before the first step every row has its row set
routes_none : (m p a g j : ℕ) → replicate m 1 ≡ step_routes m 0 p a g j
unfolding step_routes in_steps
routes_none zero p a g j = refl
routes_none (suc m) p a g j = ap (λ (rs : List ℕ). 1 ∷ rs) (routes_none m p a g (suc j))

-- rows after the one that a step comes to are as they were
routes_past : (m n p a g j : ℕ) → (a + g * suc n) % p < j → step_routes m n p a g j ≡ step_routes m (suc n) p a g j
unfolding step_routes in_steps
routes_past zero n p a g j h = refl
routes_past (suc m) n p a g j h =
    ap₂ (λ (b : Bool) (rs : List ℕ). pick (b || in_steps n p a g j) 2 1 ∷ rs) (sym (ne_eqb j ((a + g * suc n) % p) (λ e. omega arith))) (routes_past m n p a g (suc j) (omega arith))

-- a step sets the row that it comes to
routes_set : (m n p a g j i : ℕ) → j + i ≡ (a + g * suc n) % p → set (step_routes m n p a g j) i 2 ≡ step_routes m (suc n) p a g j
unfolding step_routes in_steps
routes_set zero n p a g j i e = refl
routes_set (suc m) n p a g j zero e =
    ap₂ (λ (b : Bool) (rs : List ℕ). pick (b || in_steps n p a g j) 2 1 ∷ rs) (sym (eq-eqb j ((a + g * suc n) % p) (omega arith))) (routes_past m n p a g (suc j) (omega arith))
routes_set (suc m) n p a g j (suc i) e =
    ap₂ (λ (b : Bool) (rs : List ℕ). pick (b || in_steps n p a g j) 2 1 ∷ rs) (sym (ne_eqb j ((a + g * suc n) % p) (λ q. omega arith))) (routes_set m n p a g (suc j) i (omega arith))

-- a walk that goes on by g rows at each turn
abbrev pub same : ℕ → ℕ → ℕ
same g n = g

steps_at : (p a g n : ℕ) → a < p → row_after p a (same g) n ≡ (a + g * n) % p
unfolding row_after
steps_at p a g zero l = let still : a + g * 0 ≡ a = omega arith in sym (ap (λ (x : ℕ). x % p) still ∙ mod-eq_of_lt l)
steps_at p a g (suc n) l = ap (λ (x : ℕ). (x + g) % p) (steps_at p a g n l) ∙ mod-add-mod (a + g * n) p g ∙ ap (λ (x : ℕ). x % p) (omega arith)

steps_walked : (p a g n : ℕ) → a < p → walked p a (same g) n ≡ step_routes p n p a g 0
unfolding walked row_after
steps_walked p a g zero l = routes_none p p a g 0
steps_walked p a g (suc n) l =
    ap₂ (λ (rs : List ℕ) (r : ℕ). set rs r 2) (steps_walked p a g n l) (steps_at p a g (suc n) l)
    ∙ routes_set p n p a g 0 ((a + g * suc n) % p) (omega arith)

pub progression_walked : (p f a g : ℕ) → a ≡ start_row p f → a < p → walked p a (same g) ((p - 1) / 2) ≡ progression_routes p f g
progression_walked p f a g e l = steps_walked p a g ((p - 1) / 2) l ∙ ap (λ (x : ℕ). step_routes p ((p - 1) / 2) p x g 0) e

-- twice a number round p, from its remainder
pub step_is : (p x w s : ℕ) → w ≡ x % p → s ≡ (w + w) % p → s ≡ 2 * x % p
step_is p x w s e q =
    let d : x + x ≡ 2 * x = omega arith in
    q ∙ ap (λ (n : ℕ). (n + n) % p) e ∙ sym (add-mod x x p) ∙ ap (λ (n : ℕ). n % p) d
