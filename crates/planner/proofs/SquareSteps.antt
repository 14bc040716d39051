-- The rows with a diagonal after n squares: one square more sets one place. After (p - 1)/2 squares
-- they are the routes of the balanced plan.
use mathlib.Core.Path.{◌≡◌, refl, sym, ap, ap₂, ◌∙◌}
use mathlib.Core.Bool.{Bool, true, false, ◌||◌}
use mathlib.Core.List.{List, ◌∷◌}
use Prim.Native.Nat.{ℕ, zero, suc, ◌+◌, ◌-◌, ◌*◌, ◌/◌, ◌%◌, ◌≤◌, ◌<◌}
use native.Mathlib.Nat.{mod-mod, mod-eq_of_lt, mod-add-mod}
use native.Mathlib.Omega.{arith}
use lib.Dec.{eqb}
use lib.ListN.{set, replicate, length}
use borrow.Author.Tests.{eq-eqb, ne_eqb}
use Rattle.mathematics.specs.Choice.{pick, when}
use Rattle.mathematics.proofs.Modulo.{cong_add}
use Rattle.mathematics.proofs.Primes.{Prime, add_cancel}
use Rattle.liberation.specs.Sets.{is_width}
use Rattle.liberation.proofs.Widths.{width_prime, width_odd}
use Rattle.liberation.specs.BalancedPlan.Squares.{square_to, is_square, squares_apart}
use Rattle.liberation.specs.BalancedPlan.Balanced.{minus_square, balanced_start, by_diagonal, balanced_from, balanced_routes}
use Rattle.liberation.proofs.BalancedPlan.SquareLaws.{sub_back, square_of, half_all}
use Rattle.liberation.proofs.BalancedPlan.SquareCounts.{apart_exact}
use Rattle.planner.specs.Walks.{row_after, walked}
use Rattle.planner.specs.SquareRoutes.{square_routes}

-- -1 is a square exactly if p is 1 more than a multiple of 4: of the p - 1 numbers 4 N + 2 + 2 e
-- are told by the squares that are one apart
pub minus_is : (p : ℕ) → is_width p ≡ true → minus_square p ≡ when (eqb (p % 4) 1) 1
minus_is p w = go (is_square p (p - 1)) refl
  where
    ok : Prime p
    ok = width_prime p w

    one : is_square p 1 ≡ true
    one = let l : 1 * 1 < p = omega (arith, ok.large) in ap (is_square p) (sym (mod-eq_of_lt l)) ∙ square_of p 1 (omega (arith, ok.large)) (λ e. omega (arith, e, mod-eq_of_lt {n = 1} {m = p} ok.large))

    told : (b : Bool) → is_square p (p - 1) ≡ b → 4 * squares_apart p 1 + 2 + 2 * when b 1 ≡ p - 1
    told b e = sym (ap₂ (λ (a c : Bool). 4 * squares_apart p 1 + 2 * when a 1 + 2 * when c 1) one e) ∙ apart_exact p ok (width_odd p w) 1 (omega arith) ok.large

    go : (b : Bool) → is_square p (p - 1) ≡ b → minus_square p ≡ when (eqb (p % 4) 1) 1
    go true e = ap (λ (b : Bool). when b 1) e ∙ sym (ap (λ (b : Bool). when b 1) (eq-eqb (p % 4) 1 (omega (arith, told true e, ok.large))))
    go false e = ap (λ (b : Bool). when b 1) e ∙ sym (ap (λ (b : Bool). when b 1) (ne_eqb (p % 4) 1 (λ q. omega (arith, told false e, ok.large))))

-- before the first square every row has its row set
routes_none : (m p a j : ℕ) → replicate m 1 ≡ square_routes m 0 p a j
unfolding square_routes square_to
routes_none zero p a j = refl
routes_none (suc m) p a j = ap (λ (rs : List ℕ). 1 ∷ rs) (routes_none m p a (suc j))

-- the row that is a square above a is told by it
row_here : (p a j q : ℕ) → a < p → j ≡ (a + q) % p → (j + p - a) % p ≡ q % p
row_here p a j q h e = sym (mod-mod (j + p - a) p) ∙ add_cancel p a ((j + p - a) % p) q (omega arith) (sub_back p a j (omega arith) ∙ ap (λ (x : ℕ). x % p) e ∙ mod-mod (a + q) p)

row_there : (p a j q : ℕ) → a < p → j < p → (j + p - a) % p ≡ q % p → j ≡ (a + q) % p
row_there p a j q h l e = sym (mod-eq_of_lt l) ∙ sym (sub_back p a j (omega arith)) ∙ cong_add p a a ((j + p - a) % p) q refl (mod-mod (j + p - a) p ∙ e)

-- rows after the one of the next square are as they were
routes_past : (m n p a j : ℕ) → a < p → j + m ≤ p → (a + suc n * suc n) % p < j → square_routes m n p a j ≡ square_routes m (suc n) p a j
unfolding square_routes square_to
routes_past zero n p a j l w h = refl
routes_past (suc m) n p a j l w h =
    ap₂ (λ (b : Bool) (rs : List ℕ). pick (b || square_to n p ((j + p - a) % p)) 2 1 ∷ rs) (sym (ne_eqb ((j + p - a) % p) (suc n * suc n % p) (λ e. omega (arith, row_there p a j (suc n * suc n) l (omega arith) e)))) (routes_past m n p a (suc j) l (omega arith) (omega arith))

-- the next square sets its row
routes_set : (m n p a j i : ℕ) → a < p → j + m ≤ p → j + i ≡ (a + suc n * suc n) % p → set (square_routes m n p a j) i 2 ≡ square_routes m (suc n) p a j
unfolding square_routes square_to
routes_set zero n p a j i l w e = refl
routes_set (suc m) n p a j zero l w e =
    ap₂ (λ (b : Bool) (rs : List ℕ). pick (b || square_to n p ((j + p - a) % p)) 2 1 ∷ rs) (sym (eq-eqb ((j + p - a) % p) (suc n * suc n % p) (row_here p a j (suc n * suc n) l (omega arith)))) (routes_past m n p a (suc j) l (omega arith) (omega arith))
routes_set (suc m) n p a j (suc i) l w e =
    ap₂ (λ (b : Bool) (rs : List ℕ). pick (b || square_to n p ((j + p - a) % p)) 2 1 ∷ rs) (sym (ne_eqb ((j + p - a) % p) (suc n * suc n % p) (λ q. omega (arith, row_there p a j (suc n * suc n) l (omega arith) q)))) (routes_set m n p a (suc j) i l (omega arith) (omega arith))

-- a walk that goes on by 1, 3, 5 .. rows is at the squares above row a
abbrev pub odd : ℕ → ℕ
odd n = 2 * n + 1

squares_at : (p a n : ℕ) → a < p → row_after p a odd n ≡ (a + n * n) % p
unfolding row_after
squares_at p a zero l = let still : a + 0 * 0 ≡ a = omega arith in sym (ap (λ (x : ℕ). x % p) still ∙ mod-eq_of_lt l)
squares_at p a (suc n) l = ap (λ (x : ℕ). (x + (2 * n + 1)) % p) (squares_at p a n l) ∙ mod-add-mod (a + n * n) p (2 * n + 1) ∙ ap (λ (x : ℕ). x % p) (omega arith)

pub squares_walked : (p a n : ℕ) → a < p → walked p a odd n ≡ square_routes p n p a 0
unfolding walked row_after
squares_walked p a zero l = routes_none p p a 0
squares_walked p a (suc n) l =
    ap₂ (λ (rs : List ℕ) (r : ℕ). set rs r 2) (squares_walked p a n l) (squares_at p a (suc n) l)
    ∙ routes_set p n p a 0 ((a + suc n * suc n) % p) l (omega arith) (omega arith)

-- the squares of 1 to (p - 1)/2 are all squares, so these are the routes of the balanced plan
rows_balanced : (m p f j : ℕ) → is_width p ≡ true → square_routes m ((p - 1) / 2) p (balanced_start p f) j ≡ balanced_from m p f j
unfolding square_routes balanced_from by_diagonal
rows_balanced zero p f j w = refl
rows_balanced (suc m) p f j w = ap₂ (λ (b : Bool) (rs : List ℕ). pick b 2 1 ∷ rs) (sym (half_all p (width_prime p w) (width_odd p w) ((j + p - balanced_start p f) % p))) (rows_balanced m p f (suc j) w)

pub rows_squares : (p f a : ℕ) → is_width p ≡ true → a ≡ balanced_start p f → square_routes p ((p - 1) / 2) p a 0 ≡ balanced_routes p f
rows_squares p f a ok e = ap (λ (x : ℕ). square_routes p ((p - 1) / 2) p x 0) e ∙ rows_balanced p p f 0 ok

pub routes_size : (m n p a j : ℕ) → length (square_routes m n p a j) ≡ m
unfolding square_routes
routes_size zero n p a j = refl
routes_size (suc m) n p a j = ap suc (routes_size m n p a (suc j))
