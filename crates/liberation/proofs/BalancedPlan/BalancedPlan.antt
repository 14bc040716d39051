-- The balanced plan is accepted, in every array, and is one of the best: it has (p - 1)/2
-- diagonals, rebuilds no cell through an extra cell, and no extra cell of a used diagonal is in no
-- other used set.
-- The last is where the squares count. The extra cell of D z is in row p - 1 - z and on D (z - 1).
-- With s, m and w for what the rows of D z, p - 1 - z and
-- D (z - 1) are above a, s + m = e and w + 1 = s mod p; so where s and m are squares, -1 is one,
-- hence e = 1, w = -m, and w is a square.
use mathlib.Core.Path.{◌≡◌, refl, sym, ap, ◌∙◌}
use mathlib.Core.Bool.{Bool, true, false, ◌||◌, not}
use mathlib.Core.Logic.{⊎_elim}
use mathlib.Core.List.{List, ◌++◌}
use Prim.Native.Nat.{ℕ, ◌+◌, ◌-◌, ◌*◌, ◌/◌, ◌%◌, ◌≤◌, ◌<◌}
use native.Mathlib.Nat.{mod-lt, mod-eq_of_lt, mod-mod, mod-add-mod, add-mod_right}
use native.Mathlib.Omega.{arith}
use lib.Dec.{eqb}
use lib.ListN.{length, get_or}
use borrow.Author.Tests.{lt-ltb, le-ltb}
use Rattle.mathematics.specs.Choice.{pick, when}
use Rattle.mathematics.specs.Sums.{sum_to}
use Rattle.mathematics.proofs.Flags.{clash}
use Rattle.mathematics.proofs.ChoiceLaws.{when_most}
use Rattle.mathematics.proofs.Modulo.{cong_add}
use Rattle.mathematics.proofs.OrderLaws.{lt_or_le}
use Rattle.mathematics.proofs.Primes.{Prime, add_cancel}
use Rattle.mathematics.proofs.SumLaws.{sum_ext}
use Rattle.mathematics.proofs.ShiftLaws.{sum_shifted}
use Rattle.mathematics.proofs.Walks.{Walk, walk_long, walk_at}
use Rattle.liberation.specs.Sets.{is_width}
use Rattle.liberation.specs.Plans.{Step, row_steps, diagonal_steps, all_of, plan_of, read_count}
use Rattle.liberation.specs.Judging.{accepted}
use Rattle.liberation.specs.Claims.{diagonals_used, is_best}
use Rattle.liberation.proofs.Widths.{width_odd}
use Rattle.liberation.proofs.RouteLaws.{second_row_lem}
use Rattle.liberation.proofs.RowSteps.{steps_of, steps_accepted}
use Rattle.liberation.proofs.ParityPlans.{plan_parity}
use Rattle.liberation.proofs.PartLaws.{full_data, accepted_part}
use Rattle.liberation.proofs.PartPlans.{plan_accepted}
use Rattle.liberation.specs.BalancedPlan.Squares.{is_square, squares}
use Rattle.liberation.specs.BalancedPlan.Balanced.{minus_square, balanced_start, by_diagonal, balanced_from, balanced_routes, balanced_plan}
use Rattle.liberation.proofs.BalancedPlan.SquareLaws.{sub_back, square_turned, square_apart}
use Rattle.liberation.proofs.BalancedPlan.SquareCounts.{squares_count}
use Rattle.liberation.proofs.BalancedPlan.RouteShares.{diagonals_count, half_count, half_best}

pub start_below : (p f : ℕ) → 0 < p → balanced_start p f < p
start_below p f h = mod-lt _ h

-- the routes one by one
balanced_rows : (p f : ℕ) → Walk (λ j. pick (by_diagonal p f j) 2 1) (λ n j. balanced_from n p f j)
unfolding balanced_from
balanced_rows p f = record { none = λ j. refl; next = λ n j. refl }

pub balanced_size : (p f : ℕ) → length (balanced_routes p f) ≡ p
balanced_size p f = walk_long (balanced_rows p f) p 0

pub balanced_route : (p f j : ℕ) → j < p → eqb (get_or (balanced_routes p f) j 0) 2 ≡ by_diagonal p f j
balanced_route p f j h = let e : 0 + j ≡ j = omega arith in ap (λ (r : ℕ). eqb r 2) (walk_at (balanced_rows p f) p 0 j h ∙ ap (λ (i : ℕ). pick (by_diagonal p f i) 2 1) e) ∙ go (by_diagonal p f j)
  where
    go : (b : Bool) → eqb (pick b 2 1) 2 ≡ b
    go true = refl
    go false = refl

-- the plan for a data disk, and for P or Q
pub balanced_data : (p k f : ℕ) → f < k → balanced_plan p k f ≡ steps_of p f (balanced_routes p f)
unfolding balanced_plan
balanced_data p k f h = ap (λ (b : Bool). pick b (row_steps 0 (balanced_routes p f) ++ diagonal_steps p f 0 (balanced_routes p f)) (all_of p (f - k) 0)) (lt-ltb f k h)

pub balanced_parity : (p k f : ℕ) → k ≤ f → balanced_plan p k f ≡ plan_of p k f
unfolding balanced_plan
balanced_parity p k f h = ap (λ (b : Bool). pick b (row_steps 0 (balanced_routes p f) ++ diagonal_steps p f 0 (balanced_routes p f)) (all_of p (f - k) 0)) (le-ltb f k h) ∙ sym (plan_parity p k f h)

-- accepted, as every plan with row sets first and diagonals after is
pub full_accepted : (p f : ℕ) → p % 2 ≡ 1 → f < p → accepted p p f (balanced_plan p p f) ≡ true
full_accepted p f odd h = ap (accepted p p f) (balanced_data p p f h) ∙ steps_accepted p f odd h (balanced_routes p f) (balanced_size p f)

-- and so in every array
pub balanced_accepted : (p k f : ℕ) → is_width p ≡ true → k ≤ p → f ≤ k + 1 → accepted p k f (balanced_plan p k f) ≡ true
balanced_accepted p k f w most h = ⊎_elim data_disk (λ l. ap (accepted p k f) (balanced_parity p k f l) ∙ plan_accepted p k f w most h) (lt_or_le f k)
  where
    data_disk : f < k → accepted p k f (balanced_plan p k f) ≡ true
    data_disk l =
        ap (accepted p k f) (balanced_data p k f l ∙ sym (balanced_data p p f (omega arith)))
        ∙ accepted_part p k most f h (balanced_plan p p f)
        ∙ ap (λ (d : ℕ). accepted p p d (balanced_plan p p f)) (full_data p k f l)
        ∙ full_accepted p f (width_odd p w) (omega arith)

module _ (p f : ℕ) (ok : Prime p) (odd : p % 2 ≡ 1) (h : f < p) where
  a : ℕ
  a = balanced_start p f

  e : ℕ
  e = minus_square p

  some : 0 < p
  some = omega arith

  a_below : a < p
  unfolding a
  a_below = start_below p f some

  -- 2 a + 1 + e is f
  start : (2 * a + 1 + e) % p ≡ f
  unfolding a e
  start =
      let few : e ≤ 1 = when_most (is_square p (p - 1)) in
      let l : g < p = mod-lt (f + p - 1 - e) some in
      let whole : f + p - 1 - e + (1 + e) ≡ f + p = omega (arith, ok.large) in
      let end : (g + (1 + e)) % p ≡ f = mod-add-mod (f + p - 1 - e) p (1 + e) ∙ ap (λ (x : ℕ). x % p) whole ∙ add-mod_right f p ∙ mod-eq_of_lt h in
      ⊎_elim
      (λ q. ap (λ (x : ℕ). x % p) (omega arith) ∙ end)
      (λ q. ap (λ (x : ℕ). x % p) (omega arith) ∙ add-mod_right (g + (1 + e)) p ∙ end)
      (second_row_lem p g odd l)
    where
      g : ℕ
      g = (f + p - 1 - e) % p

  -- how far row r is above a
  above : ℕ → ℕ
  above r = (r + p - a) % p

  above_below : (r : ℕ) → above r < p
  unfolding above
  above_below r = mod-lt (r + p - a) some

  above_back : (r : ℕ) → (a + above r) % p ≡ r % p
  unfolding above
  above_back r = sub_back p a r (omega (arith, a_below))

  module _ (z : ℕ) (low : 1 ≤ z) (high : z < p) where
    s : ℕ
    s = above ((z + f) % p)

    m : ℕ
    m = above (p - 1 - z)

    w : ℕ
    w = above ((z - 1 + f) % p)

    -- s + m is e
    sum_rows : (s + m) % p ≡ e % p
    unfolding s m
    sum_rows =
        let q : z + f + (p - 1 - z) + 1 ≡ f + p = omega arith in
        add_cancel p (2 * a + 1) (s + m) e some
        (ap (λ (x : ℕ). x % p) (omega arith)
        ∙ cong_add p (a + s + (a + m)) (z + f + (p - 1 - z)) 1 1 (cong_add p (a + s) (z + f) (a + m) (p - 1 - z) (above_back ((z + f) % p) ∙ mod-mod (z + f) p) (above_back (p - 1 - z))) refl
        ∙ ap (λ (x : ℕ). x % p) q
        ∙ add-mod_right f p
        ∙ mod-eq_of_lt h
        ∙ sym start)

    -- w + 1 is s
    next_row_lem : (w + 1) % p ≡ s % p
    unfolding s w
    next_row_lem =
        let q : z - 1 + f + 1 ≡ z + f = omega arith in
        add_cancel p a (w + 1) s some
        (ap (λ (x : ℕ). x % p) (omega arith)
        ∙ cong_add p (a + w) (z - 1 + f) 1 1 (above_back ((z - 1 + f) % p) ∙ mod-mod (z - 1 + f) p) refl
        ∙ ap (λ (x : ℕ). x % p) q
        ∙ sym (above_back ((z + f) % p) ∙ mod-mod (z + f) p))

    -- so where e is 1, w is -m
    turned : e ≡ 1 → (m + w) % p ≡ 0
    turned q =
        add_cancel p 1 (m + w) 0 some
        (ap (λ (x : ℕ). x % p) (omega arith)
        ∙ cong_add p (w + 1) s m m next_row_lem refl
        ∙ sum_rows
        ∙ ap (λ (x : ℕ). x % p) (omega arith))
        ∙ mod-eq_of_lt some

    -- the row of the extra cell has its row set, or D (z - 1) is used
    held : is_square p s ≡ true → (not (is_square p m) || is_square p w) ≡ true
    unfolding e w
    held hs = go (is_square p m) (is_square p (p - 1)) refl refl
      where
        go : (b c : Bool) → is_square p m ≡ b → is_square p (p - 1) ≡ c → (not b || is_square p w) ≡ true
        go false c hm hc = refl
        go true true hm hc = square_turned p ok m w (above_below ((z - 1 + f) % p)) (turned (ap (λ (b : Bool). when b 1) hc)) hc hm
        go true false hm hc = clash (is_square p (p - 1)) (square_apart p ok s m (sum_rows ∙ ap (λ (b : Bool). when b 1 % p) hc ∙ mod-eq_of_lt some) hs hm) hc

  -- the rows with a diagonal are as many as the squares
  pub rows_count : sum_to p (λ j. when (by_diagonal p f j) 1) ≡ (p - 1) / 2
  unfolding by_diagonal squares a e
  rows_count =
      let l = a_below in
      sum_ext p (λ j. when (by_diagonal p f j) 1) (λ j. when (is_square p ((j + (p - a)) % p)) 1) (λ j m. let q : j + p - a ≡ j + (p - a) = omega arith in ap (λ (x : ℕ). when (is_square p (x % p)) 1) q)
      ∙ sum_shifted p (p - a) some (λ x. when (is_square p x) 1)
      ∙ squares_count p ok odd

  -- in every row of an extra cell
  pub apart : (z : ℕ) → 1 ≤ z → z < p → by_diagonal p f ((z + f) % p) ≡ true → (not (by_diagonal p f (p - 1 - z)) || by_diagonal p f ((z - 1 + f) % p)) ≡ true
  unfolding by_diagonal s m w above a e
  apart z low high t = held z low high t

  pub balanced_diagonals : diagonals_used p (balanced_plan p p f) ≡ (p - 1) / 2
  balanced_diagonals = ap (diagonals_used p) (balanced_data p p f h) ∙ diagonals_count p f odd h (balanced_routes p f) (balanced_size p f) (by_diagonal p f) (balanced_route p f) ∙ rows_count

  -- so it reads (3p² + 1)/4 cells
  pub balanced_count : 4 * read_count p p f (balanced_plan p p f) ≡ 3 * (p * p) + 1
  balanced_count = ap (λ (us : List Step). 4 * read_count p p f us) (balanced_data p p f h) ∙ half_count p f odd h (balanced_routes p f) (balanced_size p f) (by_diagonal p f) (balanced_route p f) apart rows_count

  -- and is one of the best
  pub balanced_best : is_best p p f (balanced_plan p p f) ≡ true
  balanced_best = ap (is_best p p f) (balanced_data p p f h) ∙ half_best p f odd h (balanced_routes p f) (balanced_size p f) (by_diagonal p f) (balanced_route p f) apart rows_count (omega (arith, ok.large))
