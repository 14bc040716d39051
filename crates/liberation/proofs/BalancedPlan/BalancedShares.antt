-- What each disk gives in the balanced plan, k = p: surviving data disk c gives (p + 1)/2 cells and
-- one for each square x with x - (c - f) a square too, P gives (p + 1)/2, Q gives (p - 1)/2.
-- On disk c cell (r, c) is read through its row set, where r - a is no square, or through its
-- ordinary diagonal, where r - a - (c - f) is one; an extra cell is in one of the two.
use mathlib.Core.Path.{◌≡◌, refl, sym, ap, ◌∙◌}
use mathlib.Core.Bool.{Bool, true, false, ◌&&◌, ◌||◌, not}
use mathlib.Core.Logic.{◌⊎◌, inl, inr, ⊎_elim}
use Prim.Native.Nat.{ℕ, suc, ◌+◌, ◌-◌, ◌*◌, ◌/◌, ◌%◌, ◌≤◌, ◌<◌}
use native.Mathlib.Nat.{mod-lt, mod-mod}
use native.Mathlib.Omega.{arith}
use Rattle.mathematics.specs.Choice.{when}
use Rattle.mathematics.proofs.ChoiceLaws.{when_most}
use Rattle.mathematics.proofs.Modulo.{cong_add, small_eq}
use Rattle.mathematics.proofs.OrderLaws.{eq_or_ne}
use Rattle.mathematics.proofs.Primes.{Prime, add_cancel}
use Rattle.mathematics.proofs.SumLaws.{sum_ext, sum_add, sum_const}
use Rattle.mathematics.proofs.ShiftLaws.{sum_shifted}
use Rattle.liberation.specs.Claims.{full_disk}
use Rattle.liberation.proofs.Widths.{width_prime, width_odd, width_least}
use Rattle.liberation.proofs.UsedLaws.{named, named_numbers}
use Rattle.liberation.proofs.AcceptedLaws.{accepted_named}
use Rattle.liberation.proofs.PartLaws.{disk_cases, full_data, full_range}
use Rattle.liberation.specs.BalancedPlan.Squares.{is_square, squares, squares_apart}
use Rattle.liberation.specs.BalancedPlan.Balanced.{balanced_start, by_diagonal, balanced_routes, balanced_plan, reads_of, fair_share, PlansBalanced, PlansBalancedPart}
use Rattle.liberation.proofs.BalancedPlan.SquareLaws.{sub_back}
use Rattle.liberation.proofs.BalancedPlan.SquareCounts.{squares_count, apart_exact}
use Rattle.liberation.proofs.BalancedPlan.BalancedPlan.{start_below, balanced_size, balanced_route, balanced_data, balanced_parity, balanced_accepted, full_accepted, apart, balanced_diagonals, balanced_count, balanced_best}
use Rattle.liberation.proofs.BalancedPlan.RouteShares.{route_share}
use Rattle.liberation.proofs.BalancedPlan.Shares.{reads_lost, reads_Q, reads_part, reads_parity, busiest}

-- a cell's row, seen from the lost disk: (r - c + f) - a is (r - a) - (c - f)
seen : (p a c f r z d x u v : ℕ) → 0 < p → (c + z) % p ≡ r % p → (f + d) % p ≡ c % p → (a + x) % p ≡ r % p → (a + u) % p ≡ (z + f) % p → (d + v) % p ≡ x % p → u % p ≡ v % p
seen p a c f r z d x u v h ez ed ex eu ev =
    add_cancel p (a + c + d) u v h
    (ap (λ (y : ℕ). y % p) (omega arith)
    ∙ cong_add p (a + u) (z + f) (c + d) (c + d) eu refl
    ∙ ap (λ (y : ℕ). y % p) (omega arith)
    ∙ cong_add p (c + z) r (f + d) c ez ed
    ∙ sym (cong_add p (a + x) r c c ex refl)
    ∙ ap (λ (y : ℕ). y % p) (omega arith)
    ∙ sym (cong_add p (d + v) x (a + c) (a + c) ev refl)
    ∙ ap (λ (y : ℕ). y % p) (omega arith))

-- the cells read by row sets and by diagonals, from those that are both squares
counted : (s t : Bool) → when (not s || t) 1 + when s 1 ≡ 1 + when (s && t) 1
counted true true = refl
counted true false = refl
counted false t = refl

module _ (p f : ℕ) (ok : Prime p) (odd : p % 2 ≡ 1) (h : f < p) where
  some : 0 < p
  some = omega arith

  a : ℕ
  a = balanced_start p f

  a_below : a < p
  unfolding a
  a_below = start_below p f some

  ok_named : named p (balanced_plan p p f) ≡ true
  ok_named = accepted_named p p f (balanced_plan p p f) (full_accepted p f odd h)

  -- Q and P
  pub balanced_Q : reads_of p p f (suc p) (balanced_plan p p f) ≡ (p - 1) / 2
  balanced_Q = reads_Q p p f (balanced_plan p p f) ok_named (λ e. omega arith) ∙ balanced_diagonals p f ok odd h

  pub balanced_P : reads_of p p f p (balanced_plan p p f) ≡ (p + 1) / 2
  balanced_P = omega (arith, balanced_Q, reads_parity p f h (balanced_plan p p f) (full_accepted p f odd h))

  -- a surviving data disk
  module _ (c : ℕ) (l : c < p) (n : c ≡ f → ⊥) where
    -- c - f
    d : ℕ
    d = (c + p - f) % p

    d_below : d < p
    unfolding d
    d_below = mod-lt (c + p - f) some

    d_back : (f + d) % p ≡ c % p
    unfolding d
    d_back = sub_back p f c (omega arith)

    d_positive : 0 < d
    d_positive = ⊎_elim (λ e. absurd (n (sym (small_eq p f c h l (ap (λ (x : ℕ). x % p) (omega arith) ∙ d_back))))) (λ e. omega arith) (eq_or_ne d 0)

    -- what the diagonal's row on disk f is above a: d less than what row r is
    lower : (r : ℕ) → (((r + p - c) % p + f) % p + p - a) % p ≡ ((r + p - a) % p + p - d) % p
    lower r =
        let z = (r + p - c) % p in
        let x = (r + p - a) % p in
        let u = ((z + f) % p + p - a) % p in
        let v = (x + p - d) % p in
        small_eq p u v (mod-lt ((z + f) % p + p - a) some) (mod-lt (x + p - d) some)
        (seen p a c f r z d x u v some
        (sub_back p c r (omega arith))
        d_back
        (sub_back p a r (omega (arith, a_below)))
        (sub_back p a ((z + f) % p) (omega (arith, a_below)) ∙ mod-mod (z + f) p)
        (sub_back p d x (omega (arith, d_below))))

    -- the cell is read through its row set or through its diagonal
    flag_at : (r : ℕ) → (not (by_diagonal p f r) || by_diagonal p f (((r + p - c) % p + f) % p)) ≡ (not (is_square p ((r + (p - a)) % p)) || is_square p (((r + (p - a)) % p + p - d) % p))
    unfolding by_diagonal a
    flag_at r =
        let k = a_below in
        let q : r + p - a ≡ r + (p - a) = omega arith in
        ap (λ (y : ℕ). not (is_square p ((r + p - a) % p)) || is_square p y) (lower r) ∙ ap (λ (y : ℕ). not (is_square p (y % p)) || is_square p ((y % p + p - d) % p)) q

    -- (p + 1)/2 and one for each square that is d above a square
    pub balanced_share : reads_of p p f c (balanced_plan p p f) ≡ (p + 1) / 2 + squares_apart p ((c + p - f) % p)
    unfolding squares squares_apart d
    balanced_share =
        omega (
          arith,
          ap (reads_of p p f c) (balanced_data p p f h) ∙ route_share p f odd h (balanced_routes p f) (balanced_size p f) (by_diagonal p f) (balanced_route p f) (apart p f ok odd h) c l n,
          sum_ext p (λ r. when (not (by_diagonal p f r) || by_diagonal p f (((r + p - c) % p + f) % p)) 1) (λ r. when (not (is_square p ((r + (p - a)) % p)) || is_square p (((r + (p - a)) % p + p - d) % p)) 1) (λ r m. ap (λ (b : Bool). when b 1) (flag_at r)),
          sum_shifted p (p - a) some (λ y. when (not (is_square p y) || is_square p ((y + p - d) % p)) 1),
          sum_ext p (λ y. when (not (is_square p y) || is_square p ((y + p - d) % p)) 1 + when (is_square p y) 1) (λ y. 1 + when (is_square p y && is_square p ((y + p - d) % p)) 1) (λ y m. counted (is_square p y) (is_square p ((y + p - d) % p))),
          sum_add p (λ y. when (not (is_square p y) || is_square p ((y + p - d) % p)) 1) (λ y. when (is_square p y) 1),
          sum_add p (λ y. 1) (λ y. when (is_square p y && is_square p ((y + p - d) % p)) 1),
          sum_const p 1,
          squares_count p ok odd,
        )

    -- 4 times that: 3 p + 1, less 2 for each of d and -d that is a square
    pub balanced_share_exact : 4 * reads_of p p f c (balanced_plan p p f) + 2 * when (is_square p ((c + p - f) % p)) 1 + 2 * when (is_square p (p - (c + p - f) % p)) 1 ≡ 3 * p + 1
    unfolding d
    balanced_share_exact = omega (arith, balanced_share, apart_exact p ok odd ((c + p - f) % p) d_positive d_below)

  -- no disk gives more than the fair share
  pub balanced_shares : (c : ℕ) → c < p + 2 → reads_of p p f c (balanced_plan p p f) ≤ fair_share p
  balanced_shares c l = go (disk_cases p c (omega arith))
    where
      go : (c < p) ⊎ ((c ≡ p) ⊎ (c ≡ suc p)) → reads_of p p f c (balanced_plan p p f) ≤ fair_share p
      go (inl m) = ⊎_elim (λ e. omega (arith, ap (λ (x : ℕ). reads_of p p f x (balanced_plan p p f)) e, reads_lost p p f (balanced_plan p p f))) (λ n. omega (arith, balanced_share_exact c m n)) (eq_or_ne c f)
      go (inr (inl e)) = omega (arith, ap (λ (x : ℕ). reads_of p p f x (balanced_plan p p f)) e, balanced_P)
      go (inr (inr e)) = omega (arith, ap (λ (x : ℕ). reads_of p p f x (balanced_plan p p f)) e, balanced_Q)

  -- and two surviving data disks differ by one cell at most
  pub evenly : (c d : ℕ) → c < p → d < p → (c ≡ f → ⊥) → (d ≡ f → ⊥) → reads_of p p f c (balanced_plan p p f) ≤ reads_of p p f d (balanced_plan p p f) + 1
  evenly c d l m n o =
      omega (
        arith,
        balanced_share_exact c l n,
        balanced_share_exact d m o,
        when_most (is_square p ((d + p - f) % p)),
        when_most (is_square p (p - (d + p - f) % p)),
      )

-- all that is claimed of the balanced plan
pub plans_balanced : PlansBalanced
plans_balanced p f w h =
    let ok = width_prime p w in
    let odd = width_odd p w in
    record {
      balanced_accepted = full_accepted p f odd h;
      balanced_best = balanced_best p f ok odd h;
      balanced_count = balanced_count p f ok odd h;
      balanced_shares = balanced_shares p f ok odd h;
      evenly = evenly p f ok odd h;
      busiest = busiest p f odd (width_least p w) h;
    }

-- in a part-filled array the disks present give what they give in the full one
pub plans_balanced_part : PlansBalancedPart
plans_balanced_part p k f w most h = record { balanced_accepted = balanced_accepted p k f w most h; balanced_shares = shares; parity = balanced_parity p k f }
  where
    shares : f < k → (c : ℕ) → c < k + 2 → reads_of p k f c (balanced_plan p k f) ≤ fair_share p
    shares l c m =
        let odd = width_odd p w in
        let full : f < p = omega arith in
        omega (
          arith,
          ap (reads_of p k f c) (balanced_data p k f l ∙ sym (balanced_data p p f full))
              ∙ reads_part p k f c most (omega arith) (balanced_plan p p f) (named_numbers p (balanced_plan p p f) (accepted_named p p f (balanced_plan p p f) (full_accepted p f odd full)))
              ∙ ap (λ (x : ℕ). reads_of p p x (full_disk p k c) (balanced_plan p p f)) (full_data p k f l),
          balanced_shares p f (width_prime p w) odd full (full_disk p k c) (omega (arith, full_range p k most c (omega arith))),
        )
