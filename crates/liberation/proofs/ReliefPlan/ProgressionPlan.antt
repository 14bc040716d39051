-- The progression plan with any step g: accepted in every array, and what each disk gives and what
-- is read in all.
-- The row of the extra cell of D z, and the row of D z on the lost disk, are together 2a; so they
-- are places x and -x of the walk a, a + g, a + 2g, .., and not both from 1 to h: the one with the
-- extra cell has its row set.
use mathlib.Core.Path.{◌≡◌, refl, sym, ap, ap₂, ◌∙◌}
use mathlib.Core.Bool.{Bool, true, false, ◌&&◌, ◌||◌, not}
use mathlib.Core.Logic.{⊎_elim}
use mathlib.Core.List.{List, ◌++◌}
use Prim.Native.Nat.{ℕ, suc, ◌+◌, ◌-◌, ◌*◌, ◌/◌, ◌%◌, ◌≤◌, ◌<◌}
use native.Mathlib.Nat.{mod-lt, mod-eq_of_lt, mod-mod, mod-add-mod, add-mod_right, mul_comm, mul-mod_right}
use native.Mathlib.Omega.{arith}
use lib.Dec.{eqb}
use lib.ListN.{length, get_or}
use borrow.Author.Tests.{eq-eqb, ne_eqb, lt-ltb, le-ltb, le-leb}
use Rattle.mathematics.specs.Choice.{pick, when}
use Rattle.mathematics.specs.Sums.{sum_to}
use Rattle.mathematics.proofs.Flags.{flag}
use Rattle.mathematics.proofs.Modulo.{mul_mod_r, cong_add, cong_mul}
use Rattle.mathematics.proofs.OrderLaws.{eq_or_ne}
use Rattle.mathematics.proofs.Primes.{Prime, add_cancel, cancel, visits}
use Rattle.mathematics.proofs.SumLaws.{sum_suc, sum_ext, sum_add, sum_const}
use Rattle.mathematics.proofs.ShiftLaws.{sum_at}
use Rattle.mathematics.proofs.TestLaws.{in_range}
use Rattle.mathematics.proofs.Walks.{Walk, walk_long, walk_at}
use Rattle.liberation.specs.Plans.{Step, row_steps, diagonal_steps, all_of, read_count}
use Rattle.liberation.specs.Judging.{accepted}
use Rattle.liberation.specs.Claims.{diagonals_used, is_best}
use Rattle.liberation.proofs.Widths.{width_prime, width_odd, width_least}
use Rattle.liberation.proofs.UsedLaws.{named, named_numbers}
use Rattle.liberation.proofs.AcceptedLaws.{accepted_named, used_total}
use Rattle.liberation.proofs.RouteLaws.{second_row_lem}
use Rattle.liberation.proofs.RowSteps.{steps_of, steps_accepted}
use Rattle.liberation.proofs.ParityPlans.{plan_parity}
use Rattle.liberation.proofs.PartLaws.{full_data, accepted_part}
use Rattle.liberation.proofs.Demand3.{ours_count, least}
use Rattle.liberation.specs.BalancedPlan.Balanced.{reads_of}
use Rattle.liberation.proofs.BalancedPlan.SquareLaws.{sub_back}
use Rattle.liberation.proofs.BalancedPlan.Shares.{reads_lost, reads_P, reads_Q, reads_total, reads_part}
use Rattle.liberation.specs.ReliefPlan.Relief.{in_steps, step_routes, start_row, progression_routes, progression_plan, distance, PlansProgression, ParityOurs}
use Rattle.liberation.proofs.ReliefPlan.ProgressionLaws.{range_of, range_count, overlap_count, sum_walk, in_steps_lem}
use Rattle.liberation.proofs.BalancedPlan.RouteShares.{diagonals_count, half_count, half_best, route_share}

-- the routes one by one
pub step_rows : (n p a g : ℕ) → Walk (λ j. pick (in_steps n p a g j) 2 1) (λ m j. step_routes m n p a g j)
unfolding step_routes
step_rows n p a g = record { none = λ j. refl; next = λ m j. refl }

pub step_route : (n p a g j : ℕ) → j < p → get_or (step_routes p n p a g 0) j 0 ≡ pick (in_steps n p a g j) 2 1
step_route n p a g j h = let e : 0 + j ≡ j = omega arith in walk_at (step_rows n p a g) p 0 j h ∙ ap (λ (i : ℕ). pick (in_steps n p a g i) 2 1) e

pub step_size : (n p a g : ℕ) → length (step_routes p n p a g 0) ≡ p
step_size n p a g = walk_long (step_rows n p a g) p 0

-- the plan for a data disk, and for P or Q
pub progression_data : (p k f g : ℕ) → f < k → progression_plan p k f g ≡ steps_of p f (progression_routes p f g)
unfolding progression_plan
progression_data p k f g h = ap (λ (b : Bool). pick b (row_steps 0 (progression_routes p f g) ++ diagonal_steps p f 0 (progression_routes p f g)) (all_of p (f - k) 0)) (lt-ltb f k h)

pub progression_parity : ParityOurs
unfolding progression_plan
progression_parity p k f g h = ap (λ (b : Bool). pick b (row_steps 0 (progression_routes p f g) ++ diagonal_steps p f 0 (progression_routes p f g)) (all_of p (f - k) 0)) (le-ltb f k h) ∙ sym (plan_parity p k f h)

-- 2 a + 1 is f
start : (p f : ℕ) → p % 2 ≡ 1 → f < p → (2 * start_row p f + 1) % p ≡ f
start p f odd h =
    let l : g < p = mod-lt (f + p - 1) (omega arith) in
    let whole : f + p - 1 + 1 ≡ f + p = omega arith in
    let end : (g + 1) % p ≡ f = mod-add-mod (f + p - 1) p 1 ∙ ap (λ (x : ℕ). x % p) whole ∙ add-mod_right f p ∙ mod-eq_of_lt h in
    ⊎_elim
    (λ q. ap (λ (x : ℕ). x % p) (omega arith) ∙ end)
    (λ q. ap (λ (x : ℕ). x % p) (omega arith) ∙ add-mod_right (g + 1) p ∙ end)
    (second_row_lem p g odd l)
  where
    g : ℕ
    g = (f + p - 1) % p

-- row r is place x of the walk, e further than place y, and disk c is e steps from f: then the row
-- of its diagonal on disk f is place y
seen : (p a g c f e x y r z : ℕ) → 0 < p → (c + z) % p ≡ r % p → (f + g * e) % p ≡ c % p → (e + y) % p ≡ x % p → r % p ≡ (a + g * x) % p → (z + f) % p ≡ (a + g * y) % p
seen p a g c f e x y r z h ez ec ey er =
    add_cancel p c (z + f) (a + g * y) h
    (ap (λ (u : ℕ). u % p) (omega arith)
    ∙ cong_add p (c + z) (a + g * x) f f (ez ∙ er) refl
    ∙ cong_add p (a + g * x) (a + g * (e + y)) f f (cong_add p a a (g * x) (g * (e + y)) refl (cong_mul p g g x (e + y) refl (sym ey))) refl
    ∙ ap (λ (u : ℕ). u % p) (omega arith)
    ∙ cong_add p (f + g * e) c (a + g * y) (a + g * y) ec refl)

-- the cells read by row sets and by diagonals, from those that are both
counted : (s t : Bool) → when (not s || t) 1 + when s 1 ≡ 1 + when (s && t) 1
counted true true = refl
counted true false = refl
counted false t = refl

module _ (p f g : ℕ) (ok : Prime p) (odd : p % 2 ≡ 1) (h : f < p) (low : 0 < g) (high : g < p) where
  some : 0 < p
  some = omega arith

  n : ℕ
  n = (p - 1) / 2

  n_half : p ≡ 2 * n + 1
  unfolding n
  n_half = omega arith

  a : ℕ
  a = start_row p f

  rs : List ℕ
  rs = progression_routes p f g

  T : ℕ → Bool
  T j = in_steps n p a g j

  rs_size : length rs ≡ p
  unfolding rs
  rs_size = step_size ((p - 1) / 2) p (start_row p f) g

  told : (j : ℕ) → j < p → eqb (get_or rs j 0) 2 ≡ T j
  unfolding rs T n a
  told j l = ap (λ (r : ℕ). eqb r 2) (step_route ((p - 1) / 2) p (start_row p f) g j l) ∙ go (in_steps ((p - 1) / 2) p (start_row p f) g j)
    where
      go : (b : Bool) → eqb (pick b 2 1) 2 ≡ b
      go true = refl
      go false = refl

  -- place x of the walk has a diagonal exactly if x is from 1 to n
  at_place : (x : ℕ) → x < p → T ((a + g * x) % p) ≡ in_range 1 n x
  unfolding T
  at_place x l = in_steps_lem p ok a g low high n x (omega (arith, n_half)) l

  rows_count : sum_to p (λ j. when (T j) 1) ≡ n
  rows_count =
      sym (sum_walk p ok a g low high (λ j. when (T j) 1))
      ∙ sum_ext p (λ x. when (T ((a + g * x) % p)) 1) (λ x. when (in_range 1 n x) 1) (λ x l. ap (λ (b : Bool). when b 1) (at_place x l))
      ∙ range_count p 1 n (omega (arith, n_half))

  -- the row of D z and that of its extra cell are opposite places, so they have not both a diagonal
  apart : (z : ℕ) → 1 ≤ z → z < p → T ((z + f) % p) ≡ true → (not (T (p - 1 - z)) || T ((z - 1 + f) % p)) ≡ true
  unfolding a
  apart z l m t = go (visits p ok a g ((z + f) % p) low high (mod-lt (z + f) some)) (visits p ok a g (p - 1 - z) low high (omega arith))
    where
      opposite : (x y : ℕ) → (a + g * x) % p ≡ (z + f) % p → (a + g * y) % p ≡ p - 1 - z → (x + y) % p ≡ 0
      opposite x y ex ey =
          let q : z + f + (p - 1 - z) + 1 ≡ f + p = omega arith in
          let zero-last : 2 * a + 1 + g * 0 ≡ 2 * a + 1 = omega arith in
          cancel p ok g (x + y) 0 low high
          (add_cancel p (2 * a + 1) (g * (x + y)) (g * 0) some
          (ap (λ (u : ℕ). u % p) (omega arith)
          ∙ cong_add p (a + g * x + (a + g * y)) (z + f + (p - 1 - z)) 1 1 (cong_add p (a + g * x) (z + f) (a + g * y) (p - 1 - z) ex (ey ∙ sym (mod-eq_of_lt (omega arith)))) refl
          ∙ ap (λ (u : ℕ). u % p) q
          ∙ add-mod_right f p
          ∙ mod-eq_of_lt h
          ∙ sym (start p f odd h)
          ∙ ap (λ (u : ℕ). u % p) (sym zero-last)))
          ∙ mod-eq_of_lt some

      clear : (x y : ℕ) → x < p → y < p → (a + g * x) % p ≡ (z + f) % p → (a + g * y) % p ≡ p - 1 - z → T (p - 1 - z) ≡ true → ⊥
      clear x y hx hy ex ey s =
          let r = range_of 1 n x (sym (at_place x hx) ∙ ap T ex ∙ t) in
          let q = range_of 1 n y (sym (at_place y hy) ∙ ap T ey ∙ s) in
          omega (arith, r.0, r.1, q.0, q.1, n_half, opposite x y ex ey, mod-eq_of_lt {n = x + y} {m = p} (omega (arith, n_half, r.1, q.1)))

      go : ((x : ℕ) × (x < p) × ((a + g * x) % p ≡ (z + f) % p)) → ((y : ℕ) × (y < p) × ((a + g * y) % p ≡ p - 1 - z)) → (not (T (p - 1 - z)) || T ((z - 1 + f) % p)) ≡ true
      go v w =
          ⊎_elim
          (λ s. absurd (clear v.0 w.0 v.1 w.1 v.2 w.2 s))
          (λ s. ap (λ (b : Bool). not b || T ((z - 1 + f) % p)) s)
          (flag (T (p - 1 - z)))

  pub full_accepted : accepted p p f (steps_of p f (progression_routes p f g)) ≡ true
  unfolding rs
  full_accepted = steps_accepted p f odd h rs rs_size

  pub full_diagonals : diagonals_used p (steps_of p f (progression_routes p f g)) ≡ (p - 1) / 2
  unfolding rs n
  full_diagonals = diagonals_count p f odd h rs rs_size T told ∙ rows_count

  pub full_count : 4 * read_count p p f (steps_of p f (progression_routes p f g)) ≡ 3 * (p * p) + 1
  unfolding rs n
  full_count = half_count p f odd h rs rs_size T told apart rows_count

  pub full_best : 3 ≤ p → is_best p p f (steps_of p f (progression_routes p f g)) ≡ true
  unfolding rs n
  full_best large = half_best p f odd h rs rs_size T told apart rows_count large

  -- disk c, e steps of g from f, gives p less min(e, p - e) cells
  pub full_share : (c e : ℕ) → c < p → (c ≡ f → ⊥) → e < p → (f + g * e) % p ≡ c → reads_of p p f c (steps_of p f (progression_routes p f g)) + distance p e ≡ p
  unfolding rs
  full_share c e hc other he ec =
      omega (
        arith,
        route_share p f odd h rs rs_size T told apart c hc other,
        sum_walk p ok a g low high (λ r. when (not (T r) || T (((r + p - c) % p + f) % p)) 1),
        sum_ext p (λ x. when (not (T ((a + g * x) % p)) || T ((((a + g * x) % p + p - c) % p + f) % p)) 1) (λ x. when (not (in_range 1 n x) || in_range 1 n ((x + p - e) % p)) 1) (λ x l. ap₂ (λ (s t : Bool). when (not s || t) 1) (at_place x l) (ap T (lower x) ∙ at_place ((x + p - e) % p) (mod-lt (x + p - e) some))),
        sum_ext p (λ x. when (not (in_range 1 n x) || in_range 1 n ((x + p - e) % p)) 1 + when (in_range 1 n x) 1) (λ x. 1 + when (in_range 1 n x && in_range 1 n ((x + p - e) % p)) 1) (λ x l. counted (in_range 1 n x) (in_range 1 n ((x + p - e) % p))),
        sum_add p (λ x. when (not (in_range 1 n x) || in_range 1 n ((x + p - e) % p)) 1) (λ x. when (in_range 1 n x) 1),
        sum_add p (λ x. 1) (λ x. when (in_range 1 n x && in_range 1 n ((x + p - e) % p)) 1),
        sum_const p 1,
        range_count p 1 n (omega (arith, n_half)),
        overlap_count p n e n_half he,
      )
    where
      lower : (x : ℕ) → (((a + g * x) % p + p - c) % p + f) % p ≡ (a + g * ((x + p - e) % p)) % p
      lower x =
          let r = (a + g * x) % p in
          let y = (x + p - e) % p in
          seen p a g c f e x y r ((r + p - c) % p) some (sub_back p c r (omega arith)) (ec ∙ sym (mod-eq_of_lt hc)) (sub_back p e x (omega arith)) (mod-mod (a + g * x) p)

-- in an array with k data disks
module _ (p k f g : ℕ) (ok : Prime p) (odd : p % 2 ≡ 1) (most : k ≤ p) (h : f < k) (low : 0 < g) (high : g < p) where
  full : f < p
  full = omega arith

  ss : List Step
  ss = steps_of p f (progression_routes p f g)

  ok_named : named p ss ≡ true
  unfolding ss
  ok_named = accepted_named p p f (steps_of p f (progression_routes p f g)) (full_accepted p f g ok odd full low high)

  part_accepted : accepted p k f ss ≡ true
  unfolding ss
  part_accepted = accepted_part p k most f (omega arith) ss ∙ ap (λ (d : ℕ). accepted p p d ss) (full_data p k f h) ∙ full_accepted p f g ok odd full low high

  part_share : (c e : ℕ) → c < k → (c ≡ f → ⊥) → e < p → (f + g * e) % p ≡ c → reads_of p k f c ss + distance p e ≡ p
  unfolding ss
  part_share c e hc other he ec =
      omega (
        arith,
        reads_part p k f c most (omega arith) ss (named_numbers p ss ok_named) ∙ ap₂ (λ (x y : ℕ). reads_of p p x y ss) (full_data p k f h) (full_data p k c hc),
        full_share p f g ok odd full low high c e (omega arith) other he ec,
      )

  part_Q : reads_of p k f (suc k) ss ≡ (p - 1) / 2
  unfolding ss
  part_Q = reads_Q p k f ss ok_named (λ e. omega arith) ∙ full_diagonals p f g ok odd full low high

  -- P and Q give p cells together
  part_parity : reads_of p k f k ss + reads_of p k f (suc k) ss ≡ p
  unfolding diagonals_used
  part_parity = ap₂ ◌+◌ (reads_P p k f ss ok_named (λ e. omega arith)) (reads_Q p k f ss ok_named (λ e. omega arith)) ∙ used_total p k f ss part_accepted

  module _ (r : ℕ) (one : g * r % p ≡ 1) where
    -- how many steps of g disk c is from f
    away : ℕ → ℕ
    away c = r * (c + p - f) % p

    away_below : (c : ℕ) → away c < p
    unfolding away
    away_below c = mod-lt (r * (c + p - f)) (omega arith)

    away_lands : (c : ℕ) → c < p → (f + g * away c) % p ≡ c
    unfolding away
    away_lands c l =
        let d = c + p - f in
        let whole : f + (c + p - f) ≡ c + p = omega (arith, full) in
        cong_add p f f (g * (r * d % p)) d refl
        (mul_mod_r g (r * d) p
        ∙ ap (λ (x : ℕ). x % p) (omega arith)
        ∙ cong_mul p (g * r) 1 d d (one ∙ sym (mod-eq_of_lt ok.large)) refl
        ∙ ap (λ (x : ℕ). x % p) (omega arith))
        ∙ ap (λ (x : ℕ). x % p) whole
        ∙ add-mod_right c p
        ∙ mod-eq_of_lt l

    -- what a data disk gives and what it is relieved are p cells, but for the lost one
    all_cells : (c : ℕ) → c < k → reads_of p k f c ss + distance p (away c) + when (eqb c f) p ≡ p
    unfolding away
    all_cells c l = ⊎_elim lost (λ other. omega (arith, part_share c (away c) l other (away_below c) (away_lands c (omega arith)), ap (λ (b : Bool). when b p) (ne_eqb c f other))) (eq_or_ne c f)
      where
        lost : c ≡ f → reads_of p k f c ss + distance p (away c) + when (eqb c f) p ≡ p
        lost e =
            let turn : c + p - f ≡ p = omega arith in
            let none : away c ≡ 0 = ap (λ (x : ℕ). r * x % p) turn ∙ ap (λ (x : ℕ). x % p) (mul_comm r p) ∙ mul-mod_right p r in
            omega (
              arith,
              ap (λ (x : ℕ). reads_of p k f x ss) e,
              reads_lost p k f ss,
              ap (distance p) none,
              ap (λ (b : Bool). pick b 0 (p - 0)) (le-leb 0 (p - 0) (omega arith)),
              ap (λ (b : Bool). when b p) (eq-eqb c f e),
            )

    part_count : read_count p k f ss + sum_to k (λ c. distance p (away c)) ≡ k * p
    part_count =
        let two : k + 2 ≡ suc (suc k) = omega arith in
        omega (
          arith,
          reads_total p k f ss ok_named ∙ ap (λ (m : ℕ). sum_to m (λ c. reads_of p k f c ss)) two,
          sum_suc (suc k) (λ c. reads_of p k f c ss),
          sum_suc k (λ c. reads_of p k f c ss),
          part_parity,
          sum_add k (λ c. reads_of p k f c ss + distance p (away c)) (λ c. when (eqb c f) p),
          sum_add k (λ c. reads_of p k f c ss) (λ c. distance p (away c)),
          sum_at k f (λ c. p) h,
          sum_ext k (λ c. reads_of p k f c ss + distance p (away c) + when (eqb c f) p) (λ c. p) all_cells,
          sum_const k p,
        )

-- all that is claimed of it
pub plans_progression : PlansProgression
unfolding away ss
plans_progression p k f g w most h low high =
    record {
      is_accepted = ap (accepted p k f) same ∙ part_accepted p k f g ok odd most h low high;
      data_share = λ c x l other m e. omega (arith, ap (reads_of p k f c) same, part_share p k f g ok odd most h low high c x l other m e);
      P-share = omega (arith, odd, ap (reads_of p k f k) same, part_parity p k f g ok odd most h low high, part_Q p k f g ok odd most h low high);
      Q-share = ap (reads_of p k f (suc k)) same ∙ part_Q p k f g ok odd most h low high;
      count = λ r one. omega (arith, ap (read_count p k f) same, part_count p k f g ok odd most h low high r one);
      full_best = λ e. ap₂ (λ (x : ℕ) (us : List Step). is_best p x f us) e same ∙ full_best p f g ok odd lost low high large;
      full_count = λ e. omega (arith, counted_full e, full_count p f g ok odd lost low high);
      full_least = λ e us t. omega (
        arith,
        counted_full e,
        full_count p f g ok odd lost low high,
        ours_count p f odd large lost,
        least p f odd large lost us (ap (λ (x : ℕ). accepted p x f us) (sym e) ∙ t),
        ap (λ (x : ℕ). read_count p x f us) e,
      );
    }
  where
    ok : Prime p
    ok = width_prime p w

    odd : p % 2 ≡ 1
    odd = width_odd p w

    large : 3 ≤ p
    large = width_least p w

    lost : f < p
    lost = omega arith

    same : progression_plan p k f g ≡ steps_of p f (progression_routes p f g)
    same = progression_data p k f g h

    counted_full : k ≡ p → read_count p k f (progression_plan p k f g) ≡ read_count p p f (steps_of p f (progression_routes p f g))
    counted_full e = ap₂ (λ (x : ℕ) (us : List Step). read_count p x f us) e same
