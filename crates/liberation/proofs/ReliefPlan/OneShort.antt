-- The fewest reads with p - 1 data disks. A plan reads there what it reads in the full array, less
-- what disk p - 1 gives. In the full array it reads (3p² + 1)/4 cells at least, and where it reads
-- just these, disk p - 1 does not give all its p cells:
-- else with row r also row r - (c - f) would have a diagonal, and so every row, while a best plan
-- has (p - 1)/2 or (p + 1)/2 diagonals. With step f + 1 disk p - 1 is one step back from f, so it
-- gives p - 1 cells.
use mathlib.Core.Path.{◌≡◌, refl, sym, ap, ap₂, ◌∙◌}
use mathlib.Core.Bool.{Bool, true, false, ◌||◌}
use mathlib.Core.Logic.{⊎_elim}
use mathlib.Core.List.{List}
use Prim.Native.Nat.{ℕ, zero, suc, ◌+◌, ◌-◌, ◌*◌, ◌%◌, ◌≤◌, ◌<◌}
use native.Mathlib.Nat.{mod-lt, mod-eq_of_lt, mod-add-mod, add-mod-mod, mul-add-mod_self_left}
use native.Mathlib.Omega.{arith}
use borrow.Author.Tests.{lt-leb}
use Rattle.mathematics.specs.Choice.{pick, when}
use Rattle.mathematics.specs.Lists.{is_in}
use Rattle.mathematics.specs.Sums.{sum_to}
use Rattle.mathematics.proofs.ChoiceLaws.{when_none}
use Rattle.mathematics.proofs.Flags.{clash}
use Rattle.mathematics.proofs.OrderLaws.{eq_or_ne, lt_or_le}
use Rattle.mathematics.proofs.Primes.{Prime, visits}
use Rattle.mathematics.proofs.Residues.{sub_small}
use Rattle.mathematics.proofs.SumLaws.{sum_suc, sum_ext, sum_const}
use Rattle.liberation.specs.Sets.{place}
use Rattle.liberation.specs.Plans.{Step, plan_of, cells_read, read_count}
use Rattle.liberation.specs.Judging.{accepted}
use Rattle.liberation.specs.Claims.{uses, diagonals_used, by_extra, lone_extras, Price}
use Rattle.liberation.proofs.Widths.{width_prime, width_odd, width_least}
use Rattle.liberation.proofs.UsedLaws.{named_numbers}
use Rattle.liberation.proofs.AcceptedLaws.{accepted_named, used_total}
use Rattle.liberation.proofs.RowSteps.{steps_of}
use Rattle.liberation.proofs.PartLaws.{full_data, accepted_part}
use Rattle.liberation.proofs.Bounds.{Halved, count_least, count_only}
use Rattle.liberation.proofs.PriceLaws.{price}
use Rattle.liberation.proofs.Demand3.{ours_count}
use Rattle.liberation.specs.BalancedPlan.Balanced.{reads_of}
use Rattle.liberation.proofs.BalancedPlan.Shares.{sum_above, reads_other, reads_P, reads_Q, reads_total, reads_part}
use Rattle.liberation.specs.ReliefPlan.Relief.{progression_routes, progression_plan, Progression, PlansOneShort}
use Rattle.liberation.proofs.ReliefPlan.FlagSums.{sum_most, sum_full}
use Rattle.liberation.proofs.BalancedPlan.LoneLaws.{cell_held}
use Rattle.liberation.proofs.ReliefPlan.RowsTaken as rows
use Rattle.liberation.proofs.ReliefPlan.ProgressionPlan.{progression_data, full_share, full_count, plans_progression}

-- a disk has p cells
reads_few : (p k f c : ℕ) (ss : List Step) → reads_of p k f c ss ≤ p
unfolding reads_of
reads_few p k f c ss = sum_most p (λ r. is_in (place p r c) (cells_read p k f ss))

or_second : (a b : Bool) → (a || b) ≡ true → a ≡ false → b ≡ true
or_second true b t e = clash true refl e
or_second false b t e = t

-- what an accepted plan reads in an array with k data disks
pub part_reads : (p k f : ℕ) (ss : List Step) → k ≤ p → f < k → accepted p k f ss ≡ true → read_count p k f ss ≡ sum_to k (λ c. reads_of p p f c ss) + p
unfolding diagonals_used
part_reads p k f ss most h t =
    let ok = accepted_named p k f ss t in
    let two : k + 2 ≡ suc (suc k) = omega arith in
    omega (
      arith,
      reads_total p k f ss ok ∙ ap (λ (m : ℕ). sum_to m (λ c. reads_of p k f c ss)) two,
      sum_suc (suc k) (λ c. reads_of p k f c ss),
      sum_suc k (λ c. reads_of p k f c ss),
      ap₂ ◌+◌ (reads_P p k f ss ok (λ e. omega arith)) (reads_Q p k f ss ok (λ e. omega arith)) ∙ used_total p k f ss t,
      sum_ext k (λ c. reads_of p k f c ss) (λ c. reads_of p p f c ss) (λ c l. reads_part p k f c most (omega arith) ss (named_numbers p ss ok) ∙ ap₂ (λ (x y : ℕ). reads_of p p x y ss) (full_data p k f h) (full_data p k c l)),
    )

-- a plan of the fewest reads leaves no surviving data disk to be read whole
module _ (p f : ℕ) (ok : Prime p) (odd : p % 2 ≡ 1) (h : f < p) (ss : List Step) (t : accepted p p f ss ≡ true) (lone : lone_extras p p f ss ≡ 0) (plain : when (by_extra p p f ss) 1 ≡ 0) where
  some : 0 < p
  some = omega arith

  -- row r has a diagonal
  T : ℕ → Bool
  T = rows.J p f odd h ss t

  T-diagonal : (z : ℕ) → z < p → T ((z + f) % p) ≡ uses 1 z ss
  unfolding T
  T-diagonal z l = rows.J-diagonal p f odd h ss t z l

  -- then its row set is not used
  no_row : (r : ℕ) → r < p → T r ≡ true → uses 0 r ss ≡ false
  unfolding T rows.R
  no_row r l u = when_none (uses 0 r ss) 0 (omega (arith, rows.plain_rows p f odd h ss t (when_none (by_extra p p f ss) 0 plain) r l, ap (λ (b : Bool). when b 1) u))

  module _ (c : ℕ) (l : c < p) (other : c ≡ f → ⊥) (all : p ≤ reads_of p p f c ss) where
    held : (r : ℕ) → r < p → (uses 0 r ss || uses 1 ((r + p - c) % p) ss) ≡ true
    held r m =
        sum_full p (λ i. uses 0 i ss || uses 1 ((i + p - c) % p) ss)
        (omega (arith, all, reads_other p p f ss c (λ i. uses 0 i ss || uses 1 ((i + p - c) % p) ss) other (λ i n. cell_held p f odd ss (accepted_named p p f ss t) lone c l other i n)))
        r m

    -- f - c
    e : ℕ
    e = (f + p - c) % p

    e_below : e < p
    unfolding e
    e_below = mod-lt (f + p - c) some

    e_positive : 0 < e
    unfolding e
    e_positive = ⊎_elim (λ w. omega (arith, other)) (λ w. omega (arith, other)) (sub_small p f c h l)

    -- with row r also row r - (c - f)
    next : (r : ℕ) → r < p → T r ≡ true → T ((r + e) % p) ≡ true
    unfolding e
    next r m u =
        let z = (r + p - c) % p in
        let q : r + p - c + f ≡ r + (f + p - c) = omega arith in
        ap T (add-mod-mod r (f + p - c) p ∙ ap (λ (x : ℕ). x % p) (sym q) ∙ sym (mod-add-mod (r + p - c) p f))
        ∙ T-diagonal z (mod-lt (r + p - c) some)
        ∙ or_second (uses 0 r ss) (uses 1 z ss) (held r m) (no_row r m u)

    -- and so on
    walk : (r : ℕ) → r < p → T r ≡ true → (x : ℕ) → T ((r + e * x) % p) ≡ true
    walk r m u zero = let q : r + e * 0 ≡ r = omega arith in ap (λ (y : ℕ). T (y % p)) q ∙ ap T (mod-eq_of_lt m) ∙ u
    walk r m u (suc x) = let q : r + e * suc x ≡ r + e * x + e = omega arith in ap (λ (y : ℕ). T (y % p)) q ∙ ap T (sym (mod-add-mod (r + e * x) p e)) ∙ next ((r + e * x) % p) (mod-lt (r + e * x) some) (walk r m u x)

    -- to every row
    every : (r : ℕ) → r < p → T r ≡ true → diagonals_used p ss ≡ p
    unfolding diagonals_used
    every r m u =
        omega (
          arith,
          sum_const p 1,
          sum_ext p (λ z. when (uses 1 z ss) 1) (λ z. 1) (λ z n. ap (λ (b : Bool). when b 1) (sym (T-diagonal z n) ∙ at ((z + f) % p) (visits p ok r e ((z + f) % p) e_positive e_below (mod-lt (z + f) some)))),
        )
      where
        at : (i : ℕ) → ((x : ℕ) × (x < p) × ((r + e * x) % p ≡ i)) → T i ≡ true
        at i v = ap T (sym v.2) ∙ walk r m u v.0

  pub none_whole : (c : ℕ) → c < p → (c ≡ f → ⊥) → 0 < diagonals_used p ss → diagonals_used p ss < p → reads_of p p f c ss < p
  unfolding diagonals_used
  none_whole c l other low high = ⊎_elim (λ m. m) (λ m. absurd (omega (arith, high, used m (sum_above p 0 (λ z. when (uses 1 z ss) 1) (omega (arith, low)))))) (lt_or_le (reads_of p p f c ss) p)
    where
      used : p ≤ reads_of p p f c ss → ((z : ℕ) × (z < p) × (0 < when (uses 1 z ss) 1)) → diagonals_used p ss ≡ p
      used all v = every c l other all ((v.0 + f) % p) (mod-lt (v.0 + f) some) (T-diagonal v.0 v.1 ∙ on (uses 1 v.0 ss) v.2)
        where
          on : (b : Bool) → 0 < when b 1 → b ≡ true
          on true q = refl
          on false q = absurd (omega arith)

-- an array with all data disks but the last
module _ (p f : ℕ) (ok : Prime p) (odd : p % 2 ≡ 1) (large : 3 ≤ p) (h : f < p - 1) where
  lost : f < p
  lost = omega arith

  -- an accepted plan reads there what it reads in the full array, less what the last disk gives
  without_last : (ss : List Step) → accepted p (p - 1) f ss ≡ true → (accepted p p f ss ≡ true) × (read_count p p f ss ≡ read_count p (p - 1) f ss + reads_of p p f (p - 1) ss)
  without_last ss t = (full, omega (arith, part_reads p (p - 1) f ss (omega arith) h t, part_reads p p f ss (omega arith) lost full, ap (λ (n : ℕ). sum_to n (λ c. reads_of p p f c ss)) last, sum_suc (p - 1) (λ c. reads_of p p f c ss)))
    where
      full : accepted p p f ss ≡ true
      full = ap (λ (d : ℕ). accepted p p d ss) (sym (full_data p (p - 1) f h)) ∙ sym (accepted_part p (p - 1) (omega arith) f (omega arith) ss) ∙ t

      last : p ≡ suc (p - 1)
      last = omega arith

  pub short_least : (ss : List Step) → accepted p (p - 1) f ss ≡ true → 3 * (p * p) + 5 ≤ 4 * read_count p (p - 1) f ss + 4 * p
  short_least ss t =
      let w = without_last ss t in
      let q : Price p f ss = price p f odd lost ss w.0 in
      ⊎_elim
      (λ e. let b = count_only p (diagonals_used p ss) (read_count p p f ss) (lone_extras p p f ss) (when (by_extra p p f ss) 1) odd q.few q.price e in omega (arith, e, w.1, within w.0 b.0 b.1 b.2))
      (λ e. omega (arith, w.1, reads_few p p f (p - 1) ss, ours, more (read_count p p f (plan_of p p f)) (read_count p p f ss) (3 * (p * p) + 1) ours (count_least p (diagonals_used p ss) (read_count p p f ss) (lone_extras p p f ss) (when (by_extra p p f ss) 1) odd q.few q.price) e))
      (eq_or_ne (4 * read_count p p f ss) (3 * (p * p) + 1))
    where
      ours : 4 * read_count p p f (plan_of p p f) ≡ 3 * (p * p) + 1
      ours = ours_count p f odd large lost

      more : (a b n : ℕ) → 4 * a ≡ n → n ≤ 4 * b → (4 * b ≡ n → ⊥) → a < b
      more a b n e l other = ⊎_elim (λ q. absurd (other (ap (λ (x : ℕ). 4 * x) (sym q) ∙ e))) (λ q. omega arith) (eq_or_ne a b)

      within : accepted p p f ss ≡ true → Halved p (diagonals_used p ss) → lone_extras p p f ss ≡ 0 → when (by_extra p p f ss) 1 ≡ 0 → reads_of p p f (p - 1) ss < p
      within full half lone plain =
          none_whole p f ok odd lost ss full lone plain (p - 1) (omega arith) (λ e. omega arith)
          (⊎_elim (λ e. omega (arith, large)) (λ e. omega (arith, large)) half)
          (⊎_elim (λ e. omega (arith, large)) (λ e. omega (arith, large)) half)

-- one step back from f stands the last disk
back_one : (p f : ℕ) → f < p → (f + (f + 1) * (p - 1)) % p ≡ p - 1
back_one p f h = with_rest (p - 1) (omega arith)
  where
    with_rest : (m : ℕ) → p ≡ m + 1 → (f + (f + 1) * m) % p ≡ m
    with_rest m e = ap (λ (x : ℕ). x % p) (omega (arith, ap (λ (x : ℕ). x * f) e)) ∙ mul-add-mod_self_left p f m ∙ mod-eq_of_lt (omega arith)

pub plans_one_short : PlansOneShort
plans_one_short p f w h = record { is_accepted = plan.is_accepted; count = count; least = λ ss t. omega (arith, count, short_least p f ok odd large h ss t) }
  where
    ok : Prime p
    ok = width_prime p w

    odd : p % 2 ≡ 1
    odd = width_odd p w

    large : 3 ≤ p
    large = width_least p w

    plan : Progression p (p - 1) f (f + 1)
    plan = plans_progression p (p - 1) f (f + 1) w (omega arith) h (omega arith) (omega arith)

    ss : List Step
    ss = steps_of p f (progression_routes p f (f + 1))

    same : progression_plan p (p - 1) f (f + 1) ≡ ss
    same = progression_data p (p - 1) f (f + 1) h

    count : 4 * read_count p (p - 1) f (progression_plan p (p - 1) f (f + 1)) + 4 * p ≡ 3 * (p * p) + 5
    count =
        omega (
          arith,
          ap (read_count p (p - 1) f) same,
          (without_last p f ok odd large h ss (ap (accepted p (p - 1) f) (sym same) ∙ plan.is_accepted)).1,
          full_count p f (f + 1) ok odd (omega arith) (omega arith) (omega arith),
          full_share p f (f + 1) ok odd (omega arith) (omega arith) (omega arith) (p - 1) (p - 1) (omega arith) (λ e. omega arith) (omega arith) (back_one p f (omega arith)),
          ap (λ (b : Bool). pick b (p - 1) (p - (p - 1))) (lt-leb (p - 1) (p - (p - 1)) (omega (arith, large))),
        )
