-- The fewest plan: the step that relieves most, and the plan that no progression plan, nor ours,
-- nor the balanced plan reads less than.
use mathlib.Core.Path.{◌≡◌, refl, sym, ap, ◌∙◌}
use mathlib.Core.Bool.{Bool, true}
use mathlib.Core.Logic.{⊎_elim}
use mathlib.Core.List.{List, ◌++◌}
use Prim.Native.Nat.{ℕ, ◌+◌, ◌-◌, ◌*◌, ◌/◌, ◌%◌, ◌≤◌, ◌<◌}
use native.Mathlib.Nat.{mod-lt}
use native.Mathlib.Omega.{arith}
use borrow.Author.Tests.{lt-ltb, le-ltb}
use Rattle.mathematics.specs.Choice.{pick}
use Rattle.mathematics.proofs.OrderLaws.{lt_or_le}
use Rattle.mathematics.proofs.Primes.{Prime, inverse}
use Rattle.liberation.specs.Sets.{is_width}
use Rattle.liberation.specs.Plans.{Step, routes, row_steps, diagonal_steps, all_of, plan_of, read_count}
use Rattle.liberation.specs.Judging.{accepted}
use Rattle.liberation.specs.BalancedPlan.Balanced.{balanced_routes, balanced_plan}
use Rattle.liberation.specs.ReliefPlan.Relief.{progression_routes, progression_plan, relief_step, relief_plan, Progression, OneShort}
use Rattle.liberation.specs.FewestPlan.Fewest.{relieved_by, fewest_step, reads_by, fewer, fewest_routes, fewest_plan, FewestStep, PlansFewest, FewestParity}
use Rattle.liberation.proofs.Widths.{width_prime, width_odd, width_least}
use Rattle.liberation.proofs.RowSteps.{steps_of}
use Rattle.liberation.proofs.OurPlan.{plan_data}
use Rattle.liberation.proofs.ParityPlans.{plan_parity}
use Rattle.liberation.proofs.PartPlans.{plan_accepted}
use Rattle.liberation.proofs.BalancedPlan.BalancedPlan.{balanced_data, balanced_accepted}
use Rattle.liberation.proofs.ReliefPlan.ProgressionPlan.{progression_data, plans_progression}
use Rattle.liberation.proofs.ReliefPlan.ReliefPlan.{relief_positive}
use Rattle.liberation.proofs.ReliefPlan.OneShort.{plans_one_short}
use Rattle.liberation.proofs.FewestPlan.TwoDataDisks.{pair_most, pair_relief}
use Rattle.liberation.proofs.FewestPlan.GreatestLaws.{most_within, most_greatest}
use Rattle.liberation.proofs.FewestPlan.RelievedLaws.{distances, relieved_turn, relieved_sum, relieved_full, relieved_mean}

-- the plan for a data disk, and for P or Q
pub fewest_data : (p k f : ℕ) → f < k → fewest_plan p k f ≡ steps_of p f (fewest_routes p k f)
unfolding fewest_plan
fewest_data p k f h = ap (λ (b : Bool). pick b (row_steps 0 (fewest_routes p k f) ++ diagonal_steps p f 0 (fewest_routes p k f)) (all_of p (f - k) 0)) (lt-ltb f k h)

pub fewest_parity : FewestParity
unfolding fewest_plan
fewest_parity p k f h = ap (λ (b : Bool). pick b (row_steps 0 (fewest_routes p k f) ++ diagonal_steps p f 0 (fewest_routes p k f)) (all_of p (f - k) 0)) (le-ltb f k h) ∙ sym (plan_parity p k f h)

-- the one of two that reads fewer
module _ (p k f : ℕ) (a b : List ℕ) where
  pub fewer_second : reads_by p k f b < reads_by p k f a → b ≡ fewer p k f a b
  unfolding fewer
  fewer_second l = sym (ap (λ (t : Bool). pick t b a) (lt-ltb (reads_by p k f b) (reads_by p k f a) l))

  pub fewer_first : reads_by p k f a ≤ reads_by p k f b → a ≡ fewer p k f a b
  unfolding fewer
  fewer_first l = sym (ap (λ (t : Bool). pick t b a) (le-ltb (reads_by p k f b) (reads_by p k f a) l))

  fewer_most : (reads_by p k f (fewer p k f a b) ≤ reads_by p k f a) × (reads_by p k f (fewer p k f a b) ≤ reads_by p k f b)
  fewer_most =
      ⊎_elim
      (λ l. let e = ap (reads_by p k f) (fewer_second l) in (omega (arith, e), omega (arith, e)))
      (λ l. let e = ap (reads_by p k f) (fewer_first l) in (omega (arith, e), omega (arith, e)))
      (lt_or_le (reads_by p k f b) (reads_by p k f a))

  fewer_accepted : accepted p k f (steps_of p f a) ≡ true → accepted p k f (steps_of p f b) ≡ true → accepted p k f (steps_of p f (fewer p k f a b)) ≡ true
  fewer_accepted u v =
      ⊎_elim
      (λ l. ap (λ (rs : List ℕ). accepted p k f (steps_of p f rs)) (sym (fewer_second l)) ∙ v)
      (λ l. ap (λ (rs : List ℕ). accepted p k f (steps_of p f rs)) (sym (fewer_first l)) ∙ u)
      (lt_or_le (reads_by p k f b) (reads_by p k f a))

module _ (p k f : ℕ) (w : is_width p ≡ true) (most : k ≤ p) (h : f < k) where
  ok : Prime p
  ok = width_prime p w

  odd : p % 2 ≡ 1
  odd = width_odd p w

  large : 3 ≤ p
  large = width_least p w

  g : ℕ
  g = fewest_step p k f

  g_within : (0 < g) × (g ≤ (p - 1) / 2)
  unfolding g fewest_step
  g_within = let v = most_within ((p - 1) / 2 - 1) (relieved_by p k f) in (v.0, omega (arith, v.1, large))

  -- the greatest of the steps up to (p - 1)/2, and so of all
  g_most : (x : ℕ) → 0 < x → x < p → relieved_by p k f x ≤ relieved_by p k f g
  unfolding g fewest_step
  g_most x low high =
      ⊎_elim
      (λ l. most_greatest ((p - 1) / 2 - 1) (relieved_by p k f) x low (omega (arith, large)))
      (λ l. omega (arith, relieved_turn p k f x (omega arith) (omega arith), most_greatest ((p - 1) / 2 - 1) (relieved_by p k f) (p - x) (omega arith) (omega (arith, large, odd))))
      (lt_or_le x ((p - 1) / 2 + 1))

  step_count : (x : ℕ) → 0 < x → x < p → read_count p k f (progression_plan p k f x) + relieved_by p k f x ≡ k * p
  step_count x low high =
      let v = inverse p ok x low high in
      omega (arith, (plans_progression p k f x w most h low high).count v.0 v.1, relieved_sum p ok k f x v.0 most (omega arith) low high v.1)

  -- in a full array each step relieves a quarter of p² - 1
  all_distances : 4 * distances p + 1 ≡ p * p
  all_distances =
      let full = plans_progression p p 0 1 w (omega arith) (omega (arith, large)) (omega arith) (omega (arith, large)) in
      let v = inverse p ok 1 (omega arith) (omega (arith, large)) in
      omega (
        arith,
        full.full_count refl,
        full.count v.0 v.1,
        relieved_sum p ok p 0 1 v.0 (omega arith) (omega (arith, large)) (omega arith) (omega (arith, large)) v.1,
        relieved_full p ok 0 1,
      )

  step_mean : (k - 1) * (p + 1) ≤ 4 * relieved_by p k f g
  step_mean = relieved_mean p ok k f (relieved_by p k f g) most h all_distances g_most

  pub fewest_step_lem : FewestStep p k f
  unfolding g
  fewest_step_lem = record { low = g_within.0; high = g_within.1; relieves = λ x r low high one. relieved_sum p ok k f x r most (omega arith) low high one; count = step_count; most = g_most; mean = step_mean }

  -- the routes of the three plans
  steps : List ℕ
  steps = progression_routes p f g

  first : List ℕ
  first = fewer p k f steps (routes p f)

  same : fewest_plan p k f ≡ steps_of p f (fewer p k f first (balanced_routes p f))
  unfolding fewest_routes first steps g
  same = fewest_data p k f h

  pub fewest_accepted : accepted p k f (fewest_plan p k f) ≡ true
  unfolding first steps
  fewest_accepted =
      ap (accepted p k f) same
      ∙ fewer_accepted p k f first (balanced_routes p f)
      (fewer_accepted p k f steps (routes p f)
      (ap (accepted p k f) (sym (progression_data p k f g h)) ∙ (plans_progression p k f g w most h g_within.0 (omega (arith, g_within.1, large))).is_accepted)
      (ap (accepted p k f) (sym (plan_data p k f h)) ∙ plan_accepted p k f w most (omega arith)))
      (ap (accepted p k f) (sym (balanced_data p k f h)) ∙ balanced_accepted p k f w most (omega arith))

  reads : ℕ
  reads = read_count p k f (fewest_plan p k f)

  below_first : reads ≤ reads_by p k f first
  unfolding reads
  below_first = omega (arith, ap (read_count p k f) same, (fewer_most p k f first (balanced_routes p f)).0)

  below_balanced : reads ≤ read_count p k f (balanced_plan p k f)
  unfolding reads
  below_balanced = omega (arith, ap (read_count p k f) same, (fewer_most p k f first (balanced_routes p f)).1, ap (read_count p k f) (balanced_data p k f h))

  below_ours : reads ≤ read_count p k f (plan_of p k f)
  unfolding first
  below_ours = omega (arith, below_first, (fewer_most p k f steps (routes p f)).1, ap (read_count p k f) (plan_data p k f h))

  below_step : reads ≤ read_count p k f (progression_plan p k f g)
  unfolding first steps
  below_step = omega (arith, below_first, (fewer_most p k f steps (routes p f)).0, ap (read_count p k f) (progression_data p k f g h))

  counted : reads + relieved_by p k f g ≤ k * p
  counted = omega (arith, below_step, step_count g g_within.0 (omega (arith, g_within.1, large)))

  -- where neither ours nor the balanced plan reads less, it is the progression plan
  alike : read_count p k f (progression_plan p k f g) ≤ read_count p k f (plan_of p k f) → read_count p k f (progression_plan p k f g) ≤ read_count p k f (balanced_plan p k f) → fewest_plan p k f ≡ progression_plan p k f g
  unfolding first steps
  alike o b =
      let told = ap (read_count p k f) (progression_data p k f g h) in
      let e : steps ≡ first = fewer_first p k f steps (routes p f) (omega (arith, told, ap (read_count p k f) (plan_data p k f h))) in
      let d : first ≡ fewer p k f first (balanced_routes p f) = fewer_first p k f first (balanced_routes p f) (omega (arith, told, ap (reads_by p k f) e, ap (read_count p k f) (balanced_data p k f h))) in
      same ∙ ap (steps_of p f) (sym d ∙ sym e) ∙ sym (progression_data p k f g h)

  below_any : (x : ℕ) → 0 < x → x < p → reads ≤ read_count p k f (progression_plan p k f x)
  below_any x low high = omega (arith, counted, g_most x low high, step_count x low high)

  below_relief : (c : ℕ) → c < k → (c ≡ f → ⊥) → reads ≤ read_count p k f (progression_plan p k f (relief_step p f c))
  below_relief c l other = below_any (relief_step p f c) (relief_positive p f c odd (omega arith) (omega arith) other) (mod-lt (2 * (c + p - f)) (omega arith))

pub plans_fewest : PlansFewest
unfolding g reads
plans_fewest p k f w most h =
    record {
      is_accepted = fewest_accepted p k f w most h;
      step = fewest_step_lem p k f w most h;
      count = counted p k f w most h;
      alike = alike p k f w most h;
      mean = omega (arith, counted p k f w most h, step_mean p k f w most h);
      progressions = below_any p k f w most h;
      reliefs = below_relief p k f w most h;
      ours = below_ours p k f w most h;
      balanced = below_balanced p k f w most h;
      full_count = λ e. omega (arith, one.full_count e, below, one.full_least e (fewest_plan p k f) (fewest_accepted p k f w most h));
      full_least = λ e ss t. omega (arith, below, one.full_least e ss t);
      short_count = λ e. omega (arith, short_step e, short_below e, (short e).count, short_of e (fewest_plan p k f) (fewest_accepted p k f w most h));
      short_least = λ e ss t. omega (arith, short_below e, short_step e, short_of e ss t);
      pair_count = λ e. omega (arith, pair_below e, pair_of e (fewest_plan p k f) (fewest_accepted p k f w most h));
      pair_least = λ e ss t. omega (arith, pair_below e, pair_of e ss t);
    }
  where
    large : 3 ≤ p
    large = width_least p w

    one : Progression p k f 1
    one = plans_progression p k f 1 w most h (omega arith) (omega (arith, large))

    below : read_count p k f (fewest_plan p k f) ≤ read_count p k f (progression_plan p k f 1)
    below = below_any p k f w most h 1 (omega arith) (omega (arith, large))

    -- one disk short of full: the step f + 1
    short : k ≡ p - 1 → OneShort p f
    short e = plans_one_short p f w (omega arith)

    short_below : k ≡ p - 1 → read_count p k f (fewest_plan p k f) ≤ read_count p k f (progression_plan p k f (f + 1))
    short_below e = below_any p k f w most h (f + 1) (omega arith) (omega (arith, large))

    short_step : k ≡ p - 1 → read_count p k f (progression_plan p k f (f + 1)) ≡ read_count p (p - 1) f (progression_plan p (p - 1) f (f + 1))
    short_step e = ap (λ (x : ℕ). read_count p x f (progression_plan p x f (f + 1))) e

    short_of : (e : k ≡ p - 1) (ss : List Step) → accepted p k f ss ≡ true → read_count p (p - 1) f (progression_plan p (p - 1) f (f + 1)) ≤ read_count p k f ss
    short_of e ss t = omega (arith, (short e).least ss (ap (λ (x : ℕ). accepted p x f ss) (sym e) ∙ t), ap (λ (x : ℕ). read_count p x f ss) e)

    -- two data disks: the plan that relieves the other one
    pair_below : k ≡ 2 → 2 * read_count p k f (fewest_plan p k f) ≤ 3 * p + 1
    pair_below e = omega (arith, below_relief p k f w most h (1 - f) (omega arith) (λ q. omega arith), ap (λ (x : ℕ). read_count p x f (relief_plan p x f (1 - f))) e, pair_relief p f w (omega arith))

    pair_of : k ≡ 2 → (ss : List Step) → accepted p k f ss ≡ true → 3 * p + 1 ≤ 2 * read_count p k f ss
    pair_of e ss t = omega (arith, pair_most p f w (omega arith) ss (ap (λ (x : ℕ). accepted p x f ss) (sym e) ∙ t), ap (λ (x : ℕ). read_count p x f ss) e)
