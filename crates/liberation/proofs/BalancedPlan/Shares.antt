-- The cells that a plan reads on one disk, for any plan: none on the lost disk, and all disks
-- together give the read count. On P there is one for each row set used, on Q one for each
-- diagonal.
-- In an accepted plan for a lost data disk the p - 1 other data disks give (3p² + 1)/4 - p = (p -
-- 1)(3p - 1)/4 cells at least, so one of them gives (3p - 1)/4 at least.
use mathlib.Core.Path.{◌≡◌, refl, sym, ap, ap₂, ◌∙◌}
use mathlib.Core.Bool.{Bool, true, ◌&&◌, not}
use mathlib.Core.Logic.{⊎_elim}
use mathlib.Core.List.{List}
use Prim.Native.Nat.{ℕ, zero, suc, ◌+◌, ◌-◌, ◌*◌, ◌%◌, ◌≤◌, ◌<◌}
use native.Mathlib.Nat.{mul-le-mul_left}
use native.Mathlib.Omega.{arith}
use lib.Dec.{eqb}
use borrow.Author.Tests.{eq-eqb, ne_eqb}
use Rattle.mathematics.specs.Choice.{when}
use Rattle.mathematics.specs.Lists.{is_in}
use Rattle.mathematics.specs.Sums.{sum_to}
use Rattle.mathematics.proofs.OrderLaws.{lt_or_le}
use Rattle.mathematics.proofs.SumLaws.{sum_zero, sum_suc, sum_ext, sum_add, sum_none}
use Rattle.mathematics.proofs.ShiftLaws.{sum_at}
use Rattle.liberation.specs.Sets.{place}
use Rattle.liberation.specs.Plans.{Step, cells_read, read_count}
use Rattle.liberation.specs.Judging.{accepted}
use Rattle.liberation.specs.Claims.{uses, diagonals_used, by_extra, lone_extras, Price, full_disk}
use Rattle.liberation.proofs.SetLaws.{disk_place}
use Rattle.liberation.proofs.ReadLaws.{holds, numbers_below, in_read, read_sum}
use Rattle.liberation.proofs.UsedLaws.{named, named_numbers, holds_P, holds_Q}
use Rattle.liberation.proofs.AcceptedLaws.{accepted_named, used_total}
use Rattle.liberation.proofs.PartLaws.{full_same, holds_part}
use Rattle.liberation.proofs.Bounds.{count_least}
use Rattle.liberation.proofs.PriceLaws.{price}
use Rattle.liberation.specs.BalancedPlan.Balanced.{reads_of, fair_share}

-- of n numbers that are more than n b together, one is more than b
pub sum_above : (n b : ℕ) (g : ℕ → ℕ) → n * b < sum_to n g → (i : ℕ) × (i < n) × (b < g i)
sum_above zero b g h = absurd (omega (arith, sum_zero g))
sum_above (suc n) b g h =
    ⊎_elim
    (λ l. (n, omega arith, l))
    (λ l. let w = sum_above n b g (omega (arith, sum_suc n g)) in (w.0, omega (arith, w.1), w.2))
    (lt_or_le b (g n))

-- the cells read on disk c: those that some step's set holds, if the disk survives
module _ (p k f : ℕ) (ss : List Step) where
  pub reads_holds : (c : ℕ) → reads_of p k f c ss ≡ sum_to p (λ r. when (not (eqb c f) && holds p k (place p r c) ss) 1)
  unfolding reads_of
  reads_holds c =
      sum_ext p (λ r. when (is_in (place p r c) (cells_read p k f ss)) 1) (λ r. when (not (eqb c f) && holds p k (place p r c) ss) 1)
      (λ r l. ap (λ (b : Bool). when b 1) (in_read p k f (place p r c) ss ∙ ap (λ (d : ℕ). not (eqb d f) && holds p k (place p r c) ss) (disk_place p r c l)))

  -- the lost disk
  pub reads_lost : reads_of p k f f ss ≡ 0
  reads_lost =
      reads_holds f
      ∙ sum_none p (λ r. when (not (eqb f f) && holds p k (place p r f) ss) 1) (λ r l. ap (λ (b : Bool). when (not b && holds p k (place p r f) ss) 1) (eq-eqb f f refl))

  -- another disk
  pub reads_other : (c : ℕ) (u : ℕ → Bool) → (c ≡ f → ⊥) → ((r : ℕ) → r < p → holds p k (place p r c) ss ≡ u r) → reads_of p k f c ss ≡ sum_to p (λ r. when (u r) 1)
  reads_other c u n e =
      reads_holds c
      ∙ sum_ext p (λ r. when (not (eqb c f) && holds p k (place p r c) ss) 1) (λ r. when (u r) 1) (λ r l. ap₂ (λ (a b : Bool). when (not a && b) 1) (ne_eqb c f n) (e r l))

  module _ (ok : named p ss ≡ true) where
    pub reads_P : (k ≡ f → ⊥) → reads_of p k f k ss ≡ sum_to p (λ j. when (uses 0 j ss) 1)
    reads_P n = reads_other k (λ j. uses 0 j ss) n (λ r l. holds_P p k r ss l ok)

    pub reads_Q : (suc k ≡ f → ⊥) → reads_of p k f (suc k) ss ≡ diagonals_used p ss
    unfolding diagonals_used
    reads_Q n = reads_other (suc k) (λ z. uses 1 z ss) n (λ r l. holds_Q p k r ss l ok)

    -- all disks together
    pub reads_total : read_count p k f ss ≡ sum_to (k + 2) (λ c. reads_of p k f c ss)
    reads_total =
        read_sum p k f ss (named_numbers p ss ok)
        ∙ sum_ext (k + 2) (λ c. sum_to p (λ r. when (not (eqb c f) && holds p k (place p r c) ss) 1)) (λ c. reads_of p k f c ss) (λ c l. sym (reads_holds c))

-- a part-filled array: a disk gives what it gives in the full one
pub reads_part : (p k f c : ℕ) → k ≤ p → c ≤ k + 1 → (ss : List Step) → numbers_below p ss ≡ true → reads_of p k f c ss ≡ reads_of p p (full_disk p k f) (full_disk p k c) ss
reads_part p k f c most h ss ok =
    reads_holds p k f ss c
    ∙ sum_ext p (λ r. when (not (eqb c f) && holds p k (place p r c) ss) 1) (λ r. when (not (eqb (full_disk p k c) (full_disk p k f)) && holds p p (place p r (full_disk p k c)) ss) 1)
    (λ r l. ap₂ (λ (a b : Bool). when (not a && b) 1) (sym (full_same p k most c f)) (holds_part p k most r c ss l h ok))
    ∙ sym (reads_holds p p (full_disk p k f) ss (full_disk p k c))

-- P and Q give p cells together
pub reads_parity : (p f : ℕ) → f < p → (ss : List Step) → accepted p p f ss ≡ true → reads_of p p f p ss + reads_of p p f (suc p) ss ≡ p
unfolding diagonals_used
reads_parity p f h ss t =
    let ok = accepted_named p p f ss t in
    ap₂ ◌+◌ (reads_P p p f ss ok (λ e. omega arith)) (reads_Q p p f ss ok (λ e. omega arith)) ∙ used_total p p f ss t

-- so the data disks give the rest
reads_data : (p f : ℕ) → f < p → (ss : List Step) → accepted p p f ss ≡ true → read_count p p f ss ≡ sum_to p (λ c. reads_of p p f c ss) + p
reads_data p f h ss t =
    let two : p + 2 ≡ suc (suc p) = omega arith in
    omega (
      arith,
      reads_total p p f ss (accepted_named p p f ss t) ∙ ap (λ (n : ℕ). sum_to n (λ c. reads_of p p f c ss)) two,
      sum_suc (suc p) (λ c. reads_of p p f c ss),
      sum_suc p (λ c. reads_of p p f c ss),
      reads_parity p f h ss t,
    )

-- p - 1 numbers, each at most b with 4 b + 2 ≤ 3 p, are too few
too_few : (p b n : ℕ) → 1 < p → 4 * b + 2 ≤ 3 * p → 3 * (p * p) + 1 ≤ 4 * (n + p) → p * b < n + b
too_few p b n h k l = with_rest (p - 1) (omega arith)
  where
    with_rest : (q : ℕ) → p ≡ suc q → p * b < n + b
    with_rest q e = omega (arith, ap (λ (x : ℕ). x * b) e, ap (λ (x : ℕ). x * x) e, mul-le-mul_left q k, ap (λ (x : ℕ). q * x) e)

-- in every accepted plan some surviving data disk gives the fair share
pub busiest : (p f : ℕ) → p % 2 ≡ 1 → 3 ≤ p → f < p → (ss : List Step) → accepted p p f ss ≡ true → (c : ℕ) × (c < p) × (c ≡ f → ⊥) × (fair_share p ≤ reads_of p p f c ss)
busiest p f odd large h ss t =
    let w = sum_above p b g (omega (arith, enough, together)) in
    let here = w.2 in
    let other : w.0 ≡ f → ⊥ = λ e. omega (arith, ap g e, lost) in
    (w.0, w.1, other, omega (arith, ap (λ (x : Bool). when x b) (ne_eqb w.0 f other)))
  where
    b : ℕ
    b = fair_share p - 1

    -- the lost disk counted as if it gave b
    g : ℕ → ℕ
    g c = reads_of p p f c ss + when (eqb c f) b

    lost : g f ≡ b
    lost = omega (arith, reads_lost p p f ss, ap (λ (x : Bool). when x b) (eq-eqb f f refl))

    together : sum_to p g ≡ sum_to p (λ c. reads_of p p f c ss) + b
    together = omega (arith, sum_add p (λ c. reads_of p p f c ss) (λ c. when (eqb c f) b), sum_at p f (λ c. b) h)

    enough : p * b < sum_to p (λ c. reads_of p p f c ss) + b
    enough =
        let q : Price p f ss = price p f odd h ss t in
        too_few p b (sum_to p (λ c. reads_of p p f c ss)) (omega arith) (omega arith)
        (omega (arith, reads_data p f h ss t, count_least p (diagonals_used p ss) (read_count p p f ss) (lone_extras p p f ss) (when (by_extra p p f ss) 1) odd q.few q.price))
