-- Arrays with 2 data disks. P and Q give p cells together and the other data disk (p + 1)/2 at
-- least; by the plan that relieves it, it gives just these.
use mathlib.Core.Path.{◌≡◌, ap, ap₂, ◌∙◌}
use mathlib.Core.Bool.{true}
use mathlib.Core.Logic.{⊎_elim}
use mathlib.Core.List.{List}
use Prim.Native.Nat.{ℕ, ◌+◌, ◌-◌, ◌*◌, ◌≤◌, ◌<◌}
use native.Mathlib.Omega.{arith}
use Rattle.mathematics.proofs.OrderLaws.{lt_or_le}
use Rattle.mathematics.proofs.SumLaws.{sum_zero, sum_suc}
use Rattle.liberation.specs.Sets.{is_width}
use Rattle.liberation.specs.Plans.{Step, read_count}
use Rattle.liberation.specs.Judging.{accepted}
use Rattle.liberation.specs.Claims.{diagonals_used}
use Rattle.liberation.proofs.Widths.{width_least}
use Rattle.liberation.proofs.UsedLaws.{named}
use Rattle.liberation.proofs.AcceptedLaws.{accepted_named, used_total}
use Rattle.liberation.specs.BalancedPlan.Balanced.{reads_of}
use Rattle.liberation.proofs.BalancedPlan.Shares.{reads_lost, reads_P, reads_Q, reads_total}
use Rattle.liberation.specs.ReliefPlan.Relief.{relief_plan, Relief}
use Rattle.liberation.proofs.ReliefPlan.HalfAsked.{half_asked}
use Rattle.liberation.proofs.ReliefPlan.ReliefPlan.{plans_relief}

module _ (p f : ℕ) (w : is_width p ≡ true) (h : f < 2) where
  pair_reads : (ss : List Step) → accepted p 2 f ss ≡ true → read_count p 2 f ss ≡ reads_of p 2 f (1 - f) ss + p
  unfolding diagonals_used
  pair_reads ss t = omega (arith, reads_total p 2 f ss ok, sum_suc 3 reads, sum_suc 2 reads, sum_suc 1 reads, sum_suc 0 reads, sum_zero reads, parity, data_disks)
    where
      ok : named p ss ≡ true
      ok = accepted_named p 2 f ss t

      reads : ℕ → ℕ
      reads c = reads_of p 2 f c ss

      parity : reads 2 + reads 3 ≡ p
      parity = ap₂ ◌+◌ (reads_P p 2 f ss ok (λ e. omega arith)) (reads_Q p 2 f ss ok (λ e. omega arith)) ∙ used_total p 2 f ss t

      data_disks : reads 0 + reads 1 ≡ reads (1 - f)
      data_disks =
          ⊎_elim
          (λ l. let e : f ≡ 0 = omega arith in let o : 1 - f ≡ 1 = omega arith in omega (arith, reads_lost p 2 f ss, ap reads e, ap reads o))
          (λ l. let e : f ≡ 1 = omega arith in let o : 1 - f ≡ 0 = omega arith in omega (arith, reads_lost p 2 f ss, ap reads e, ap reads o))
          (lt_or_le f 1)

  pub pair_most : (ss : List Step) → accepted p 2 f ss ≡ true → 3 * p + 1 ≤ 2 * read_count p 2 f ss
  pair_most ss t = omega (arith, pair_reads ss t, half_asked p 2 f (1 - f) ss w (omega (arith, width_least p w)) (omega arith) (omega arith) (λ e. omega arith) t)

  pub pair_relief : 2 * read_count p 2 f (relief_plan p 2 f (1 - f)) ≡ 3 * p + 1
  pair_relief = omega (arith, pair_reads (relief_plan p 2 f (1 - f)) plan.is_accepted, plan.relieved)
    where
      plan : Relief p 2 f (1 - f)
      plan = plans_relief p 2 f (1 - f) w (omega (arith, width_least p w)) h (omega arith) (λ e. omega arith)
