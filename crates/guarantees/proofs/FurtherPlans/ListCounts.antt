-- The ones on a disk in a plan's read list are the cells that the plan reads there.
use mathlib.Core.Path.{◌≡◌, ap, ◌∙◌}
use mathlib.Core.Logic.{⊎_elim}
use mathlib.Core.List.{List}
use Prim.Native.Nat.{ℕ, ◌+◌, ◌-◌, ◌*◌, ◌≤◌, ◌<◌, ◌%◌, ◌/◌}
use native.Mathlib.Nat.{mul-le-mul_right}
use native.Mathlib.Omega.{arith}
use lib.ListN.{take, drop}
use Rattle.mathematics.specs.Choice.{when}
use Rattle.mathematics.specs.Lists.{is_in}
use Rattle.mathematics.proofs.OrderLaws.{eq_or_ne}
use Rattle.mathematics.specs.Sums.{ones_in, sum_to}
use Rattle.liberation.specs.Plans.{Step, cells_read, marks_from, list_of}
use Rattle.liberation.proofs.MarkLists.{take_marks, drop_marks}
use Rattle.liberation.proofs.ReadLaws.{marks_total}
use Rattle.liberation.specs.BalancedPlan.Balanced.{reads_of, fair_share}
use Rattle.planner.proofs.ReadListMeans.{marks_ones}
use Rattle.guarantees.specs.FurtherPlans.Counts.{ones_on, share}

pub ones_on_lem : (p k f c : ℕ) (ss : List Step) → c < k + 2 → ones_on p c (list_of p k f ss) ≡ reads_of p k f c ss
unfolding reads_of
ones_on_lem p k f c ss h =
    let ys : List ℕ = cells_read p k f ss in
    let rest : ℕ = p * (k + 2) - c * p in
    let l : c + 1 ≤ k + 2 = omega arith in
    let room : (c + 1) * p ≤ (k + 2) * p = mul-le-mul_right p l in
    let whole : p * (k + 2) ≡ c * p + rest = omega (arith, room) in
    let none : 0 + c * p ≡ c * p = omega arith in
    ap (λ (n : ℕ). ones_in (take p (drop (c * p) (marks_from n 0 ys)))) whole
    ∙ ap (λ (o : List ℕ). ones_in (take p o)) (drop_marks (c * p) rest 0 ys)
    ∙ ap ones_in (take_marks p rest (0 + c * p) ys (omega (arith, room)))
    ∙ marks_ones p (0 + c * p) ys
    ∙ marks_total p (0 + c * p) ys
    ∙ ap (λ (x : ℕ). sum_to p (λ i. when (is_in (x + i) ys) 1)) none

-- the two ways to write the fair share
pub share_is : (p : ℕ) → p % 2 ≡ 1 → fair_share p ≡ share p
share_is p odd = ⊎_elim (λ e. at_one (p / 4) (omega arith)) (λ n. at_three (p / 4) (omega arith)) (eq_or_ne (p % 4) 1)
  where
    sum : (a b c : ℕ) → (p + 1) / 2 ≡ a → (p - 1) / 4 ≡ b → (3 * p + 2) / 4 ≡ c → a + b ≡ c → fair_share p ≡ share p
    sum a b c x y z e = omega arith

    at_one : (m : ℕ) → p ≡ 4 * m + 1 → fair_share p ≡ share p
    at_one m e = sum (2 * m + 1) m (3 * m + 1) (omega arith) (omega arith) (omega arith) (omega arith)

    at_three : (m : ℕ) → p ≡ 4 * m + 3 → fair_share p ≡ share p
    at_three m e = sum (2 * m + 2) m (3 * m + 2) (omega arith) (omega arith) (omega arith) (omega arith)
