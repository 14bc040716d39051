-- Our plan in a part-filled array (k data disks, k ≤ p): it is accepted, it reads on the disks
-- present what the full array's plan reads there, and for a lost P or Q every data cell.
use mathlib.Core.Path.{◌≡◌, sym, ap, ap₂, ◌∙◌}
use mathlib.Core.Bool.{Bool, true, ◌&&◌, not}
use mathlib.Core.Logic.{◌⊎◌, inl, inr}
use Prim.Native.Nat.{ℕ, suc, ◌+◌, ◌*◌, ◌≤◌, ◌<◌}
use native.Mathlib.Omega.{arith}
use lib.Dec.{eqb}
use lib.ListN.{get_or}
use Rattle.mathematics.specs.Choice.{when}
use Rattle.liberation.specs.Sets.{is_width, place}
use Rattle.liberation.specs.Plans.{plan_of, read_count, read_list}
use Rattle.liberation.specs.Judging.{accepted}
use Rattle.liberation.specs.Claims.{full_disk, PlansPart}
use Rattle.liberation.proofs.Widths.{width_odd, width_least}
use Rattle.liberation.proofs.SetLaws.{disk_place, place_below}
use Rattle.liberation.proofs.ReadLaws.{holds}
use Rattle.liberation.proofs.UsedLaws.{named_numbers}
use Rattle.liberation.proofs.AcceptedLaws.{accepted_named}
use Rattle.liberation.proofs.ParityPlans.{row_parity_accepted, diagonal_parity_accepted}
use Rattle.liberation.proofs.OurPlan.{ours_accepted}
use Rattle.liberation.proofs.ReadListLaws.{read_at}
use Rattle.liberation.proofs.PartLaws.{disk_cases, full_range, full_same, holds_part, accepted_part, plan_part}
use Rattle.liberation.proofs.ParityReads.{row_parity_reads, diagonal_parity_reads}

-- in the full array, for any disk
full_accepted : (p f : ℕ) → is_width p ≡ true → f ≤ p + 1 → accepted p p f (plan_of p p f) ≡ true
full_accepted p f w h = go (disk_cases p f h)
  where
    go : (f < p) ⊎ ((f ≡ p) ⊎ (f ≡ suc p)) → accepted p p f (plan_of p p f) ≡ true
    go (inl l) = ours_accepted p f (width_odd p w) (width_least p w) l
    go (inr (inl e)) = ap (λ (x : ℕ). accepted p p x (plan_of p p x)) e ∙ row_parity_accepted p p
    go (inr (inr e)) = ap (λ (x : ℕ). accepted p p x (plan_of p p x)) e ∙ diagonal_parity_accepted p p

-- so in every array
pub plan_accepted : (p k f : ℕ) → is_width p ≡ true → k ≤ p → f ≤ k + 1 → accepted p k f (plan_of p k f) ≡ true
plan_accepted p k f w most h =
    ap (accepted p k f) (plan_part p k most f h) ∙ accepted_part p k most f h (plan_of p p (full_disk p k f)) ∙ full_accepted p (full_disk p k f) w (full_range p k most f h)

-- the read list at row r of disk c
cell_read : (p k f r c : ℕ) → r < p → c < k + 2 → get_or (read_list p k f) (place p r c) 0 ≡ when (not (eqb c f) && holds p k (place p r c) (plan_of p k f)) 1
cell_read p k f r c h l =
    read_at p k f (place p r c) (place_below p (k + 2) r c h l)
    ∙ ap (λ (d : ℕ). when (not (eqb d f) && holds p k (place p r c) (plan_of p k f)) 1) (disk_place p r c h)

module _ (p k f : ℕ) (w : is_width p ≡ true) (most : k ≤ p) (h : f ≤ k + 1) where
  within : (r c : ℕ) → r < p → c < k + 2 → get_or (read_list p k f) (place p r c) 0 ≡ get_or (read_list p p (full_disk p k f)) (place p r (full_disk p k c)) 0
  within r c l m =
      cell_read p k f r c l m
      ∙ ap₂ (λ (a b : Bool). when (not a && b) 1) (sym (full_same p k most c f))
      (holds_part p k most r c (plan_of p k f) l (omega arith) (named_numbers p (plan_of p k f) (accepted_named p k f (plan_of p k f) (plan_accepted p k f w most h)))
      ∙ ap (holds p p (place p r (full_disk p k c))) (plan_part p k most f h))
      ∙ sym (cell_read p p (full_disk p k f) r (full_disk p k c) l (omega (arith, full_range p k most c (omega arith))))

  parity : k ≤ f → read_count p k f (plan_of p k f) ≡ k * p
  parity l = go (disk_cases k f h)
    where
      go : (f < k) ⊎ ((f ≡ k) ⊎ (f ≡ suc k)) → read_count p k f (plan_of p k f) ≡ k * p
      go (inl m) = absurd (omega arith)
      go (inr (inl e)) = ap (λ (x : ℕ). read_count p k x (plan_of p k x)) e ∙ row_parity_reads p k (width_odd p w) most
      go (inr (inr e)) = ap (λ (x : ℕ). read_count p k x (plan_of p k x)) e ∙ diagonal_parity_reads p k (width_odd p w) most

pub plans_part : PlansPart
plans_part p k f w most h = record { ours_accepted = plan_accepted p k f w most h; within = within p k f w most h; parity = parity p k f w most h }
