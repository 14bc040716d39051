-- What accepted answers of the planner mean: its record holds our plan, the ones of the route word
-- are the diagonals of these steps, and a lost P or Q reads all data cells.
use mathlib.Core.Path.{◌≡◌, sym, ap, subst, ◌∙◌}
use mathlib.Core.Bool.{true}
use mathlib.Core.Logic.{◌⊎◌, inl, inr}
use Prim.Native.Nat.{ℕ, suc, ◌+◌, ◌*◌, ◌≤◌, ◌<◌}
use lib.Count.{ones}
use lib.Dec.{eqb}
use Rattle.mathematics.specs.Choice.{pick}
use Rattle.liberation.specs.Limits.{InArray}
use Rattle.liberation.specs.Sets.{is_width, plan_refusal}
use Rattle.liberation.specs.Plans.{plan_of, route_word, read_count}
use Rattle.liberation.specs.Claims.{diagonals_used}
use Rattle.liberation.proofs.Widths.{width_least, width_odd}
use Rattle.liberation.proofs.RefusalLaws.{plan_of_lem}
use Rattle.liberation.proofs.PartLaws.{disk_cases}
use Rattle.liberation.proofs.PartPlans.{plans_part}
use Rattle.liberation.proofs.ParityReads.{data_ones, row_parity_ones, diagonal_parity_ones}
use Rattle.refusals.proofs.AnswerLaws.{answers_none}
use Rattle.planner.specs.declared.Plan.{Plan}
use Rattle.planner.specs.PlanSays.{PlanSays}
use Rattle.planner.proofs.FormLaws.{steps_held, plan_held}

word_ones : (p k f : ℕ) → is_width p ≡ true → k ≤ p → f ≤ k + 1 → ones (route_word p k f) ≡ diagonals_used p (plan_of p k f)
word_ones p k f w most h = go (disk_cases k f h)
  where
    go : (f < k) ⊎ ((f ≡ k) ⊎ (f ≡ suc k)) → ones (route_word p k f) ≡ diagonals_used p (plan_of p k f)
    go (inl l) = data_ones p k f (width_odd p w) (width_least p w) most l
    go (inr (inl e)) = subst (λ d. ones (route_word p k d) ≡ diagonals_used p (plan_of p k d)) (sym e) (row_parity_ones p k)
    go (inr (inr e)) = subst (λ d. ones (route_word p k d) ≡ diagonals_used p (plan_of p k d)) (sym e) (diagonal_parity_ones p k)

-- An accepted plan for disk f of an array with k data disks.
pub record PlanMeans (p k f : ℕ) (r : Plan) : Type 0 where
  pub array : InArray p k
  pub disk : f ≤ k + 1
  -- "The plan record holds its steps": those of our plan
  pub steps : steps_held p r ≡ plan_of p k f
  -- reads is the read count of these steps
  pub count : r.reads ≡ read_count p k f (steps_held p r)
  -- "the number of diagonals is the number of ones in it", for every disk
  pub diagonals : ones r.routes ≡ diagonals_used p (steps_held p r)
  -- "A lost P or Q reads k × p cells."
  pub parity : k ≤ f → r.reads ≡ k * p

pub plan_means : (p k f : ℕ) (r : Plan) → PlanSays p k f r → r.answer.refusal ≡ 0 → PlanMeans p k f r
plan_means p k f r q z =
    let n : plan_refusal p k f ≡ 0 = answers_none (plan_refusal p k f) r.answer q.answer z in
    let w = plan_of_lem p k f n in
    let e : steps_held p r ≡ plan_of p k f = plan_held p k f r q z in
    let c : r.reads ≡ read_count p k f (plan_of p k f) = q.reads ∙ ap (λ (x : ℕ). pick (eqb x 0) (read_count p k f (plan_of p k f)) 0) n in
    let v : r.routes ≡ route_word p k f = q.routes ∙ ap (λ (x : ℕ). pick (eqb x 0) (route_word p k f) 0) n in
    record {
      array = w.0;
      disk = w.1;
      steps = e;
      count = c ∙ sym (ap (read_count p k f) e);
      diagonals = ap ones v ∙ word_ones p k f w.0.width w.0.disks w.1 ∙ sym (ap (diagonals_used p) e);
      parity = λ l. c ∙ (plans_part p k f w.0.width w.0.disks w.1).parity l;
    }
