-- What an accepted bill means, of bytes or of a run: its bands add up to the bytes, and its cents
-- are the nearest to what the bands cost together, at an exact half the even ones, and only they.
use mathlib.Core.Path.{◌≡◌, sym, ap, ap₂, subst, ◌∙◌}
use Prim.Native.Nat.{ℕ, ◌+◌, ◌*◌}
use lib.Dec.{eqb}
use Rattle.mathematics.specs.Choice.{pick}
use Rattle.mathematics.proofs.ChoiceLaws.{first_none}
use Rattle.rebuild_runs.specs.declared.Run.{Run}
use Rattle.rebuild_runs.specs.declared.progress.Progress.{Progress}
use Rattle.rebuild_runs.specs.ProgressSays.{cells_so_far, ProgressSays}
use Rattle.rebuild_runs.specs.Runs.{read_refusal}
use Rattle.billing.specs.declared.Bill.{Bill}
use Rattle.billing.specs.Cents.{Nearest, bill_refusal}
use Rattle.billing.specs.Bills.{in_first, in_second, in_third, charge, cents_of, Says, BillSays, run_bytes, run_bill_refusal, RunBillSays}
use Rattle.billing.proofs.BillLaws.{bands_add}
use Rattle.billing.proofs.CentsLaws.{nearest_right, nearest_only}

-- what the bands of a bill cost at the rates r, s and t, in cents times bytes of a GiB
abbrev pub costs : Bill → ℕ → ℕ → ℕ → ℕ
costs x r s t = x.first * r + x.second * s + x.third * t

-- An accepted bill x of b bytes.
pub record BillMeans (b r s t : ℕ) (x : Bill) : Type 0 where
  -- "bytes in each band, adding up to the whole"
  pub whole : x.first + x.second + x.third ≡ b
  -- "sums go to the nearest cent, and an exact half goes to the even cent"
  pub nearest : Nearest (costs x r s t) x.cents
  -- and no other number of cents is such
  pub only : (n : ℕ) → Nearest (costs x r s t) n → n ≡ x.cents

means : (m b r s t : ℕ) (x : Bill) → Says m b r s t x → x.answer.refusal ≡ 0 → BillMeans b r s t x
means m b r s t x k z =
    let e : m ≡ 0 = sym k.answer.refusal ∙ z in
    let got : (n : ℕ) → pick (eqb m 0) n 0 ≡ n = λ n. ap (λ (i : ℕ). pick (eqb i 0) n 0) e in
    let i : x.first ≡ in_first b = k.first ∙ got (in_first b) in
    let j : x.second ≡ in_second b = k.second ∙ got (in_second b) in
    let l : x.third ≡ in_third b = k.third ∙ got (in_third b) in
    let c : x.cents ≡ cents_of b r s t = k.cents ∙ got (cents_of b r s t) in
    let cost : costs x r s t ≡ charge b r s t = ap₂ (λ (u v : ℕ). u * r + v * s + x.third * t) i j ∙ ap (λ (u : ℕ). in_first b * r + in_second b * s + u * t) l in
    let near : Nearest (costs x r s t) x.cents = rw (cost, c) (nearest_right (charge b r s t)) in
    record {
      whole = ap₂ (λ (u v : ℕ). u + v + x.third) i j ∙ ap (λ (u : ℕ). in_first b + in_second b + u) l ∙ bands_add b;
      nearest = near;
      only = λ n h. nearest_only (costs x r s t) n x.cents h near;
    }

pub bill_means : (b r s t : ℕ) (x : Bill) → BillSays b r s t x → x.answer.refusal ≡ 0 → BillMeans b r s t x
bill_means b r s t x k z = means (bill_refusal b r s t) b r s t x k z

pub run_bill_means : (x : Run) (r s t : ℕ) (y : Bill) → RunBillSays x r s t y → y.answer.refusal ≡ 0 → BillMeans (run_bytes x) r s t y
run_bill_means x r s t y k z = means (run_bill_refusal x r s t) (run_bytes x) r s t y k z

-- "The bill of a run takes cells read × s as its bytes": the cells that reading the record answers
pub run_bill_read : (x : Run) (r s t : ℕ) (y : Bill) (g : Progress) → RunBillSays x r s t y → y.answer.refusal ≡ 0 → ProgressSays x g → BillMeans (g.cells * x.shape.cell_size) r s t y
run_bill_read x r s t y g k z q =
    let e : read_refusal x ≡ 0 = (first_none (read_refusal x) (bill_refusal (run_bytes x) r s t) (sym k.answer.refusal ∙ z)).0 in
    subst (λ (n : ℕ). BillMeans (n * x.shape.cell_size) r s t y) (sym (q.cells ∙ ap (λ (n : ℕ). pick (eqb n 0) (cells_so_far x) 0) e)) (run_bill_means x r s t y k z)
