-- Bills of hosted rebuilds (document 02, asks 6 and 10), and the promises of the calls, for
-- accepted and refused calls alike.
use Rattle.std.specs.Prelude.{◌≡◌, ℕ, ◌+◌, ◌-◌, ◌*◌, ◌^◌, eqb}
use Rattle.mathematics.specs.Choice.{pick, first_of}
use Rattle.refusals.specs.Answers.{Answers}
use Rattle.rebuild_runs.specs.declared.Run.{Run}
use Rattle.rebuild_runs.specs.ProgressSays.{cells_so_far}
use Rattle.rebuild_runs.specs.Runs.{read_refusal}
use Rattle.billing.specs.Cents.{least, nearest, bill_refusal}
use Rattle.billing.specs.declared.Bill.{Bill}

-- "The first 64 GiB have one rate, the part above that up to 1,024 GiB a second, the rest a third":
-- the bytes in each band
abbrev pub in_first : ℕ → ℕ
in_first b = least b (2 ^ 36)

abbrev pub in_second : ℕ → ℕ
in_second b = least b (2 ^ 40) - least b (2 ^ 36)

abbrev pub in_third : ℕ → ℕ
in_third b = b - least b (2 ^ 40)

-- "The three products are added before any division": in cents times bytes of a GiB
abbrev pub charge : ℕ → ℕ → ℕ → ℕ → ℕ
charge b r s t = in_first b * r + in_second b * s + in_third b * t

-- "The three bands are still added before the rounding"
abbrev pub cents_of : ℕ → ℕ → ℕ → ℕ → ℕ
cents_of b r s t = nearest (charge b r s t)

-- a bill of b bytes that is refused by n, or not where n is 0
pub record Says (n b r s t : ℕ) (x : Bill) : Type 0 where
  pub answer : Answers n x.answer
  pub first : x.first ≡ pick (eqb n 0) (in_first b) 0
  pub second : x.second ≡ pick (eqb n 0) (in_second b) 0
  pub third : x.third ≡ pick (eqb n 0) (in_third b) 0
  pub cents : x.cents ≡ pick (eqb n 0) (cents_of b r s t) 0

-- the bill of b bytes at the rates r, s and t
abbrev pub BillSays : ℕ → ℕ → ℕ → ℕ → Bill → Type 0
BillSays b r s t x = Says (bill_refusal b r s t) b r s t x

-- "The bill of a run takes cells read × s as its bytes": its record refuses by 1, 13, 2, 3 and 10,
-- as reading it does
abbrev pub run_bytes : Run → ℕ
run_bytes x = cells_so_far x * x.shape.cell_size

abbrev pub run_bill_refusal : Run → ℕ → ℕ → ℕ → ℕ
run_bill_refusal x r s t = first_of (read_refusal x) (bill_refusal (run_bytes x) r s t)

-- the bill of a run at the rates r, s and t
abbrev pub RunBillSays : Run → ℕ → ℕ → ℕ → Bill → Type 0
RunBillSays x r s t y = Says (run_bill_refusal x r s t) (run_bytes x) r s t y

-- a refusal by number n
pub record BillRefused (n : ℕ) (x : Bill) : Type 0 where
  pub answer : Answers n x.answer
  pub first : x.first ≡ 0
  pub second : x.second ≡ 0
  pub third : x.third ≡ 0
  pub cents : x.cents ≡ 0
