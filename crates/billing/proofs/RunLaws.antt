-- The bill of a run: the bytes that a run can have read are at most 2^54, since each step reads at
-- most p(k + 2) cells of at most 4,096 bytes.
use mathlib.Core.Path.{◌≡◌, sym, ap, ◌∙◌}
use Prim.Native.Nat.{ℕ, ◌*◌, ◌^◌, ◌≤◌}
use native.Mathlib.Nat.{mul-le-mul}
use native.Mathlib.Omega.{arith}
use lib.Dec.{eqb}
use Rattle.mathematics.specs.Choice.{pick}
use Rattle.liberation.proofs.RefusalLaws.{numbers_of_lem}
use Rattle.rebuild_runs.specs.declared.Run.{Run}
use Rattle.rebuild_runs.specs.declared.progress.Progress.{Progress}
use Rattle.rebuild_runs.specs.ProgressSays.{cells_so_far, ProgressSays}
use Rattle.rebuild_runs.specs.Runs.{read_refusal}
use Rattle.rebuild_runs.proofs.RunRefusals.{read_passed}

-- what was read of a record that is not refused
module _ (x : Run) (g : Progress) (k : ProgressSays x g) (z : g.answer.refusal ≡ 0) where
  fine : read_refusal x ≡ 0
  fine = sym k.answer.refusal ∙ z

  read : g.cells ≡ cells_so_far x
  read = k.cells ∙ ap (λ (n : ℕ). pick (eqb n 0) (cells_so_far x) 0) fine

  -- its bytes are below 2^54, so they do not wrap and 17 never comes
  pub bytes_fit : g.cells * x.shape.cell_size ≤ 2 ^ 54
  bytes_fit = omega (arith, mul-le-mul k.few (numbers_of_lem x.shape.width x.shape.disks x.shape.cell_size x.lost (read_passed x fine).0).2)
