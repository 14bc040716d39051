-- Missing cells on at most two disks are always mended, as the theorem on two lost disks says; and
-- then as the rebuild of the two disks does.
use mathlib.Core.Path.{◌≡◌, sym, ◌∙◌}
use mathlib.Core.Bool.{true, false, true≢false}
use mathlib.Core.List.{List}
use mathlib.Core.Logic.{◌⊎◌, inl, inr, ⊎_elim}
use Prim.Native.Nat.{ℕ, ◌+◌, ◌*◌, ◌<◌, ◌≤◌}
use native.Mathlib.Omega.{arith}
use Rattle.mathematics.specs.Lists.{is_in, distinct, all_below}
use Rattle.mathematics.proofs.Flags.{flag}
use Rattle.liberation.specs.Sets.{is_width, disk_at}
use Rattle.liberation.specs.Stripes.Stripes.{is_stripe, clean}
use Rattle.liberation.specs.TwoDisks.Pairs.{pair_solved}
use Rattle.liberation.proofs.TwoDisks.PairLaws.{pair_only, pair_back, pair_clean, pair_stripe, pair_off}
use Rattle.rebuild_cells.specs.Theory.Mending.{mendable, mended_cells, AlikeOff, Determined}
use Rattle.rebuild_cells.proofs.Theory.MendLaws.{mended_back}
use Rattle.rebuild_cells.proofs.Theory.Exact.{determined_mendable}

module _ (p k a b : ℕ) (width : is_width p ≡ true) (some : 0 < p) (most : k ≤ p) (ha : a < k + 2) (hb : b < k + 2) (apart : a ≡ b → ⊥)
    (cs : List ℕ) (below : all_below (p * (k + 2)) cs ≡ true) (once : distinct cs ≡ true)
    (on : (x : ℕ) → is_in x cs ≡ true → (disk_at p x ≡ a) ⊎ (disk_at p x ≡ b)) where
  -- a cell off the two disks is not missing
  off : (x : ℕ) → (disk_at p x ≡ a → ⊥) → (disk_at p x ≡ b → ⊥) → is_in x cs ≡ false
  off x m n = ⊎_elim (λ h. absurd (⊎_elim m n (on x h))) (λ h. h) (flag (is_in x cs))

  disks_determined : (s : ℕ) → Determined p k s cs
  disks_determined s t u ht hu ct cu same = pair_only p k s a b width most ha hb apart t u ht hu ct cu (λ c l m n. same c l (off c m n))

  pub disks_mendable : mendable p k cs ≡ true
  disks_mendable = determined_mendable p k 1 some (omega arith) cs below once (disks_determined 1)

  -- where the survivors are those of a clean stripe, the mend is the rebuild of the two disks
  pub disks_mended : (s : ℕ) (t u : List ℕ) → is_stripe p k s t ≡ true → is_stripe p k s u ≡ true → clean p k s u ≡ true → AlikeOff p k s cs t u → mended_cells p k s cs t ≡ pair_solved p k s a b t
  disks_mended s t u ht hu cu same =
      mended_back p k s some cs below disks_mendable t u ht hu cu same
      ∙ sym (pair_back p k s a b width most ha hb apart t u ht hu cu (λ c l m n. same c l (off c m n)))

  -- where all cells of the two disks are missing, it is so for any survivors
  pub disks_whole : ((x : ℕ) → (disk_at p x ≡ a) ⊎ (disk_at p x ≡ b) → is_in x cs ≡ true) → (s : ℕ) (t : List ℕ) → is_stripe p k s t ≡ true → mended_cells p k s cs t ≡ pair_solved p k s a b t
  disks_whole all s t ht =
      mended_back p k s some cs below disks_mendable t (pair_solved p k s a b t) ht (pair_stripe p k s a b width most ha hb apart t ht) (pair_clean p k s a b width most ha hb apart t ht)
      (λ x l h. sym (pair_off p k s a b width most ha hb apart t ht x (λ e. true≢false (sym (all x (inl e)) ∙ h)) (λ e. true≢false (sym (all x (inr e)) ∙ h))))
