-- Rebuilding one lost disk by an accepted plan: every row is rebuilt, from surviving cells alone.
-- So a clean stripe's column comes back whatever the stripe holds for the lost disk,
-- and the rebuilt column depends only on the cells marked in the read list, none of them on the
-- lost disk, on dirty stripes too.
use mathlib.Core.Path.{◌≡◌, sym, ap, ◌∙◌}
use mathlib.Core.Bool.{true}
use mathlib.Core.List.{List}
use Prim.Native.Nat.{ℕ, ◌+◌, ◌*◌, ◌<◌}
use native.Mathlib.Omega.{arith}
use lib.ListN.{length, get_or}
use Rattle.mathematics.specs.Xor.{all_bytes}
use Rattle.liberation.specs.Sets.{place, disk_at}
use Rattle.liberation.specs.Plans.{Step, plan_of, list_of, read_list}
use Rattle.liberation.specs.Judging.{accepted}
use Rattle.liberation.proofs.ReadLaws.{holds}
use Rattle.liberation.proofs.ReadListLaws.{list_marked}
use Rattle.liberation.proofs.AcceptedLaws.{accepted_passes}
use Rattle.liberation.proofs.RowLaws.{every_row}
use Rattle.liberation.specs.Stripes.Stripes.{cell_at, is_stripe, clean, followed, column_of, rebuilt_by, rebuilt}
use Rattle.liberation.proofs.Stripes.StripeCellLaws.{cell_fits, cell_long, cells_equal, column_cell}
use Rattle.liberation.proofs.Stripes.Solving.{cell_bytes_lem, stripe_long_lem, stripe_bytes}
use Rattle.liberation.proofs.Stripes.Following.{followed_stripe, followed_clean, followed_agree}

pub column_long : (p k s c : ℕ) (t : List ℕ) → c < k + 2 → is_stripe p k s t ≡ true → length (column_of p s c t) ≡ p * s
column_long p k s c t l h = cell_long (p * s) c t (omega (arith, cell_fits (k + 2) (p * s) c l, stripe_long_lem p k s t h))

-- columns with equal cells
columns_equal : (p k s c : ℕ) (t u : List ℕ) → c < k + 2 → is_stripe p k s t ≡ true → is_stripe p k s u ≡ true → ((r : ℕ) → r < p → cell_at s t (place p r c) ≡ cell_at s u (place p r c)) → column_of p s c t ≡ column_of p s c u
columns_equal p k s c t u l ht hu h =
    cells_equal p s (column_of p s c t) (column_of p s c u) (column_long p k s c t l ht) (column_long p k s c u l hu) (λ r m. column_cell p s c r t m ∙ h r m ∙ sym (column_cell p s c r u m))

-- an accepted plan, on two stripes
module _ (p k s f : ℕ) (ss : List Step) (ok : accepted p k f ss ≡ true) (t u : List ℕ) (ht : is_stripe p k s t ≡ true) (hu : is_stripe p k s u ≡ true) (alive : (x : ℕ) → x < p * (k + 2) → (disk_at p x ≡ f → ⊥) → holds p k x ss ≡ true → cell_at s t x ≡ cell_at s u x) where
  -- alike in the surviving cells of its sets, they give the same rows
  pub steps_agree : (r : ℕ) → r < p → cell_at s (followed p k s f ss t) (place p r f) ≡ cell_at s (followed p k s f ss u) (place p r f)
  steps_agree r l = followed_agree p k s f (accepted_passes p k f ss ok) t u ht hu alive r l (every_row p k f ss ok r l)

  -- and where one of them is clean, its rows
  pub steps_back : clean p k s u ≡ true → (r : ℕ) → r < p → cell_at s (followed p k s f ss t) (place p r f) ≡ cell_at s u (place p r f)
  steps_back cu r l =
      steps_agree r l ∙ ap (λ (v : List ℕ). cell_at s v (place p r f)) (followed_clean p k s f (accepted_passes p k f ss ok) u hu cu)

-- the column that an accepted plan rebuilds
module _ (p k s f : ℕ) (ss : List Step) (ok : accepted p k f ss ≡ true) (disk : f < k + 2) where
  -- the survivors of a clean stripe give its lost column
  pub plan_back :
      (t u : List ℕ) → is_stripe p k s t ≡ true → is_stripe p k s u ≡ true
      → clean p k s u ≡ true
      → ((x : ℕ) → x < p * (k + 2) → (disk_at p x ≡ f → ⊥) → cell_at s t x ≡ cell_at s u x)
      → rebuilt_by p k s f ss t ≡ column_of p s f u
  plan_back t u ht hu cu same = columns_equal p k s f (followed p k s f ss t) u disk (followed_stripe p k s f (accepted_passes p k f ss ok) t ht) hu (steps_back p k s f ss ok t u ht hu (λ x l n e. same x l n) cu)

  -- stripes alike in the survivors that the plan's sets hold give one column
  alike :
      (t u : List ℕ) → is_stripe p k s t ≡ true → is_stripe p k s u ≡ true
      → ((x : ℕ) → x < p * (k + 2) → (disk_at p x ≡ f → ⊥) → holds p k x ss ≡ true → cell_at s t x ≡ cell_at s u x)
      → rebuilt_by p k s f ss t ≡ rebuilt_by p k s f ss u
  alike t u ht hu same =
      let passes = accepted_passes p k f ss ok in
      columns_equal p k s f (followed p k s f ss t) (followed p k s f ss u) disk (followed_stripe p k s f passes t ht) (followed_stripe p k s f passes u hu) (steps_agree p k s f ss ok t u ht hu same)

  -- stripes alike off the lost disk do
  pub plan_unused :
      (t u : List ℕ) → is_stripe p k s t ≡ true → is_stripe p k s u ≡ true
      → ((x : ℕ) → x < p * (k + 2) → (disk_at p x ≡ f → ⊥) → cell_at s t x ≡ cell_at s u x)
      → rebuilt_by p k s f ss t ≡ rebuilt_by p k s f ss u
  plan_unused t u ht hu same = alike t u ht hu (λ x l n e. same x l n)

  -- and stripes alike in the cells marked 1 in the plan's read list
  pub plan_only_read :
      (t u : List ℕ) → is_stripe p k s t ≡ true → is_stripe p k s u ≡ true
      → ((x : ℕ) → get_or (list_of p k f ss) x 0 ≡ 1 → cell_at s t x ≡ cell_at s u x)
      → rebuilt_by p k s f ss t ≡ rebuilt_by p k s f ss u
  plan_only_read t u ht hu same = alike t u ht hu (λ x l n e. same x (list_marked p k f x ss l n e))

-- our plan
module _ (p k s f : ℕ) (ok : accepted p k f (plan_of p k f) ≡ true) (disk : f < k + 2) where
  -- the survivors of a clean stripe give its lost column
  pub one_back :
      (t u : List ℕ) → is_stripe p k s t ≡ true → is_stripe p k s u ≡ true
      → clean p k s u ≡ true
      → ((x : ℕ) → x < p * (k + 2) → (disk_at p x ≡ f → ⊥) → cell_at s t x ≡ cell_at s u x)
      → rebuilt p k s f t ≡ column_of p s f u
  unfolding rebuilt
  one_back t u ht hu cu same = plan_back p k s f (plan_of p k f) ok disk t u ht hu cu same

  -- "What the stripe holds for the lost disk is never used": stripes alike off it give one column,
  -- dirty stripes too
  pub lost_unused :
      (t u : List ℕ) → is_stripe p k s t ≡ true → is_stripe p k s u ≡ true
      → ((x : ℕ) → x < p * (k + 2) → (disk_at p x ≡ f → ⊥) → cell_at s t x ≡ cell_at s u x)
      → rebuilt p k s f t ≡ rebuilt p k s f u
  unfolding rebuilt
  lost_unused t u ht hu same = plan_unused p k s f (plan_of p k f) ok disk t u ht hu same

  -- "Two accepted calls .., on stripes that agree in every cell marked 1 in that disk's read list,
  -- write the same column, on dirty stripes too."
  pub only_read :
      (t u : List ℕ) → is_stripe p k s t ≡ true → is_stripe p k s u ≡ true
      → ((x : ℕ) → get_or (read_list p k f) x 0 ≡ 1 → cell_at s t x ≡ cell_at s u x)
      → rebuilt p k s f t ≡ rebuilt p k s f u
  unfolding rebuilt
  only_read t u ht hu same = plan_only_read p k s f (plan_of p k f) ok disk t u ht hu same

  pub rebuilt_long : (t : List ℕ) → is_stripe p k s t ≡ true → length (rebuilt p k s f t) ≡ p * s
  unfolding rebuilt
  rebuilt_long t h = column_long p k s f (followed p k s f (plan_of p k f) t) disk (followed_stripe p k s f (accepted_passes p k f (plan_of p k f) ok) t h)

  pub rebuilt_bytes : (t : List ℕ) → is_stripe p k s t ≡ true → all_bytes (rebuilt p k s f t) ≡ true
  unfolding rebuilt
  rebuilt_bytes t h =
      let after = followed p k s f (plan_of p k f) t in
      cell_bytes_lem (p * s) f after (stripe_bytes p k s after (followed_stripe p k s f (accepted_passes p k f (plan_of p k f) ok) t h))
