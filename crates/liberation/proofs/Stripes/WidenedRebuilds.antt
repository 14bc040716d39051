-- Rebuilding a lost disk of a part-filled array is rebuilding it in the full one, with zeros on the
-- absent disks, on dirty stripes too: our plan has the same steps there, and the sets that it uses
-- have the same XOR.
use mathlib.Core.Path.{◌≡◌, sym, ap, subst, ◌∙◌}
use mathlib.Core.Bool.{Bool, true, false, ◌&&◌, false≢true}
use mathlib.Core.Logic.{⊎_elim}
use mathlib.Core.List.{List, []}
use Prim.Native.Nat.{ℕ, ◌+◌, ◌-◌, ◌*◌, ◌≤◌, ◌<◌}
use native.Mathlib.Nat.{mod-lt}
use native.Mathlib.Omega.{arith}
use lib.Dec.{eqb}
use borrow.Author.Tests.{eqb-true}
use Rattle.mathematics.specs.Choice.{pick}
use Rattle.mathematics.proofs.Flags.{and_r, or_cases}
use Rattle.mathematics.proofs.OrderLaws.{lt_or_le}
use Rattle.liberation.specs.Sets.{place, row_at, disk_at, is_width, row_set, diagonal_set, set_of}
use Rattle.liberation.specs.Plans.{Step, plan_of}
use Rattle.liberation.specs.Judging.{accepted}
use Rattle.liberation.specs.Claims.{uses, full_disk}
use Rattle.liberation.proofs.SetLaws.{place_of, place_below, disk_place}
use Rattle.liberation.proofs.PlaceLaws.{some_row, disk_below}
use Rattle.liberation.proofs.PartLaws.{full_data, full_parity, full_range, plan_part}
use Rattle.liberation.proofs.PartPlans.{plan_accepted}
use Rattle.liberation.proofs.AcceptedLaws.{Passes, none, next, accepted_passes}
use Rattle.liberation.specs.Stripes.Stripes.{cell_at, xor_over, is_stripe, followed, column_of, rebuilt}
use Rattle.liberation.specs.Stripes.Widened.{widened}
use Rattle.liberation.proofs.Stripes.StripeCellLaws.{cells_equal, column_cell}
use Rattle.liberation.proofs.Stripes.Following.{followed_stripe, followed_off, followed_zero, followed_same}
use Rattle.liberation.proofs.Stripes.Rebuilding.{column_long, lost_unused}
use Rattle.liberation.proofs.Stripes.Widening.{widened_absent, widened_cell, widened_stripe, row_kept, diagonal_kept}

-- stripes that agree on some disks do so in the full array
module _ (p k s : ℕ) (most : k ≤ p) (t u : List ℕ) (ht : is_stripe p k s t ≡ true) (hu : is_stripe p k s u ≡ true) (P : ℕ → Type 0) (same : (x : ℕ) → x < p * (k + 2) → P (disk_at p x) → cell_at s t x ≡ cell_at s u x) where
  present : (r c : ℕ) → r < p → c < k + 2 → P c → cell_at s (widened p k s t) (place p r (full_disk p k c)) ≡ cell_at s (widened p k s u) (place p r (full_disk p k c))
  present r c l m h =
      widened_cell p k s t most ht r c l m ∙ same (place p r c) (place_below p (k + 2) r c l m) (subst P (sym (disk_place p r c l)) h) ∙ sym (widened_cell p k s u most hu r c l m)

  pub widened_alike : (x : ℕ) → x < p * (p + 2) → ((c : ℕ) → full_disk p k c ≡ disk_at p x → P c) → cell_at s (widened p k s t) x ≡ cell_at s (widened p k s u) x
  widened_alike x h on =
      ap (cell_at s (widened p k s t)) (sym (place_of p x))
      ∙ ⊎_elim (λ l. there d (full_data p k d l) (omega arith)) (λ l. ⊎_elim (λ m. widened_absent p k s t most ht r d row l m ∙ sym (widened_absent p k s u most hu r d row l m)) (λ m. there (d - p + k) (full_parity p k (d - p + k) (omega arith) ∙ omega arith) (omega (arith, disk_below p (p + 2) x h))) (lt_or_le d p)) (lt_or_le d k)
      ∙ ap (cell_at s (widened p k s u)) (place_of p x)
    where
      d : ℕ
      d = disk_at p x

      r : ℕ
      r = row_at p x

      row : r < p
      row = mod-lt x (some_row p (p + 2) x h)

      there : (c : ℕ) → full_disk p k c ≡ d → c < k + 2 → cell_at s (widened p k s t) (place p r d) ≡ cell_at s (widened p k s u) (place p r d)
      there c e l = subst (λ (y : ℕ). cell_at s (widened p k s t) (place p r y) ≡ cell_at s (widened p k s u) (place p r y)) e (present r c row l (on c e))

-- the sets that passing steps use have numbers below p
used_below : (kind i : ℕ) {p k f : ℕ} {done : List ℕ} {ss : List Step} → Passes p k f done ss → uses kind i ss ≡ true → i < p
unfolding uses
used_below kind i none h = absurd (false≢true h)
used_below kind i (next {s = st} {ss = ss} g rest) h =
    ⊎_elim (λ e. omega (arith, g.number_below, eqb-true st.number i (and_r (eqb st.kind kind) (eqb st.number i) e))) (λ e. used_below kind i rest e) (or_cases (eqb st.kind kind && eqb st.number i) (uses kind i ss) h)

-- a set of either kind
kept : (p k s : ℕ) (t : List ℕ) → k ≤ p → is_stripe p k s t ≡ true → (kind i : ℕ) → i < p → xor_over s (cell_at s (widened p k s t)) (set_of p p kind i) ≡ xor_over s (cell_at s t) (set_of p k kind i)
kept p k s t most ht kind i l = go (eqb kind 0)
  where
    go : (b : Bool) → xor_over s (cell_at s (widened p k s t)) (pick b (row_set p p i) (diagonal_set p p i)) ≡ xor_over s (cell_at s t) (pick b (row_set p k i) (diagonal_set p k i))
    go true = row_kept p k s t most ht i l
    go false = diagonal_kept p k s t most ht i l

module _ (p k s f : ℕ) (width : is_width p ≡ true) (most : k ≤ p) (disk : f ≤ k + 1) (t : List ℕ) (ht : is_stripe p k s t ≡ true) where
  passes : Passes p k f [] (plan_of p k f)
  passes = accepted_passes p k f (plan_of p k f) (plan_accepted p k f width most disk)

  fine : accepted p p (full_disk p k f) (plan_of p p (full_disk p k f)) ≡ true
  fine = plan_accepted p p (full_disk p k f) width (omega arith) (full_range p k most f disk)

  below : full_disk p k f < p + 2
  below = omega (arith, full_range p k most f disk)

  written : is_stripe p k s (followed p k s f (plan_of p k f) t) ≡ true
  written = followed_stripe p k s f passes t ht

  full_written : is_stripe p p s (widened p k s (followed p k s f (plan_of p k f) t)) ≡ true
  full_written = widened_stripe p k s (followed p k s f (plan_of p k f) t) most written

  -- the steps in the full array leave what they left in the other
  stands : followed p p s (full_disk p k f) (plan_of p p (full_disk p k f)) (widened p k s (followed p k s f (plan_of p k f) t)) ≡ widened p k s (followed p k s f (plan_of p k f) t)
  stands =
      followed_same p p s (full_disk p k f) (accepted_passes p p (full_disk p k f) (plan_of p p (full_disk p k f)) fine) (widened p k s (followed p k s f (plan_of p k f) t)) full_written
      (λ kind i h.
      let e : uses kind i (plan_of p k f) ≡ true = ap (uses kind i) (plan_part p k most f disk) ∙ h in
      kept p k s (followed p k s f (plan_of p k f) t) most written kind i (used_below kind i passes e) ∙ followed_zero p k s f passes t ht kind i e)

  pub widened_rebuilt : rebuilt p p s (full_disk p k f) (widened p k s t) ≡ rebuilt p k s f t
  unfolding rebuilt
  widened_rebuilt =
      let v = followed p k s f (plan_of p k f) t in
      lost_unused p p s (full_disk p k f) fine below (widened p k s t) (widened p k s v) (widened_stripe p k s t most ht) full_written
      (λ x l n. widened_alike p k s most t v ht written (λ c. c ≡ f → ⊥) (λ y m h. sym (followed_off p k s f passes t ht y h)) x l (λ c e q. n (sym e ∙ ap (full_disk p k) q)))
      ∙ ap (column_of p s (full_disk p k f)) stands
      ∙ cells_equal p s (column_of p s (full_disk p k f) (widened p k s v)) (column_of p s f v) (column_long p p s (full_disk p k f) (widened p k s v) below full_written) (column_long p k s f v (omega arith) written)
      (λ r l. column_cell p s (full_disk p k f) r (widened p k s v) l ∙ widened_cell p k s v most written r f l (omega arith) ∙ sym (column_cell p s f r v l))
