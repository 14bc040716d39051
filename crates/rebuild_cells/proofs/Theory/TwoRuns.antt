-- A list that is two runs, the cells of disk a and those of disk b: they are mended as the rebuild
-- of the two disks does.
use mathlib.Core.Path.{◌≡◌, sym, ap, ◌∙◌}
use mathlib.Core.Bool.{true}
use mathlib.Core.List.{List}
use mathlib.Core.Logic.{◌⊎◌, inl, inr, ⊎_elim}
use Prim.Native.Nat.{ℕ, ◌+◌, ◌-◌, ◌*◌, ◌<◌}
use native.Mathlib.Nat.{mod-lt}
use native.Mathlib.Omega.{arith}
use lib.ListN.{length, get_or}
use Rattle.mathematics.specs.Lists.{is_in, distinct, all_below}
use Rattle.mathematics.proofs.Flags.{clash}
use Rattle.mathematics.proofs.MemberLaws.{at_in}
use Rattle.mathematics.proofs.OrderLaws.{eq_or_ne, lt_or_le}
use Rattle.liberation.specs.Limits.{InArray}
use Rattle.liberation.specs.Sets.{place, disk_at, row_at}
use Rattle.liberation.proofs.SetLaws.{disk_place, place_of}
use Rattle.liberation.specs.Stripes.Stripes.{is_stripe}
use Rattle.liberation.specs.TwoDisks.Pairs.{pair_solved}
use Rattle.rebuild_cells.specs.Listed.{RunFrom}
use Rattle.rebuild_cells.specs.Theory.Mending.{mendable, mended_cells}
use Rattle.rebuild_cells.proofs.Theory.MendLaws.{off_list}
use Rattle.rebuild_cells.proofs.Theory.Exact.{at_once}
use Rattle.rebuild_cells.proofs.Theory.WholeDisks.{disks_mendable, disks_whole}

module _ (p k a b : ℕ) (array : InArray p k) (ha : a < k + 2) (hb : b < k + 2)
    (cs : List ℕ) (long : length cs ≡ 2 * p) (below : all_below (p * (k + 2)) cs ≡ true) (once : distinct cs ≡ true)
    (ra : RunFrom 0 p (a * p) cs) (rb : RunFrom p p (b * p) cs) where
  some : 0 < p
  some = array.some

  first : (r : ℕ) → r < p → get_or cs r 0 ≡ place p r a
  first r h = let z : r ≡ 0 + r = omega arith in ap (λ (i : ℕ). get_or cs i 0) z ∙ ra r h

  pub runs_apart : a ≡ b → ⊥
  runs_apart e =
      let z : p ≡ p + 0 = omega arith in
      let q : 0 ≡ p = at_once cs once 0 p (omega (arith, some)) (omega (arith, some)) (first 0 some ∙ ap (λ (d : ℕ). d * p + 0) e ∙ sym (rb 0 some) ∙ ap (λ (i : ℕ). get_or cs i 0) (sym z)) in
      omega (arith, some)

  on_at : (c : ℕ) → c < length cs → (disk_at p (get_or cs c 0) ≡ a) ⊎ (disk_at p (get_or cs c 0) ≡ b)
  on_at c h =
      ⊎_elim
      (λ l. inl (ap (disk_at p) (first c l) ∙ disk_place p c a l))
      (λ l. let z : c ≡ p + (c - p) = omega arith in let m : c - p < p = omega arith in inr (ap (λ (i : ℕ). disk_at p (get_or cs i 0)) z ∙ ap (disk_at p) (rb (c - p) m) ∙ disk_place p (c - p) b m))
      (lt_or_le c p)

  on : (x : ℕ) → is_in x cs ≡ true → (disk_at p x ≡ a) ⊎ (disk_at p x ≡ b)
  on x h = ⊎_elim inl (λ m. ⊎_elim inr (λ n. clash (is_in x cs) h (off_list cs x (none m n))) (eq_or_ne (disk_at p x) b)) (eq_or_ne (disk_at p x) a)
    where
      none : (disk_at p x ≡ a → ⊥) → (disk_at p x ≡ b → ⊥) → (c : ℕ) → c < length cs → x ≡ get_or cs c 0 → ⊥
      none m n c l e = ⊎_elim (λ q. m (ap (disk_at p) e ∙ q)) (λ q. n (ap (disk_at p) e ∙ q)) (on_at c l)

  all : (x : ℕ) → (disk_at p x ≡ a) ⊎ (disk_at p x ≡ b) → is_in x cs ≡ true
  all x = ⊎_elim
      (λ e. ap (λ (y : ℕ). is_in y cs) (sym (place_of p x) ∙ ap (place p (row_at p x)) e ∙ sym (first (row_at p x) (mod-lt x some))) ∙ at_in (row_at p x) cs (omega (arith, mod-lt x some)))
      (λ e. ap (λ (y : ℕ). is_in y cs) (sym (place_of p x) ∙ ap (place p (row_at p x)) e ∙ sym (rb (row_at p x) (mod-lt x some))) ∙ at_in (p + row_at p x) cs (omega (arith, mod-lt x some)))

  pub runs_mendable : mendable p k cs ≡ true
  runs_mendable = disks_mendable p k a b array.width some array.disks ha hb runs_apart cs below once on

  pub runs_mended : (s : ℕ) (t : List ℕ) → is_stripe p k s t ≡ true → mended_cells p k s cs t ≡ pair_solved p k s a b t
  runs_mended s t ht = disks_whole p k a b array.width some array.disks ha hb runs_apart cs below once on all s t ht
