-- A disk fits exactly if its p equations hold of the survivors. The cells on the disk cancel, so
-- the XOR of an equation is that of its survivors, in t and in every stripe that is t off the disk.
-- A clean one has zero there, as a sum of sets. Conversely fill the disk by the row sets (Q by the
-- diagonal sets): these are zero then, and as the equations hold, the other sets are zero too.
use mathlib.Core.Path.{◌≡◌, refl, sym, ap, ap₂, ◌∙◌}
use mathlib.Core.Bool.{true, not}
use mathlib.Core.Logic.{⊎_elim}
use mathlib.Core.List.{List, [], ◌∷◌, ◌++◌}
use Prim.Native.Nat.{ℕ, suc, ◌+◌, ◌*◌, ◌≤◌, ◌<◌}
use native.Mathlib.Omega.{arith}
use lib.Dec.{eqb, ltb}
use lib.ListN.{replicate, length-replicate}
use borrow.Author.Tests.{eqb-false, ltb-true, not-true}
use Rattle.mathematics.specs.Lists.{is_in, all_below, same}
use Rattle.mathematics.specs.Xor.{xor_l}
use Rattle.mathematics.proofs.Flags.{and_l, and_r, same_flag}
use Rattle.mathematics.proofs.AllLaws.{all_at, all_of_lem}
use Rattle.mathematics.proofs.MemberLaws.{in_below, same_true, same_self}
use Rattle.mathematics.proofs.XorLaws.{xor_l_self, zero_xor_l, xor_l_zeros, zeros_bytes}
use Rattle.liberation.specs.Sets.{is_width, place, disk_at, row_set, diagonal_set, lost_in, surviving_in}
use Rattle.liberation.specs.Plans.{all_of}
use Rattle.liberation.specs.Judging.{accepted}
use Rattle.liberation.proofs.SetLaws.{lost_below, in_surviving, set_below, surviving_below, place_below}
use Rattle.liberation.proofs.AcceptedLaws.{Passes, accepted_passes}
use Rattle.liberation.proofs.RowLaws.{uses_all}
use Rattle.liberation.proofs.ParityPlans.{rows_accepted, diagonals_accepted}
use Rattle.liberation.specs.Stripes.Stripes.{cell_at, xor_over, is_stripe, clean, followed, column_of, rebuilt}
use Rattle.liberation.proofs.Stripes.StripeCellLaws.{cell_fits, cell_long}
use Rattle.liberation.proofs.Stripes.OverLaws.{Long, over_long, over_bytes, over_ext, over_append, over_split}
use Rattle.liberation.proofs.Stripes.Solving.{cells_long, stripe_long_lem, SetZero, clean_at, clean_of}
use Rattle.liberation.proofs.Stripes.Following.{followed_stripe, followed_off, followed_zero}
use Rattle.liberation.specs.Scrub.Survivors.{with_rebuilt, fits, row_sets, equation, equation_holds, equations_hold}
use Rattle.liberation.specs.Scrub.Explained.{Explains}
use Rattle.liberation.proofs.Scrub.Explaining.{fits_explains, explains_column, explains_fits}
use Rattle.liberation.proofs.Scrub.EquationCells.{row_sets_below, last_or, equation_last, equation_other, equation_below, equation_lost}

-- a list of cells twice over has XOR zero
over_twice : (s : ℕ) (g : ℕ → List ℕ) (xs : List ℕ) → Long s g xs → xor_over s g (xs ++ xs) ≡ replicate s 0
over_twice s g xs long = over_append s g xs xs long ∙ xor_l_self (xor_over s g xs) ∙ ap (λ (n : ℕ). replicate n 0) (over_long s g xs long)

-- the XOR over an equation, in any stripe v
module _ (p k s d i : ℕ) (l : i < p) (disk : d < k + 2) where
  abbrev survivors : List ℕ
  survivors = surviving_in p d (equation p k d i)

  survivors_low : all_below (p * (k + 2)) survivors ≡ true
  survivors_low = surviving_below (p * (k + 2)) p d (equation p k d i) (equation_below p k d i l disk)

  -- the survivors' XOR is the same in stripes alike off the disk
  survivors_alike : (t u : List ℕ) → ((x : ℕ) → x < p * (k + 2) → (disk_at p x ≡ d → ⊥) → cell_at s t x ≡ cell_at s u x) → xor_over s (cell_at s t) survivors ≡ xor_over s (cell_at s u) survivors
  survivors_alike t u alike =
      over_ext s (cell_at s t) (cell_at s u) survivors
      (λ x h. alike x (in_below (p * (k + 2)) x survivors survivors_low h) (eqb-false (disk_at p x) d (not-true (eqb (disk_at p x) d) (and_l (not (eqb (disk_at p x) d)) (is_in x (equation p k d i)) (sym (in_surviving p d x (equation p k d i)) ∙ h)))))

  module _ (v : List ℕ) (stripe : is_stripe p k s v ≡ true) where
    -- the cells on the disk cancel
    lost_cancel : xor_over s (λ r. cell_at s v (place p r d)) (lost_in p d (equation p k d i)) ≡ replicate s 0
    lost_cancel =
        let w = equation_lost p k d i l disk in
        ap (xor_over s (λ r. cell_at s v (place p r d))) w.2
        ∙ over_twice s (λ r. cell_at s v (place p r d)) w.0 (λ r h. cell_long s (place p r d) v (omega (arith, stripe_long_lem p k s v stripe, cell_fits (p * (k + 2)) s (place p r d) (place_below p (k + 2) r d (in_below p r w.0 w.1 h) disk))))

    equation_survivors : xor_over s (cell_at s v) (equation p k d i) ≡ xor_over s (cell_at s v) survivors
    equation_survivors =
        over_split s p d (cell_at s v) (equation p k d i)
        ∙ ap (xor_l (xor_over s (cell_at s v) survivors)) lost_cancel
        ∙ xor_l_zeros s (xor_over s (cell_at s v) survivors) (over_long s (cell_at s v) survivors (cells_long (p * (k + 2)) s survivors v (stripe_long_lem p k s v stripe) survivors_low)) (over_bytes s (cell_at s v) survivors)

-- where the row sets have XOR zero, several of them have
module _ (p k s : ℕ) (v : List ℕ) (stripe : is_stripe p k s v ≡ true) (rows : (r : ℕ) → r < p → SetZero p k s v 0 r) where
  row_sets_zero : (rs : List ℕ) → all_below p rs ≡ true → xor_over s (cell_at s v) (row_sets p k rs) ≡ replicate s 0
  unfolding row_sets xor_over
  row_sets_zero [] h = refl
  row_sets_zero (r ∷ rs) h =
      let low = and_r (ltb r p) (all_below p rs) h in
      over_append s (cell_at s v) (row_set p k r) (row_sets p k rs) (cells_long (p * (k + 2)) s (row_sets p k rs) v (stripe_long_lem p k s v stripe) (row_sets_below p k rs low))
      ∙ ap₂ xor_l (rows r (ltb-true r p (and_l (ltb r p) (all_below p rs) h))) (row_sets_zero rs low)
      ∙ zero_xor_l s (replicate s 0) (length-replicate s 0) (zeros_bytes s)

  -- and an equation has its diagonal's XOR
  equation_diagonal : (d i : ℕ) → d ≤ k → i < p → xor_over s (cell_at s v) (equation p k d i) ≡ xor_over s (cell_at s v) (diagonal_set p k i)
  equation_diagonal d i h l =
      let rs = lost_in p d (diagonal_set p k i) in
      let low : all_below p rs ≡ true = lost_below p d (diagonal_set p k i) (omega arith) in
      ap (xor_over s (cell_at s v)) (equation_other p k d i h)
      ∙ over_append s (cell_at s v) (diagonal_set p k i) (row_sets p k rs) (cells_long (p * (k + 2)) s (row_sets p k rs) v (stripe_long_lem p k s v stripe) (row_sets_below p k rs low))
      ∙ ap (xor_l (xor_over s (cell_at s v) (diagonal_set p k i))) (row_sets_zero rs low)
      ∙ xor_l_zeros s (xor_over s (cell_at s v) (diagonal_set p k i)) (over_long s (cell_at s v) (diagonal_set p k i) (cells_long (p * (k + 2)) s (diagonal_set p k i) v (stripe_long_lem p k s v stripe) (set_below p k 1 i l))) (over_bytes s (cell_at s v) (diagonal_set p k i))

-- the cells of an equation XOR to zero in a clean stripe
clean_equation : (p k s d i : ℕ) → d < k + 2 → i < p → (v : List ℕ) → is_stripe p k s v ≡ true → clean p k s v ≡ true → xor_over s (cell_at s v) (equation p k d i) ≡ replicate s 0
clean_equation p k s d i disk l v stripe c =
    ⊎_elim
    (λ e. ap (λ (x : ℕ). xor_over s (cell_at s v) (equation p k x i)) e ∙ ap (xor_over s (cell_at s v)) (equation_last p k i) ∙ clean_at p k s v c 0 i l)
    (λ h. equation_diagonal p k s v stripe (λ r m. clean_at p k s v c 0 r m) d i h l ∙ clean_at p k s v c 1 i l)
    (last_or k d disk)

module _ (p k s d : ℕ) (disk : d < k + 2) (t : List ℕ) (stripe : is_stripe p k s t ≡ true) where
  -- the equations hold of the survivors of a clean stripe
  pub explains_equations : (u : List ℕ) → Explains p k s d t u → equations_hold p k s d t ≡ true
  unfolding equations_hold
  explains_equations u e =
      all_of_lem p (λ i. equation_holds p k s d t i)
      (λ i l.
      ap (λ (c : List ℕ). same c (replicate s 0)) (survivors_alike p k s d i l disk t u e.alike ∙ sym (equation_survivors p k s d i l disk u e.stripe) ∙ clean_equation p k s d i disk l u e.stripe e.cleans)
      ∙ same_self (replicate s 0))

  -- survivors of which the equations hold, and the disk filled by all sets of one kind
  module _ (all : equations_hold p k s d t ≡ true) (kind : ℕ) (ok : accepted p k d (all_of p kind 0) ≡ true) where
    abbrev filled : List ℕ
    filled = followed p k s d (all_of p kind 0) t

    passes : Passes p k d [] (all_of p kind 0)
    passes = accepted_passes p k d (all_of p kind 0) ok

    filled_stripe : is_stripe p k s filled ≡ true
    filled_stripe = followed_stripe p k s d passes t stripe

    filled_alike : (x : ℕ) → (disk_at p x ≡ d → ⊥) → cell_at s t x ≡ cell_at s filled x
    filled_alike x n = sym (followed_off p k s d passes t stripe x n)

    filled_zero : (i : ℕ) → i < p → SetZero p k s filled kind i
    filled_zero i l = followed_zero p k s d passes t stripe kind i (uses_all p kind 0 i (omega arith) (omega arith))

    filled_equation : (i : ℕ) → i < p → xor_over s (cell_at s filled) (equation p k d i) ≡ replicate s 0
    unfolding equations_hold
    filled_equation i l =
        equation_survivors p k s d i l disk filled filled_stripe
        ∙ sym (survivors_alike p k s d i l disk t filled (λ x m n. filled_alike x n))
        ∙ same_true (xor_over s (cell_at s t) (surviving_in p d (equation p k d i))) (replicate s 0) (all_at p (λ j. equation_holds p k s d t j) all i l)

    filled_explains : clean p k s filled ≡ true → Explains p k s d t filled
    filled_explains c = record { stripe = filled_stripe; cleans = c; alike = λ x m n. filled_alike x n }

  -- a data disk or P by the row sets: as the equations hold, the diagonal sets are zero
  rows_explain : equations_hold p k s d t ≡ true → d ≤ k → Explains p k s d t (followed p k s d (all_of p 0 0) t)
  rows_explain all h =
      let ok = rows_accepted p k d h in
      let v = filled all 0 ok in
      filled_explains all 0 ok
      (clean_of p k s v (filled_zero all 0 ok) (λ i l. sym (equation_diagonal p k s v (filled_stripe all 0 ok) (filled_zero all 0 ok) d i h l) ∙ filled_equation all 0 ok i l))

  -- Q by the diagonal sets: its equations are the row sets
  diagonals_explain : equations_hold p k s d t ≡ true → d ≡ suc k → (u : List ℕ) × Explains p k s d t u
  diagonals_explain all e =
      let ok : accepted p k d (all_of p 1 0) ≡ true = ap (λ (x : ℕ). accepted p k x (all_of p 1 0)) e ∙ diagonals_accepted p k in
      let v = filled all 1 ok in (
        v,
        filled_explains all 1 ok
            (clean_of p k s v (λ i l. ap (xor_over s (cell_at s v)) (sym (ap (λ (x : ℕ). equation p k x i) e ∙ equation_last p k i)) ∙ filled_equation all 1 ok i l) (filled_zero all 1 ok)),
      )

  -- and survivors of which they hold are those of a clean stripe, for every p and k
  pub equations_explain : equations_hold p k s d t ≡ true → (u : List ℕ) × Explains p k s d t u
  equations_explain all = ⊎_elim (λ e. diagonals_explain all e) (λ h. (followed p k s d (all_of p 0 0) t, rows_explain all h)) (last_or k d disk)

-- for every width and every disk
pub fits_equations : (p k s d : ℕ) → is_width p ≡ true → k ≤ p → d < k + 2 → (t : List ℕ) → is_stripe p k s t ≡ true → fits p k s d t ≡ equations_hold p k s d t
fits_equations p k s d width most disk t stripe =
    same_flag (fits p k s d t) (equations_hold p k s d t)
    (λ h. explains_equations p k s d disk t stripe (with_rebuilt p k s d t) (fits_explains p k s d width most disk t stripe h))
    (λ h. let w = equations_explain p k s d disk t stripe h in explains_fits p k s d width most disk t stripe w.0 w.1)

-- a data disk or P that fits is what all row sets give: what they leave is a clean stripe, and only
-- one is t off the disk
pub fits_rows : (p k s d : ℕ) → is_width p ≡ true → k ≤ p → d ≤ k → (t : List ℕ) → is_stripe p k s t ≡ true → fits p k s d t ≡ true → column_of p s d (followed p k s d (all_of p 0 0) t) ≡ rebuilt p k s d t
fits_rows p k s d width most low t stripe h =
    let disk : d < k + 2 = omega arith in
    explains_column p k s d width most disk t stripe (followed p k s d (all_of p 0 0) t) (rows_explain p k s d disk t stripe (sym (fits_equations p k s d width most disk t stripe) ∙ h) low)
