-- The sums group after group: the XOR over the data cells below lo, XOR that over the group's, is
-- the XOR over those below hi. Once all data disks are added the set is clean.
use mathlib.Core.Path.{◌≡◌, refl, sym, ap, ap₂, ◌∙◌}
use mathlib.Core.Bool.{Bool, true, false}
use mathlib.Core.List.{List, [], ◌∷◌, ◌++◌}
use Prim.Native.Nat.{ℕ, ◌+◌, ◌-◌, ◌*◌, ◌≤◌, ◌<◌}
use native.Mathlib.Omega.{arith}
use lib.Dec.{eqb}
use lib.ListN.{length, replicate}
use borrow.Author.Tests.{eqb-true, eqb-false, lt-ltb}
use Rattle.mathematics.specs.Choice.{pick}
use Rattle.mathematics.specs.Lists.{all_below}
use Rattle.mathematics.specs.Xor.{xor_l}
use Rattle.mathematics.proofs.Flags.{and_i}
use Rattle.mathematics.proofs.MemberLaws.{in_below}
use Rattle.mathematics.proofs.ListLaws.{below_append}
use Rattle.mathematics.proofs.XorLaws.{xor_l_comm, xor_l_assoc, xor_l_self, xor_l_cross, xor_l_zeros}
use Rattle.liberation.specs.Stripes.Stripes.{cell_at, xor_over}
use Rattle.liberation.proofs.Stripes.OverLaws.{Long, over_long, over_bytes, over_ext, over_append}
use Rattle.liberation.proofs.Stripes.Solving.{SetZero, cells_long}
use Rattle.stripe_cells.specs.Offsets.{cells_from}
use Rattle.stripe_cells.specs.SetCells.{extra_in}
use Rattle.stripe_cells.proofs.OrdinaryLists.{ordinary_split}
use Rattle.stripe_cells.proofs.SetLists.{set_split}
use Rattle.encode.specs.Extras.{extra_between}
use Rattle.encode.proofs.ExtraLists.{extra_from}
use Rattle.encode.specs.Groups.{group_cells, parity_cell, group_sum}
use Rattle.encode.proofs.GroupLists.{cells_below, extra_below, group_below, parity_below, cells_in_two}
use Rattle.encode.proofs.ParityCells.{DataSame}

-- the XOR over a set's data cells on disks below c
abbrev pub sum_below : ℕ → ℕ → ℕ → ℕ → ℕ → List ℕ → List ℕ
sum_below p s c kind i t = xor_over s (cell_at s t) (group_cells p 0 c kind i)

module _ (p k s kind i : ℕ) (numbered : i < p) where
  -- cells of a stripe have s bytes
  cells : (t xs : List ℕ) → length t ≡ p * (k + 2) * s → all_below (p * (k + 2)) xs ≡ true → Long s (cell_at s t) xs
  cells t xs long h = cells_long (p * (k + 2)) s xs t long h

  -- below lo and in the group is below hi
  pub sum_next : (lo hi : ℕ) (t : List ℕ) → length t ≡ p * (k + 2) * s → lo ≤ hi → hi ≤ k → sum_below p s hi kind i t ≡ xor_l (sum_below p s lo kind i t) (xor_over s (cell_at s t) (group_cells p lo hi kind i))
  unfolding group_cells
  sum_next lo hi t long h l =
      ap over (cells_in_two p kind i lo hi h)
      ∙ over_append s (cell_at s t) (low ++ new) (low_extra ++ new_extra) (cells t (low_extra ++ new_extra) long (below_append (p * (k + 2)) low_extra new_extra low_extra_in new_extra_in))
      ∙ ap₂ xor_l (over_append s (cell_at s t) low new (cells t new long (cells_below p kind i (k + 2) lo hi numbered h (omega arith)))) (over_append s (cell_at s t) low_extra new_extra (cells t new_extra long new_extra_in))
      ∙ xor_l_cross (over low) (over new) (over low_extra) (over new_extra)
      ∙ sym (ap₂ xor_l (over_append s (cell_at s t) low low_extra (cells t low_extra long low_extra_in)) (over_append s (cell_at s t) new new_extra (cells t new_extra long new_extra_in)))
    where
      over : List ℕ → List ℕ
      over xs = xor_over s (cell_at s t) xs

      low : List ℕ
      low = cells_from kind (lo - 0) p i 0

      new : List ℕ
      new = cells_from kind (hi - lo) p i lo

      low_extra : List ℕ
      low_extra = extra_between p 0 lo kind i

      new_extra : List ℕ
      new_extra = extra_between p lo hi kind i

      low_extra_in : all_below (p * (k + 2)) low_extra ≡ true
      low_extra_in = extra_below p kind i (k + 2) 0 lo numbered (omega arith) (omega arith)

      new_extra_in : all_below (p * (k + 2)) new_extra ≡ true
      new_extra_in = extra_below p kind i (k + 2) lo hi numbered h (omega arith)

  module _ (t u : List ℕ) (long : length t ≡ p * (k + 2) * s) (same : DataSame p k s t u) where
    over_same : (lo hi : ℕ) → lo ≤ hi → hi ≤ k → xor_over s (cell_at s u) (group_cells p lo hi kind i) ≡ xor_over s (cell_at s t) (group_cells p lo hi kind i)
    over_same lo hi h l = over_ext s (cell_at s u) (cell_at s t) (group_cells p lo hi kind i) (λ x m. same x (in_below (p * k) x (group_cells p lo hi kind i) (group_below p kind i k lo hi numbered h l) m))

    -- a parity cell that holds the sum below lo, with the group added: the sum below hi
    pub sum_more : (lo hi : ℕ) → lo ≤ hi → hi ≤ k → (0 < lo → cell_at s u (parity_cell p k kind i) ≡ sum_below p s lo kind i t) → group_sum p k s lo hi kind i u ≡ sum_below p s hi kind i t
    unfolding group_sum xor_over
    sum_more lo hi h l held = go (eqb lo 0) refl
      where
        go : (b : Bool) → eqb lo 0 ≡ b → xor_over s (cell_at s u) (pick b [] (parity_cell p k kind i ∷ []) ++ group_cells p lo hi kind i) ≡ sum_below p s hi kind i t
        go true e = over_same lo hi h l ∙ ap (λ (c : ℕ). xor_over s (cell_at s t) (group_cells p c hi kind i)) (eqb-true lo 0 e)
        go false e =
            let some : 0 < lo = omega (arith, eqb-false lo 0 e) in
            ap₂ xor_l (held some) (over_same lo hi h l) ∙ sym (sum_next lo hi t long h l)

    -- a parity cell that holds the sum over all data disks: the set is clean
    pub sum_clean : length u ≡ p * (k + 2) * s → cell_at s u (parity_cell p k kind i) ≡ sum_below p s k kind i t → SetZero p k s u kind i
    unfolding group_cells xor_over
    sum_clean ulong held =
        ap over (set_split p k kind i ∙ ap (λ (xs : List ℕ). xs ++ extra) (ordinary_split p k kind i))
        ∙ over_append s (cell_at s u) (line ++ (parity_cell p k kind i ∷ [])) extra extra_long
        ∙ ap (λ (l : List ℕ). xor_l l (over extra)) (over_append s (cell_at s u) line (parity_cell p k kind i ∷ []) own_long ∙ ap (xor_l (over line)) own ∙ xor_l_comm (over line) sum)
        ∙ xor_l_assoc sum (over line) (over extra)
        ∙ ap (xor_l sum) (sym (over_append s (cell_at s u) line extra extra_long) ∙ ap over (sym data_cells) ∙ over_same 0 k (omega arith) (omega arith))
        ∙ xor_l_self sum
        ∙ ap (λ (n : ℕ). replicate n 0) sum_size
      where
        over : List ℕ → List ℕ
        over xs = xor_over s (cell_at s u) xs

        line : List ℕ
        line = cells_from kind k p i 0

        extra : List ℕ
        extra = extra_in p k kind i

        sum : List ℕ
        sum = sum_below p s k kind i t

        data_cells : group_cells p 0 k kind i ≡ line ++ extra
        data_cells = let e : k - 0 ≡ k = omega arith in ap₂ (λ (n : ℕ) (xs : List ℕ). cells_from kind n p i 0 ++ xs) e (extra_from p kind i 0 k (omega arith))

        sum_size : length sum ≡ s
        sum_size = over_long s (cell_at s t) (group_cells p 0 k kind i) (cells t (group_cells p 0 k kind i) long (group_below p kind i (k + 2) 0 k numbered (omega arith) (omega arith)))

        extra_long : Long s (cell_at s u) extra
        extra_long = cells u extra ulong (ap (all_below (p * (k + 2))) (sym (extra_from p kind i 0 k (omega arith))) ∙ extra_below p kind i (k + 2) 0 k numbered (omega arith) (omega arith))

        own_long : Long s (cell_at s u) (parity_cell p k kind i ∷ [])
        own_long = cells u (parity_cell p k kind i ∷ []) ulong (and_i _ _ (lt-ltb (parity_cell p k kind i) (p * (k + 2)) (parity_below p k kind i numbered)) refl)

        own : over (parity_cell p k kind i ∷ []) ≡ sum
        own = ap (λ (l : List ℕ). xor_l l (replicate s 0)) held ∙ xor_l_zeros s sum sum_size (over_bytes s (cell_at s t) (group_cells p 0 k kind i))
