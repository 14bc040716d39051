-- A word that names one set: its odd cells are the cells of the set.
use mathlib.Core.Path.{◌≡◌, refl, sym, ap, ◌∙◌}
use mathlib.Core.Bool.{Bool, true, ◌&&◌}
use mathlib.Core.List.{List, [], ◌++◌, append-nil}
use mathlib.Core.Logic.{⊎_elim}
use Prim.Native.Nat.{ℕ, zero, suc, ◌+◌, ◌*◌, ◌^◌, ◌≤◌, ◌<◌}
use native.Mathlib.Omega.{arith}
use lib.ListN.{length, replicate}
use borrow.Author.Tests.{eq-eqb, ne_eqb}
use Rattle.mathematics.specs.Choice.{pick}
use Rattle.mathematics.specs.Lists.{is_in, all_below}
use Rattle.mathematics.specs.Xor.{xor_l}
use Rattle.mathematics.proofs.Flags.{and_l}
use Rattle.mathematics.proofs.ListLaws.{below_at}
use Rattle.mathematics.proofs.OrderLaws.{lt_or_le}
use Rattle.mathematics.proofs.XorLaws.{xor_l_twice}
use Rattle.mathematics.specs.BitRows.Parity.{bit}
use Rattle.mathematics.proofs.BitRows.BitLaws.{bit_power}
use Rattle.mathematics.proofs.BitRows.ParityLaws.{to_one}
use Rattle.liberation.specs.Stripes.Stripes.{cell_at, with_cell, xor_over, without, solved}
use Rattle.liberation.proofs.Stripes.StripeCellLaws.{cell_fits, cell_long}
use Rattle.liberation.proofs.Stripes.OverLaws.{over_long, over_bytes, over_without, in_without}
use Rattle.liberation.proofs.Stripes.Solving.{cells_long}
use Rattle.mathematics.proofs.MemberLaws.{in_below}
use Rattle.stripe_cells.proofs.OddLaws.{odd_over}
use Rattle.stripe_cells.specs.Toggled.{odd_from, toggled_all}
use Rattle.rebuild_cells.specs.Theory.Mending.{set_numbered, named_to, odd_cells}
use Rattle.rebuild_cells.proofs.Theory.OddCells.{odd_cell, cells_distinct, cells_below, numbered_distinct, numbered_below}

module _ (p k : ℕ) where
  -- a set of another number is not named
  other : (n i : ℕ) → (n ≡ i → ⊥) → named_to (suc n) p k (2 ^ i) ≡ named_to n p k (2 ^ i)
  unfolding named_to
  other n i q = ap (λ (t : Bool). pick t (set_numbered p k n) [] ++ named_to n p k (2 ^ i)) (bit_power i n ∙ ne_eqb n i q)

  named_none : (n i : ℕ) → n ≤ i → named_to n p k (2 ^ i) ≡ []
  unfolding named_to
  named_none zero i h = refl
  named_none (suc n) i h = other n i (λ q. omega arith) ∙ named_none n i (omega arith)

  named_one : (n i : ℕ) → i < n → named_to n p k (2 ^ i) ≡ set_numbered p k i
  unfolding named_to
  named_one zero i h = absurd (omega arith)
  named_one (suc n) i h =
      ⊎_elim
      (λ l. other n i (λ q. omega arith) ∙ named_one n i l)
      (λ l. let q : n ≡ i = omega arith in
      ap (λ (t : Bool). pick t (set_numbered p k n) [] ++ named_to n p k (2 ^ i)) (bit_power i n ∙ eq-eqb n i q)
      ∙ ap (λ (ys : List ℕ). set_numbered p k n ++ ys) (named_none n i l)
      ∙ append-nil (set_numbered p k n)
      ∙ ap (set_numbered p k) q)
      (lt_or_le i n)

  module _ (some : 0 < p) (i : ℕ) (hi : i < 2 * p) where
    pub single_cell : (y : ℕ) → is_in y (odd_cells p k (2 ^ i)) ≡ is_in y (set_numbered p k i)
    single_cell y =
        odd_cell p k some (2 ^ i) y
        ∙ to_one (2 * p) i (λ j. bit (2 ^ i) j && is_in y (set_numbered p k j)) hi (λ j l q. ap (λ (t : Bool). t && is_in y (set_numbered p k j)) (bit_power i j ∙ ne_eqb j i q))
        ∙ ap (λ (t : Bool). t && is_in y (set_numbered p k i)) (bit_power i i ∙ eq-eqb i i refl)

    module _ (s : ℕ) (t : List ℕ) (long : length t ≡ p * (k + 2) * s) where
      pub single_over : xor_over s (cell_at s t) (odd_cells p k (2 ^ i)) ≡ xor_over s (cell_at s t) (set_numbered p k i)
      single_over =
          ap (λ (xs : List ℕ). xor_over s (cell_at s t) (odd_from 0 (toggled_all xs (replicate (p * (k + 2)) 0)))) (named_one (2 * p) i hi)
          ∙ odd_over s (cell_at s t) (p * (k + 2)) (set_numbered p k i)
          (λ x h. cell_long s x t (omega (arith, cell_fits (p * (k + 2)) s x h)))
          (λ j h. below_at (p * (k + 2)) j (set_numbered p k i) (numbered_below p k some i) h)

      -- a step by the word is the step by the set
      pub single_solved : (x : ℕ) → is_in x (set_numbered p k i) ≡ true → solved s x (odd_cells p k (2 ^ i)) t ≡ solved s x (set_numbered p k i) t
      single_solved x held = ap (λ (new : List ℕ). with_cell s x new t) equal
        where
          fits : length (cell_at s t x) ≡ s
          fits = cell_long s x t (omega (arith, cell_fits (p * (k + 2)) s x (in_below (p * (k + 2)) x (set_numbered p k i) (numbered_below p k some i) held)))

          rest_long : (xs : List ℕ) → all_below (p * (k + 2)) xs ≡ true → length (xor_over s (cell_at s t) (without x xs)) ≡ s
          rest_long xs h = over_long s (cell_at s t) (without x xs) (λ y g. cells_long (p * (k + 2)) s xs t long h y (and_l _ _ (sym (in_without x y xs) ∙ g)))

          twice : (xs : List ℕ) → all_below (p * (k + 2)) xs ≡ true → xor_l (cell_at s t x) (xor_l (cell_at s t x) (xor_over s (cell_at s t) (without x xs))) ≡ xor_over s (cell_at s t) (without x xs)
          twice xs h = xor_l_twice s (cell_at s t x) (xor_over s (cell_at s t) (without x xs)) fits (rest_long xs h) (over_bytes s (cell_at s t) (without x xs))

          equal : xor_over s (cell_at s t) (without x (odd_cells p k (2 ^ i))) ≡ xor_over s (cell_at s t) (without x (set_numbered p k i))
          equal =
              sym (twice (odd_cells p k (2 ^ i)) (cells_below p k some (2 ^ i)))
              ∙ ap (xor_l (cell_at s t x))
              (sym (over_without s (cell_at s t) x (odd_cells p k (2 ^ i)) (cells_distinct p k some (2 ^ i)) (single_cell x ∙ held))
              ∙ single_over
              ∙ over_without s (cell_at s t) x (set_numbered p k i) (numbered_distinct p k some i) held)
              ∙ twice (set_numbered p k i) (numbered_below p k some i)
