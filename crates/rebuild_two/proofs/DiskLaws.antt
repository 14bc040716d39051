-- Two lost disks: which they are, and their order.
use mathlib.Core.Path.{◌≡◌, sym, ap, ap₂, ◌∙◌}
use mathlib.Core.Bool.{Bool}
use mathlib.Core.List.{List}
use Prim.Native.Nat.{ℕ, ◌≤◌, ◌<◌}
use native.Mathlib.Omega.{arith}
use Rattle.std.proofs.Common.{min, max}
use mathlib.Core.Logic.{⊎_elim}
use lib.Dec.{eqb, ltb}
use Rattle.mathematics.proofs.OrderLaws.{lt_or_le}
use borrow.Author.Tests.{lt-ltb, le-ltb, eq-eqb, ne_eqb}
use Rattle.mathematics.specs.Choice.{pick}
use Rattle.liberation.specs.TwoDisks.Pairs.{data_solved, with_row_parity, with_diagonal_parity, ordered_solved, pair_solved}

module _ (p k s a b : ℕ) (t u : List ℕ) where
  -- which disks are lost
  pub ordered_data : b < k → u ≡ data_solved p k s a b t → u ≡ ordered_solved p k s a b t
  unfolding ordered_solved
  ordered_data h w = w ∙ sym (ap (λ (c : Bool). pick c (data_solved p k s a b t) (pick (eqb b k) (with_row_parity p k s a t) (with_diagonal_parity p k s a t))) (lt-ltb b k h))

  pub ordered_row : k ≤ b → b ≡ k → u ≡ with_row_parity p k s a t → u ≡ ordered_solved p k s a b t
  unfolding ordered_solved
  ordered_row h e w = w ∙ sym (ap₂ (λ (c d : Bool). pick c (data_solved p k s a b t) (pick d (with_row_parity p k s a t) (with_diagonal_parity p k s a t))) (le-ltb b k h) (eq-eqb b k e))

  pub ordered_diagonal : k ≤ b → (b ≡ k → ⊥) → u ≡ with_diagonal_parity p k s a t → u ≡ ordered_solved p k s a b t
  unfolding ordered_solved
  ordered_diagonal h e w = w ∙ sym (ap₂ (λ (c d : Bool). pick c (data_solved p k s a b t) (pick d (with_row_parity p k s a t) (with_diagonal_parity p k s a t))) (le-ltb b k h) (ne_eqb b k e))

  -- in their order
  pub pair_in_order : (l h : ℕ) → l ≡ min a b → h ≡ max a b → u ≡ ordered_solved p k s l h t → u ≡ pair_solved p k s a b t
  unfolding pair_solved
  pair_in_order l h el eh w = w ∙ ap₂ (λ (i j : ℕ). ordered_solved p k s i j t) el eh ∙ ⊎_elim upward downward (lt_or_le a b)
    where
      upward : a < b → ordered_solved p k s (min a b) (max a b) t ≡ pick (ltb a b) (ordered_solved p k s a b t) (ordered_solved p k s b a t)
      upward o =
          let low : min a b ≡ a = omega arith in
          let high : max a b ≡ b = omega arith in
          ap₂ (λ (i j : ℕ). ordered_solved p k s i j t) low high ∙ sym (ap (λ (c : Bool). pick c (ordered_solved p k s a b t) (ordered_solved p k s b a t)) (lt-ltb a b o))

      downward : b ≤ a → ordered_solved p k s (min a b) (max a b) t ≡ pick (ltb a b) (ordered_solved p k s a b t) (ordered_solved p k s b a t)
      downward o =
          let low : min a b ≡ b = omega arith in
          let high : max a b ≡ a = omega arith in
          ap₂ (λ (i j : ℕ). ordered_solved p k s i j t) low high ∙ sym (ap (λ (c : Bool). pick c (ordered_solved p k s a b t) (ordered_solved p k s b a t)) (le-ltb a b o))
