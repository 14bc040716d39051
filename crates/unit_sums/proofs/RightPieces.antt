-- A piece that fits the block of u is u's, or two pieces collide.
use mathlib.Core.Path.{◌≡◌, sym, ap, ◌∙◌}
use mathlib.Core.Bool.{true, false, true≢false}
use mathlib.Core.List.{List}
use mathlib.Core.Logic.{◌⊎◌, inl, inr, ⊎_elim}
use Prim.Native.Nat.{ℕ, zero, suc, ◌+◌, ◌*◌, ◌<◌}
use native.Mathlib.Omega.{arith}
use Rattle.mathematics.specs.Lists.{same}
use Rattle.mathematics.proofs.Flags.{flag}
use Rattle.mathematics.proofs.MemberLaws.{same_true, same_self}
use Rattle.mathematics.proofs.OrderLaws.{lt_or_le}
use Rattle.liberation.specs.Stripes.Stripes.{cell_at}
use Rattle.unit_sums.specs.Sums.{block_of, fits}
use Rattle.unit_sums.specs.Collisions.{Collision}
use Rattle.unit_sums.proofs.BlockLaws.{fits_sum}

module _ (p k s : ℕ) (name : List ℕ) (unit : ℕ) (t u : List ℕ) where
  pub piece_right : (x : ℕ) → x < p * (k + 2) → fits p s name unit (block_of p k s name unit u) t x ≡ true → (cell_at s t x ≡ cell_at s u x) ⊎ Collision p k s name unit t u
  piece_right x l h = ⊎_elim (λ e. inl (same_true (cell_at s t x) (cell_at s u x) e)) (λ e. inr (record { place = x; below = l; apart = apart e; sums = fits_sum p k s name unit u t x l h })) (flag (same (cell_at s t x) (cell_at s u x)))
    where
      apart : same (cell_at s t x) (cell_at s u x) ≡ false → cell_at s t x ≡ cell_at s u x → ⊥
      apart e q = true≢false (sym (same_self (cell_at s u x)) ∙ ap (λ (c : List ℕ). same c (cell_at s u x)) (sym q) ∙ e)

  -- the pieces of a list of n places
  pub places_right :
      (n : ℕ) (g : ℕ → ℕ) → ((i : ℕ) → i < n → g i < p * (k + 2)) → ((i : ℕ) → i < n → fits p s name unit (block_of p k s name unit u) t (g i) ≡ true)
      → ((i : ℕ) → i < n → cell_at s t (g i) ≡ cell_at s u (g i)) ⊎ Collision p k s name unit t u
  places_right zero g l h = inl (λ i q. absurd (omega arith))
  places_right (suc n) g l h =
      ⊎_elim
      (λ a. ⊎_elim (λ b. inl (λ i q. ⊎_elim (λ w. a i w) (λ w. let e : n ≡ i = omega arith in ap (λ (y : ℕ). cell_at s t (g y)) (sym e) ∙ b ∙ ap (λ (y : ℕ). cell_at s u (g y)) e) (lt_or_le i n))) inr (piece_right (g n) (l n (omega arith)) (h n (omega arith))))
      inr
      (places_right n g (λ i q. l i (omega arith)) (λ i q. h i (omega arith)))
