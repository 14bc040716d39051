-- The list of the start's cells, and the first cell from all of them.
use mathlib.Core.Path.{◌≡◌, refl, ap, ap₂, ◌∙◌}
use mathlib.Core.Bool.{true, ◌&&◌}
use mathlib.Core.List.{List, [], ◌∷◌, ◌++◌, append_assoc, append-nil}
use Prim.Native.Nat.{ℕ, zero, suc, ◌+◌, ◌-◌, ◌*◌, ◌/◌, ◌≤◌, ◌<◌}
use native.Mathlib.Nat.{mod-lt}
use native.Mathlib.Omega.{arith}
use lib.Dec.{ltb}
use lib.ListN.{length}
use borrow.Author.Tests.{lt-ltb}
use Rattle.mathematics.specs.Lists.{all_below}
use Rattle.mathematics.proofs.Flags.{and_i}
use Rattle.liberation.specs.Sets.{place}
use Rattle.liberation.specs.Plans.{extra_row_on, diagonal_of}
use Rattle.liberation.proofs.SetLaws.{place_below}
use Rattle.liberation.specs.Stripes.Stripes.{cell_at, xor_over}
use Rattle.liberation.specs.TwoDisks.Pairs.{next_row}
use Rattle.liberation.specs.TwoDisksBySums.Sums.{summed_all, start_steps, cells_of, sum_started}
use Rattle.xor.specs.Parts.{with_part, xor_offsets}
use Rattle.xor_in_place.specs.Beside.{Beside}
use Rattle.stripe_cells.specs.Offsets.{scaled}
use Rattle.stripe_cells.proofs.OffsetLaws.{over_offsets}
use Rattle.stripe_cells.proofs.SolvedLaws.{list_lies_beside}
use Rattle.two_disk_walk.proofs.LostDisks.{Lost}

module _ (p s x y : ℕ) where
  -- two for each row
  pub starts_long : (n r : ℕ) → length (cells_of (start_steps n p x y r)) ≡ 2 * n
  unfolding start_steps cells_of
  starts_long zero r = refl
  starts_long (suc n) r = omega (arith, starts_long n (next_row p x y r))

  -- appended: those of row r
  pub cells_turn :
      (n m r q a b : ℕ) (at at' new : List ℕ) → n ≡ m + 1 → q ≡ next_row p x y r → a ≡ place p r x * s → b ≡ place p q y * s → at' ≡ at ++ (a ∷ []) → new ≡ at' ++ (b ∷ [])
      → new ++ scaled s (cells_of (start_steps m p x y q)) ≡ at ++ scaled s (cells_of (start_steps n p x y r))
  unfolding start_steps cells_of scaled
  cells_turn zero m r q a b at at' new h eq ea eb u v = absurd (omega arith)
  cells_turn (suc n) m r q a b at at' new h eq ea eb u v =
      let e : m ≡ n = omega arith in
      let rest = scaled s (cells_of (start_steps n p x y (next_row p x y r))) in
      ap₂ (λ (l : List ℕ) (j : ℕ). l ++ scaled s (cells_of (start_steps j p x y q))) (v ∙ ap (λ (l : List ℕ). l ++ (b ∷ [])) u ∙ append_assoc at (a ∷ []) (b ∷ [])) e
      ∙ ap₂ (λ (i j : ℕ). (at ++ (i ∷ (j ∷ []))) ++ scaled s (cells_of (start_steps n p x y q))) ea eb
      ∙ ap (λ (i : ℕ). (at ++ (place p r x * s ∷ (place p i y * s ∷ []))) ++ scaled s (cells_of (start_steps n p x y i))) eq
      ∙ append_assoc at (place p r x * s ∷ (place p (next_row p x y r) y * s ∷ [])) rest

  pub cells_last : (n r : ℕ) (at : List ℕ) → n ≤ 0 → at ++ scaled s (cells_of (start_steps n p x y r)) ≡ at
  unfolding start_steps cells_of scaled
  cells_last zero r at h = append-nil at
  cells_last (suc n) r at h = absurd (omega arith)

module _ (p k s x y : ℕ) where
  -- they are cells of the stripe
  starts_below : x < k → y < k → (n r : ℕ) → r < p → all_below (p * (k + 2)) (cells_of (start_steps n p x y r)) ≡ true
  unfolding start_steps cells_of
  starts_below hx hy zero r h = refl
  starts_below hx hy (suc n) r h =
      let q = next_row p x y r in
      let low : q < p = mod-lt (diagonal_of p x r + y) (omega arith) in
      let rest = cells_of (start_steps n p x y q) in
      and_i (ltb (place p r x) (p * (k + 2))) (ltb (place p q y) (p * (k + 2)) && all_below (p * (k + 2)) rest) (lt-ltb (place p r x) (p * (k + 2)) (place_below p (k + 2) r x h (omega arith)))
      (and_i (ltb (place p q y) (p * (k + 2))) (all_below (p * (k + 2)) rest) (lt-ltb (place p q y) (p * (k + 2)) (place_below p (k + 2) q y low (omega arith))) (starts_below hx hy n q low))

  -- the first cell from all of them: e and q are the rows of the extra cells on x and y
  module _ (t list : List ℕ) (g : Lost p k s x y t) (e q : ℕ) (row : e < p) (low : q < p) (to : ℕ) (et : to ≡ place p e y * s) (made : list ≡ scaled s (cells_of (start_steps ((p - 1) / 2) p x y q))) where
    pub first_beside : Beside to s (length t) list
    first_beside =
        let cells = cells_of (start_steps ((p - 1) / 2) p x y q) in
        rw et (list_lies_beside s (p * (k + 2)) list cells t made (omega (arith, starts_long p s x y ((p - 1) / 2) q, g.sized.array.widest)) (starts_below g.one g.other ((p - 1) / 2) q low) (g.sized.long ∙ omega arith)
        (place p e y) (place_below p (k + 2) e y row (omega (arith, g.other))))

    pub first_done : (t₀ u : List ℕ) → e ≡ extra_row_on p x → q ≡ extra_row_on p y → t ≡ summed_all p k s x y (start_steps ((p - 1) / 2) p x y q) t₀ → u ≡ with_part s to (xor_offsets s t list) t → u ≡ sum_started p k s x y t₀
    first_done t₀ u ee eq es eu =
        eu
        ∙ ap (λ (d : ℕ). with_part s d (xor_offsets s t list) t) et
        ∙ ap (λ (l : List ℕ). with_part s (place p e y * s) l t) (ap (xor_offsets s t) made ∙ over_offsets s t (cells_of (start_steps ((p - 1) / 2) p x y q)))
        ∙ ap (λ (v : List ℕ). with_part s (place p e y * s) (xor_over s (cell_at s v) (cells_of (start_steps ((p - 1) / 2) p x y q))) v) es
        ∙ ap₂ (λ (i j : ℕ). with_part s (place p i y * s) (xor_over s (cell_at s (summed_all p k s x y (start_steps ((p - 1) / 2) p x y j) t₀)) (cells_of (start_steps ((p - 1) / 2) p x y j))) (summed_all p k s x y (start_steps ((p - 1) / 2) p x y j) t₀)) ee eq
