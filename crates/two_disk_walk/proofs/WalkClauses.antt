-- The walk's clauses at a number of the code's: none left, and one less; the walk in two halves.
use mathlib.Core.Path.{◌≡◌, refl, sym, ap, ap₂, ◌∙◌}
use mathlib.Core.List.{List}
use Prim.Native.Nat.{ℕ, zero, suc, ◌+◌, ◌-◌, ◌*◌, ◌/◌, ◌%◌, ◌≤◌, ◌<◌}
use native.Mathlib.Omega.{arith}
use Rattle.liberation.specs.Sets.{place, row_set, diagonal_set}
use Rattle.liberation.specs.Plans.{diagonal_of}
use Rattle.liberation.specs.Stripes.Stripes.{solved}
use Rattle.liberation.specs.TwoDisks.Pairs.{next_row, diagonal_walk, row_walk}
use Rattle.liberation.proofs.TwoDisks.WalkRows.{row_after, after_by}

module _ (p k s x y : ℕ) where
  pub diagonal_none : (n r : ℕ) (t : List ℕ) → n ≡ 0 → t ≡ diagonal_walk n p k s x y r t
  unfolding diagonal_walk
  diagonal_none zero r t e = refl
  diagonal_none (suc n) r t e = absurd (omega arith)

  pub row_none : (n r : ℕ) (t : List ℕ) → n ≡ 0 → t ≡ row_walk n p k s x y r t
  unfolding row_walk
  row_none zero r t e = refl
  row_none (suc n) r t e = absurd (omega arith)

  -- a diagonal step made u of t, and the walk from there on v of u
  pub diagonal_more : (n r i j : ℕ) (t u v : List ℕ) → i ≡ diagonal_of p x r → j ≡ next_row p x y r → (n ≡ 0 → ⊥) → u ≡ solved s (place p j y) (diagonal_set p k i) t → v ≡ row_walk (n - 1) p k s x y j u → v ≡ diagonal_walk n p k s x y r t
  unfolding diagonal_walk
  diagonal_more zero r i j t u v ei ej h e q = absurd (h refl)
  diagonal_more (suc n) r i j t u v ei ej h e q =
      let m : suc n - 1 ≡ n = omega arith in
      q
      ∙ ap₂ (λ (i : ℕ) (l : List ℕ). row_walk i p k s x y j l) m e
      ∙ ap₂ (λ (b d : ℕ). row_walk n p k s x y b (solved s (place p b y) (diagonal_set p k d) t)) ej ei

  -- a row step
  pub row_more : (n r : ℕ) (t u v : List ℕ) → (n ≡ 0 → ⊥) → u ≡ solved s (place p r x) (row_set p k r) t → v ≡ diagonal_walk (n - 1) p k s x y r u → v ≡ row_walk n p k s x y r t
  unfolding row_walk
  row_more zero r t u v h e q = absurd (h refl)
  row_more (suc n) r t u v h e q =
      let m : suc n - 1 ≡ n = omega arith in
      q ∙ ap₂ (λ (i : ℕ) (l : List ℕ). diagonal_walk i p k s x y r l) m e

  -- the walk over m rows and what follows it
  walk_split : (m n r : ℕ) (t : List ℕ) → diagonal_walk (2 * m + n) p k s x y r t ≡ diagonal_walk n p k s x y (row_after m p x y r) (diagonal_walk (2 * m) p k s x y r t)
  unfolding diagonal_walk row_walk row_after
  walk_split zero n r t = let e : 2 * 0 + n ≡ n = omega arith in ap (λ (i : ℕ). diagonal_walk i p k s x y r t) e
  walk_split (suc m) n r t =
      let e : 2 * suc m + n ≡ suc (suc (2 * m + n)) = omega arith in
      let f : 2 * suc m ≡ suc (suc (2 * m)) = omega arith in
      ap (λ (i : ℕ). diagonal_walk i p k s x y r t) e
      ∙ walk_split m n (next_row p x y r) _
      ∙ sym (ap (λ (i : ℕ). diagonal_walk n p k s x y (row_after m p x y (next_row p x y r)) (diagonal_walk i p k s x y r t)) f)

  -- so in two halves, the second from the row that the first one comes to
  pub walk_halves :
      (r : ℕ) (t u v : List ℕ) → p % 2 ≡ 1 → x ≤ p → r < p
      → u ≡ diagonal_walk (2 * ((p - 1) / 2)) p k s x y r t
      → v ≡ diagonal_walk (2 * ((p - 1) / 2)) p k s x y ((r + diagonal_of p x y * ((p - 1) / 2)) % p) u
      → v ≡ diagonal_walk (2 * (p - 1)) p k s x y r t
  walk_halves r t u v odd h l eu ev =
      let m = (p - 1) / 2 in
      let e : 2 * m + 2 * m ≡ 2 * (p - 1) = omega arith in
      ev
      ∙ ap₂ (λ (i : ℕ) (w : List ℕ). diagonal_walk (2 * m) p k s x y i w) (sym (after_by m p x y r h l)) eu
      ∙ sym (walk_split m (2 * m) r t)
      ∙ ap (λ (i : ℕ). diagonal_walk i p k s x y r t) e
