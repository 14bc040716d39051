-- The loop over the rows of a disk, each by its diagonal.
use mathlib.Core.Path.{◌≡◌, sym, ap, ap₂, ◌∙◌}
use mathlib.Core.List.{List}
use Prim.Native.Nat.{ℕ, suc, ◌+◌, ◌-◌, ◌≤◌, ◌<◌}
use native.Mathlib.Numerals.{add-one}
use native.Mathlib.Omega.{arith}
use Rattle.liberation.specs.Sets.{place, diagonal_set}
use Rattle.liberation.specs.Plans.{diagonal_of}
use Rattle.liberation.specs.Stripes.Stripes.{solved, followed}
use Rattle.liberation.specs.TwoDisks.Pairs.{up_diagonals}

-- the diagonal steps for disk f from row j on, done to a stripe
module _ (p k s f : ℕ) where
  abbrev pub up_rest : ℕ → List ℕ → List ℕ
  up_rest j l = followed p k s f (up_diagonals (p - j) p f j) l

  pub up_first : (l : List ℕ) → up_rest 0 l ≡ followed p k s f (up_diagonals p p f 0) l
  up_first l = let z : p - 0 ≡ p = omega arith in ap (λ (n : ℕ). followed p k s f (up_diagonals n p f 0) l) z

  -- the next step done
  pub up_turn : (j n : ℕ) (l new : List ℕ) → n ≡ diagonal_of p f j → j < p → new ≡ solved s (place p j f) (diagonal_set p k n) l → up_rest (j + 1) new ≡ up_rest j l
  unfolding followed up_diagonals
  up_turn j n l new d h e =
      let m : p - j ≡ suc (p - (j + 1)) = omega arith in
      ap₂ (λ (i : ℕ) (u : List ℕ). followed p k s f (up_diagonals (p - (j + 1)) p f i) u) (add-one j) (e ∙ ap (λ (i : ℕ). solved s (place p j f) (diagonal_set p k i) l) d) ∙ sym (ap (λ (n : ℕ). followed p k s f (up_diagonals n p f j) l) m)

  pub up_last : (j : ℕ) (l : List ℕ) → p ≤ j → up_rest j l ≡ l
  unfolding followed up_diagonals
  up_last j l h = let z : p - j ≡ 0 = omega arith in ap (λ (n : ℕ). followed p k s f (up_diagonals n p f j) l) z
