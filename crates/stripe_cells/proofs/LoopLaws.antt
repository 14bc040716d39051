-- The loop over the sets of one kind: the steps that are left, done to the stripe as it stands,
-- give what all steps give.
use mathlib.Core.Path.{◌≡◌, sym, ap, ap₂, ◌∙◌}
use mathlib.Core.List.{List}
use Prim.Native.Nat.{ℕ, suc, ◌+◌, ◌-◌, ◌≤◌, ◌<◌}
use native.Mathlib.Numerals.{add-one}
use native.Mathlib.Omega.{arith}
use Rattle.liberation.specs.Sets.{place, set_of}
use Rattle.liberation.specs.Plans.{all_of}
use Rattle.liberation.specs.Stripes.Stripes.{solved, followed}

module _ (p k s f t : ℕ) where
  -- the steps from j on, done to a stripe
  abbrev pub rest : ℕ → List ℕ → List ℕ
  rest j l = followed p k s f (all_of (p - j) t j) l

  pub rest_first : (l : List ℕ) → rest 0 l ≡ followed p k s f (all_of p t 0) l
  rest_first l = let z : p - 0 ≡ p = omega arith in ap (λ (n : ℕ). followed p k s f (all_of n t 0) l) z

  -- the next step done
  pub rest_turn : (j : ℕ) (l new : List ℕ) → j < p → new ≡ solved s (place p j f) (set_of p k t j) l → rest (j + 1) new ≡ rest j l
  unfolding followed all_of
  rest_turn j l new h e =
      let m : p - j ≡ suc (p - (j + 1)) = omega arith in
      ap₂ (λ (i : ℕ) (u : List ℕ). followed p k s f (all_of (p - (j + 1)) t i) u) (add-one j) e ∙ sym (ap (λ (n : ℕ). followed p k s f (all_of n t j) l) m)

  pub rest_last : (j : ℕ) (l : List ℕ) → p ≤ j → rest j l ≡ l
  unfolding followed all_of
  rest_last j l h = let z : p - j ≡ 0 = omega arith in ap (λ (n : ℕ). followed p k s f (all_of n t j) l) z
