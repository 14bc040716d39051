-- The search for the first disk that fits: what is still to be looked at answers for all disks.
use mathlib.Core.Path.{◌≡◌, sym, ap, ◌∙◌}
use mathlib.Core.Bool.{Bool, true, false}
use mathlib.Core.List.{List}
use Prim.Native.Nat.{ℕ, suc, ◌+◌, ◌-◌, ◌≤◌, ◌<◌}
use native.Mathlib.Omega.{arith}
use Rattle.mathematics.specs.Choice.{pick}
use Rattle.mathematics.specs.Sums.{first_from}
use Rattle.liberation.specs.Scrub.Survivors.{fits, suspect}

module _ (p k s : ℕ) (t : List ℕ) where
  -- the first that fits of the disks from d on
  abbrev pub first_on : ℕ → ℕ
  first_on d = first_from (k + 2 - d) d (λ c. fits p k s c t)

  pub first_all : first_on 0 ≡ suspect p k s t
  unfolding suspect
  first_all = let e : k + 2 - 0 ≡ k + 2 = omega arith in ap (λ (n : ℕ). first_from n 0 (λ c. fits p k s c t)) e

  on_with : (d : ℕ) (b : Bool) → d < k + 2 → fits p k s d t ≡ b → first_on d ≡ pick b d (first_from (k + 2 - (d + 1)) (suc d) (λ c. fits p k s c t))
  unfolding first_from
  on_with d b l e =
      let q : k + 2 - d ≡ suc (k + 2 - (d + 1)) = omega arith in
      ap (λ (n : ℕ). first_from n d (λ c. fits p k s c t)) q ∙ ap (λ (c : Bool). pick c d (first_from (k + 2 - (d + 1)) (suc d) (λ c. fits p k s c t))) e

  -- it is d where d fits, and else one of those after d
  pub first_here : (d : ℕ) (r : Bool) → d < k + 2 → r ≡ fits p k s d t → r ≡ true → first_on d ≡ suspect p k s t → d ≡ suspect p k s t
  first_here d r l e h q = sym (on_with d true l (sym e ∙ h)) ∙ q

  pub first_after : (d : ℕ) (r : Bool) → d < k + 2 → r ≡ fits p k s d t → r ≡ false → first_on d ≡ suspect p k s t → first_on (d + 1) ≡ suspect p k s t
  first_after d r l e h q =
      let w : d + 1 ≡ suc d = omega arith in
      ap (λ (n : ℕ). first_from (k + 2 - (d + 1)) n (λ c. fits p k s c t)) w ∙ sym (on_with d false l (sym e ∙ h)) ∙ q

  pub first_none : (d : ℕ) → k + 2 ≤ d → first_on d ≡ suspect p k s t → d ≡ suspect p k s t
  unfolding first_from
  first_none d l q = let e : k + 2 - d ≡ 0 = omega arith in sym (ap (λ (n : ℕ). first_from n d (λ c. fits p k s c t)) e) ∙ q
