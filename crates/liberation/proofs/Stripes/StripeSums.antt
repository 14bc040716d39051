-- The XOR of whole stripes, cell by cell: a cell of the XOR is the XOR of the cells, and two XORs,
-- one over cells and one over stripes, may be exchanged. So the XOR of clean stripes is a clean
-- stripe.
use mathlib.Core.Path.{◌≡◌, refl, sym, ap, ap₂, ◌∙◌}
use mathlib.Core.Bool.{true}
use mathlib.Core.List.{List, [], ◌∷◌}
use Prim.Native.Nat.{ℕ, ◌+◌, ◌-◌, ◌*◌, ◌≤◌, ◌<◌}
use native.Mathlib.Omega.{arith}
use lib.ListN.{take, drop, replicate, length-replicate}
use Rattle.mathematics.specs.Lists.{is_in}
use Rattle.mathematics.specs.Xor.{xor_l}
use Rattle.mathematics.proofs.LengthLaws.{drop_replicate}
use Rattle.mathematics.proofs.ListLaws.{take_replicate}
use Rattle.mathematics.proofs.MemberLaws.{in_head, in_tail, in_below}
use Rattle.mathematics.proofs.XorLaws.{zero_xor_l, zeros_bytes, xor_l_cross, take_xor_l, drop_xor_l}
use Rattle.liberation.specs.Sets.{set_of}
use Rattle.liberation.proofs.SetLaws.{set_below}
use Rattle.liberation.specs.Stripes.Stripes.{cell_at, xor_over, stripe_long, clean}
use Rattle.liberation.proofs.Stripes.StripeCellLaws.{cell_fits}
use Rattle.liberation.proofs.Stripes.OverLaws.{over_ext}
use Rattle.liberation.proofs.Stripes.Solving.{SetZero, clean_at, clean_of}

-- a cell of the XOR of two lists
pub cell_xor_l : (s x : ℕ) (t u : List ℕ) → cell_at s (xor_l t u) x ≡ xor_l (cell_at s t x) (cell_at s u x)
cell_xor_l s x t u = ap (take s) (drop_xor_l (x * s) t u) ∙ take_xor_l s (drop (x * s) t) (drop (x * s) u)

-- zeros added to zeros
zeros_twice : (s : ℕ) → xor_l (replicate s 0) (replicate s 0) ≡ replicate s 0
zeros_twice s = zero_xor_l s (replicate s 0) (length-replicate s 0) (zeros_bytes s)

-- the XOR of cells that are all zero
pub over_zeros : (s : ℕ) (g : ℕ → List ℕ) (xs : List ℕ) → ((x : ℕ) → is_in x xs ≡ true → g x ≡ replicate s 0) → xor_over s g xs ≡ replicate s 0
unfolding xor_over
over_zeros s g [] h = refl
over_zeros s g (x ∷ xs) h = ap₂ xor_l (h x (in_head x xs)) (over_zeros s g xs (λ y e. h y (in_tail y x xs e))) ∙ zeros_twice s

zeros_cell : (n s x : ℕ) → x * s + s ≤ n → cell_at s (replicate n 0) x ≡ replicate s 0
zeros_cell n s x h = ap (take s) (drop_replicate (x * s) n 0) ∙ take_replicate s (n - x * s) 0 (omega arith)

-- of two families of cells the XOR, cell by cell, and that over two lists in either order
pub over_add : (s : ℕ) (g h : ℕ → List ℕ) (xs : List ℕ) → xor_over s (λ x. xor_l (g x) (h x)) xs ≡ xor_l (xor_over s g xs) (xor_over s h xs)
unfolding xor_over
over_add s g h [] = sym (zeros_twice s)
over_add s g h (x ∷ xs) = ap (xor_l (xor_l (g x) (h x))) (over_add s g h xs) ∙ xor_l_cross (g x) (h x) (xor_over s g xs) (xor_over s h xs)

pub over_swap : (s : ℕ) (g : ℕ → ℕ → List ℕ) (xs ys : List ℕ) → xor_over s (λ x. xor_over s (λ y. g x y) ys) xs ≡ xor_over s (λ y. xor_over s (λ x. g x y) xs) ys
unfolding xor_over
over_swap s g [] ys = sym (over_zeros s (λ y. replicate s 0) ys (λ y h. refl))
over_swap s g (x ∷ xs) ys = ap (xor_l (xor_over s (λ y. g x y) ys)) (over_swap s g xs ys) ∙ sym (over_add s (λ y. g x y) (λ y. xor_over s (λ z. g z y) xs) ys)

-- a cell of the XOR of lists of n bytes
pub cell_over : (n s x : ℕ) (g : ℕ → List ℕ) (is : List ℕ) → x * s + s ≤ n → cell_at s (xor_over n g is) x ≡ xor_over s (λ i. cell_at s (g i) x) is
unfolding xor_over
cell_over n s x g [] h = zeros_cell n s x h
cell_over n s x g (i ∷ is) h = cell_xor_l s x (g i) (xor_over n g is) ∙ ap (xor_l (cell_at s (g i) x)) (cell_over n s x g is h)

-- the XOR of several stripes
module _ (p k s : ℕ) (g : ℕ → List ℕ) (is : List ℕ) where
  over_zero : (kind c : ℕ) → c < p → ((i : ℕ) → is_in i is ≡ true → SetZero p k s (g i) kind c) → SetZero p k s (xor_over (stripe_long p k s) g is) kind c
  over_zero kind c l h =
      over_ext s (cell_at s (xor_over (stripe_long p k s) g is)) (λ x. xor_over s (λ i. cell_at s (g i) x) is) (set_of p k kind c)
      (λ x e. cell_over (stripe_long p k s) s x g is (omega (arith, cell_fits (p * (k + 2)) s x (in_below (p * (k + 2)) x (set_of p k kind c) (set_below p k kind c l) e))))
      ∙ over_swap s (λ x i. cell_at s (g i) x) (set_of p k kind c) is
      ∙ over_zeros s (λ i. xor_over s (cell_at s (g i)) (set_of p k kind c)) is h

  pub over_clean : ((i : ℕ) → is_in i is ≡ true → clean p k s (g i) ≡ true) → clean p k s (xor_over (stripe_long p k s) g is) ≡ true
  over_clean h =
      clean_of p k s (xor_over (stripe_long p k s) g is)
      (λ c l. over_zero 0 c l (λ i e. clean_at p k s (g i) (h i e) 0 c l))
      (λ c l. over_zero 1 c l (λ i e. clean_at p k s (g i) (h i e) 1 c l))
