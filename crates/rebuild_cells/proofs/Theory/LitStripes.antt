-- A stripe whose cells are all ones or all zeros: it is clean exactly where every set holds an even
-- number of ones.
use mathlib.Core.Path.{◌≡◌, refl, sym, ap, ap₂, ◌∙◌}
use mathlib.Core.Bool.{Bool, true, false}
use mathlib.Core.List.{List, [], ◌∷◌, ◌++◌}
use Prim.Native.Nat.{ℕ, zero, suc, ◌+◌, ◌*◌, ◌<◌}
use native.Mathlib.Nat.{suc-mul}
use native.Mathlib.Omega.{arith}
use lib.Arith.{digits_div, digits_mod}
use lib.ListN.{length, take, drop, replicate, length-append, length-replicate}
use lib.Seq.{take_at, drop-append-add}
use Rattle.mathematics.specs.Choice.{when}
use Rattle.mathematics.specs.Xor.{xor_l, all_bytes}
use Rattle.mathematics.proofs.ByteLaws.{bytes_append}
use Rattle.mathematics.proofs.MemberLaws.{in_below}
use Rattle.mathematics.proofs.XorLaws.{xor_l_self, xor_l_zeros, zero_xor_l}
use Rattle.mathematics.specs.BitRows.Parity.{differ, odd_in}
use Rattle.liberation.specs.Sets.{set_of}
use Rattle.liberation.proofs.SetLaws.{set_below}
use Rattle.liberation.specs.Stripes.Stripes.{cell_at, xor_over, is_stripe, clean}
use Rattle.liberation.proofs.Stripes.OverLaws.{over_ext}
use Rattle.liberation.proofs.Stripes.Solving.{SetZero, clean_of, stripe_of}
use Rattle.rebuild_cells.specs.Theory.Mending.{set_numbered}

-- a cell of ones, or of zeros
abbrev pub lit_cell : ℕ → Bool → List ℕ
lit_cell s t = replicate s (when t 1)

-- n cells from cell y on, of which v says which are ones
unfoldable pub lit_from : ℕ → ℕ → ℕ → (ℕ → Bool) → List ℕ
lit_from zero y s v = []
lit_from (suc n) y s v = lit_cell s (v y) ++ lit_from n (suc y) s v

abbrev pub lit : ℕ → ℕ → ℕ → (ℕ → Bool) → List ℕ
lit p k s v = lit_from (p * (k + 2)) 0 s v

lit_bytes : (s : ℕ) (t : Bool) → all_bytes (lit_cell s t) ≡ true
lit_bytes zero t = refl
lit_bytes (suc s) true = lit_bytes s true
lit_bytes (suc s) false = lit_bytes s false

from_long : (n y s : ℕ) (v : ℕ → Bool) → length (lit_from n y s v) ≡ n * s
unfolding lit_from
from_long zero y s v = omega arith
from_long (suc n) y s v = length-append (lit_cell s (v y)) (lit_from n (suc y) s v) ∙ ap₂ ◌+◌ (length-replicate s (when (v y) 1)) (from_long n (suc y) s v) ∙ omega arith

from_bytes : (n y s : ℕ) (v : ℕ → Bool) → all_bytes (lit_from n y s v) ≡ true
unfolding lit_from
from_bytes zero y s v = refl
from_bytes (suc n) y s v = bytes_append (lit_cell s (v y)) (lit_from n (suc y) s v) (lit_bytes s (v y)) (from_bytes n (suc y) s v)

from_cell : (n y s : ℕ) (v : ℕ → Bool) (z : ℕ) → z < n → cell_at s (lit_from n y s v) z ≡ lit_cell s (v (y + z))
unfolding lit_from
from_cell zero y s v z h = absurd (omega arith)
from_cell (suc n) y s v zero h =
    let e : 0 * s ≡ 0 = omega arith in
    let q : y ≡ y + 0 = omega arith in
    ap (λ (m : ℕ). take s (drop m (lit_from (suc n) y s v))) e ∙ take_at (lit_cell s (v y)) (lit_from n (suc y) s v) s (length-replicate s (when (v y) 1)) ∙ ap (λ (m : ℕ). lit_cell s (v m)) q
from_cell (suc n) y s v (suc z) h =
    let l = length-replicate s (when (v y) 1) in
    let e : suc z * s ≡ length (lit_cell s (v y)) + z * s = suc-mul z s ∙ omega (arith, l) in
    let q : suc y + z ≡ y + suc z = omega arith in
    ap (λ (m : ℕ). take s (drop m (lit_from (suc n) y s v))) e
    ∙ ap (take s) (drop-append-add (lit_cell s (v y)) (lit_from n (suc y) s v) (z * s))
    ∙ from_cell n (suc y) s v z (omega arith)
    ∙ ap (λ (m : ℕ). lit_cell s (v m)) q

-- the XOR of such cells
lit_xor : (s : ℕ) (a b : Bool) → xor_l (lit_cell s a) (lit_cell s b) ≡ lit_cell s (differ a b)
lit_xor s true true = xor_l_self (lit_cell s true) ∙ ap (λ (n : ℕ). replicate n 0) (length-replicate s 1)
lit_xor s true false = xor_l_zeros s (lit_cell s true) (length-replicate s 1) (lit_bytes s true)
lit_xor s false b = zero_xor_l s (lit_cell s b) (length-replicate s (when b 1)) (lit_bytes s b)

lit_over : (s : ℕ) (v : ℕ → Bool) (xs : List ℕ) → xor_over s (λ y. lit_cell s (v y)) xs ≡ lit_cell s (odd_in v xs)
unfolding xor_over odd_in
lit_over s v [] = refl
lit_over s v (x ∷ xs) = ap (xor_l (lit_cell s (v x))) (lit_over s v xs) ∙ lit_xor s (v x) (odd_in v xs)

module _ (p k s : ℕ) (v : ℕ → Bool) where
  pub lit_stripe : is_stripe p k s (lit p k s v) ≡ true
  lit_stripe = stripe_of p k s (lit p k s v) (from_long (p * (k + 2)) 0 s v) (from_bytes (p * (k + 2)) 0 s v)

  pub lit_cell_lem : (x : ℕ) → x < p * (k + 2) → cell_at s (lit p k s v) x ≡ lit_cell s (v x)
  lit_cell_lem x h = let e : 0 + x ≡ x = omega arith in from_cell (p * (k + 2)) 0 s v x h ∙ ap (λ (z : ℕ). lit_cell s (v z)) e

  -- every set holds an even number of ones
  pub lit_clean : ((i : ℕ) → i < 2 * p → odd_in v (set_numbered p k i) ≡ false) → clean p k s (lit p k s v) ≡ true
  lit_clean even = clean_of p k s (lit p k s v) (λ i l. zero_at 0 i l (omega arith)) (λ i l. zero_at 1 i l (omega arith))
    where
      same : (kind i : ℕ) → i < p → set_numbered p k (kind * p + i) ≡ set_of p k kind i
      same kind i l = ap₂ (set_of p k) (digits_div kind l) (digits_mod kind l)

      zero_at : (kind i : ℕ) → i < p → kind * p + i < 2 * p → SetZero p k s (lit p k s v) kind i
      zero_at kind i l h =
          over_ext s (cell_at s (lit p k s v)) (λ y. lit_cell s (v y)) (set_of p k kind i) (λ x e. lit_cell_lem x (in_below (p * (k + 2)) x (set_of p k kind i) (set_below p k kind i l) e))
          ∙ lit_over s v (set_of p k kind i)
          ∙ ap (lit_cell s) (ap (odd_in v) (sym (same kind i l)) ∙ even (kind * p + i) h)
