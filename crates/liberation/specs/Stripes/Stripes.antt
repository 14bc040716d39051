-- Stripes (document 01, "Stripe and sets"): p rows, k data disks, cells of s bytes, one after
-- another by place. Clean stripes, encoding, rebuilding one disk.
use Rattle.std.specs.Prelude.{Bool, ◌&&◌, List, [], ◌∷◌, ◌++◌, ℕ, suc, ◌+◌, ◌*◌, eqb, length, take, drop, replicate}
use Rattle.mathematics.specs.Choice.{pick}
use Rattle.mathematics.specs.Lists.{same}
use Rattle.mathematics.specs.Sums.{all_to}
use Rattle.mathematics.specs.Xor.{xor_l, all_bytes}
use Rattle.liberation.specs.Sets.{place, set_of}
use Rattle.liberation.specs.Plans.{Step, plan_of}

-- the cell at place x of the stripe t: "Cell (i, c) .. starts at byte (c × p + i) × s"; and a
-- stripe with the bytes new there
abbrev pub cell_at : ℕ → List ℕ → ℕ → List ℕ
cell_at s t x = take s (drop (x * s) t)

abbrev pub with_cell : ℕ → ℕ → List ℕ → List ℕ → List ℕ
with_cell s x new t = take (x * s) t ++ (new ++ drop (x * s + s) t)

-- the XOR, byte by byte, of the cells of a list; g gives each cell's s bytes
unfoldable pub xor_over : ℕ → (ℕ → List ℕ) → List ℕ → List ℕ
xor_over s g [] = replicate s 0
xor_over s g (x ∷ xs) = xor_l (g x) (xor_over s g xs)

-- "A stripe has (p + 2) × p × s bytes.", (k + 2) × p × s since ask 1 of document 02
abbrev pub stripe_long : ℕ → ℕ → ℕ → ℕ
stripe_long p k s = (k + 2) * (p * s)

abbrev pub is_stripe : ℕ → ℕ → ℕ → List ℕ → Bool
is_stripe p k s t = eqb (length t) (stripe_long p k s) && all_bytes t

-- the cells of one set XOR to zero
abbrev pub set_clean : ℕ → ℕ → ℕ → List ℕ → ℕ → ℕ → Bool
set_clean p k s t kind i = same (xor_over s (cell_at s t) (set_of p k kind i)) (replicate s 0)

-- "A stripe is clean when the cells of every set XOR to zero, byte by byte."
unfoldable pub clean : ℕ → ℕ → ℕ → List ℕ → Bool
clean p k s t = all_to p (λ i. set_clean p k s t 0 i) && all_to p (λ i. set_clean p k s t 1 i)

-- the cells of a list but x
unfoldable pub without : ℕ → List ℕ → List ℕ
without x [] = []
without x (y ∷ ys) = pick (eqb x y) (without x ys) (y ∷ without x ys)

-- a step "rebuilds that row's cell of the lost disk by XOR of the set's other cells": the cell x
-- becomes the XOR of the other cells of the set xs
abbrev pub solved : ℕ → ℕ → List ℕ → List ℕ → List ℕ
solved s x xs t = with_cell s x (xor_over s (cell_at s t) (without x xs)) t

-- the steps of a plan for disk f, in order
unfoldable pub followed : ℕ → ℕ → ℕ → ℕ → List Step → List ℕ → List ℕ
followed p k s f [] t = t
followed p k s f (st ∷ ss) t = followed p k s f ss (solved s (place p st.row f) (set_of p k st.kind st.number) t)

-- disk c's column in a stripe, and a stripe with another column there
abbrev pub column_of : ℕ → ℕ → ℕ → List ℕ → List ℕ
column_of p s c t = take (p * s) (drop (c * (p * s)) t)

abbrev pub with_column : ℕ → ℕ → ℕ → List ℕ → List ℕ → List ℕ
with_column p s c col t = take (c * (p * s)) t ++ (col ++ drop (c * (p * s) + p * s) t)

-- the lost disk's column once the steps of a plan for it are done
abbrev pub rebuilt_by : ℕ → ℕ → ℕ → ℕ → List Step → List ℕ → List ℕ
rebuilt_by p k s f ss t = column_of p s f (followed p k s f ss t)

-- "Rebuilding one disk follows our plan for it": the lost disk's column once our plan's steps are
-- done. What the stripe holds for the lost disk does not matter (proofs/stripes/Rebuilding.antt).
unfoldable pub rebuilt : ℕ → ℕ → ℕ → ℕ → List ℕ → List ℕ
rebuilt p k s f t = column_of p s f (followed p k s f (plan_of p k f) t)

-- "Encoding writes P and Q so that it is clean": P by the row sets, then Q by the diagonal sets
unfoldable pub encoded : ℕ → ℕ → ℕ → List ℕ → List ℕ
encoded p k s t = followed p k s (suc k) (plan_of p k (suc k)) (followed p k s k (plan_of p k k) t)
