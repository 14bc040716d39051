-- Missing cells, on any disks of a stripe, are the unknowns of 2p equations over bits, one a set.
-- Where their reduction does all unknowns, each missing cell becomes the XOR of the other cells
-- that occur an odd number of times in the sets that its row names.
use Rattle.std.specs.Prelude.{◌≡◌, Bool, true, false, List, [], ◌∷◌, ◌++◌, ℕ, zero, suc, ◌+◌, ◌*◌, ◌/◌, ◌%◌, ◌^◌, ◌<◌, eqb, length, get_or, replicate}
use Rattle.mathematics.specs.Choice.{pick, when}
use Rattle.mathematics.specs.Lists.{is_in}
use Rattle.mathematics.specs.BitRows.Parity.{bit}
use Rattle.mathematics.specs.BitRows.Rows.{Rows, rows, Reduced, reduced_from}
use Rattle.liberation.specs.Sets.{set_of}
use Rattle.liberation.specs.Stripes.Stripes.{cell_at, is_stripe, clean, solved}
use Rattle.stripe_cells.specs.Toggled.{odd_from, toggled_all}

-- the places of the marks that are not 0, the first mark being that of place i
unfoldable pub marked_from : ℕ → List ℕ → List ℕ
marked_from i [] = []
marked_from i (m ∷ ms) = pick (eqb m 0) (marked_from (suc i) ms) (i ∷ marked_from (suc i) ms)

abbrev pub missing_cells : List ℕ → List ℕ
missing_cells ms = marked_from 0 ms

-- the sets numbered through: R 0 to R (p - 1), then D 0 to D (p - 1)
abbrev pub set_numbered : ℕ → ℕ → ℕ → List ℕ
set_numbered p k i = set_of p k (i / p) (i % p)

-- the word of a set: bit b says that it holds cell b of the list
unfoldable pub word_of : List ℕ → List ℕ → ℕ
word_of [] xs = 0
word_of (c ∷ cs) xs = when (is_in c xs) 1 + 2 * word_of cs xs

-- the equations of n sets from set i on in the cells cs
unfoldable pub words_from : ℕ → ℕ → ℕ → ℕ → List ℕ → List ℕ
words_from zero i p k cs = []
words_from (suc n) i p k cs = word_of cs (set_numbered p k i) ∷ words_from n (suc i) p k cs

unfoldable pub powers_from : ℕ → ℕ → List ℕ
powers_from zero i = []
powers_from (suc n) i = 2 ^ i ∷ powers_from n (suc i)

abbrev pub equations : ℕ → ℕ → List ℕ → Rows
equations p k cs = rows (words_from (2 * p) 0 p k cs) (powers_from (2 * p) 0)

unfoldable pub reduced_cells : ℕ → ℕ → List ℕ → Reduced
reduced_cells p k cs = reduced_from (length cs) (2 * p) 0 (equations p k cs)

-- the missing cells can be mended: every unknown is done
abbrev pub mendable : ℕ → ℕ → List ℕ → Bool
mendable p k cs = eqb (reduced_cells p k cs).done (length cs)

-- of the first n sets the cells of those that the word w names, and those of them that occur an odd
-- number of times
unfoldable pub named_to : ℕ → ℕ → ℕ → ℕ → List ℕ
named_to zero p k w = []
named_to (suc n) p k w = pick (bit w n) (set_numbered p k n) [] ++ named_to n p k w

abbrev pub odd_cells : ℕ → ℕ → ℕ → List ℕ
odd_cells p k w = odd_from 0 (toggled_all (named_to (2 * p) p k w) (replicate (p * (k + 2)) 0))

-- n missing cells from cell b on, each by the word of its row
unfoldable pub mended_from : ℕ → ℕ → ℕ → ℕ → ℕ → List ℕ → List ℕ → List ℕ → List ℕ
mended_from zero b p k s cs ws t = t
mended_from (suc n) b p k s cs ws t = mended_from n (suc b) p k s cs ws (solved s (get_or cs b 0) (odd_cells p k (get_or ws b 0)) t)

unfoldable pub mended_cells : ℕ → ℕ → ℕ → List ℕ → List ℕ → List ℕ
mended_cells p k s cs t = mended_from (length cs) 0 p k s cs (reduced_cells p k cs).left.sums t

-- two stripes agree in every cell that is not one of cs
abbrev pub AlikeOff : ℕ → ℕ → ℕ → List ℕ → List ℕ → List ℕ → Type 0
AlikeOff p k s cs t u = (x : ℕ) → x < p * (k + 2) → is_in x cs ≡ false → cell_at s t x ≡ cell_at s u x

-- the cells that are not missing determine the missing ones: any two clean stripes that agree in
-- them are the same
abbrev pub Determined : ℕ → ℕ → ℕ → List ℕ → Type 0
Determined p k s cs = (t u : List ℕ) → is_stripe p k s t ≡ true → is_stripe p k s u ≡ true → clean p k s t ≡ true → clean p k s u ≡ true → AlikeOff p k s cs t u → t ≡ u

-- two different clean stripes that agree in every cell that is not one of cs
pub record TwoClean (p k s : ℕ) (cs : List ℕ) : Type 0 where
  pub one : List ℕ
  pub two : List ℕ
  pub one_stripe : is_stripe p k s one ≡ true
  pub two_stripe : is_stripe p k s two ≡ true
  pub one_clean : clean p k s one ≡ true
  pub two_clean : clean p k s two ≡ true
  pub alike : AlikeOff p k s cs one two
  pub apart : one ≡ two → ⊥
