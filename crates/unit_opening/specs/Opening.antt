-- A unit that is opened: pieces that are marked as missing, or do not fit, are mended from the
-- others; then each mark says whether its piece fits.
use Rattle.std.specs.Prelude.{Bool, ◌&&◌, List, [], ◌∷◌, ℕ, zero, suc, ◌+◌, ◌*◌, eqb, get_or}
use Rattle.mathematics.specs.Choice.{pick}
use Rattle.rebuild_cells.specs.Theory.Mending.{missing_cells}
use Rattle.unit_sums.specs.Sums.{fits}

-- n marks from place x on: 0 where f holds, else 1
unfoldable pub marks_from : ℕ → ℕ → (ℕ → Bool) → List ℕ
marks_from zero x f = []
marks_from (suc n) x f = pick (f x) 0 1 ∷ marks_from n (suc x) f

-- piece x is not marked as missing, and fits
abbrev pub is_present : ℕ → ℕ → List ℕ → ℕ → List ℕ → List ℕ → List ℕ → ℕ → Bool
is_present p s name unit block ms t x = eqb (get_or ms x 0) 0 && fits p s name unit block t x

-- the marks of all pieces that do not, and their places
abbrev pub missing_marks : ℕ → ℕ → ℕ → List ℕ → ℕ → List ℕ → List ℕ → List ℕ → List ℕ
missing_marks p k s name unit block ms t = marks_from (p * (k + 2)) 0 (is_present p s name unit block ms t)

abbrev pub missing_pieces : ℕ → ℕ → ℕ → List ℕ → ℕ → List ℕ → List ℕ → List ℕ → List ℕ
missing_pieces p k s name unit block ms t = missing_cells (missing_marks p k s name unit block ms t)

-- the marks of all pieces that do not fit
abbrev pub fit_marks : ℕ → ℕ → ℕ → List ℕ → ℕ → List ℕ → List ℕ → List ℕ
fit_marks p k s name unit block t = marks_from (p * (k + 2)) 0 (fits p s name unit block t)
