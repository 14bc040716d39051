-- Reports on a list of arrays (document 02, ask 12), said of the calls' answers: what one accepted
-- report means, and what is claimed of reports one after another, each on the list that the one
-- before left, with refused ones between.
use Rattle.std.specs.Prelude.{◌≡◌, Bool, true, false, ◌&&◌, ◌||◌, not, List, [], ◌∷◌, ℕ, ◌+◌, ◌<◌, ◌≤◌, eqb, length, get_or}
use Rattle.std.specs.Int.Count.{ones}
use Rattle.mathematics.specs.Choice.{pick}
use Rattle.array_states.specs.declared.ArrayState.{ArrayState}
use Rattle.array_states.specs.declared.totals.Totals.{Totals}
use Rattle.array_states.specs.declared.board.Board.{Board}
use Rattle.array_states.specs.Lost.{has_bit}
use Rattle.array_states.specs.Scanning.{no_array}
use Rattle.array_states.specs.Reports.{list_refusal, totals_of, ReportSays}

-- array i of a list
abbrev pub array_at : List ArrayState → ℕ → ArrayState
array_at xs i = get_or xs i no_array

-- is disk d of array i lost?
abbrev pub lost_at : List ArrayState → ℕ → ℕ → Bool
lost_at xs i d = has_bit (array_at xs i).lost d

-- An accepted report on disk d of array i of the list xs, which is ys after it: no record was out
-- of its limits, and none is; the disk was lost if it is back, and else not; it is then the other
-- way round, and this is one lost disk more, or one fewer; every other array stands, as does every
-- other disk of this one; the totals are a fresh count, and add up to the number of arrays.
pub record ReportMeans (xs : List ArrayState) (i d : ℕ) (back : Bool) (ys : List ArrayState) (r : Board) : Type 0 where
  pub index : i < length xs
  pub most : length xs ≤ 64
  pub fine : list_refusal xs ≡ 0
  pub fine_after : list_refusal ys ≡ 0
  pub was : lost_at xs i d ≡ back
  pub is : lost_at ys i d ≡ not back
  pub more : back ≡ false → ones (array_at ys i).lost ≡ 1 + ones (array_at xs i).lost
  pub fewer : back ≡ true → ones (array_at xs i).lost ≡ 1 + ones (array_at ys i).lost
  pub disks : (e : ℕ) → (e ≡ d → ⊥) → lost_at ys i e ≡ lost_at xs i e
  pub others : (j : ℕ) → (j ≡ i → ⊥) → array_at ys j ≡ array_at xs j
  pub long : length ys ≡ length xs
  pub totals : r.totals ≡ totals_of ys
  pub all : r.totals.optimal + r.totals.degraded + r.totals.critical + r.totals.failed ≡ length xs

abbrev pub ReportMeaning : Type 0
ReportMeaning = (xs : List ArrayState) (i d : ℕ) (back : Bool) (ys : List ArrayState) (r : Board) → ReportSays xs i d back ys r → r.answer.refusal ≡ 0 → ReportMeans xs i d back ys r

-- where no record is out of its limits, a report on an array of the list, of a disk of its that is
-- lost if it is back, and else not, is accepted
abbrev pub ReportGoes : Type 0
ReportGoes = (xs : List ArrayState) (i d : ℕ) (back : Bool) (ys : List ArrayState) (r : Board) → ReportSays xs i d back ys r → length xs ≤ 64 → list_refusal xs ≡ 0 → i < length xs → d ≤ (array_at xs i).disks + 1 → lost_at xs i d ≡ back → r.answer.refusal ≡ 0

-- a report that was made: what it was given besides the list, and what it left and answered
pub record Report : Type 0 where
  pub which : ℕ
  pub disk : ℕ
  pub back : Bool
  pub left : List ArrayState
  pub board : Board

-- reports one after another, each with the promise of the call, while nothing else wrote the list
pub data ReportSeries : List ArrayState → List Report → Type 0 where
  none_made : (xs : List ArrayState) → ReportSeries xs []
  report_made : (xs : List ArrayState) (r : Report) (rs : List Report) → ReportSays xs r.which r.disk r.back r.left r.board → ReportSeries r.left rs → ReportSeries xs (r ∷ rs)

-- the list that they leave
unfoldable pub last_list : List ArrayState → List Report → List ArrayState
last_list xs [] = xs
last_list xs (r ∷ rs) = last_list r.left rs

-- those that were answered with 0
unfoldable pub accepted_in : List Report → List Report
accepted_in [] = []
accepted_in (r ∷ rs) = pick (eqb r.board.answer.refusal 0) (r ∷ accepted_in rs) (accepted_in rs)

-- the totals that they answered, and the fresh counts over the lists that they left
unfoldable pub totals_in : List Report → List Totals
totals_in [] = []
totals_in (r ∷ rs) = r.board.totals ∷ totals_in rs

unfoldable pub fresh_totals : List Report → List Totals
fresh_totals [] = []
fresh_totals (r ∷ rs) = totals_of r.left ∷ fresh_totals rs

-- the totals that the last of them answered, t if there is none
unfoldable pub last_totals : Totals → List Report → Totals
last_totals t [] = t
last_totals t (r ∷ rs) = last_totals r.board.totals rs

-- is disk d of array i lost after these reports, where it was before as b says? The last report of
-- that disk decides, and b if there is none
unfoldable pub lost_since : ℕ → ℕ → Bool → List Report → Bool
lost_since i d b [] = b
lost_since i d b (r ∷ rs) = lost_since i d (pick (eqb i r.which && eqb d r.disk) (not r.back) b) rs

-- does one of these reports name array i?
unfoldable pub is_named : ℕ → List Report → Bool
is_named i [] = false
is_named i (r ∷ rs) = eqb i r.which || is_named i rs

-- Reports on the list xs: the totals of each accepted one are the fresh count over the list that it
-- left, and those of the last one a fresh count over the list as it is; a disk is lost exactly if
-- the last accepted report of it was its loss, or there was none and it was lost at the start;
-- widths and data disks stand, and arrays that no accepted report names stand whole; a list with no
-- record out of its limits stays one.
pub record ReportsMade (xs : List ArrayState) (rs : List Report) : Type 0 where
  pub totals : totals_in (accepted_in rs) ≡ fresh_totals (accepted_in rs)
  pub last : last_totals (totals_of xs) (accepted_in rs) ≡ totals_of (last_list xs rs)
  pub lost : (i d : ℕ) → lost_at (last_list xs rs) i d ≡ lost_since i d (lost_at xs i d) (accepted_in rs)
  pub width : (i : ℕ) → (array_at (last_list xs rs) i).width ≡ (array_at xs i).width
  pub disks : (i : ℕ) → (array_at (last_list xs rs) i).disks ≡ (array_at xs i).disks
  pub others : (i : ℕ) → is_named i (accepted_in rs) ≡ false → array_at (last_list xs rs) i ≡ array_at xs i
  pub long : length (last_list xs rs) ≡ length xs
  pub fine : list_refusal xs ≡ 0 → list_refusal (last_list xs rs) ≡ 0

abbrev pub ReportsRight : Type 0
ReportsRight = (xs : List ArrayState) (rs : List Report) → ReportSeries xs rs → ReportsMade xs rs
