-- A unit that is opened: pieces that are present are not written by the mend, so they still fit; and the
-- promise of opening from what was refused, mended or not determined.
use mathlib.Core.Path.{◌≡◌, refl, sym, ap, ap₂, ◌∙◌}
use mathlib.Core.Bool.{Bool, true, false, not}
use mathlib.Core.List.{List}
use Prim.Native.Nat.{ℕ, ◌+◌, ◌*◌, ◌<◌}
use native.Mathlib.Omega.{arith}
use lib.Dec.{eqb}
use lib.ListN.{length, get_or}
use borrow.Author.Tests.{eq-eqb, eqb-true, not-false}
use Rattle.mathematics.specs.Choice.{pick, when, first_of}
use Rattle.mathematics.specs.Lists.{is_in, all_below, same}
use Rattle.mathematics.specs.Xor.{all_bytes}
use Rattle.mathematics.proofs.ChoiceLaws.{first_none, when_none}
use Rattle.mathematics.proofs.Flags.{and_r}
use Rattle.liberation.specs.Stripes.Stripes.{cell_at, stripe_long, is_stripe}
use Rattle.liberation.proofs.Stripes.Solving.{stripe_of}
use Rattle.rebuild_cells.specs.Theory.Mending.{missing_cells, mendable, mended_cells}
use Rattle.std.proofs.Common.{Result}
use Rattle.std.specs.Result.{is_ok}
use Rattle.refusals.specs.declared.array.Array.{Array}
use Rattle.refusals.specs.declared.array.Geometry.{Geometry}
use Rattle.refusals.specs.declared.refusal.Refusal.{Refusal}
use Rattle.rebuild_cells.specs.Listed.{Mended}
use Rattle.rebuild_cells.proofs.NamedLaws.{mended_if}
use Rattle.rebuild_cells.proofs.Theory.Marked.{missing_in, missing_below}
use Rattle.rebuild_cells.proofs.Theory.MendLaws.{mended_off}
use Rattle.unit_sums.specs.Sums.{little_endian, sum_of, is_sealed, fits}
use Rattle.unit_sums.specs.UnitLimits.{InUnit}
use Rattle.unit_opening.specs.Opening.{is_present, missing_marks, missing_pieces, fit_marks}
use Rattle.unit_opening.specs.Refusals.{open_limits, open_refusal}
use Rattle.unit_sums.specs.Refusals.{length_refusal, unit_refusal}
use Rattle.unit_opening.specs.Says.{OpenedTo}
use Rattle.unit_opening.proofs.MarkLaws.{marks_long, zero_holds}
use Rattle.unit_sums.proofs.UnitRefusals.{unit_of_lem, length_of}
use Rattle.liberation.proofs.Stripes.SizedLaws.{sized_kept}

-- whether a piece fits depends on that piece alone
pub fits_same : (p s : ℕ) (name : List ℕ) (unit : ℕ) (block t u : List ℕ) (x : ℕ) → cell_at s t x ≡ cell_at s u x → fits p s name unit block t x ≡ fits p s name unit block u x
unfolding fits
fits_same p s name unit block t u x e = ap (λ (c : List ℕ). same (cell_at 8 block x) (little_endian 8 (sum_of p name unit x c))) e

module _ (p k s : ℕ) (name : List ℕ) (unit : ℕ) (block ms t : List ℕ) where
  abbrev missing : List ℕ
  missing = missing_marks p k s name unit block ms t

  -- the missing pieces are some of the unit's
  pub pieces_below : all_below (p * (k + 2)) (missing_pieces p k s name unit block ms t) ≡ true
  pieces_below = missing_below (p * (k + 2)) missing (marks_long (p * (k + 2)) 0 (is_present p s name unit block ms t))

  -- a piece that is not one of them is present
  pub off_missing : (x : ℕ) → x < p * (k + 2) → is_in x (missing_pieces p k s name unit block ms t) ≡ false → is_present p s name unit block ms t x ≡ true
  off_missing x l h =
      zero_holds (p * (k + 2)) x (is_present p s name unit block ms t) l
      (eqb-true (get_or missing x 0) 0 (not-false (eqb (get_or missing x 0) 0) (sym (missing_in missing x) ∙ h)))

  module _ (some : 0 < p) (long : length t ≡ stripe_long p k s) (bytes : all_bytes t ≡ true) where
    pub stripe : is_stripe p k s t ≡ true
    stripe = stripe_of p k s t (omega arith) bytes

    -- it fits after the mend
    pub still_fits : mendable p k (missing_pieces p k s name unit block ms t) ≡ true → (x : ℕ) → x < p * (k + 2) → get_or (missing_marks p k s name unit block ms t) x 0 ≡ 0 → fits p s name unit block (mended_cells p k s (missing_pieces p k s name unit block ms t) t) x ≡ true
    still_fits ok x l e =
        fits_same p s name unit block (mended_cells p k s (missing_cells missing) t) t x (mended_off p k s some (missing_cells missing) pieces_below ok t stripe x l (missing_in missing x ∙ ap not (eq-eqb (get_or missing x 0) 0 e)))
        ∙ and_r (eqb (get_or ms x 0) 0) (fits p s name unit block t x) (zero_holds (p * (k + 2)) x (is_present p s name unit block ms t) l e)

  -- what `open` promises, from what `mend` did with these marks
  module _ (b : Bool) (m : List ℕ) (t' : List ℕ) (made : m ≡ missing_marks p k s name unit block ms t) (bytes : all_bytes t ≡ true) (e : b ≡ mendable p k (missing_cells m)) (w : t' ≡ pick (mendable p k (missing_cells m)) (mended_cells p k s (missing_cells m) t) t) where
    mends : b ≡ mendable p k (missing_pieces p k s name unit block ms t)
    mends = e ∙ ap (λ (l : List ℕ). mendable p k (missing_cells l)) made

    written : t' ≡ pick b (mended_cells p k s (missing_pieces p k s name unit block ms t) t) t
    written = w ∙ ap (λ (x : Bool). pick x (mended_cells p k s (missing_cells m) t) t) (sym e) ∙ ap (λ (l : List ℕ). pick b (mended_cells p k s (missing_cells l) t) t) made

    pub mended_is : b ≡ true → t' ≡ mended_cells p k s (missing_pieces p k s name unit block ms t) t
    mended_is h = written ∙ ap (λ (x : Bool). pick x (mended_cells p k s (missing_pieces p k s name unit block ms t) t) t) h

    pub opened : (ms' : List ℕ) → b ≡ true → ms' ≡ fit_marks p k s name unit block t' → OpenedTo p k s name unit block ms ms' t t' true
    opened ms' h g = record { mends = sym h ∙ mends; cells = mended_is h; marks = g; bytes = bytes }

    pub unopened : b ≡ false → OpenedTo p k s name unit block ms ms t t' false
    unopened h = record { mends = sym h ∙ mends; cells = written ∙ ap (λ (x : Bool). pick x (mended_cells p k s (missing_pieces p k s name unit block ms t) t) t) h; marks = refl; bytes = bytes }

-- what the mend of the unit's pieces did, by the numbers of its array
pub mends_of : (g : Geometry) (a : Array) (s : ℕ) (cs t u : List ℕ) (r : Result Unit Refusal) → g.array ≡ a → g.cell_size ≡ s → Mended g cs t u r → (is_ok r ≡ mendable a.width a.disks cs) × (u ≡ pick (mendable a.width a.disks cs) (mended_cells a.width a.disks s cs t) t)
mends_of g a s cs t u r e q m =
    (mended_if g cs t u r m ∙ ap (λ (x : Array). mendable x.width x.disks cs) e, m.stripe ∙ ap₂ (λ (x : Array) (n : ℕ). pick (mendable x.width x.disks cs) (mended_cells x.width x.disks n cs t) t) e q)

-- none of the refusals before 24
pub open_within : (p k s n : ℕ) (name block ms t : List ℕ) → open_limits p k s n (length name) (length block) (length t) (length ms) ≡ 0 → InUnit p k (n * s) name block t × (length ms ≡ p * (k + 2))
open_within p k s n name block ms t e =
    let w = first_none (unit_refusal p k s n (length name) (length block) (length t)) (length_refusal (p * (k + 2)) (length ms)) e in
    ((unit_of_lem p k s n name block t w.0).1, length_of (p * (k + 2)) (length ms) w.1)

-- and none at all
pub open_accepted :
    (p k s n : ℕ) (name : List ℕ) (unit : ℕ) (block ms t : List ℕ) → open_refusal p k s n name unit block ms t ≡ 0
    → (open_limits p k s n (length name) (length block) (length t) (length ms) ≡ 0) × (mendable p k (missing_pieces p k (n * s) name unit block ms t) ≡ true)
open_accepted p k s n name unit block ms t e =
    let b = mendable p k (missing_pieces p k (n * s) name unit block ms t) in
    let w = first_none (open_limits p k s n (length name) (length block) (length t) (length ms)) (first_of (when (not (is_sealed p k name unit block)) 24) (when (not b) 23)) e in
    let v = first_none (when (not (is_sealed p k name unit block)) 24) (when (not b) 23) w.1 in
    (w.0, not-false b (when_none (not b) 22 v.1))

-- another unit of the same length is within the limits too
pub unit_kept : (p k s : ℕ) (name block t u : List ℕ) → InUnit p k s name block t → length u ≡ length t → InUnit p k s name block u
unit_kept p k s name block t u q e = record { sized = sized_kept p k s t u q.sized e; some = q.some; named = q.named; summed = q.summed }
