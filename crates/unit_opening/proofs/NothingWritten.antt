-- A unit whose pieces are all there: opening it writes nothing.
use mathlib.Core.Path.{◌≡◌, refl, sym, ap, ap₂, ◌∙◌}
use mathlib.Core.Bool.{Bool, true, not}
use mathlib.Core.List.{List, []}
use Prim.Native.Nat.{ℕ, zero, suc, ◌+◌, ◌*◌, ◌<◌}
use native.Mathlib.Omega.{arith}
use lib.Dec.{eqb}
use lib.ListN.{length, get_or, replicate, length-replicate, get_or-replicate}
use lib.Seq.{ext_get_or}
use borrow.Author.Tests.{eqb-true}
use Rattle.mathematics.specs.Choice.{pick, when, first_of}
use Rattle.mathematics.specs.BitRows.Rows.{reduced_from}
use Rattle.mathematics.proofs.Flags.{and_l, and_r}
use Rattle.rebuild_cells.specs.Theory.Mending.{marked_from, missing_cells, reduced_cells, mendable, mended_from, mended_cells}
use Rattle.refusals.specs.declared.answer.Answer.{Answer}
use Rattle.unit_sums.specs.Sums.{is_sealed, fits}
use Rattle.unit_opening.specs.Opening.{is_present, missing_pieces, fit_marks}
use Rattle.unit_opening.specs.Refusals.{open_limits, open_refusal}
use Rattle.unit_opening.specs.Says.{OpenSays}
use Rattle.unit_opening.proofs.MarkLaws.{marks_none}
use Rattle.unit_opening.proofs.OpenLaws.{open_within}

-- no piece is missing: none is mended
none_marked : (n i : ℕ) → marked_from i (replicate n 0) ≡ []
unfolding marked_from
none_marked zero i = refl
none_marked (suc n) i = none_marked n (suc i)

none_mendable : (p k : ℕ) → mendable p k [] ≡ true
unfolding reduced_cells reduced_from
none_mendable p k = refl

none_mended : (p k s : ℕ) (t : List ℕ) → mended_cells p k s [] t ≡ t
unfolding mended_cells mended_from
none_mended p k s t = refl

-- no piece is marked and all fit: accepted, and nothing is written
module _ (p k s n : ℕ) (name : List ℕ) (unit : ℕ) (block ms ms' t t' : List ℕ) (r : Answer) (says : OpenSays p k s n name unit block ms ms' t t' r)
    (limits : open_limits p k s n (length name) (length block) (length t) (length ms) ≡ 0) (seal : is_sealed p k name unit block ≡ true)
    (all : (x : ℕ) → x < p * (k + 2) → is_present p (n * s) name unit block ms t x ≡ true) where
  none : missing_pieces p k (n * s) name unit block ms t ≡ []
  none = ap missing_cells (marks_none (p * (k + 2)) 0 (is_present p (n * s) name unit block ms t) (λ y l. all (0 + y) (omega arith))) ∙ none_marked (p * (k + 2)) 0

  accepted : open_refusal p k s n name unit block ms t ≡ 0
  accepted =
      ap (λ (c : ℕ). first_of c (first_of (when (not (is_sealed p k name unit block)) 24) (when (not (mendable p k (missing_pieces p k (n * s) name unit block ms t))) 23))) limits
      ∙ ap₂ (λ (a b : Bool). first_of (when (not a) 24) (when (not b) 23)) seal (ap (mendable p k) none ∙ none_mendable p k)

  same_cells : t' ≡ t
  same_cells =
      says.cells
      ∙ ap (λ (c : ℕ). pick (eqb c 0) (mended_cells p k (n * s) (missing_pieces p k (n * s) name unit block ms t) t) t) accepted
      ∙ ap (λ (cs : List ℕ). mended_cells p k (n * s) cs t) none
      ∙ none_mended p k (n * s) t

  unmarked : ms ≡ replicate (p * (k + 2)) 0
  unmarked =
      let l = (open_within p k s n name block ms t limits).1 in
      ext_get_or 0 ms (replicate (p * (k + 2)) 0) (l ∙ sym (length-replicate {A = ℕ} (p * (k + 2)) 0))
      (λ x h. let g : x < p * (k + 2) = omega arith in eqb-true (get_or ms x 0) 0 (and_l (eqb (get_or ms x 0) 0) (fits p (n * s) name unit block t x) (all x g)) ∙ sym (get_or-replicate (p * (k + 2)) x 0 0 g))

  pub nothing_written : (r.refusal ≡ 0) × (t' ≡ t) × (ms' ≡ ms)
  nothing_written = (
    says.answer.refusal ∙ accepted,
    same_cells,
    says.marks
        ∙ ap (λ (c : ℕ). pick (eqb c 0) (fit_marks p k (n * s) name unit block t') ms) accepted
        ∙ ap (fit_marks p k (n * s) name unit block) same_cells
        ∙ marks_none (p * (k + 2)) 0 (fits p (n * s) name unit block t) (λ y l. and_r (eqb (get_or ms (0 + y) 0) 0) (fits p (n * s) name unit block t (0 + y)) (all (0 + y) (omega arith)))
        ∙ sym unmarked,
  )
