-- One piece: its refusals, its test, its promise, and the theorem.
use mathlib.Core.Path.{◌≡◌, refl, sym, ap, ap₂, subst, ◌∙◌}
use mathlib.Core.Bool.{Bool, true, false, not, true≢false}
use mathlib.Core.List.{List}
use mathlib.Core.Logic.{◌⊎◌, inl, inr, ⊎_elim}
use Prim.Native.Nat.{ℕ, ◌+◌, ◌*◌, ◌≤◌, ◌<◌}
use native.Mathlib.Nat.{mul-le-mul_right}
use native.Mathlib.Omega.{arith}
use lib.Dec.{eqb, ltb, leb}
use Rattle.std.specs.Cmp.Lexicographic.{pointwise}
use lib.ListN.{length}
use borrow.Author.Tests.{leb-false, ltb-false, not-false}
use Rattle.mathematics.specs.Choice.{when, first_of}
use Rattle.mathematics.specs.Lists.{same}
use Rattle.mathematics.proofs.ChoiceLaws.{first_none, when_none}
use Rattle.mathematics.proofs.Flags.{flag, and_r}
use Rattle.mathematics.proofs.MemberLaws.{same_true, same_self}
use Rattle.liberation.specs.Limits.{InArray}
use Rattle.liberation.specs.Sets.{disk_refusal, place}
use Rattle.liberation.specs.Stripes.Stripes.{cell_at, stripe_long}
use Rattle.liberation.proofs.Stripes.StripeCellLaws.{cell_fits, cell_long}
use Rattle.refusals.specs.declared.answer.Answer.{Answer}
use Rattle.unit_sums.specs.Sums.{little_endian, sum_of, block_of, block_long, is_sealed, fits}
use Rattle.unit_sums.specs.Refusals.{numbers_refusal, lengths_refusal}
use Rattle.unit_sums.specs.OnePiece.{fits_at, is_piece_proved, row_refusal, piece_refusal, fit_refusal, FitSays, PieceCollision}
use Rattle.unit_sums.proofs.UnitRefusals.{numbers_of_lem, lengths_of}
use Rattle.unit_sums.proofs.NumberLaws.{little_same, same_slices}
use Rattle.unit_sums.proofs.BlockLaws.{sum_below_lem, block_cell}

-- the test of a piece of a unit is that of the piece
pub fits_at_lem : (p s : ℕ) (name : List ℕ) (unit : ℕ) (block t : List ℕ) (x : ℕ) → fits p s name unit block t x ≡ fits_at p name unit block x (cell_at s t x)
unfolding fits fits_at
fits_at_lem p s name unit block t x = refl

-- the test by the eight bytes of the block
pub fit_at_is :
    (p unit x : ℕ) (name block piece chunk bytes : List ℕ) (r : Bool) → chunk ≡ cell_at 8 block x → bytes ≡ little_endian 8 (sum_of p name unit x piece)
    → r ≡ pointwise eqb chunk bytes → r ≡ fits_at p name unit block x piece
unfolding fits_at
fit_at_is p unit x name block piece chunk bytes r e q h = h ∙ same_slices chunk bytes ∙ ap₂ same e q

module _ (p k s n : ℕ) (name : List ℕ) (unit : ℕ) (block : List ℕ) (c i : ℕ) (piece : List ℕ) where
  -- the refusals before 24, and 24
  abbrev pub before : ℕ
  before = piece_refusal p k s n c i (length name) (length block) (length piece)

  abbrev unproved : ℕ
  unproved = when (not (is_piece_proved p k name unit block c i piece)) 24

  -- none of the first: the piece has a place, and is as long as those of the unit
  pub piece_placed : before ≡ 0 → InArray p k × (length name ≡ 16) × (length block ≡ block_long p k) × (place p i c < p * (k + 2)) × (length piece ≡ n * s)
  piece_placed e =
      let lengths = lengths_refusal p k (n * s) (length name) (length block) (length piece) in
      let w = first_none (numbers_refusal p k s n) (first_of (disk_refusal k c) (first_of lengths (row_refusal p i))) e in
      let u = first_none (disk_refusal k c) (first_of lengths (row_refusal p i)) w.1 in
      let z = first_none lengths (row_refusal p i) u.1 in
      let y = lengths_of p k (n * s) (length name) (length block) (length piece) z.0 in
      let d : c ≤ k + 1 = ltb-false (k + 1) c (when_none (ltb (k + 1) c) 2 u.0) in
      let r : i < p = leb-false p i (when_none (leb p i) 14 z.1) in
      ((numbers_of_lem p k s n w.0).0, y.0, y.1, omega (arith, mul-le-mul_right p d), y.2)

  -- and not 24
  pub fit_proved : fit_refusal p k s n name unit block c i piece ≡ 0 → (before ≡ 0) × (fits_at p name unit block (place p i c) piece ≡ true)
  fit_proved e =
      let w = first_none before unproved e in
      let h : is_piece_proved p k name unit block c i piece ≡ true = not-false (is_piece_proved p k name unit block c i piece) (when_none (not (is_piece_proved p k name unit block c i piece)) 23 w.1) in
      (w.0, and_r (is_sealed p k name unit block) (fits_at p name unit block (place p i c) piece) h)

-- a piece at place x that fits the block of u
module _ (p k s : ℕ) (name : List ℕ) (unit : ℕ) (u : List ℕ) (x : ℕ) (below : x < p * (k + 2)) (piece : List ℕ) (test : fits_at p name unit (block_of p k s name unit u) x piece ≡ true) where
  same_sum : sum_of p name unit x piece ≡ sum_of p name unit x (cell_at s u x)
  unfolding fits_at
  same_sum =
      sym
      (little_same 8 (sum_of p name unit x (cell_at s u x)) (sum_of p name unit x piece) (sum_below_lem _ _) (sum_below_lem _ _)
      (sym (block_cell p k s name unit u x below) ∙ same_true (cell_at 8 (block_of p k s name unit u) x) (little_endian 8 (sum_of p name unit x piece)) test))

  fit_right : length u ≡ stripe_long p k s → length piece ≡ s → (piece ≡ cell_at s u x) ⊎ PieceCollision p name unit x piece (cell_at s u x)
  fit_right l long =
      ⊎_elim (λ q. inl (same_true piece (cell_at s u x) q)) (λ q. inr (record { long = long ∙ sym (cell_long s x u fit); apart = apart q; sums = same_sum })) (flag (same piece (cell_at s u x)))
    where
      fit : x * s + s ≤ length u
      fit = omega (arith, cell_fits (p * (k + 2)) s x below)

      apart : same piece (cell_at s u x) ≡ false → piece ≡ cell_at s u x → ⊥
      apart q h = true≢false (sym (same_self (cell_at s u x)) ∙ ap (λ (b : List ℕ). same b (cell_at s u x)) (sym h) ∙ q)

-- THE THEOREM of one piece: one that is accepted under the block of the unit u is u's piece of that
-- row and disk, or the two collide
pub right_piece :
    (p k s n : ℕ) (name : List ℕ) (unit : ℕ) (block u : List ℕ) (c i : ℕ) (piece : List ℕ) (r : Answer)
    → FitSays p k s n name unit block c i piece r
    → block ≡ block_of p k (n * s) name unit u → length u ≡ stripe_long p k (n * s) → r.refusal ≡ 0
    → (piece ≡ cell_at (n * s) u (place p i c)) ⊎ PieceCollision p name unit (place p i c) piece (cell_at (n * s) u (place p i c))
right_piece p k s n name unit block u c i piece r says e l z =
    let w = fit_proved p k s n name unit block c i piece (sym says.answer.refusal ∙ z) in
    let q = piece_placed p k s n name unit block c i piece w.0 in
    fit_right p k (n * s) name unit u (place p i c) q.3 piece (subst (λ (b : List ℕ). fits_at p name unit b (place p i c) piece ≡ true) e w.1) l q.4
