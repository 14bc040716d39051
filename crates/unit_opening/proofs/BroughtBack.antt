-- What opening a unit brings back, where the block is that of the unit u that was encoded: every
-- piece that is left with a mark of 0 is u's, and where the missing pieces are determined the whole
-- unit is u again, or two different pieces of one length and place have one checksum.
-- A piece that fits the block is u's, or collides; so the pieces that the mend reads are u's, and
-- the mend of a clean unit from its own pieces gives that unit.
use mathlib.Core.Path.{◌≡◌, sym, ap, subst, ◌∙◌}
use mathlib.Core.Bool.{Bool, true, false, not}
use mathlib.Core.List.{List}
use mathlib.Core.Logic.{◌⊎◌, inl, inr, ⊎_elim}
use Prim.Native.Nat.{ℕ, zero, suc, ◌+◌, ◌*◌, ◌≤◌, ◌<◌}
use native.Mathlib.Omega.{arith}
use lib.Dec.{eqb}
use lib.ListN.{length, get_or, replicate}
use borrow.Author.Tests.{eqb-true}
use Rattle.mathematics.specs.Choice.{pick, when, first_of}
use Rattle.mathematics.proofs.Flags.{and_l, and_r, clash, flag}
use Rattle.mathematics.proofs.OrderLaws.{lt_or_le}
use Rattle.liberation.specs.Stripes.Stripes.{cell_at, is_stripe, clean}
use Rattle.rebuild_cells.specs.Theory.Mending.{mendable, mended_cells, AlikeOff, Determined}
use Rattle.rebuild_cells.proofs.Theory.Marked.{missing_distinct}
use Rattle.rebuild_cells.proofs.Theory.MendLaws.{mended_back}
use Rattle.rebuild_cells.proofs.Theory.Exact.{determined_mendable}
use Rattle.refusals.specs.declared.answer.Answer.{Answer}
use Rattle.unit_sums.specs.Sums.{block_of, is_sealed, fits}
use Rattle.unit_opening.specs.Opening.{is_present, missing_marks, missing_pieces, fit_marks}
use Rattle.unit_opening.specs.Refusals.{open_limits, open_refusal}
use Rattle.unit_opening.specs.Says.{OpenSays}
use Rattle.unit_sums.specs.Collisions.{Collision}
use Rattle.unit_sums.proofs.BlockLaws.{block_sealed, own_fits}
use Rattle.unit_opening.proofs.MarkLaws.{zero_holds, marks_none}
use Rattle.unit_opening.proofs.OpenLaws.{pieces_below, off_missing, stripe, open_within, open_accepted}
use Rattle.unit_sums.proofs.RightPieces.{piece_right}

-- a piece that is present is u's
abbrev Right : ℕ → ℕ → ℕ → List ℕ → ℕ → List ℕ → List ℕ → List ℕ → ℕ → Type 0
Right p k s name unit ms t u x = is_present p s name unit (block_of p k s name unit u) ms t x ≡ true → cell_at s t x ≡ cell_at s u x

-- so are all, or two collide
present_right :
    (p k s : ℕ) (name : List ℕ) (unit : ℕ) (ms t u : List ℕ) (n : ℕ) → n ≤ p * (k + 2)
    → ((x : ℕ) → x < n → Right p k s name unit ms t u x) ⊎ Collision p k s name unit t u
present_right p k s name unit ms t u zero l = inl (λ x h e. absurd (omega arith))
present_right p k s name unit ms t u (suc n) l =
    ⊎_elim (λ a. ⊎_elim (λ b. inl (both a b)) inr last) inr (present_right p k s name unit ms t u n (omega arith))
  where
    last : Right p k s name unit ms t u n ⊎ Collision p k s name unit t u
    last =
        ⊎_elim
        (λ e. ⊎_elim (λ q. inl (λ w. q)) inr (piece_right p k s name unit t u n (omega arith) (and_r (eqb (get_or ms n 0) 0) (fits p s name unit (block_of p k s name unit u) t n) e)))
        (λ e. inl (λ w. clash (is_present p s name unit (block_of p k s name unit u) ms t n) w e))
        (flag (is_present p s name unit (block_of p k s name unit u) ms t n))

    both : ((x : ℕ) → x < n → Right p k s name unit ms t u x) → Right p k s name unit ms t u n → (x : ℕ) → x < suc n → Right p k s name unit ms t u x
    both a b x h = ⊎_elim (λ w. a x w) (λ w. let e : n ≡ x = omega arith in subst (Right p k s name unit ms t u) e b) (lt_or_le x n)

module _ (p k s n : ℕ) (name : List ℕ) (unit : ℕ) (block ms ms' t t' u : List ℕ) (r : Answer) (says : OpenSays p k s n name unit block ms ms' t t' r) (seal : block ≡ block_of p k (n * s) name unit u) where
  abbrev pieces : List ℕ
  pieces = missing_pieces p k (n * s) name unit block ms t

  module _ (z : r.refusal ≡ 0) where
    none : open_refusal p k s n name unit block ms t ≡ 0
    none = sym says.answer.refusal ∙ z

    accepted : (open_limits p k s n (length name) (length block) (length t) (length ms) ≡ 0) × (mendable p k (missing_pieces p k (n * s) name unit block ms t) ≡ true)
    accepted = open_accepted p k s n name unit block ms t none

    written : t' ≡ mended_cells p k (n * s) (missing_pieces p k (n * s) name unit block ms t) t
    written = says.cells ∙ ap (λ (c : ℕ). pick (eqb c 0) (mended_cells p k (n * s) pieces t) t) none

    marked : ms' ≡ fit_marks p k (n * s) name unit block t'
    marked = says.marks ∙ ap (λ (c : ℕ). pick (eqb c 0) (fit_marks p k (n * s) name unit block t') ms) none

    -- every piece that is left with a mark of 0
    pub no_wrong_piece : (x : ℕ) → x < p * (k + 2) → get_or ms' x 0 ≡ 0 → (cell_at (n * s) t' x ≡ cell_at (n * s) u x) ⊎ Collision p k (n * s) name unit t' u
    no_wrong_piece x l e =
        piece_right p k (n * s) name unit t' u x l
        (subst (λ (b : List ℕ). fits p (n * s) name unit b t' x ≡ true) seal (zero_holds (p * (k + 2)) x (fits p (n * s) name unit block t') l (sym (ap (λ (m : List ℕ). get_or m x 0) marked) ∙ e)))

  -- the unit u as it was encoded
  module _ (hu : is_stripe p k (n * s) u ≡ true) (cu : clean p k (n * s) u ≡ true) where
    -- the pieces that are present are u's: so are all pieces, and all marks are 0
    back : r.refusal ≡ 0 → AlikeOff p k (n * s) (missing_pieces p k (n * s) name unit block ms t) t u → (t' ≡ u) × (ms' ≡ replicate (p * (k + 2)) 0)
    back z same = (whole, marked z ∙ ap (fit_marks p k (n * s) name unit block) whole ∙ marks_none (p * (k + 2)) 0 (fits p (n * s) name unit block u) (λ y l. fit (0 + y) (omega arith)))
      where
        whole : t' ≡ u
        whole =
            let w = open_within p k s n name block ms t (accepted z).0 in
            written z
            ∙ mended_back p k (n * s) w.0.sized.array.some pieces (pieces_below p k (n * s) name unit block ms t) (accepted z).1 t u (stripe p k (n * s) name unit block ms t w.0.sized.array.some w.0.sized.long says.bytes) hu cu same

        fit : (x : ℕ) → x < p * (k + 2) → fits p (n * s) name unit block u x ≡ true
        fit x l = subst (λ (b : List ℕ). fits p (n * s) name unit b u x ≡ true) (sym seal) (own_fits p k (n * s) name unit u x l)

    -- an accepted call brings u back, or there is a collision
    pub opened_right : r.refusal ≡ 0 → ((t' ≡ u) × (ms' ≡ replicate (p * (k + 2)) 0)) ⊎ Collision p k (n * s) name unit t u
    opened_right z =
        ⊎_elim
        (λ a. inl (back z (λ x l h. a x l (subst (λ (b : List ℕ). is_present p (n * s) name unit b ms t x ≡ true) seal (off_missing p k (n * s) name unit block ms t x l h)))))
        inr
        (present_right p k (n * s) name unit ms t u (p * (k + 2)) (omega arith))

    -- THE THEOREM of opening: within the limits, each unmarked piece u's or not fitting, the
    -- missing ones determined
    module _ (limits : open_limits p k s n (length name) (length block) (length t) (length ms) ≡ 0)
        (right : (x : ℕ) → x < p * (k + 2) → get_or ms x 0 ≡ 0 → (cell_at (n * s) t x ≡ cell_at (n * s) u x) ⊎ (fits p (n * s) name unit block t x ≡ false))
        (given : Determined p k (n * s) (missing_pieces p k (n * s) name unit block ms t)) where
      pub determined_opens : r.refusal ≡ 0
      determined_opens =
          let w = open_within p k s n name block ms t limits in
          let m = determined_mendable p k (n * s) w.0.sized.array.some w.0.some pieces (pieces_below p k (n * s) name unit block ms t) (missing_distinct (missing_marks p k (n * s) name unit block ms t)) given in
          let y : is_sealed p k name unit block ≡ true = subst (λ (b : List ℕ). is_sealed p k name unit b ≡ true) (sym seal) (block_sealed p k (n * s) name unit u) in
          says.answer.refusal
          ∙ ap (λ (c : ℕ). first_of c (first_of (when (not (is_sealed p k name unit block)) 24) (when (not (mendable p k pieces)) 23))) limits
          ∙ ap (λ (b : Bool). first_of (when (not b) 24) (when (not (mendable p k pieces)) 23)) y
          ∙ ap (λ (b : Bool). when (not b) 23) m

      pub brought_back : (t' ≡ u) × (ms' ≡ replicate (p * (k + 2)) 0)
      brought_back = back determined_opens alike
        where
          alike : AlikeOff p k (n * s) (missing_pieces p k (n * s) name unit block ms t) t u
          alike x l h =
              let e = off_missing p k (n * s) name unit block ms t x l h in
              let f = fits p (n * s) name unit block t x in
              ⊎_elim (λ q. q) (λ q. clash f (and_r (eqb (get_or ms x 0) 0) f e) q) (right x l (eqb-true (get_or ms x 0) 0 (and_l (eqb (get_or ms x 0) 0) f e)))
