-- The way of a film through the calls on units, from their promises alone. What was sealed is a
-- clean unit, whose film is the one that was cut. A block that a call accepts ends with its guard,
-- so it is the sealed one; then the theorems of the calls hold of that unit.
use mathlib.Core.Path.{◌≡◌, refl, sym, ap, ap₂, subst, ◌∙◌}
use mathlib.Core.Bool.{Bool, true, false, not}
use mathlib.Core.List.{List}
use mathlib.Core.Logic.{◌⊎◌, inl, inr, ⊎_elim}
use Prim.Native.Nat.{ℕ, ◌+◌, ◌*◌, ◌≤◌, ◌<◌}
use native.Mathlib.Nat.{mul-pos, mul-le-mul_right}
use native.Mathlib.Omega.{arith}
use lib.Dec.{eqb}
use lib.ListN.{length, get_or, take, drop, replicate}
use borrow.Author.Tests.{eq-eqb}
use Rattle.mathematics.specs.Choice.{pick, when, first_of}
use Rattle.liberation.specs.Sets.{place}
use Rattle.liberation.specs.Judging.{steps_in}
use Rattle.liberation.specs.Stripes.Stripes.{cell_at, column_of, is_stripe, clean}
use Rattle.liberation.proofs.Stripes.StripeCellLaws.{cell_long, cell_fits, cells_equal, column_cell}
use Rattle.liberation.proofs.Stripes.Rebuilding.{plan_back, plan_only_read}
use Rattle.refusals.specs.declared.answer.Answer.{Answer}
use Rattle.host_plans.specs.PlanListSays.{PlanListSays}
use Rattle.rebuild_cells.specs.Theory.Mending.{Determined}
use Rattle.unit_sums.specs.Sums.{block_of, is_sealed, fits}
use Rattle.unit_sums.specs.UnitLimits.{InUnit}
use Rattle.unit_sums.specs.Refusals.{length_refusal, unit_refusal}
use Rattle.unit_sums.specs.OnePiece.{fits_at, FitSays}
use Rattle.unit_sums.specs.Collisions.{Collision}
use Rattle.unit_sums.proofs.UnitRefusals.{unit_of_lem}
use Rattle.unit_sums.proofs.BlockLaws.{block_long_lem, block_sealed, own_fits}
use Rattle.unit_sums.proofs.FitLaws.{right_piece, fits_at_lem}
use Rattle.unit_opening.specs.Opening.{missing_pieces}
use Rattle.unit_opening.specs.Refusals.{open_limits}
use Rattle.unit_opening.specs.Says.{OpenSays}
use Rattle.unit_opening.proofs.BroughtBack.{opened_right, determined_opens, brought_back}
use Rattle.unit_film.specs.FilmOrder.{film_of}
use Rattle.unit_film.specs.Says.{range_refusal, film_limits, FilmBytesSays}
use Rattle.unit_film.proofs.FilmRefusals.{past_within}
use Rattle.unit_film.proofs.NoWrongFilm.{no_wrong_film}
use Rattle.unit_film.proofs.Sealed.{sealed_film}
use Rattle.guarantees.specs.Limits.Limits.{Within}
use Rattle.guarantees.specs.Limits.UnitCalls.{seal_unit}
use Rattle.guarantees.specs.Units.FilmWay.{SealedFilm, Trusted, FilmWay, RebuiltPiece}
use Rattle.guarantees.proofs.Limits.Demand1.{demand1}
use Rattle.guarantees.proofs.Stripes.{Encodes, is_stripe_lem, encodes}
use Rattle.guarantees.proofs.FurtherPlans.Plans.{list_written}
use Rattle.guarantees.proofs.FurtherPlans.Rebuilds.{Taken, taken}
use Rattle.guarantees.proofs.Units.Together.{piece_cell, unit_clean, film_is}

module _ (p k s n : ℕ) (name : List ℕ) (v : ℕ) (film u block : List ℕ) (w : SealedFilm p k s n name v film u block) where
  -- ---- the unit that was sealed
  none : unit_refusal p k s n (length name) (length w.room) (length u) ≡ 0
  none = sym w.seals.answer.refusal ∙ w.accepted

  limits : InUnit p k (n * s) name w.room u
  limits = (unit_of_lem p k s n name w.room u none).1

  block_is : block ≡ block_of p k (n * s) name v u
  block_is = w.seals.written ∙ ap (λ (c : ℕ). pick (eqb c 0) (block_of p k (n * s) name v u) w.room) none

  each : (j : ℕ) → j < n → Encodes p k s (w.stripes j) (w.encoded j)
  each j l = let g = w.encodes j l in encodes p k s (w.stripes j) (w.encoded j) g.0 g.1 g.2

  data_some : 0 < k * p
  data_some = let a = limits.sized.array in mul-pos (omega (arith, a.two)) a.some

  stripe : is_stripe p k (n * s) u ≡ true
  stripe = is_stripe_lem p k (n * s) u w.together.long w.together.bytes

  is_clean : clean p k (n * s) u ≡ true
  is_clean = unit_clean p k s n w.encoded u w.together (λ j l. (each j l).is_clean)

  same_film : film_of p k s n u ≡ film
  same_film =
      film_is p k s n w.encoded u w.together film w.stripes w.cut (λ j l x h. (each j l).kept x (omega arith)) data_some

  -- as long a name, a block and a unit are within the limits
  unit_limits : unit_refusal p k s n (length name) (length (block_of p k (n * s) name v u)) (length u) ≡ 0
  unit_limits = ap (λ (m : ℕ). unit_refusal p k s n (length name) m (length u)) (block_long_lem p k (n * s) name v u ∙ sym limits.summed) ∙ none

  -- ---- what is read
  module _ (b t : List ℕ) (trusted : Trusted p k name v block b) where
    seal : is_sealed p k name v b ≡ true → b ≡ block_of p k (n * s) name v u
    seal e = trusted e ∙ block_is

    pub film_way : FilmWay p k s n name v film u b t
    film_way =
        record {
          handed = handed;
          refused = λ i o o' r d. demand1.film_bytes_lem p k s n name v b t i o o' r d;
          opened = opened;
          unopened = λ ms ms' t' r d. demand1.open_unit_lem p k s n name v b ms ms' t t' r d;
          played = played;
          brought_back = back;
          piece = λ c i x r d z. right_piece p k s n name v b u c i x r d (seal ((demand1.piece_fits_lem p k s n name v b c i x r d).accepted z).1.1.1.1.1.1.1.1.1.0.0) w.together.long z;
        }
      where
        handed : (i : ℕ) (o o' : List ℕ) (r : Answer) → FilmBytesSays p k s n name v b t i o o' r → r.refusal ≡ 0 → (o' ≡ take (length o) (drop i film)) ⊎ Collision p k (n * s) name v t u
        handed i o o' r d z =
            ⊎_elim (λ e. inl (e ∙ ap (λ (f : List ℕ). take (length o) (drop i f)) same_film)) inr
            (no_wrong_film p k s n name v b t u i o o' r d (seal ((demand1.film_bytes_lem p k s n name v b t i o o' r d).accepted z).1.1.1.1.1.1.1.1.0.0) w.together.long z)

        sealed : (ms ms' t' : List ℕ) (r : Answer) → OpenSays p k s n name v b ms ms' t t' r → r.refusal ≡ 0 → b ≡ block_of p k (n * s) name v u
        sealed ms ms' t' r d z = seal ((demand1.open_unit_lem p k s n name v b ms ms' t t' r d).accepted z).1.1.1.1.1.1.1.1.0

        opened : (ms ms' t' : List ℕ) (r : Answer) → OpenSays p k s n name v b ms ms' t t' r → r.refusal ≡ 0 → ((t' ≡ u) × (ms' ≡ replicate (p * (k + 2)) 0)) ⊎ Collision p k (n * s) name v t u
        opened ms ms' t' r d z = opened_right p k s n name v b ms ms' t t' u r d (sealed ms ms' t' r d z) stripe is_clean z

        within : (i m : ℕ) → i + m ≤ length film → film_limits p k s n (length name) (length (block_of p k (n * s) name v u)) (length u) i m ≡ 0
        within i m h =
            ap (λ (c : ℕ). first_of c (range_refusal (k * (p * (n * s))) i m)) unit_limits
            ∙ past_within (k * (p * (n * s))) i m (omega (arith, w.cut.long))

        played :
            (ms ms' t' : List ℕ) (r : Answer) → OpenSays p k s n name v b ms ms' t t' r → r.refusal ≡ 0
            → (i : ℕ) (o o' : List ℕ) (q : Answer) → FilmBytesSays p k s n name v b t' i o o' q → i + length o ≤ length film
            → ((q.refusal ≡ 0) × (o' ≡ take (length o) (drop i film))) ⊎ Collision p k (n * s) name v t u
        played ms ms' t' r d z i o o' q g h =
            ⊎_elim
            (λ e.
            let f : FilmBytesSays p k s n name v (block_of p k (n * s) name v u) u i o o' q = subst (λ (c : List ℕ). FilmBytesSays p k s n name v c u i o o' q) (sealed ms ms' t' r d z) (subst (λ (c : List ℕ). FilmBytesSays p k s n name v b c i o o' q) e.0 g) in
            let y = sealed_film p k s n name v u i o o' q f (within i (length o) h) in
            inl (y.0, y.1 ∙ ap (λ (c : List ℕ). take (length o) (drop i c)) same_film))
            inr
            (opened ms ms' t' r d z)

        back :
            (ms ms' t' : List ℕ) (r : Answer) → OpenSays p k s n name v b ms ms' t t' r
            → is_sealed p k name v b ≡ true → length t ≡ length u → length ms ≡ p * (k + 2)
            → ((x : ℕ) → x < p * (k + 2) → get_or ms x 0 ≡ 0 → (cell_at (n * s) t x ≡ cell_at (n * s) u x) ⊎ (fits p (n * s) name v b t x ≡ false))
            → Determined p k (n * s) (missing_pieces p k (n * s) name v b ms t)
            → (r.refusal ≡ 0) × (t' ≡ u) × (ms' ≡ replicate (p * (k + 2)) 0)
        back ms ms' t' r d e lt lm right given =
            let l : open_limits p k s n (length name) (length b) (length t) (length ms) ≡ 0 =
            ap₂ (λ (x y : ℕ). first_of (unit_refusal p k s n (length name) x y) (length_refusal (p * (k + 2)) (length ms))) (ap length (seal e)) lt
            ∙ ap (λ (c : ℕ). first_of c (length_refusal (p * (k + 2)) (length ms))) unit_limits
            ∙ ap (λ (c : Bool). when (not c) 5) (eq-eqb (length ms) (p * (k + 2)) lm) in
            let y = brought_back p k s n name v b ms ms' t t' u r d (seal e) stripe is_clean l right given in
            (determined_opens p k s n name v b ms ms' t t' u r d (seal e) stripe is_clean l right given, y.0, y.1)

  -- ---- one disk rebuilt by a plan: of the stripes that were read, the cells on the list that
  -- `plan_list` writes for it are as they were encoded, whatever the others are. `rebuild_one` and
  -- `rebuild_balanced` write the same as this with their plans (`own_alike`, `balanced_alike`)
  module _ (f : ℕ) (bs : List ℕ) (i : ℕ) (x l l' : List ℕ) (a : Answer) (row : i < p) (g : RebuiltPiece p k s n f bs i x) (lists : PlanListSays p k f bs l l' a) (listed : a.refusal ≡ 0)
      (read : (j y : ℕ) → j < n → get_or l' y 0 ≡ 1 → cell_at s (g.read j) y ≡ cell_at s (w.encoded j) y) where
    by_plan : (j : ℕ) → j < n → Taken p k s f bs (g.read j) (g.column j)
    by_plan j h = let o = g.rebuilds j h in taken p k s f bs (g.read j) o.0 (g.column j) o.1 o.2 o.3

    column_is : (j : ℕ) → j < n → g.column j ≡ column_of p s f (w.encoded j)
    column_is j h =
        let o = by_plan j h in
        let c = each j h in
        let list = (list_written p k f bs l l' a lists listed).list in
        o.column
        ∙ plan_only_read p k s f (steps_in p bs) o.accepts o.disk (g.read j) (w.encoded j) o.stripe c.stripe (λ y e. read j y h (ap (λ (m : List ℕ). get_or m y 0) list ∙ e))
        ∙ plan_back p k s f (steps_in p bs) o.accepts o.disk (w.encoded j) (w.encoded j) c.stripe c.stripe c.is_clean (λ y q e. refl)

    numbers : Within (seal_unit p k s n name w.room u)
    numbers = (demand1.seal_unit_lem p k s n name v u w.room block w.answer w.seals).accepted w.accepted

    range : f ≤ k + 1
    range = omega (arith, (by_plan 0 numbers.1.1.1.0.0).disk)

    below : place p i f < p * (k + 2)
    below = omega (arith, mul-le-mul_right p range)

    -- it is the piece that was sealed
    pub rebuilt_piece : x ≡ cell_at (n * s) u (place p i f)
    rebuilt_piece =
        cells_equal n s x (cell_at (n * s) u (place p i f)) g.long (cell_long (n * s) (place p i f) u (omega (arith, w.together.long, cell_fits (p * (k + 2)) (n * s) (place p i f) below)))
        (λ j l.
        g.cells j l
        ∙ ap (λ (c : List ℕ). cell_at s c i) (column_is j l)
        ∙ column_cell p s f i (w.encoded j) row
        ∙ sym (piece_cell s n (place p i f) j u l ∙ w.together.cells j (place p i f) l below))

    -- so `piece_fits` accepts it under the sealed block
    pub rebuilt_fits : (r : Answer) → FitSays p k s n name v block f i x r → r.refusal ≡ 0
    rebuilt_fits r says =
        let q = numbers in
        let b : length block ≡ p * (k + 2) * 8 + 8 = ap length block_is ∙ block_long_lem p k (n * s) name v u in
        let e : is_sealed p k name v block ≡ true = ap (is_sealed p k name v) block_is ∙ block_sealed p k (n * s) name v u in
        let h : fits_at p name v block (place p i f) x ≡ true =
        ap₂ (λ (c y : List ℕ). fits_at p name v c (place p i f) y) block_is rebuilt_piece
        ∙ sym (fits_at_lem p (n * s) name v (block_of p k (n * s) name v u) u (place p i f))
        ∙ own_fits p k (n * s) name v u (place p i f) below in
        (demand1.piece_fits_lem p k s n name v block f i x r says).accepts
        (q.0, (q.1.0, (q.1.1.0, (q.1.1.1.0, (range, (q.1.1.1.1.0, (b, (g.long, (row, ((e, h), tt))))))))))
