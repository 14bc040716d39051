-- What a rebuild of two lost disks a and b does: it keeps every cell off them, makes the stripe
-- clean, and brings a clean stripe back from its cells off a and b. The steps for a parity disk and
-- another disk do,
-- since every cell is known after them and every set is named; so does the walk, where the last
-- diagonal is zero by the start.
use mathlib.Core.Path.{◌≡◌, refl, sym, ap, ap₂, ◌∙◌}
use mathlib.Core.Bool.{Bool, true, false, ◌||◌}
use mathlib.Core.Logic.{⊎_elim}
use mathlib.Core.List.{List, [], ◌∷◌}
use Prim.Native.Nat.{ℕ, zero, suc, ◌+◌, ◌-◌, ◌*◌, ◌/◌, ◌%◌, ◌≤◌, ◌<◌}
use native.Mathlib.Nat.{mod-lt}
use native.Mathlib.Omega.{arith}
use lib.Dec.{eqb}
use borrow.Author.Tests.{eqb-false, ne_eqb}
use Rattle.mathematics.specs.Choice.{pick}
use Rattle.mathematics.proofs.Flags.{or_false_l, or_false_r, clash}
use Rattle.mathematics.proofs.MemberLaws.{in_head}
use Rattle.mathematics.proofs.OrderLaws.{lt_or_le}
use Rattle.mathematics.proofs.Primes.{Prime}
use Rattle.liberation.specs.Sets.{place, disk_at, diagonal_set}
use Rattle.liberation.specs.Plans.{extra_row_on, diagonal_of}
use Rattle.liberation.proofs.RowSteps.{ordinary_diagonal}
use Rattle.liberation.specs.Stripes.Stripes.{cell_at, xor_over, is_stripe, clean}
use Rattle.liberation.proofs.Stripes.OverLaws.{over_ext}
use Rattle.liberation.proofs.Stripes.Solving.{SetZero, clean_of}
use Rattle.liberation.specs.TwoDisks.Pairs.{next_row, start_count, first_disk, first_cell, start_cells, started, filled, diagonal_walk, row_walk, walked}
use Rattle.liberation.specs.Stripes.Steps.{CellStep, steps_done}
use Rattle.liberation.specs.TwoDisks.PairSteps.{walk_steps, data_steps, is_lost, is_known}
use Rattle.liberation.proofs.Stripes.Standing.{Standing, known_cases, off_known, known_off, steps_stripe, steps_kept, steps_zero, steps_back}
use Rattle.liberation.proofs.TwoDisks.Upward.{lost_first, lost_second, known_lost}
use Rattle.liberation.proofs.TwoDisks.ParityPairs.{Complete}
use Rattle.liberation.proofs.TwoDisks.WalkRows.{row_after, after_zero, after_suc, after_lt, comes_to, comes_once}
use Rattle.liberation.proofs.TwoDisks.Roles.{Roles, row_low, start_back}
use Rattle.liberation.proofs.TwoDisks.WalkLaws.{data_standing, data_full, data_rows, data_diagonals}
use Rattle.liberation.proofs.TwoDisks.FirstCell.{start_row_lem, start_survives, started_stripe, started_cell, started_other, started_same, last_zero}

-- alike in every cell off the disks a and b
abbrev pub Alike : ℕ → ℕ → ℕ → ℕ → ℕ → List ℕ → List ℕ → Type 0
Alike p k s a b t u = (c : ℕ) → c < p * (k + 2) → (disk_at p c ≡ a → ⊥) → (disk_at p c ≡ b → ⊥) → cell_at s t c ≡ cell_at s u c

pub record Restores (p k s a b : ℕ) (f : List ℕ → List ℕ) : Type 0 where
  pub stripe : (t : List ℕ) → is_stripe p k s t ≡ true → is_stripe p k s (f t) ≡ true
  pub off : (t : List ℕ) → is_stripe p k s t ≡ true → (c : ℕ) → (disk_at p c ≡ a → ⊥) → (disk_at p c ≡ b → ⊥) → cell_at s (f t) c ≡ cell_at s t c
  pub cleans : (t : List ℕ) → is_stripe p k s t ≡ true → clean p k s (f t) ≡ true
  pub back : (t u : List ℕ) → is_stripe p k s t ≡ true → is_stripe p k s u ≡ true → clean p k s u ≡ true → Alike p k s a b t u → f t ≡ u

-- the disks in the other order
pub restores_swap : (p k s a b : ℕ) (f : List ℕ → List ℕ) → Restores p k s a b f → Restores p k s b a f
restores_swap p k s a b f r = record { stripe = r.stripe; off = λ t h c m n. r.off t h c n m; cleans = r.cleans; back = λ t u ht hu cu same. r.back t u ht hu cu (λ c l m n. same c l n m) }

-- off both disks, as a flag
off_lost : (p a b c : ℕ) → (disk_at p c ≡ a → ⊥) → (disk_at p c ≡ b → ⊥) → is_lost p a b c ≡ false
off_lost p a b c m n = ap₂ ◌||◌ (ne_eqb (disk_at p c) a m) (ne_eqb (disk_at p c) b n)

-- known with no cell written
off_both : (p a b c : ℕ) → is_known p a b [] c ≡ true → (disk_at p c ≡ a → ⊥) × (disk_at p c ≡ b → ⊥)
off_both p a b c h =
    let e = known_off (is_lost p a b) c h in
    (eqb-false (disk_at p c) a (or_false_l (eqb (disk_at p c) a) (eqb (disk_at p c) b) e), eqb-false (disk_at p c) b (or_false_r (eqb (disk_at p c) a) (eqb (disk_at p c) b) e))

-- steps from the surviving cells alone that name every set
pub complete_restores : (p k s a b : ℕ) (cs : List CellStep) → Complete p k a b cs → Restores p k s a b (steps_done p k s cs)
complete_restores p k s a b cs g =
    record {
      stripe = steps_stripe p k s (is_lost p a b) g.standing;
      off = λ t h c m n. steps_kept p k s (is_lost p a b) g.standing t h c (off_known (is_lost p a b) c [] (off_lost p a b c m n));
      cleans = λ t h. clean_of p k s (steps_done p k s cs t) (λ i l. steps_zero p k s (is_lost p a b) g.standing t h 0 i (g.rows i l)) (λ i l. steps_zero p k s (is_lost p a b) g.standing t h 1 i (g.diagonals i l));
      back = λ t u ht hu cu same. steps_back p k s (is_lost p a b) g.standing g.full t u ht hu cu (λ c l e. let w = off_both p a b c e in same c l w.0 w.1);
    }

-- the walk as steps
walk_steps_lem : (n p k s x y r : ℕ) (t : List ℕ) → diagonal_walk (2 * n) p k s x y r t ≡ steps_done p k s (walk_steps n p x y r) t
unfolding diagonal_walk row_walk walk_steps steps_done
walk_steps_lem zero p k s x y r t = refl
walk_steps_lem (suc n) p k s x y r t =
    let e : 2 * suc n ≡ suc (suc (2 * n)) = omega arith in
    ap (λ (m : ℕ). diagonal_walk m p k s x y r t) e ∙ walk_steps_lem n p k s x y (next_row p x y r) _

pub walked_steps : (p k s x y : ℕ) (t : List ℕ) → walked p k s x y t ≡ steps_done p k s (data_steps p x y) (started p k s x y t)
unfolding walked data_steps steps_done
walked_steps p k s x y t = walk_steps_lem (p - 1) p k s x y (extra_row_on p x) (filled p k s x y t)

module _ (p k s x y : ℕ) (ok : Prime p) (odd : p % 2 ≡ 1) (most : k ≤ p) (g : Roles p x y) (hx : x < k) (hy : y < k) where
  e : ℕ
  e = extra_row_on p x

  e_lt : e < p
  unfolding e
  e_lt = row_low p x y ok odd g

  ok_steps : Standing p k (is_lost p x y) (first_cell p x y ∷ []) (data_steps p x y)
  ok_steps = data_standing p k x y ok odd most g hx hy

  -- the first cell is lost
  first_lost : is_lost p x y (first_cell p x y) ≡ true
  unfolding e
  first_lost = go (eqb y 0)
    where
      go : (b : Bool) → is_lost p x y (place p e (pick b x y)) ≡ true
      go true = lost_first p x y e e_lt
      go false = lost_second p x y e e_lt

  not_first : (c : ℕ) → is_lost p x y c ≡ false → c ≡ first_cell p x y → ⊥
  not_first c h q = clash (is_lost p x y c) (ap (is_lost p x y) q ∙ first_lost) h

  module _ (t : List ℕ) (ht : is_stripe p k s t ≡ true) where
    after : List ℕ
    after = steps_done p k s (data_steps p x y) (started p k s x y t)

    ready : is_stripe p k s (started p k s x y t) ≡ true
    ready = started_stripe p k s x y ok odd g hx hy t ht

    after_stripe : is_stripe p k s after ≡ true
    unfolding after
    after_stripe = steps_stripe p k s (is_lost p x y) ok_steps (started p k s x y t) ready

    after_off : (c : ℕ) → is_lost p x y c ≡ false → cell_at s after c ≡ cell_at s t c
    unfolding after
    after_off c h = steps_kept p k s (is_lost p x y) ok_steps (started p k s x y t) ready c (off_known (is_lost p x y) c (first_cell p x y ∷ []) h) ∙ started_other p k s x y ok odd g hx hy t ht c (not_first c h)

    -- the first cell is the XOR of the surviving cells of the start still
    first_found : cell_at s after (first_cell p x y) ≡ xor_over s (cell_at s after) (start_cells p k x y)
    unfolding after
    first_found =
        steps_kept p k s (is_lost p x y) ok_steps (started p k s x y t) ready (first_cell p x y) (known_lost p x y (first_cell p x y) (first_cell p x y ∷ []) (λ w. in_head (first_cell p x y) []))
        ∙ started_cell p k s x y ok odd g hx hy t ht
        ∙ over_ext s (cell_at s t) (cell_at s after) (start_cells p k x y) (λ c m. sym (after_off c (start_survives p k x y c (start_row_lem p k s x y ok odd g hx hy) m).0))

    rows_zero : (i : ℕ) → i < p → SetZero p k s after 0 i
    unfolding after
    rows_zero i l = steps_zero p k s (is_lost p x y) ok_steps (started p k s x y t) ready 0 i (data_rows p k x y ok odd most g hx hy i l)

    -- the diagonal of every row of the walk but the last
    walk_zero : (q : ℕ) → suc q < p → SetZero p k s after 1 (diagonal_of p x (row_after q p x y e))
    unfolding after e
    walk_zero q l = steps_zero p k s (is_lost p x y) ok_steps (started p k s x y t) ready 1 (diagonal_of p x (row_after q p x y e)) (data_diagonals p k x y ok odd most g hx hy q l)

    -- the start's rows: n more after the first
    start : ℕ
    start = extra_row_on p (first_disk x y)

    start_lt : start < p
    unfolding start
    start_lt = start_row_lem p k s x y ok odd g hx hy

    n : ℕ
    n = start_count p y - 1

    count : (start_count p y ≡ suc n) × (n < p)
    unfolding n
    count = go (eqb y 0)
      where
        go : (b : Bool) → (pick b p ((p - 1) / 2) ≡ suc (pick b p ((p - 1) / 2) - 1)) × (pick b p ((p - 1) / 2) - 1 < p)
        go true = (omega arith, omega arith)
        go false = (omega (arith, ok.large), omega (arith, ok.large))

    -- the last of them is the walk's last row, from which it comes round
    last_row : (q : ℕ) → q < p → row_after q p x y e ≡ row_after n p x y start → suc q ≡ p
    unfolding start e n
    last_row q l same = ⊎_elim (λ m. absurd (never m)) (λ m. omega arith) (lt_or_le (suc q) p)
      where
        round : row_after (suc q) p x y e ≡ row_after 0 p x y e
        round =
            after_suc q p x y e ∙ ap (next_row p x y) same ∙ sym (after_suc n p x y start) ∙ ap (λ (m : ℕ). row_after m p x y start) (sym count.0) ∙ start_back p x y ok odd g ∙ sym (after_zero p x y e)

        never : suc q < p → ⊥
        never m = let w : suc q ≡ 0 = comes_once p x y ok g.x_high g.y_high g.apart e (suc q) 0 e_lt m (omega arith) round in omega arith

    -- so it is zero
    last_is_zero : SetZero p k s after 1 (diagonal_of p x (row_after n p x y start))
    unfolding start
    last_is_zero = last_zero p k s x y ok odd g hx hy after after_stripe n count.0 first_found rows_zero others
      where
        others : (j : ℕ) → j < n → SetZero p k s after 1 (diagonal_of p x (row_after j p x y start))
        others j l =
            let w = comes_to p x y ok g.x_high g.y_high g.apart e (row_after j p x y start) e_lt (after_lt j p x y start start_lt) in
            ⊎_elim
            (λ m. ap (λ (r : ℕ). xor_over s (cell_at s after) (diagonal_set p k (diagonal_of p x r))) (sym w.2) ∙ walk_zero w.0 m)
            (λ m. absurd (again w.0 w.1 w.2 (omega (arith, w.1))))
            (lt_or_le (suc w.0) p)
          where
            -- the start comes to the walk's last row once
            again : (q : ℕ) → q < p → row_after q p x y e ≡ row_after j p x y start → suc q ≡ p → ⊥
            again q h same end =
                let v = comes_to p x y ok g.x_high g.y_high g.apart e (row_after n p x y start) e_lt (after_lt n p x y start start_lt) in
                let f : suc v.0 ≡ p = last_row v.0 v.1 v.2 in
                let i : q ≡ v.0 = omega arith in
                let b = count.1 in
                let z : j ≡ n = comes_once p x y ok g.x_high g.y_high g.apart start j n start_lt (omega arith) b (sym same ∙ ap (λ (m : ℕ). row_after m p x y e) i ∙ v.2) in
                omega arith

    diagonals_zero : (z : ℕ) → z < p → SetZero p k s after 1 z
    diagonals_zero z l =
        let w = comes_to p x y ok g.x_high g.y_high g.apart e ((z + x) % p) e_lt (mod-lt (z + x) (omega arith)) in
        let back : diagonal_of p x (row_after w.0 p x y e) ≡ z = ap (diagonal_of p x) w.2 ∙ ordinary_diagonal p x z g.x_high l in
        ap (λ (i : ℕ). xor_over s (cell_at s after) (diagonal_set p k i)) (sym back)
        ∙ ⊎_elim (λ m. walk_zero w.0 m) (λ m. ap (λ (r : ℕ). xor_over s (cell_at s after) (diagonal_set p k (diagonal_of p x r))) (last w.0 w.1 (omega (arith, w.1))) ∙ last_is_zero) (lt_or_le (suc w.0) p)
      where
        last : (q : ℕ) → q < p → suc q ≡ p → row_after q p x y e ≡ row_after n p x y start
        last q h end =
            let v = comes_to p x y ok g.x_high g.y_high g.apart e (row_after n p x y start) e_lt (after_lt n p x y start start_lt) in
            let f : suc v.0 ≡ p = last_row v.0 v.1 v.2 in
            let i : q ≡ v.0 = omega arith in
            ap (λ (m : ℕ). row_after m p x y e) i ∙ v.2

    after_clean : clean p k s after ≡ true
    after_clean = clean_of p k s after rows_zero diagonals_zero

  after_back : (t u : List ℕ) → is_stripe p k s t ≡ true → is_stripe p k s u ≡ true → clean p k s u ≡ true → Alike p k s x y t u → steps_done p k s (data_steps p x y) (started p k s x y t) ≡ u
  after_back t u ht hu cu same =
      steps_back p k s (is_lost p x y) ok_steps (data_full p k x y ok odd most g hx hy) (started p k s x y t) u (started_stripe p k s x y ok odd g hx hy t ht) hu cu
      (λ c l h. ⊎_elim (λ q. first c q) (λ q. other c l q) (known_cases (is_lost p x y) (first_cell p x y) c [] h))
    where
      survivors : (c : ℕ) → c < p * (k + 2) → is_lost p x y c ≡ false → cell_at s t c ≡ cell_at s u c
      survivors c l h = let w = off_both p x y c (off_known (is_lost p x y) c [] h) in same c l w.0 w.1

      other : (c : ℕ) → c < p * (k + 2) → is_known p x y [] c ≡ true → cell_at s (started p k s x y t) c ≡ cell_at s u c
      other c l h = let w = off_both p x y c h in started_other p k s x y ok odd g hx hy t ht c (not_first c (off_lost p x y c w.0 w.1)) ∙ same c l w.0 w.1

      first : (c : ℕ) → c ≡ first_cell p x y → cell_at s (started p k s x y t) c ≡ cell_at s u c
      first c q =
          ap (cell_at s (started p k s x y t)) q
          ∙ started_cell p k s x y ok odd g hx hy t ht
          ∙ over_ext s (cell_at s t) (cell_at s u) (start_cells p k x y) (λ d m. let w = start_survives p k x y d (start_row_lem p k s x y ok odd g hx hy) m in survivors d w.1 w.0)
          ∙ sym (started_cell p k s x y ok odd g hx hy u hu)
          ∙ ap (λ (v : List ℕ). cell_at s v (first_cell p x y)) (started_same p k s x y ok odd g hx hy u hu cu)
          ∙ sym (ap (cell_at s u) q)

  pub walked_restores : Restores p k s x y (walked p k s x y)
  unfolding after
  walked_restores =
      record {
        stripe = λ t h. ap (is_stripe p k s) (walked_steps p k s x y t) ∙ after_stripe t h;
        off = λ t h c m o. ap (λ (v : List ℕ). cell_at s v c) (walked_steps p k s x y t) ∙ after_off t h c (off_lost p x y c m o);
        cleans = λ t h. ap (clean p k s) (walked_steps p k s x y t) ∙ after_clean t h;
        back = λ t u ht hu cu same. walked_steps p k s x y t ∙ after_back t u ht hu cu same;
      }
