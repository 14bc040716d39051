-- The walk between two lost data disks, once both cells of its first row stand: each of its steps
-- stands, it leaves every cell known, and it names every row set and every diagonal set but the
-- last one's.
-- The diagonal of row r has its other lost cell in the next row. It has a third one only if that is
-- the extra cell on x, which stands from the start, or the extra cell on y, which stands when it is
-- met.
use mathlib.Core.Path.{◌≡◌, refl, sym, ap, ap₂, subst, ◌∙◌}
use mathlib.Core.Bool.{Bool, true, false, ◌&&◌, ◌||◌, and-true, and-false}
use mathlib.Core.Logic.{◌⊎◌, inl, inr, ⊎_elim}
use mathlib.Core.List.{List, [], ◌∷◌}
use Prim.Native.Nat.{ℕ, zero, suc, ◌+◌, ◌-◌, ◌*◌, ◌%◌, ◌≤◌, ◌<◌}
use native.Mathlib.Nat.{mod-lt}
use native.Mathlib.Omega.{arith}
use lib.Dec.{eqb, ltb, leb}
use borrow.Author.Tests.{eqb-true, eq-eqb, ne_eqb, le-leb, lt-ltb, le-ltb}
use Rattle.mathematics.specs.Choice.{pick}
use Rattle.mathematics.specs.Lists.{is_in}
use Rattle.mathematics.proofs.Flags.{and_l, and_i, or_l, or_r}
use Rattle.mathematics.proofs.OrderLaws.{eq_or_lt}
use Rattle.mathematics.proofs.MemberLaws.{in_head, in_tail}
use Rattle.mathematics.proofs.Primes.{Prime}
use Rattle.mathematics.proofs.TestLaws.{eqb_same, ltb_next}
use Rattle.liberation.specs.Sets.{place, row_at, disk_at, row_set, diagonal_set, extra_row}
use Rattle.liberation.specs.Plans.{extra_row_on, diagonal_of}
use Rattle.liberation.proofs.SetLaws.{place_eq, in_row}
use Rattle.liberation.proofs.PlaceLaws.{some_row}
use Rattle.liberation.proofs.RowSteps.{ordinary_row}
use Rattle.liberation.proofs.LostLaws.{extra_on, on_data, on_cases}
use Rattle.liberation.specs.TwoDisks.Pairs.{other_disk, first_cell}
use Rattle.liberation.specs.Stripes.Steps.{CellStep, cell_step}
use Rattle.liberation.specs.TwoDisks.PairSteps.{walk_steps, data_steps, is_lost, is_known}
use Rattle.liberation.proofs.Stripes.Standing.{Stands, Standing, none, next, done_after, names}
use Rattle.liberation.proofs.TwoDisks.Upward.{on_disk_lem, lost_cases, lost_first, lost_second, known_lost, unknown_lost, known_rows}
use Rattle.liberation.proofs.TwoDisks.WalkRows.{row_after, after_zero, after_suc, after_lt, comes_to, comes_once}
use Rattle.liberation.proofs.TwoDisks.Roles.{Roles, row_low, extra_stood}

-- a cell of disk c, with one more written: on that disk, and on another
same_disk : (p r i c : ℕ) (done : List ℕ) → r < p → i < p → is_in (place p r c) (place p i c ∷ done) ≡ (eqb r i || is_in (place p r c) done)
same_disk p r i c done h l = ap (λ (t : Bool). t || is_in (place p r c) done) (place_eq p r c i c h l ∙ ap (λ (t : Bool). eqb r i && t) (eq-eqb c c refl) ∙ and-true (eqb r i))

other_disk_lem : (p r i c d : ℕ) (done : List ℕ) → r < p → i < p → (c ≡ d → ⊥) → is_in (place p r c) (place p i d ∷ done) ≡ is_in (place p r c) done
other_disk_lem p r i c d done h l n = ap (λ (t : Bool). t || is_in (place p r c) done) (place_eq p r c i d h l ∙ ap (λ (t : Bool). eqb r i && t) (ne_eqb c d n) ∙ and-false (eqb r i))

-- the first of all
first_only : (l : ℕ) → (eqb l 0 || false) ≡ ltb l 1
first_only l = ap (λ (b : Bool). eqb l 0 || b) (sym (le-ltb l 0 (omega arith))) ∙ ltb_next l 0

module _ (p k x y : ℕ) (ok : Prime p) (odd : p % 2 ≡ 1) (most : k ≤ p) (g : Roles p x y) (hx : x < k) (hy : y < k) where
  -- the q-th row of the walk
  abbrev row : ℕ → ℕ
  row q = row_after q p x y (extra_row_on p x)

  row_lt : (q : ℕ) → row q < p
  row_lt q = after_lt q p x y (extra_row_on p x) (row_low p x y ok odd g)

  row_same : (l q : ℕ) → l < p → q < p → eqb (row l) (row q) ≡ eqb l q
  row_same l q h m = eqb_same (row l) (row q) l q (λ e. comes_once p x y ok g.x_high g.y_high g.apart (extra_row_on p x) l q (row_low p x y ok odd g) h m e) (λ e. ap row e)

  -- the rows up to the q-th stand, and no later one
  Filled : ℕ → List ℕ → Type 0
  Filled q done = (l : ℕ) → l < p → (is_in (place p (row l) x) done ≡ ltb l (suc q)) × (is_in (place p (row l) y) done ≡ ltb l (suc q))

  filled_next : (q : ℕ) (done : List ℕ) → suc q < p → Filled q done → Filled (suc q) (place p (row (suc q)) x ∷ (place p (row (suc q)) y ∷ done))
  unfolding Filled
  filled_next q done h f l m = (
    same_disk p (row l) (row (suc q)) x (place p (row (suc q)) y ∷ done) (row_lt l) (row_lt (suc q))
        ∙ ap₂ ◌||◌ (row_same l (suc q) m h) (other_disk_lem p (row l) (row (suc q)) x y done (row_lt l) (row_lt (suc q)) g.apart ∙ (f l m).0)
        ∙ ltb_next l (suc q),
    other_disk_lem p (row l) (row (suc q)) y x (place p (row (suc q)) y ∷ done) (row_lt l) (row_lt (suc q)) (λ e. g.apart (sym e))
        ∙ same_disk p (row l) (row (suc q)) y done (row_lt l) (row_lt (suc q))
        ∙ ap₂ ◌||◌ (row_same l (suc q) m h) (f l m).1
        ∙ ltb_next l (suc q),
  )

  -- the first row: its two cells in either order
  filled_first : (t : Bool) → Filled 0 (place p (extra_row_on p x) (pick t y x) ∷ (place p (extra_row_on p x) (pick t x y) ∷ []))
  unfolding Filled
  filled_first t l m = go t
    where
      e : ℕ
      e = extra_row_on p x

      e_lt : e < p
      e_lt = row_low p x y ok odd g

      zero_row : (eqb (row l) e || false) ≡ ltb l 1
      zero_row = ap (λ (i : ℕ). eqb (row l) i || false) (sym (after_zero p x y e)) ∙ ap (λ (b : Bool). b || false) (row_same l 0 m (omega arith)) ∙ first_only l

      alone : (c : ℕ) → is_in (place p (row l) c) (place p e c ∷ []) ≡ ltb l 1
      alone c = same_disk p (row l) e c [] (row_lt l) e_lt ∙ zero_row

      before : (c d : ℕ) → (c ≡ d → ⊥) → is_in (place p (row l) c) (place p e c ∷ (place p e d ∷ [])) ≡ ltb l 1
      before c d n = same_disk p (row l) e c (place p e d ∷ []) (row_lt l) e_lt ∙ ap (λ (b : Bool). eqb (row l) e || b) (other_disk_lem p (row l) e c d [] (row_lt l) e_lt n) ∙ zero_row

      behind : (c d : ℕ) → (c ≡ d → ⊥) → is_in (place p (row l) c) (place p e d ∷ (place p e c ∷ [])) ≡ ltb l 1
      behind c d n = other_disk_lem p (row l) e c d (place p e c ∷ []) (row_lt l) e_lt n ∙ alone c

      go : (b : Bool) → (is_in (place p (row l) x) (place p e (pick b y x) ∷ (place p e (pick b x y) ∷ [])) ≡ ltb l 1) × (is_in (place p (row l) y) (place p e (pick b y x) ∷ (place p e (pick b x y) ∷ [])) ≡ ltb l 1)
      go true = (behind x y g.apart, before y x (λ q. g.apart (sym q)))
      go false = (before x y g.apart, behind y x (λ q. g.apart (sym q)))

  -- one turn of the walk, its rows by their numbers
  walk_next : (n q : ℕ) → walk_steps (suc n) p x y (row q) ≡ cell_step (place p (row (suc q)) y) 1 (diagonal_of p x (row q)) ∷ (cell_step (place p (row (suc q)) x) 0 (row (suc q)) ∷ walk_steps n p x y (row (suc q)))
  unfolding walk_steps
  walk_next n q = ap (λ (r : ℕ). cell_step (place p r y) 1 (diagonal_of p x (row q)) ∷ (cell_step (place p r x) 0 r ∷ walk_steps n p x y r)) (sym (after_suc q p x y (extra_row_on p x)))

  -- a step by the diagonal of the q-th row
  diagonal_stands : (q : ℕ) (done : List ℕ) → suc q < p → Filled q done → Stands p k (is_lost p x y) done (cell_step (place p (row (suc q)) y) 1 (diagonal_of p x (row q)))
  unfolding Filled
  diagonal_stands q done h f =
      record {
        kind_below = omega arith;
        number_below = z_lt;
        held = on_data p k z (row (suc q)) y (row_lt (suc q)) z_lt hy ∙ or_l (eqb (row (suc q)) ((z + y) % p)) (extra_on p z y && eqb (row (suc q)) (extra_row p z)) (eq-eqb (row (suc q)) ((z + y) % p) (after_suc q p x y (extra_row_on p x)));
        fresh = unknown_lost p x y (place p (row (suc q)) y) done (lost_second p x y (row (suc q)) (row_lt (suc q))) ((f (suc q) h).1 ∙ le-ltb (suc q) (suc q) (omega arith));
        others = known_rows p x y (diagonal_set p k z) (place p (row (suc q)) y ∷ done) (omega arith) on_x on_y;
      }
    where
      z : ℕ
      z = diagonal_of p x (row q)

      z_lt : z < p
      z_lt = mod-lt (row q + p - x) (omega arith)

      -- a row up to the q-th
      stood_x : (l r : ℕ) → l ≤ q → row l ≡ r → is_in (place p r x) done ≡ true
      stood_x l r m e = ap (λ (i : ℕ). is_in (place p i x) done) (sym e) ∙ (f l (omega arith)).0 ∙ lt-ltb l (suc q) (omega arith)

      stood_y : (l r : ℕ) → l ≤ q → row l ≡ r → is_in (place p r y) done ≡ true
      stood_y l r m e = ap (λ (i : ℕ). is_in (place p i y) done) (sym e) ∙ (f l (omega arith)).1 ∙ lt-ltb l (suc q) (omega arith)

      on_x : (r : ℕ) → r < p → is_in (place p r x) (diagonal_set p k z) ≡ true → is_in (place p r x) (place p (row (suc q)) y ∷ done) ≡ true
      on_x r l t =
          in_tail (place p r x) (place p (row (suc q)) y) done
          (⊎_elim
          (λ e. stood_x q r (omega arith) (sym (e ∙ ordinary_row p x (row q) g.x_high (row_lt q))))
          (λ w. stood_x 0 r (omega arith) (after_zero p x y (extra_row_on p x) ∙ sym w.2))
          (on_cases p k z r x odd most l z_lt hx t))

      on_y : (r : ℕ) → r < p → is_in (place p r y) (diagonal_set p k z) ≡ true → is_in (place p r y) (place p (row (suc q)) y ∷ done) ≡ true
      on_y r l t =
          ⊎_elim
          (λ e. ap (λ (i : ℕ). is_in (place p i y) (place p (row (suc q)) y ∷ done)) (e ∙ sym (after_suc q p x y (extra_row_on p x))) ∙ in_head (place p (row (suc q)) y) done)
          (λ w. let v = extra_stood p x y ok odd g q (omega arith) w.0 w.1 (row_lt q) in in_tail (place p r y) (place p (row (suc q)) y) done (stood_y v.0 r v.1 (v.2 ∙ sym w.2)))
          (on_cases p k z r y odd most l z_lt hy t)

  -- a step by a row set, where the row's cell on disk d stands and that on disk c does not
  row_stands : (c d r : ℕ) (done : List ℕ) → c ≤ k → r < p → is_lost p x y (place p r c) ≡ true → is_in (place p r c) (place p r d ∷ done) ≡ false → ((t : Bool) × (c ≡ pick t y x) × (d ≡ pick t x y)) → Stands p k (is_lost p x y) (place p r d ∷ done) (cell_step (place p r c) 0 r)
  row_stands c d r done h l lost new both =
      record {
        kind_below = omega arith;
        number_below = l;
        held = in_row p k r r c l l ∙ and_i (eqb r r) (leb c k) (eq-eqb r r refl) (le-leb c k h);
        fresh = unknown_lost p x y (place p r c) (place p r d ∷ done) lost new;
        others = known_rows p x y (row_set p k r) (place p r c ∷ (place p r d ∷ done)) (omega arith) (on_row x (go_x both.0 both.1 both.2)) (on_row y (go_y both.0 both.1 both.2));
      }
    where
      on_row : (f : ℕ) → (f ≡ c) ⊎ (f ≡ d) → (i : ℕ) → i < p → is_in (place p i f) (row_set p k r) ≡ true → is_in (place p i f) (place p r c ∷ (place p r d ∷ done)) ≡ true
      on_row f w i m t =
          let e : i ≡ r = eqb-true i r (and_l (eqb i r) (leb f k) (sym (in_row p k r i f m l) ∙ t)) in
          ⊎_elim
          (λ q. ap₂ (λ (a b : ℕ). is_in (place p a b) (place p r c ∷ (place p r d ∷ done))) e q ∙ in_head (place p r c) (place p r d ∷ done))
          (λ q. ap₂ (λ (a b : ℕ). is_in (place p a b) (place p r c ∷ (place p r d ∷ done))) e q ∙ in_tail (place p r d) (place p r c) (place p r d ∷ done) (in_head (place p r d) done))
          w

      go_x : (t : Bool) → c ≡ pick t y x → d ≡ pick t x y → (x ≡ c) ⊎ (x ≡ d)
      go_x true a b = inr (sym b)
      go_x false a b = inl (sym a)

      go_y : (t : Bool) → c ≡ pick t y x → d ≡ pick t x y → (y ≡ c) ⊎ (y ≡ d)
      go_y true a b = inl (sym a)
      go_y false a b = inr (sym b)

  walk_standing : (n q : ℕ) (done : List ℕ) → q + n < p → Filled q done → Standing p k (is_lost p x y) done (walk_steps n p x y (row q))
  unfolding walk_steps Filled
  walk_standing zero q done h f = none
  walk_standing (suc n) q done h f =
      subst (Standing p k (is_lost p x y) done) (sym (walk_next n q))
      (next (diagonal_stands q done (omega arith) f)
      (next
      (row_stands x y (row (suc q)) done (omega arith) (row_lt (suc q)) (lost_first p x y (row (suc q)) (row_lt (suc q)))
      (other_disk_lem p (row (suc q)) (row (suc q)) x y done (row_lt (suc q)) (row_lt (suc q)) g.apart ∙ (f (suc q) (omega arith)).0 ∙ le-ltb (suc q) (suc q) (omega arith)) (false, refl, refl))
      (walk_standing n (suc q) (place p (row (suc q)) x ∷ (place p (row (suc q)) y ∷ done)) (omega arith) (filled_next q done (omega arith) f))))

  walk_done : (n q : ℕ) (done : List ℕ) → q + n < p → Filled q done → Filled (q + n) (done_after done (walk_steps n p x y (row q)))
  unfolding walk_steps done_after
  walk_done zero q done h f = let e : q ≡ q + 0 = omega arith in subst (λ (i : ℕ). Filled i done) e f
  walk_done (suc n) q done h f =
      let e : suc q + n ≡ q + suc n = omega arith in
      subst (λ (i : ℕ). Filled i (done_after done (walk_steps (suc n) p x y (row q)))) e
      (subst (λ (cs : List CellStep). Filled (suc q + n) (done_after done cs)) (sym (walk_next n q))
      (walk_done n (suc q) (place p (row (suc q)) x ∷ (place p (row (suc q)) y ∷ done)) (omega arith) (filled_next q done (omega arith) f)))

  -- it names the row sets after the first, and the diagonals before the last
  walk_rows : (n q l : ℕ) → q < l → l ≤ q + n → names 0 (row l) (walk_steps n p x y (row q)) ≡ true
  unfolding walk_steps names
  walk_rows zero q l h m = absurd (omega arith)
  walk_rows (suc n) q l h m =
      ap (names 0 (row l)) (walk_next n q)
      ∙ ⊎_elim
      (λ e. or_l (eqb (row (suc q)) (row l)) (names 0 (row l) (walk_steps n p x y (row (suc q)))) (eq-eqb (row (suc q)) (row l) (ap row e)))
      (λ g. or_r (eqb (row (suc q)) (row l)) (names 0 (row l) (walk_steps n p x y (row (suc q)))) (walk_rows n (suc q) l g (omega arith)))
      (eq_or_lt (suc q) l h)

  walk_diagonals : (n q l : ℕ) → q ≤ l → l < q + n → names 1 (diagonal_of p x (row l)) (walk_steps n p x y (row q)) ≡ true
  unfolding walk_steps names
  walk_diagonals zero q l h m = absurd (omega arith)
  walk_diagonals (suc n) q l h m =
      ap (names 1 (diagonal_of p x (row l))) (walk_next n q)
      ∙ ⊎_elim
      (λ e. or_l (eqb (diagonal_of p x (row q)) (diagonal_of p x (row l))) (names 1 (diagonal_of p x (row l)) (walk_steps n p x y (row (suc q)))) (eq-eqb (diagonal_of p x (row q)) (diagonal_of p x (row l)) (ap (λ (i : ℕ). diagonal_of p x (row i)) e)))
      (λ g. or_r (eqb (diagonal_of p x (row q)) (diagonal_of p x (row l))) (names 1 (diagonal_of p x (row l)) (walk_steps n p x y (row (suc q)))) (walk_diagonals n (suc q) l g (omega arith)))
      (eq_or_lt q l h)

  -- after the first cell: its row's other cell, then the walk
  pub data_standing : Standing p k (is_lost p x y) (first_cell p x y ∷ []) (data_steps p x y)
  unfolding data_steps
  data_standing =
      next (go (eqb y 0))
      (subst (λ (r : ℕ). Standing p k (is_lost p x y) (place p (extra_row_on p x) (other_disk x y) ∷ (first_cell p x y ∷ [])) (walk_steps (p - 1) p x y r)) (after_zero p x y (extra_row_on p x))
      (walk_standing (p - 1) 0 (place p (extra_row_on p x) (other_disk x y) ∷ (first_cell p x y ∷ [])) (omega (arith, ok.large)) (filled_first (eqb y 0))))
    where
      e : ℕ
      e = extra_row_on p x

      e_lt : e < p
      e_lt = row_low p x y ok odd g

      go : (t : Bool) → Stands p k (is_lost p x y) (place p e (pick t x y) ∷ []) (cell_step (place p e (pick t y x)) 0 e)
      go true = row_stands y x e [] (omega arith) e_lt (lost_second p x y e e_lt) (other_disk_lem p e e y x [] e_lt e_lt (λ q. g.apart (sym q))) (true, refl, refl)
      go false = row_stands x y e [] (omega arith) e_lt (lost_first p x y e e_lt) (other_disk_lem p e e x y [] e_lt e_lt g.apart) (false, refl, refl)

  pub data_full : (c : ℕ) → c < p * (k + 2) → is_known p x y (done_after (first_cell p x y ∷ []) (data_steps p x y)) c ≡ true
  unfolding data_steps done_after Filled
  data_full c h = known_lost p x y c after (λ t. ⊎_elim (λ q. there (disk_at p c) refl (inl q)) (λ q. there (disk_at p c) refl (inr q)) (lost_cases p x y c t))
    where
      e : ℕ
      e = extra_row_on p x

      pair : List ℕ
      pair = place p e (other_disk x y) ∷ (first_cell p x y ∷ [])

      after : List ℕ
      after = done_after pair (walk_steps (p - 1) p x y e)

      all : Filled (0 + (p - 1)) after
      all = subst (λ (r : ℕ). Filled (0 + (p - 1)) (done_after pair (walk_steps (p - 1) p x y r))) (after_zero p x y e) (walk_done (p - 1) 0 pair (omega (arith, ok.large)) (filled_first (eqb y 0)))

      there : (d : ℕ) → disk_at p c ≡ d → (d ≡ x) ⊎ (d ≡ y) → is_in c after ≡ true
      there d q w =
          let l : row_at p c < p = mod-lt c (some_row p (k + 2) c h) in
          let v = comes_to p x y ok g.x_high g.y_high g.apart e (row_at p c) (row_low p x y ok odd g) l in
          let m : ltb v.0 (suc (0 + (p - 1))) ≡ true = lt-ltb v.0 (suc (0 + (p - 1))) (omega (arith, v.1)) in
          ⊎_elim
          (λ u. ap (λ (i : ℕ). is_in i after) (sym (on_disk_lem p c x (q ∙ u)) ∙ ap (λ (r : ℕ). place p r x) (sym v.2)) ∙ (all v.0 v.1).0 ∙ m)
          (λ u. ap (λ (i : ℕ). is_in i after) (sym (on_disk_lem p c y (q ∙ u)) ∙ ap (λ (r : ℕ). place p r y) (sym v.2)) ∙ (all v.0 v.1).1 ∙ m)
          w

  pub data_rows : (i : ℕ) → i < p → names 0 i (data_steps p x y) ≡ true
  unfolding data_steps names
  data_rows i l =
      let v = comes_to p x y ok g.x_high g.y_high g.apart (extra_row_on p x) i (row_low p x y ok odd g) l in
      go v.0 v.1 v.2
    where
      e : ℕ
      e = extra_row_on p x

      go : (q : ℕ) → q < p → row q ≡ i → (eqb e i || names 0 i (walk_steps (p - 1) p x y e)) ≡ true
      go zero h w = or_l (eqb e i) (names 0 i (walk_steps (p - 1) p x y e)) (eq-eqb e i (sym (after_zero p x y e) ∙ w))
      go (suc q) h w =
          or_r (eqb e i) (names 0 i (walk_steps (p - 1) p x y e))
          (ap₂ (λ (j r : ℕ). names 0 j (walk_steps (p - 1) p x y r)) (sym w) (sym (after_zero p x y e)) ∙ walk_rows (p - 1) 0 (suc q) (omega arith) (omega arith))

  -- every diagonal but that of the last row
  pub data_diagonals : (q : ℕ) → suc q < p → names 1 (diagonal_of p x (row_after q p x y (extra_row_on p x))) (data_steps p x y) ≡ true
  unfolding data_steps names
  data_diagonals q h =
      ap (λ (r : ℕ). names 1 (diagonal_of p x (row q)) (walk_steps (p - 1) p x y r)) (sym (after_zero p x y (extra_row_on p x))) ∙ walk_diagonals (p - 1) 0 q (omega arith) (omega arith)
