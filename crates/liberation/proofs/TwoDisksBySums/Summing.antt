-- The start's sets summed into the cells that they give: their XOR is that of the start's surviving
-- cells, so it is the first cell. The last steps of the walk then add, and what they leave is the
-- rebuilt stripe:
-- the sums are in lost cells, and the rebuild does not depend on what those held.
use mathlib.Core.Path.{◌≡◌, refl, sym, subst, ap, ap₂, ◌∙◌}
use mathlib.Core.Bool.{Bool, true, false, ◌&&◌, ◌||◌}
use mathlib.Core.List.{List, [], ◌∷◌, ◌++◌, append_assoc}
use Prim.Native.Nat.{ℕ, zero, suc, ◌+◌, ◌-◌, ◌*◌, ◌/◌, ◌%◌, ◌≤◌, ◌<◌}
use native.Mathlib.Nat.{mod-lt}
use native.Mathlib.Omega.{arith}
use lib.Dec.{eqb}
use borrow.Author.Tests.{eq-eqb, ne_eqb}
use Rattle.mathematics.specs.Choice.{pick}
use Rattle.mathematics.specs.Lists.{is_in, all_below}
use Rattle.mathematics.specs.Xor.{xor_l}
use Rattle.mathematics.proofs.Flags.{or_l, clash}
use Rattle.mathematics.proofs.ListLaws.{below_append}
use Rattle.mathematics.proofs.KeptLaws.{Keeps, both_keep, kept_append}
use Rattle.mathematics.proofs.MemberLaws.{in_head}
use Rattle.mathematics.proofs.Primes.{Prime}
use Rattle.liberation.specs.Sets.{place, disk_at, row_set, diagonal_set, extra_row, surviving_in, set_of}
use Rattle.liberation.specs.Plans.{extra_row_on, diagonal_of}
use Rattle.liberation.proofs.SetLaws.{set_below}
use Rattle.liberation.proofs.LostLaws.{extra_on, on_data, second_range}
use Rattle.liberation.specs.Stripes.Stripes.{cell_at, with_cell, xor_over, is_stripe, solved}
use Rattle.liberation.proofs.Stripes.OverLaws.{Long, over_append}
use Rattle.liberation.proofs.Stripes.Solving.{cells_long, stripe_long_lem}
use Rattle.liberation.specs.TwoDisks.Pairs.{next_row, start_sets, start_cells, first_cell, other_disk, started, diagonal_walk, row_walk, walked}
use Rattle.liberation.specs.Stripes.Steps.{CellStep, cell_step, steps_done}
use Rattle.liberation.proofs.Stripes.Standing.{Standing, done_after, off_known, steps_stripe}
use Rattle.liberation.specs.TwoDisks.PairSteps.{walk_steps, data_steps, is_lost}
use Rattle.liberation.proofs.TwoDisks.Upward.{lost_second}
use Rattle.liberation.proofs.TwoDisks.ParityPairs.{steps_append}
use Rattle.liberation.proofs.TwoDisks.WalkRows.{row_after, after_suc, there, back}
use Rattle.liberation.proofs.TwoDisks.Roles.{Roles, row_low}
use Rattle.liberation.proofs.TwoDisks.WalkLaws.{data_standing}
use Rattle.liberation.proofs.TwoDisks.FirstCell.{start_sets_below, started_stripe, started_other}
use Rattle.liberation.proofs.TwoDisks.Restoring.{Restores, walked_steps, walked_restores}
use Rattle.liberation.specs.TwoDisksBySums.Sums.{survivors_of, summed, summed_all, added_all, start_steps, last_steps, cells_of, sum_steps, first_added, sum_started, sum_walked, rows_and_one, solved_steps, added_steps}
use Rattle.liberation.proofs.TwoDisksBySums.Adding.{survivor_off, Prepared, bare, more, prepared_off, prepared_steps, steps_add, standing_tail, standing_head, in_after, sums_stripe, sums_kept, sums_prepared, sum_same, summed_stripe, summed_cell, summed_other}

-- the start's steps are the walk's last ones and the one that gives the first cell
start_split : (m p x y r : ℕ) → start_steps (suc m) p x y r ≡ (cell_step (place p r x) 0 r ∷ walk_steps m p x y r) ++ (cell_step (place p (row_after (suc m) p x y r) y) 1 (diagonal_of p x (row_after m p x y r)) ∷ [])
unfolding start_steps walk_steps row_after
start_split zero p x y r = refl
start_split (suc m) p x y r = ap (λ (l : List CellStep). cell_step (place p r x) 0 r ∷ (cell_step (place p (next_row p x y r) y) 1 (diagonal_of p x r) ∷ l)) (start_split m p x y (next_row p x y r))

walk_append : (m n p x y r : ℕ) → walk_steps (m + n) p x y r ≡ walk_steps m p x y r ++ walk_steps n p x y (row_after m p x y r)
unfolding walk_steps row_after
walk_append zero n p x y r = let e : 0 + n ≡ n = omega arith in ap (λ (i : ℕ). walk_steps i p x y r) e
walk_append (suc m) n p x y r =
    let e : suc m + n ≡ suc (m + n) = omega arith in
    ap (λ (i : ℕ). walk_steps i p x y r) e
    ∙ ap (λ (l : List CellStep). cell_step (place p (next_row p x y r) y) 1 (diagonal_of p x r) ∷ (cell_step (place p (next_row p x y r) x) 0 (next_row p x y r) ∷ l)) (walk_append m n p x y (next_row p x y r))

sums_append : (p k s x y : ℕ) (cs ds : List CellStep) (t : List ℕ) → summed_all p k s x y (cs ++ ds) t ≡ summed_all p k s x y ds (summed_all p k s x y cs t)
unfolding summed_all
sums_append p k s x y [] ds t = refl
sums_append p k s x y (c ∷ cs) ds t = sums_append p k s x y cs ds (summed p k s x y c t)

-- half of the walk and one diagonal step more
half_walk : (n p k s x y r : ℕ) (t : List ℕ) → diagonal_walk (2 * n + 1) p k s x y r t ≡ steps_done p k s (walk_steps n p x y r ++ (cell_step (place p (row_after (suc n) p x y r) y) 1 (diagonal_of p x (row_after n p x y r)) ∷ [])) t
unfolding diagonal_walk row_walk walk_steps steps_done row_after
half_walk zero p k s x y r t = refl
half_walk (suc n) p k s x y r t =
    let e : 2 * suc n + 1 ≡ suc (suc (2 * n + 1)) = omega arith in
    ap (λ (m : ℕ). diagonal_walk m p k s x y r t) e ∙ half_walk n p k s x y (next_row p x y r) _

rows_split : (n p x y r : ℕ) → rows_and_one n p x y r ≡ walk_steps n p x y r ++ (cell_step (place p (row_after (suc n) p x y r) y) 1 (diagonal_of p x (row_after n p x y r)) ∷ [])
unfolding rows_and_one walk_steps row_after
rows_split zero p x y r = refl
rows_split (suc n) p x y r = ap (λ (l : List CellStep). cell_step (place p (next_row p x y r) y) 1 (diagonal_of p x r) ∷ (cell_step (place p (next_row p x y r) x) 0 (next_row p x y r) ∷ l)) (rows_split n p x y (next_row p x y r))

-- surviving cells of two lists
keeps : (p f : ℕ) → Keeps (λ c. eqb (disk_at p c) f) (surviving_in p f)
unfolding surviving_in
keeps p f = record { none = refl; next = λ c cs. refl }

survivors_append : (p x y : ℕ) (xs ys : List ℕ) → survivors_of p x y (xs ++ ys) ≡ survivors_of p x y xs ++ survivors_of p x y ys
survivors_append p x y = kept_append (both_keep (keeps p x) (keeps p y))

module _ (p k s x y : ℕ) (apart : x ≡ y → ⊥) (hx : x < k + 2) (hy : y < k + 2) (v : List ℕ) (stripe : is_stripe p k s v ≡ true) where
  kept_long : (xs : List ℕ) → all_below (p * (k + 2)) xs ≡ true → Long s (cell_at s v) (survivors_of p x y xs)
  kept_long xs b d m = cells_long (p * (k + 2)) s xs v (stripe_long_lem p k s v stripe) b d (survivor_off p x y d xs m).1

  -- the XOR of the sums is that of the start's surviving cells
  start_sum : (n r : ℕ) → r < p → Prepared p k s x y apart hx hy v (start_steps n p x y r) → xor_over s (cell_at s v) (cells_of (start_steps n p x y r)) ≡ xor_over s (cell_at s v) (survivors_of p x y (start_sets n p k x y r))
  unfolding start_steps start_sets cells_of surviving_in xor_over
  start_sum zero r h bare = refl
  start_sum (suc n) r h (more ea (more eb rest)) =
      let z = diagonal_of p x r in
      let r2 = next_row p x y r in
      let r2-lt : r2 < p = mod-lt (z + y) (omega arith) in
      let tail = start_sets n p k x y r2 in
      let low : all_below (p * (k + 2)) tail ≡ true = start_sets_below n p k x y r2 r2-lt in
      let both : all_below (p * (k + 2)) (diagonal_set p k z ++ tail) ≡ true = below_append (p * (k + 2)) (diagonal_set p k z) tail (set_below p k 1 z (mod-lt (r + p - x) (omega arith))) low in
      ap₂ xor_l ea (ap₂ xor_l eb (start_sum n r2 r2-lt rest))
      ∙ ap (xor_l (xor_over s (cell_at s v) (survivors_of p x y (row_set p k r)))) (sym (over_append s (cell_at s v) (survivors_of p x y (diagonal_set p k z)) (survivors_of p x y tail) (kept_long tail low)) ∙ ap (xor_over s (cell_at s v)) (sym (survivors_append p x y (diagonal_set p k z) tail)))
      ∙ sym (over_append s (cell_at s v) (survivors_of p x y (row_set p k r)) (survivors_of p x y (diagonal_set p k z ++ tail)) (kept_long (diagonal_set p k z ++ tail) both))
      ∙ ap (xor_over s (cell_at s v)) (sym (survivors_append p x y (row_set p k r) (diagonal_set p k z ++ tail)))

-- y is not disk 0, and suc m rows are in the start
module _ (p k s x y : ℕ) (ok : Prime p) (odd : p % 2 ≡ 1) (most : k ≤ p) (g : Roles p x y) (hx : x < k) (hy : y < k) (low : 1 ≤ y) (m : ℕ) (half : (p - 1) / 2 ≡ suc m) where
  e : ℕ
  e = extra_row_on p x

  ey : ℕ
  ey = extra_row_on p y

  e_lt : e < p
  unfolding e
  e_lt = row_low p x y ok odd g

  ey_lt : ey < p
  unfolding ey
  ey_lt = let w = second_range p y odd low g.y_high in omega arith

  -- the step that gives the first cell, from the start's last diagonal
  final : CellStep
  final = cell_step (place p e y) 1 (diagonal_of p x (row_after m p x y ey))

  start_is : start_steps ((p - 1) / 2) p x y ey ≡ last_steps m p x y ++ (final ∷ [])
  unfolding e ey final
  start_is =
      ap (λ (n : ℕ). start_steps n p x y ey) half
      ∙ start_split m p x y ey
      ∙ ap (λ (r : ℕ). last_steps m p x y ++ (cell_step (place p r y) 1 (diagonal_of p x (row_after m p x y ey)) ∷ [])) (ap (λ (n : ℕ). row_after n p x y ey) (sym half) ∙ back p x y ok odd g.x_low g.x_high low g.y_high g.apart)

  first_is : first_cell p x y ≡ place p e y
  unfolding e
  first_is = ap (λ (b : Bool). place p e (pick b x y)) (ne_eqb y 0 (λ q. omega arith))

  -- the steps before the last ones
  front_steps : List CellStep
  front_steps = cell_step (place p e (other_disk x y)) 0 e ∷ (walk_steps (suc m) p x y e ++ (cell_step (place p ey y) 1 (diagonal_of p x (row_after (suc m) p x y e)) ∷ []))

  next_is : next_row p x y (row_after (suc m) p x y e) ≡ ey
  unfolding e ey
  next_is =
      let q : suc (suc m) ≡ (p + 1) / 2 = omega (arith, ok.large) in
      sym (after_suc (suc m) p x y e) ∙ ap (λ (n : ℕ). row_after n p x y e) q ∙ there p x y ok odd g.x_low g.x_high low g.y_high g.apart

  data_split : data_steps p x y ≡ front_steps ++ last_steps m p x y
  unfolding data_steps walk_steps front_steps e ey
  data_split =
      let q : p - 1 ≡ suc m + suc m = omega (arith, ok.large) in
      let w = row_after (suc m) p x y e in
      let first = cell_step (place p e (other_disk x y)) 0 e in
      ap (λ (l : List CellStep). first ∷ l)
      (ap (λ (n : ℕ). walk_steps n p x y e) q
      ∙ walk_append (suc m) (suc m) p x y e
      ∙ ap (λ (r : ℕ). walk_steps (suc m) p x y e ++ (cell_step (place p r y) 1 (diagonal_of p x w) ∷ (cell_step (place p r x) 0 r ∷ walk_steps m p x y r))) next_is
      ∙ sym (append_assoc (walk_steps (suc m) p x y e) (cell_step (place p ey y) 1 (diagonal_of p x w) ∷ []) (last_steps m p x y)))

  -- they are those that the walk from sums solves
  solved_are : solved_steps p x y ≡ front_steps
  unfolding front_steps e ey
  solved_are =
      let w = row_after (suc m) p x y e in
      let first = cell_step (place p e x) 0 e in
      ap (λ (n : ℕ). first ∷ rows_and_one n p x y e) half
      ∙ ap (λ (l : List CellStep). first ∷ l) (rows_split (suc m) p x y e)
      ∙ ap (λ (r : ℕ). first ∷ (walk_steps (suc m) p x y e ++ (cell_step (place p r y) 1 (diagonal_of p x w) ∷ []))) (after_suc (suc m) p x y e ∙ next_is)
      ∙ ap (λ (d : ℕ). cell_step (place p e d) 0 e ∷ (walk_steps (suc m) p x y e ++ (cell_step (place p ey y) 1 (diagonal_of p x w) ∷ []))) (sym (ap (λ (b : Bool). pick b y x) (ne_eqb y 0 (λ z. omega arith))))

  x_low : x < k + 2
  x_low = omega arith

  y_low : y < k + 2
  y_low = omega arith

  first_lost : is_lost p x y (place p e y) ≡ true
  first_lost = lost_second p x y e e_lt

  -- the cells that stand before the last steps
  stood : List ℕ
  stood = done_after (first_cell p x y ∷ []) front_steps

  whole : Standing p k (is_lost p x y) (first_cell p x y ∷ []) (front_steps ++ last_steps m p x y)
  whole = subst (Standing p k (is_lost p x y) (first_cell p x y ∷ [])) data_split (data_standing p k x y ok odd most g hx hy)

  standing : Standing p k (is_lost p x y) stood (last_steps m p x y)
  unfolding stood
  standing = standing_tail p k s x y g.apart x_low y_low front_steps whole

  first_stood : is_in (place p e y) stood ≡ true
  unfolding stood
  first_stood = ap (λ (c : ℕ). is_in c stood) (sym first_is) ∙ in_after p k s x y g.apart x_low y_low (first_cell p x y) (first_cell p x y ∷ []) front_steps (in_head (first_cell p x y) [])

  final_held : is_in final.cell (set_of p k final.kind final.number) ≡ true
  unfolding final e ey
  final_held =
      let z = diagonal_of p x (row_after m p x y ey) in
      let q : e ≡ (z + y) % p = sym (back p x y ok odd g.x_low g.x_high low g.y_high g.apart) ∙ ap (λ (n : ℕ). row_after n p x y ey) half ∙ after_suc m p x y ey in
      on_data p k z e y e_lt (mod-lt (row_after m p x y ey + p - x) (omega arith)) hy ∙ or_l (eqb e ((z + y) % p)) (extra_on p z y && eqb e (extra_row p z)) (eq-eqb e ((z + y) % p) q)

  final_numbered : final.number < p
  unfolding final
  final_numbered = mod-lt (row_after m p x y ey + p - x) (omega arith)

  -- the steps before the last ones, as the walk does them
  front_walk : (u : List ℕ) → steps_done p k s front_steps u ≡ diagonal_walk p p k s x y (extra_row_on p x) (solved s (place p (extra_row_on p x) x) (row_set p k (extra_row_on p x)) u)
  unfolding front_steps steps_done e
  front_walk u =
      let w = row_after (suc m) p x y e in
      let v = solved s (place p e x) (row_set p k e) u in
      let q : 2 * suc m + 1 ≡ p = omega (arith, ok.large) in
      ap (λ (d : ℕ). steps_done p k s (walk_steps (suc m) p x y e ++ (cell_step (place p ey y) 1 (diagonal_of p x w) ∷ [])) (solved s (place p e d) (row_set p k e) u)) (ap (λ (b : Bool). pick b y x) (ne_eqb y 0 (λ z. omega arith)))
      ∙ ap (λ (r : ℕ). steps_done p k s (walk_steps (suc m) p x y e ++ (cell_step (place p r y) 1 (diagonal_of p x w) ∷ [])) v) (sym next_is ∙ sym (after_suc (suc m) p x y e))
      ∙ sym (half_walk (suc m) p k s x y e v)
      ∙ ap (λ (n : ℕ). diagonal_walk n p k s x y e v) q

  module _ (t : List ℕ) (ht : is_stripe p k s t ≡ true) where
    -- the stripe with the sums
    sums_of : List ℕ
    sums_of = summed_all p k s x y (sum_steps p x y) t

    most_sums : List ℕ
    most_sums = summed_all p k s x y (last_steps m p x y) t

    most_stripe : is_stripe p k s most_sums ≡ true
    unfolding most_sums
    most_stripe = sums_stripe p k s x y g.apart x_low y_low standing t ht

    sums_are : sums_of ≡ summed p k s x y final most_sums
    unfolding sums_of most_sums ey summed_all
    sums_are = ap (λ (l : List CellStep). summed_all p k s x y l t) start_is ∙ sums_append p k s x y (last_steps m p x y) (final ∷ []) t

    sums_are_stripe : is_stripe p k s sums_of ≡ true
    sums_are_stripe = ap (is_stripe p k s) sums_are ∙ summed_stripe p k s x y g.apart x_low y_low final final_numbered final_held most_sums most_stripe

    -- off the first cell
    sums_other : (d : ℕ) → (d ≡ place p e y → ⊥) → cell_at s sums_of d ≡ cell_at s most_sums d
    unfolding final
    sums_other d n = ap (λ (u : List ℕ). cell_at s u d) sums_are ∙ summed_other p k s x y g.apart x_low y_low final final_numbered final_held most_sums most_stripe d n

    not_first : (d : ℕ) → is_lost p x y d ≡ false → d ≡ place p e y → ⊥
    not_first d h q = clash (is_lost p x y d) (ap (is_lost p x y) q ∙ first_lost) h

    -- surviving cells are kept
    sums_off : (d : ℕ) → is_lost p x y d ≡ false → cell_at s sums_of d ≡ cell_at s t d
    unfolding most_sums
    sums_off d h = sums_other d (not_first d h) ∙ sums_kept p k s x y g.apart x_low y_low standing t ht d (off_known (is_lost p x y) d stood h)

    prepared : Prepared p k s x y g.apart x_low y_low sums_of (last_steps m p x y)
    unfolding most_sums
    prepared = prepared_off p k s x y g.apart x_low y_low standing (place p e y) first_stood first_lost most_sums sums_of sums_other (sums_prepared p k s x y g.apart x_low y_low standing t ht)

    first_holds : cell_at s sums_of final.cell ≡ xor_over s (cell_at s sums_of) (survivors_of p x y (set_of p k final.kind final.number))
    first_holds =
        ap (λ (u : List ℕ). cell_at s u final.cell) sums_are
        ∙ summed_cell p k s x y g.apart x_low y_low final final_numbered final_held most_sums most_stripe
        ∙ sum_same p k s x y g.apart x_low y_low final most_sums sums_of (λ d h. sums_other d (not_first d h))

    all_prepared : Prepared p k s x y g.apart x_low y_low sums_of (start_steps ((p - 1) / 2) p x y ey)
    all_prepared = subst (Prepared p k s x y g.apart x_low y_low sums_of) (sym start_is) (prepared_append (last_steps m p x y) prepared (more first_holds bare))
      where
        prepared_append : (cs : List CellStep) {ds : List CellStep} → Prepared p k s x y g.apart x_low y_low sums_of cs → Prepared p k s x y g.apart x_low y_low sums_of ds → Prepared p k s x y g.apart x_low y_low sums_of (cs ++ ds)
        prepared_append [] bare r = r
        prepared_append (c ∷ cs) (more h q) r = more h (prepared_append cs q r)

    -- the XOR of the sums, put at the first cell, is the start on the stripe with the sums
    first_started : first_added p s x y sums_of ≡ started p k s x y sums_of
    unfolding start_cells ey e
    first_started =
        ap (λ (l : List ℕ). with_cell s (place p e y) l sums_of)
        (start_sum p k s x y g.apart x_low y_low sums_of sums_are_stripe ((p - 1) / 2) ey ey_lt all_prepared
        ∙ ap (λ (b : Bool). xor_over s (cell_at s sums_of) (survivors_of p x y (start_sets (pick b p ((p - 1) / 2)) p k x y (extra_row_on p (pick b x y))))) (sym (ne_eqb y 0 (λ q. omega arith))))
        ∙ ap (λ (c : ℕ). with_cell s c (xor_over s (cell_at s sums_of) (start_cells p k x y)) sums_of) (sym first_is)

    -- the walk
    walk_adds : walked p k s x y t ≡ added_all p k s x y (last_steps m p x y) (steps_done p k s front_steps (started p k s x y sums_of))
    walk_adds =
        sym (r.back sums_of (walked p k s x y t) sums_are_stripe (r.stripe t ht) (r.cleans t ht) (λ c l nx ny. sums_off c (ap₂ ◌||◌ (ne_eqb (disk_at p c) x nx) (ne_eqb (disk_at p c) y ny)) ∙ sym (r.off t ht c nx ny)))
        ∙ walked_steps p k s x y sums_of
        ∙ ap (λ (l : List CellStep). steps_done p k s l begun) data_split
        ∙ sym (steps_append p k s front_steps (last_steps m p x y) begun)
        ∙ steps_add p k s x y g.apart x_low y_low standing (steps_done p k s front_steps begun)
        (steps_stripe p k s (is_lost p x y) (standing_head p k s x y g.apart x_low y_low front_steps (last_steps m p x y) whole) begun begun_stripe)
        (prepared_steps p k s x y g.apart x_low y_low front_steps whole begun begun_stripe
        (prepared_off p k s x y g.apart x_low y_low standing (place p e y) first_stood first_lost sums_of begun (λ d n. started_other p k s x y ok odd g hx hy sums_of sums_are_stripe d (λ q. n (q ∙ first_is))) prepared))
      where
        r : Restores p k s x y (walked p k s x y)
        r = walked_restores p k s x y ok odd most g hx hy

        begun : List ℕ
        begun = started p k s x y sums_of

        begun_stripe : is_stripe p k s begun ≡ true
        begun_stripe = started_stripe p k s x y ok odd g hx hy sums_of sums_are_stripe

    -- so it is the walk from sums
    walk_sums : walked p k s x y t ≡ added_all p k s x y (last_steps m p x y) (diagonal_walk p p k s x y (extra_row_on p x) (solved s (place p (extra_row_on p x) x) (row_set p k (extra_row_on p x)) (first_added p s x y sums_of)))
    walk_sums = walk_adds ∙ ap (added_all p k s x y (last_steps m p x y)) (ap (steps_done p k s front_steps) (sym first_started) ∙ front_walk (first_added p s x y sums_of))

pub sums_walk : (p k s x y : ℕ) → Prime p → p % 2 ≡ 1 → k ≤ p → Roles p x y → x < k → y < k → 1 ≤ y → (t : List ℕ) → is_stripe p k s t ≡ true → walked p k s x y t ≡ sum_walked p k s x y t
unfolding sums_of
sums_walk p k s x y ok odd most g hx hy low t ht = walk_sums p k s x y ok odd most g hx hy low ((p - 1) / 2 - 1) (omega (arith, ok.large)) t ht

-- the walk from sums takes the walk's steps in the walk's order
pub sums_order : (p k s x y : ℕ) → Prime p → p % 2 ≡ 1 → k ≤ p → Roles p x y → x < k → y < k → 1 ≤ y → solved_steps p x y ++ added_steps p x y ≡ data_steps p x y
sums_order p k s x y ok odd most g hx hy low =
    let m = (p - 1) / 2 - 1 in
    let half : (p - 1) / 2 ≡ suc m = omega (arith, ok.large) in
    ap (λ (l : List CellStep). l ++ added_steps p x y) (solved_are p k s x y ok odd most g hx hy low m half) ∙ sym (data_split p k s x y ok odd most g hx hy low m half)

-- on the stripe with the sums and the first cell, the first of them solve and the others add
pub sums_steps : (p k s x y : ℕ) → Prime p → p % 2 ≡ 1 → k ≤ p → Roles p x y → x < k → y < k → 1 ≤ y → (t : List ℕ) → sum_walked p k s x y t ≡ added_all p k s x y (added_steps p x y) (steps_done p k s (solved_steps p x y) (sum_started p k s x y t))
sums_steps p k s x y ok odd most g hx hy low t =
    let m = (p - 1) / 2 - 1 in
    let half : (p - 1) / 2 ≡ suc m = omega (arith, ok.large) in
    let u = sum_started p k s x y t in
    ap (added_all p k s x y (added_steps p x y)) (sym (ap (λ (l : List CellStep). steps_done p k s l u) (solved_are p k s x y ok odd most g hx hy low m half) ∙ front_walk p k s x y ok odd most g hx hy low m half u))
