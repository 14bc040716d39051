-- The first cell on a stripe: over the start's sets the whole XOR is the XOR of the surviving cells
-- and the first cell. So a clean stripe is left as it is, stripes alike in the surviving cells get
-- the same first cell,
-- and once the first cell is that XOR, the last diagonal's XOR is zero if all the other sets' are.
use mathlib.Core.Path.{◌≡◌, refl, sym, ap, ap₂, ◌∙◌}
use mathlib.Core.Bool.{Bool, true, false, ◌&&◌, ◌||◌, not}
use mathlib.Core.Logic.{◌⊎◌, inl, inr}
use mathlib.Core.List.{List, ◌++◌}
use Prim.Native.Nat.{ℕ, zero, suc, ◌+◌, ◌-◌, ◌*◌, ◌/◌, ◌%◌, ◌≤◌, ◌<◌}
use native.Mathlib.Nat.{mod-lt}
use native.Mathlib.Omega.{arith}
use lib.Dec.{eqb}
use lib.ListN.{length, replicate, length-replicate}
use borrow.Author.Tests.{eqb-true, eqb-false, not-true}
use Rattle.mathematics.specs.Choice.{pick}
use Rattle.mathematics.specs.Lists.{is_in, all_below}
use Rattle.mathematics.specs.Xor.{xor_l}
use Rattle.mathematics.proofs.Flags.{and_l, and_r}
use Rattle.mathematics.proofs.ListLaws.{below_append}
use Rattle.mathematics.proofs.MemberLaws.{in_below}
use Rattle.mathematics.proofs.Primes.{Prime}
use Rattle.mathematics.proofs.XorLaws.{xor_l_assoc, xor_l_self, xor_l_zeros, zero_xor_l, zero_equal, zeros_bytes}
use Rattle.liberation.specs.Sets.{place, disk_at, row_set, diagonal_set, lost_in, surviving_in}
use Rattle.liberation.specs.Plans.{extra_row_on, diagonal_of}
use Rattle.liberation.proofs.SetLaws.{in_surviving, place_below, set_below}
use Rattle.liberation.proofs.LostLaws.{lost_surviving, second_range}
use Rattle.liberation.specs.Stripes.Stripes.{cell_at, with_cell, xor_over, is_stripe, clean}
use Rattle.liberation.proofs.Stripes.StripeCellLaws.{cell_fits, cell_long, with_same, length_with, cell_with, cell_other}
use Rattle.liberation.proofs.Stripes.OverLaws.{Long, over_long, over_bytes, over_append, over_split}
use Rattle.liberation.proofs.Stripes.Solving.{cells_long, bytes_with, cell_bytes_lem, stripe_long_lem, stripe_bytes, stripe_of, SetZero, clean_at}
use Rattle.liberation.specs.TwoDisks.Pairs.{next_row, start_sets, start_count, first_disk, start_cells, first_cell, started}
use Rattle.liberation.specs.TwoDisks.PairSteps.{is_lost}
use Rattle.liberation.proofs.TwoDisks.WalkRows.{row_after, after_zero, after_next}
use Rattle.liberation.proofs.TwoDisks.Roles.{Short, Roles, row_low}
use Rattle.liberation.proofs.TwoDisks.StartLaws.{Cells, over_nil, from_zero, from_other}

-- the cells of the start's sets are cells of the stripe
pub start_sets_below : (n p k x y r : ℕ) → r < p → all_below (p * (k + 2)) (start_sets n p k x y r) ≡ true
unfolding start_sets
start_sets_below zero p k x y r h = refl
start_sets_below (suc n) p k x y r h =
    let z = diagonal_of p x r in
    below_append (p * (k + 2)) (row_set p k r) (diagonal_set p k z ++ start_sets n p k x y (next_row p x y r)) (set_below p k 0 r h)
    (below_append (p * (k + 2)) (diagonal_set p k z) (start_sets n p k x y (next_row p x y r)) (set_below p k 1 z (mod-lt (r + p - x) (omega arith))) (start_sets_below n p k x y (next_row p x y r) (mod-lt (z + y) (omega arith))))

module _ (p k s : ℕ) (t : List ℕ) (stripe : is_stripe p k s t ≡ true) where
  -- a disk's cells
  disk_cells : (c : ℕ) → c < k + 2 → Cells s p (λ r. cell_at s t (place p r c))
  disk_cells c h = record { long = λ r l. cell_long s (place p r c) t (omega (arith, cell_fits (p * (k + 2)) s (place p r c) (place_below p (k + 2) r c l h), stripe_long_lem p k s t stripe)); bytes = λ r l. cell_bytes_lem s (place p r c) t (stripe_bytes p k s t stripe) }

  sets_long : (xs : List ℕ) → all_below (p * (k + 2)) xs ≡ true → Long s (cell_at s t) xs
  sets_long xs b = cells_long (p * (k + 2)) s xs t (stripe_long_lem p k s t stripe) b

  -- the first row's two sets, and the rest
  over_next : (n x y r : ℕ) → r < p → xor_over s (cell_at s t) (start_sets (suc n) p k x y r) ≡ xor_l (xor_over s (cell_at s t) (row_set p k r)) (xor_l (xor_over s (cell_at s t) (diagonal_set p k (diagonal_of p x r))) (xor_over s (cell_at s t) (start_sets n p k x y (next_row p x y r))))
  unfolding start_sets
  over_next n x y r h =
      let z = diagonal_of p x r in
      let rest = start_sets n p k x y (next_row p x y r) in
      let b : all_below (p * (k + 2)) rest ≡ true = start_sets_below n p k x y (next_row p x y r) (mod-lt (z + y) (omega arith)) in
      over_append s (cell_at s t) (row_set p k r) (diagonal_set p k z ++ rest) (sets_long (diagonal_set p k z ++ rest) (below_append (p * (k + 2)) (diagonal_set p k z) rest (set_below p k 1 z (mod-lt (r + p - x) (omega arith))) b))
      ∙ ap (xor_l (xor_over s (cell_at s t) (row_set p k r))) (over_append s (cell_at s t) (diagonal_set p k z) rest (sets_long rest b))

  nothing : xor_l (replicate s 0) (replicate s 0) ≡ replicate s 0
  nothing = zero_xor_l s (replicate s 0) (length-replicate s 0) (zeros_bytes s)

  -- all sets XOR to zero
  sets_zero : clean p k s t ≡ true → (n x y r : ℕ) → r < p → xor_over s (cell_at s t) (start_sets n p k x y r) ≡ replicate s 0
  unfolding start_sets
  sets_zero c zero x y r h = over_nil s (cell_at s t)
  sets_zero c (suc n) x y r h =
      let z = diagonal_of p x r in
      over_next n x y r h
      ∙ ap₂ xor_l (clean_at p k s t c 0 r h) (ap₂ xor_l (clean_at p k s t c 1 z (mod-lt (r + p - x) (omega arith))) (sets_zero c n x y (next_row p x y r) (mod-lt (z + y) (omega arith))) ∙ nothing)
      ∙ nothing

  -- all but the last diagonal
  all_but_last :
      (n x y r : ℕ) → r < p
      → ((i : ℕ) → i < p → SetZero p k s t 0 i)
      → ((j : ℕ) → j < n → SetZero p k s t 1 (diagonal_of p x (row_after j p x y r)))
      → xor_over s (cell_at s t) (start_sets (suc n) p k x y r) ≡ xor_over s (cell_at s t) (diagonal_set p k (diagonal_of p x (row_after n p x y r)))
  unfolding start_sets
  all_but_last zero x y r h rows diagonals =
      let z = diagonal_of p x r in
      let last = xor_over s (cell_at s t) (diagonal_set p k z) in
      let long : length last ≡ s = over_long s (cell_at s t) (diagonal_set p k z) (sets_long (diagonal_set p k z) (set_below p k 1 z (mod-lt (r + p - x) (omega arith)))) in
      over_next 0 x y r h
      ∙ ap₂ xor_l (rows r h) (ap (xor_l last) (over_nil s (cell_at s t)) ∙ xor_l_zeros s last long (over_bytes s (cell_at s t) (diagonal_set p k z)))
      ∙ zero_xor_l s last long (over_bytes s (cell_at s t) (diagonal_set p k z))
      ∙ ap (λ (i : ℕ). xor_over s (cell_at s t) (diagonal_set p k (diagonal_of p x i))) (sym (after_zero p x y r))
  all_but_last (suc n) x y r h rows diagonals =
      let z = diagonal_of p x r in
      let r2 = next_row p x y r in
      let r2-lt : r2 < p = mod-lt (z + y) (omega arith) in
      let rest = start_sets (suc n) p k x y r2 in
      let long : length (xor_over s (cell_at s t) rest) ≡ s = over_long s (cell_at s t) rest (sets_long rest (start_sets_below (suc n) p k x y r2 r2-lt)) in
      over_next (suc n) x y r h
      ∙ ap₂ xor_l (rows r h)
      (ap (λ (c : List ℕ). xor_l c (xor_over s (cell_at s t) rest)) (ap (λ (i : ℕ). xor_over s (cell_at s t) (diagonal_set p k (diagonal_of p x i))) (sym (after_zero p x y r)) ∙ diagonals 0 (omega arith))
      ∙ zero_xor_l s (xor_over s (cell_at s t) rest) long (over_bytes s (cell_at s t) rest))
      ∙ zero_xor_l s (xor_over s (cell_at s t) rest) long (over_bytes s (cell_at s t) rest)
      ∙ all_but_last n x y r2 r2-lt rows (λ j l. ap (λ (i : ℕ). xor_over s (cell_at s t) (diagonal_set p k (diagonal_of p x i))) (sym (after_next j p x y r)) ∙ diagonals (suc j) (omega arith))
      ∙ ap (λ (i : ℕ). xor_over s (cell_at s t) (diagonal_set p k (diagonal_of p x i))) (sym (after_next n p x y r))

-- a cell of the start survives both disks
pub start_survives : (p k x y c : ℕ) → extra_row_on p (first_disk x y) < p → is_in c (start_cells p k x y) ≡ true → (is_lost p x y c ≡ false) × (c < p * (k + 2))
unfolding start_cells
start_survives p k x y c h m = (
  ap₂ ◌||◌ (not-true (eqb (disk_at p c) x) (and_l (not (eqb (disk_at p c) x)) (is_in c (surviving_in p y sets)) first)) (not-true (eqb (disk_at p c) y) (and_l (not (eqb (disk_at p c) y)) (is_in c sets) second)),
  in_below (p * (k + 2)) c sets (start_sets_below (start_count p y) p k x y (extra_row_on p (first_disk x y)) h) (and_r (not (eqb (disk_at p c) y)) (is_in c sets) second),
)
  where
    sets : List ℕ
    sets = start_sets (start_count p y) p k x y (extra_row_on p (first_disk x y))

    first : (not (eqb (disk_at p c) x) && is_in c (surviving_in p y sets)) ≡ true
    first = sym (in_surviving p x c (surviving_in p y sets)) ∙ m

    second : (not (eqb (disk_at p c) y) && is_in c sets) ≡ true
    second = sym (in_surviving p y c sets) ∙ and_r (not (eqb (disk_at p c) x)) (is_in c (surviving_in p y sets)) first

module _ (p k s x y : ℕ) (ok : Prime p) (odd : p % 2 ≡ 1) (g : Roles p x y) (hx : x < k) (hy : y < k) where
  pub start_row_lem : extra_row_on p (first_disk x y) < p
  start_row_lem = go (eqb y 0) refl
    where
      go : (b : Bool) → eqb y 0 ≡ b → extra_row_on p (pick b x y) < p
      go true e = row_low p x y ok odd g
      go false e = let n = eqb-false y 0 e in let w = second_range p y odd (omega arith) g.y_high in omega arith

  first_below_lem : first_cell p x y < p * (k + 2)
  first_below_lem = go (eqb y 0)
    where
      go : (b : Bool) → place p (extra_row_on p x) (pick b x y) < p * (k + 2)
      go true = place_below p (k + 2) (extra_row_on p x) x (row_low p x y ok odd g) (omega arith)
      go false = place_below p (k + 2) (extra_row_on p x) y (row_low p x y ok odd g) (omega arith)

  module _ (t : List ℕ) (stripe : is_stripe p k s t ≡ true) where
    -- the XOR of the surviving cells
    found : List ℕ
    found = xor_over s (cell_at s t) (start_cells p k x y)

    -- with the first cell it is the XOR over all the start's sets
    start_over : xor_over s (cell_at s t) (start_sets (start_count p y) p k x y (extra_row_on p (first_disk x y))) ≡ xor_l found (cell_at s t (first_cell p x y))
    unfolding found start_cells
    start_over =
        over_split s p y (cell_at s t) sets
        ∙ ap (λ (c : List ℕ). xor_l c on_y) (over_split s p x (cell_at s t) (surviving_in p y sets) ∙ ap (λ (l : List ℕ). xor_l found (xor_over s (λ r. cell_at s t (place p r x)) l)) (lost_surviving p x y sets g.apart))
        ∙ xor_l_assoc found on_x on_y
        ∙ ap (xor_l found) (go (eqb y 0) refl)
      where
        sets : List ℕ
        sets = start_sets (start_count p y) p k x y (extra_row_on p (first_disk x y))

        on_x : List ℕ
        on_x = xor_over s (λ r. cell_at s t (place p r x)) (lost_in p x sets)

        on_y : List ℕ
        on_y = xor_over s (λ r. cell_at s t (place p r y)) (lost_in p y sets)

        short : (y ≡ 0 → ⊥) → (y ≡ 0) ⊎ ((1 ≤ y) × Short p x y) → Short p x y
        short n (inl e) = absurd (n e)
        short n (inr w) = w.1

        go : (b : Bool) → eqb y 0 ≡ b → xor_l (xor_over s (λ r. cell_at s t (place p r x)) (lost_in p x (start_sets (pick b p ((p - 1) / 2)) p k x y (extra_row_on p (pick b x y))))) (xor_over s (λ r. cell_at s t (place p r y)) (lost_in p y (start_sets (pick b p ((p - 1) / 2)) p k x y (extra_row_on p (pick b x y))))) ≡ cell_at s t (place p (extra_row_on p x) (pick b x y))
        go true e = from_zero s p k x y ok odd g hx hy (λ r. cell_at s t (place p r x)) (λ r. cell_at s t (place p r y)) (disk_cells p k s t stripe x (omega arith)) (disk_cells p k s t stripe y (omega arith)) (eqb-true y 0 e)
        go false e = let n = eqb-false y 0 e in from_other s p k x y ok odd g hx hy (λ r. cell_at s t (place p r x)) (λ r. cell_at s t (place p r y)) (disk_cells p k s t stripe x (omega arith)) (disk_cells p k s t stripe y (omega arith)) (omega arith) (short n g.turn)

    found_long : length found ≡ s
    unfolding found
    found_long = over_long s (cell_at s t) (start_cells p k x y) (λ c m. cell_long s c t (omega (arith, cell_fits (p * (k + 2)) s c (start_survives p k x y c start_row_lem m).1, stripe_long_lem p k s t stripe)))

    first_fits : first_cell p x y * s + s ≤ length t
    first_fits = omega (arith, cell_fits (p * (k + 2)) s (first_cell p x y) first_below_lem, stripe_long_lem p k s t stripe)

    pub started_stripe : is_stripe p k s (started p k s x y t) ≡ true
    unfolding found
    started_stripe =
        stripe_of p k s (started p k s x y t)
        (length_with s (first_cell p x y) found t found_long first_fits ∙ stripe_long_lem p k s t stripe)
        (bytes_with s (first_cell p x y) found t (over_bytes s (cell_at s t) (start_cells p k x y)) (stripe_bytes p k s t stripe))

    pub started_cell : cell_at s (started p k s x y t) (first_cell p x y) ≡ xor_over s (cell_at s t) (start_cells p k x y)
    unfolding found
    started_cell = cell_with s (first_cell p x y) found t found_long first_fits

    pub started_other : (c : ℕ) → (c ≡ first_cell p x y → ⊥) → cell_at s (started p k s x y t) c ≡ cell_at s t c
    unfolding found
    started_other c n = cell_other s (first_cell p x y) found t found_long first_fits c n

    -- in a clean stripe the first cell is the XOR of the surviving cells
    pub started_same : clean p k s t ≡ true → started p k s x y t ≡ t
    unfolding found
    started_same c = ap (λ (new : List ℕ). with_cell s (first_cell p x y) new t) equal ∙ with_same s (first_cell p x y) t
      where
        equal : found ≡ cell_at s t (first_cell p x y)
        equal =
            zero_equal s found (cell_at s t (first_cell p x y)) found_long (cell_long s (first_cell p x y) t first_fits) (over_bytes s (cell_at s t) (start_cells p k x y)) (cell_bytes_lem s (first_cell p x y) t (stripe_bytes p k s t stripe))
            (sym start_over ∙ sets_zero p k s t stripe c (start_count p y) x y (extra_row_on p (first_disk x y)) start_row_lem)

    -- and where it is, the last diagonal is zero if all the other sets are
    pub last_zero :
        (n : ℕ) → start_count p y ≡ suc n
        → cell_at s t (first_cell p x y) ≡ xor_over s (cell_at s t) (start_cells p k x y)
        → ((i : ℕ) → i < p → SetZero p k s t 0 i)
        → ((j : ℕ) → j < n → SetZero p k s t 1 (diagonal_of p x (row_after j p x y (extra_row_on p (first_disk x y)))))
        → SetZero p k s t 1 (diagonal_of p x (row_after n p x y (extra_row_on p (first_disk x y))))
    unfolding found
    last_zero n count first rows diagonals =
        sym (all_but_last p k s t stripe n x y (extra_row_on p (first_disk x y)) start_row_lem rows diagonals)
        ∙ ap (λ (m : ℕ). xor_over s (cell_at s t) (start_sets m p k x y (extra_row_on p (first_disk x y)))) (sym count)
        ∙ start_over
        ∙ ap (xor_l found) first
        ∙ xor_l_self found
        ∙ ap (λ (m : ℕ). replicate m 0) found_long
