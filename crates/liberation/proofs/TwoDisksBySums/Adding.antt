-- A step whose cell holds the XOR of its set's surviving cells: the XOR of the set's lost cells is
-- what the step makes of it, since it is the XOR of the set's other cells. Steps that stand write
-- no cell of a later step, so each finds its sum as it was.
use mathlib.Core.Path.{◌≡◌, refl, sym, ap, ap₂, ◌∙◌}
use mathlib.Core.Bool.{Bool, true, false, ◌&&◌, ◌||◌, not, false≢true}
use mathlib.Core.List.{List, [], ◌∷◌, ◌++◌}
use Prim.Native.Nat.{ℕ, ◌+◌, ◌*◌, ◌<◌, ◌≤◌}
use native.Mathlib.Nat.{mod-lt}
use native.Mathlib.Omega.{arith}
use lib.Dec.{eqb, ltb}
use lib.ListN.{length}
use borrow.Author.Tests.{not-true, lt-ltb}
use Rattle.mathematics.specs.Choice.{pick}
use Rattle.mathematics.specs.Lists.{is_in, all_below}
use Rattle.mathematics.specs.Xor.{xor_l}
use Rattle.mathematics.proofs.Flags.{and_l, and_r, and_i, clash}
use Rattle.mathematics.proofs.MemberLaws.{in_below, in_head, in_tail}
use Rattle.mathematics.proofs.XorLaws.{xor_l_assoc, xor_l_twice, xor_l_bytes, length_xor_l}
use Rattle.liberation.specs.Sets.{place, row_at, disk_at, lost_in, surviving_in, set_of}
use Rattle.liberation.proofs.SetLaws.{in_surviving, place_below, set_below}
use Rattle.liberation.proofs.DistinctLaws.{distinct_set}
use Rattle.liberation.proofs.LostLaws.{lost_surviving}
use Rattle.liberation.specs.Stripes.Stripes.{cell_at, with_cell, xor_over, is_stripe, without, solved}
use Rattle.liberation.proofs.Stripes.StripeCellLaws.{cell_fits, length_with, cell_with, cell_other}
use Rattle.liberation.proofs.Stripes.OverLaws.{Long, over_long, over_bytes, over_ext, over_append, over_without, over_split, in_without}
use Rattle.liberation.proofs.Stripes.Solving.{cells_long, bytes_with, stripe_long_lem, stripe_bytes, stripe_of, solved_other}
use Rattle.liberation.specs.Stripes.Steps.{CellStep, steps_done}
use Rattle.liberation.proofs.Stripes.Standing.{Stands, Standing, none, next, done_after, off_known, steps_stripe}
use Rattle.liberation.specs.TwoDisks.PairSteps.{is_lost, is_known}
use Rattle.liberation.proofs.TwoDisks.Upward.{known_lost}
use Rattle.liberation.specs.TwoDisksBySums.Sums.{survivors_of, placed, lost_cells, summed, summed_all, sum_added, added_all}

-- a surviving cell of a list
pub survivor_off : (p x y c : ℕ) (xs : List ℕ) → is_in c (survivors_of p x y xs) ≡ true → (is_lost p x y c ≡ false) × (is_in c xs ≡ true)
survivor_off p x y c xs m = (
  ap₂ ◌||◌ (not-true (eqb (disk_at p c) x) (and_l (not (eqb (disk_at p c) x)) (is_in c (surviving_in p y xs)) first)) (not-true (eqb (disk_at p c) y) (and_l (not (eqb (disk_at p c) y)) (is_in c xs) second)),
  and_r (not (eqb (disk_at p c) y)) (is_in c xs) second,
)
  where
    first : (not (eqb (disk_at p c) x) && is_in c (surviving_in p y xs)) ≡ true
    first = sym (in_surviving p x c (surviving_in p y xs)) ∙ m

    second : (not (eqb (disk_at p c) y) && is_in c xs) ≡ true
    second = sym (in_surviving p y c xs) ∙ and_r (not (eqb (disk_at p c) x)) (is_in c (surviving_in p y xs)) first

placed_over : (s p f : ℕ) (g : ℕ → List ℕ) (rs : List ℕ) → xor_over s g (placed p f rs) ≡ xor_over s (λ r. g (place p r f)) rs
unfolding xor_over placed
placed_over s p f g [] = refl
placed_over s p f g (r ∷ rs) = ap (xor_l (g (place p r f))) (placed_over s p f g rs)

-- a cell that is not known is lost
fresh_lost : (p x y c : ℕ) (done : List ℕ) → is_known p x y done c ≡ false → is_lost p x y c ≡ true
fresh_lost p x y c done h = go (is_lost p x y c) h
  where
    go : (t : Bool) → (not t || is_in c done) ≡ false → t ≡ true
    go true e = refl
    go false e = absurd (false≢true (sym e))

pub placed_below : (n p f : ℕ) (xs : List ℕ) → 0 < p → f < n → all_below (p * n) (placed p f (lost_in p f xs)) ≡ true
unfolding lost_in placed
placed_below n p f [] z h = refl
placed_below n p f (c ∷ cs) z h = go (eqb (disk_at p c) f) (placed_below n p f cs z h)
  where
    go : (b : Bool) → all_below (p * n) (placed p f (lost_in p f cs)) ≡ true → all_below (p * n) (placed p f (pick b (row_at p c ∷ lost_in p f cs) (lost_in p f cs))) ≡ true
    go true e = and_i (ltb (place p (row_at p c) f) (p * n)) (all_below (p * n) (placed p f (lost_in p f cs))) (lt-ltb (place p (row_at p c) f) (p * n) (place_below p n (row_at p c) f (mod-lt c z) h)) e
    go false e = e

module _ (p k s x y : ℕ) (apart : x ≡ y → ⊥) (hx : x < k + 2) (hy : y < k + 2) where
  abbrev pub set_by : CellStep → List ℕ
  set_by c = set_of p k c.kind c.number

  -- the XOR of a step's surviving cells
  abbrev pub sum_of : CellStep → List ℕ → List ℕ
  sum_of c t = xor_over s (cell_at s t) (survivors_of p x y (set_by c))

  -- every step's cell holds that
  pub data Prepared (t : List ℕ) : List CellStep → Type 0 where
    bare : Prepared t []
    more : {c : CellStep} {cs : List CellStep} → cell_at s t c.cell ≡ sum_of c t → Prepared t cs → Prepared t (c ∷ cs)

  module _ (c : CellStep) (numbered : c.number < p) (held : is_in c.cell (set_by c) ≡ true) (t : List ℕ) (stripe : is_stripe p k s t ≡ true) where
    within : all_below (p * (k + 2)) (set_by c) ≡ true
    within = set_below p k c.kind c.number numbered

    set_long : Long s (cell_at s t) (set_by c)
    set_long = cells_long (p * (k + 2)) s (set_by c) t (stripe_long_lem p k s t stripe) within

    sum_long : length (sum_of c t) ≡ s
    sum_long = over_long s (cell_at s t) (survivors_of p x y (set_by c)) (λ d m. set_long d (survivor_off p x y d (set_by c) m).1)

    -- the XOR of the lost cells, where one of them holds the XOR of the others
    lost_is : cell_at s t c.cell ≡ sum_of c t → xor_over s (cell_at s t) (lost_cells p x y (set_by c)) ≡ xor_over s (cell_at s t) (without c.cell (set_by c))
    lost_is e =
        over_append s g (placed p x (lost_in p x set)) (placed p y (lost_in p y set)) (on_long y hy)
        ∙ sym (xor_l_twice s sum both sum_long both_long (xor_l_bytes on_x on_y))
        ∙ ap (xor_l sum) (sym whole)
        ∙ xor_l_twice s sum rest sum_long rest_long (over_bytes s g (without c.cell set))
      where
        g : ℕ → List ℕ
        g = cell_at s t

        set : List ℕ
        set = set_by c

        sum : List ℕ
        sum = sum_of c t

        rest : List ℕ
        rest = xor_over s g (without c.cell set)

        on_x : List ℕ
        on_x = xor_over s g (placed p x (lost_in p x set))

        on_y : List ℕ
        on_y = xor_over s g (placed p y (lost_in p y set))

        both : List ℕ
        both = xor_l on_x on_y

        on_long : (f : ℕ) → f < k + 2 → Long s g (placed p f (lost_in p f set))
        on_long f h = cells_long (p * (k + 2)) s (placed p f (lost_in p f set)) t (stripe_long_lem p k s t stripe) (placed_below (k + 2) p f set (omega arith) h)

        both_long : length both ≡ s
        both_long =
            let lx : length on_x ≡ s = over_long s g (placed p x (lost_in p x set)) (on_long x hx) in
            length_xor_l on_x on_y (lx ∙ sym (over_long s g (placed p y (lost_in p y set)) (on_long y hy))) ∙ lx

        rest_long : length rest ≡ s
        rest_long = over_long s g (without c.cell set) (λ d m. set_long d (and_l (is_in d set) (not (eqb d c.cell)) (sym (in_without c.cell d set) ∙ m)))

        whole : xor_l sum rest ≡ xor_l sum both
        whole =
            ap (λ (v : List ℕ). xor_l v rest) (sym e)
            ∙ sym (over_without s g c.cell set (distinct_set p k c.kind c.number numbered) held)
            ∙ over_split s p y g set
            ∙ ap₂ xor_l (over_split s p x g (surviving_in p y set) ∙ ap (xor_l sum) (ap (xor_over s (λ r. g (place p r x))) (lost_surviving p x y set apart) ∙ sym (placed_over s p x g (lost_in p x set)))) (sym (placed_over s p y g (lost_in p y set)))
            ∙ xor_l_assoc sum on_x on_y

    fits : c.cell * s + s ≤ length t
    fits = omega (arith, cell_fits (p * (k + 2)) s c.cell (in_below (p * (k + 2)) c.cell (set_by c) within held), stripe_long_lem p k s t stripe)

    -- the step adds
    step_adds : cell_at s t c.cell ≡ sum_of c t → solved s c.cell (set_by c) t ≡ sum_added p k s x y c t
    step_adds e = ap (λ (v : List ℕ). with_cell s c.cell v t) (sym (lost_is e))

    -- the sum put into its cell
    pub summed_stripe : is_stripe p k s (summed p k s x y c t) ≡ true
    summed_stripe =
        stripe_of p k s (summed p k s x y c t)
        (length_with s c.cell (sum_of c t) t sum_long fits ∙ stripe_long_lem p k s t stripe)
        (bytes_with s c.cell (sum_of c t) t (over_bytes s (cell_at s t) (survivors_of p x y (set_by c))) (stripe_bytes p k s t stripe))

    pub summed_cell : cell_at s (summed p k s x y c t) c.cell ≡ sum_of c t
    summed_cell = cell_with s c.cell (sum_of c t) t sum_long fits

    pub summed_other : (d : ℕ) → (d ≡ c.cell → ⊥) → cell_at s (summed p k s x y c t) d ≡ cell_at s t d
    summed_other d n = cell_other s c.cell (sum_of c t) t sum_long fits d n

    step_other : (d : ℕ) → (d ≡ c.cell → ⊥) → cell_at s (solved s c.cell (set_by c) t) d ≡ cell_at s t d
    step_other d n = solved_other (p * (k + 2)) s c.cell (set_by c) t (stripe_long_lem p k s t stripe) within held d n

  -- sums of surviving cells, in stripes alike in them
  pub sum_same : (c : CellStep) (t u : List ℕ) → ((d : ℕ) → is_lost p x y d ≡ false → cell_at s u d ≡ cell_at s t d) → sum_of c t ≡ sum_of c u
  sum_same c t u off = over_ext s (cell_at s t) (cell_at s u) (survivors_of p x y (set_by c)) (λ d m. sym (off d (survivor_off p x y d (set_by c) m).0))

  -- another lost cell, which stands before the steps, is written
  pub prepared_off : {done : List ℕ} {cs : List CellStep} → Standing p k (is_lost p x y) done cs → (z : ℕ) → is_in z done ≡ true → is_lost p x y z ≡ true → (t u : List ℕ) → ((d : ℕ) → (d ≡ z → ⊥) → cell_at s u d ≡ cell_at s t d) → Prepared t cs → Prepared u cs
  prepared_off none z i l t u off bare = bare
  prepared_off (next {done} {c} {cs} g ok) z i l t u off (more e rest) =
      more
      (off c.cell (λ q. clash (is_known p x y done c.cell) (ap (is_known p x y done) q ∙ known_lost p x y z done (λ w. i)) g.fresh)
      ∙ e
      ∙ sum_same c t u (λ d n. off d (λ q. clash (is_lost p x y d) (ap (is_lost p x y) q ∙ l) n)))
      (prepared_off ok z (in_tail z c.cell done i) l t u off rest)

  -- the steps, each with its sum prepared, are adding steps
  pub steps_add : {done : List ℕ} {cs : List CellStep} → Standing p k (is_lost p x y) done cs → (t : List ℕ) → is_stripe p k s t ≡ true → Prepared t cs → steps_done p k s cs t ≡ added_all p k s x y cs t
  unfolding steps_done added_all
  steps_add none t h bare = refl
  steps_add (next {done} {c} {cs} g ok) t h (more e rest) =
      let u = solved s c.cell (set_by c) t in
      steps_add ok u (step_stripe g t h) (prepared_off ok c.cell (in_head c.cell done) (fresh_lost p x y c.cell done g.fresh) t u (step_other c g.number_below g.held t h) rest)
      ∙ ap (added_all p k s x y cs) (step_adds c g.number_below g.held t h e)
    where
      step_stripe : {done : List ℕ} {c : CellStep} → Stands p k (is_lost p x y) done c → (t : List ℕ) → is_stripe p k s t ≡ true → is_stripe p k s (solved s c.cell (set_by c) t) ≡ true
      step_stripe g t h = steps_stripe p k s (is_lost p x y) (next g none) t h

  -- steps before them
  pub standing_tail : {done : List ℕ} (ds : List CellStep) {cs : List CellStep} → Standing p k (is_lost p x y) done (ds ++ cs) → Standing p k (is_lost p x y) (done_after done ds) cs
  unfolding done_after
  standing_tail [] ok = ok
  standing_tail (d ∷ ds) (next g ok) = standing_tail ds ok

  pub standing_head : {done : List ℕ} (ds cs : List CellStep) → Standing p k (is_lost p x y) done (ds ++ cs) → Standing p k (is_lost p x y) done ds
  standing_head [] cs ok = none
  standing_head (d ∷ ds) cs (next g ok) = next g (standing_head ds cs ok)

  pub in_after : (z : ℕ) (done : List ℕ) (ds : List CellStep) → is_in z done ≡ true → is_in z (done_after done ds) ≡ true
  unfolding done_after
  in_after z done [] h = h
  in_after z done (d ∷ ds) h = in_after z (d.cell ∷ done) ds (in_tail z d.cell done h)

  pub prepared_steps : {done : List ℕ} (ds : List CellStep) {cs : List CellStep} → Standing p k (is_lost p x y) done (ds ++ cs) → (t : List ℕ) → is_stripe p k s t ≡ true → Prepared t cs → Prepared (steps_done p k s ds t) cs
  unfolding steps_done
  prepared_steps [] ok t h r = r
  prepared_steps {done} (d ∷ ds) (next g ok) t h r =
      let u = solved s d.cell (set_by d) t in
      prepared_steps ds ok u (steps_stripe p k s (is_lost p x y) (next g none) t h)
      (prepared_off (standing_tail ds ok) d.cell (in_after d.cell (d.cell ∷ done) ds (in_head d.cell done)) (fresh_lost p x y d.cell done g.fresh) t u (step_other d g.number_below g.held t h) r)

  -- summing them: known cells are kept, and every sum is in its cell
  pub sums_stripe : {done : List ℕ} {cs : List CellStep} → Standing p k (is_lost p x y) done cs → (t : List ℕ) → is_stripe p k s t ≡ true → is_stripe p k s (summed_all p k s x y cs t) ≡ true
  unfolding summed_all
  sums_stripe none t h = h
  sums_stripe (next {done} {c} {cs} g ok) t h = sums_stripe ok (summed p k s x y c t) (summed_stripe c g.number_below g.held t h)

  pub sums_kept : {done : List ℕ} {cs : List CellStep} → Standing p k (is_lost p x y) done cs → (t : List ℕ) → is_stripe p k s t ≡ true → (d : ℕ) → is_known p x y done d ≡ true → cell_at s (summed_all p k s x y cs t) d ≡ cell_at s t d
  unfolding summed_all
  sums_kept none t h d e = refl
  sums_kept (next {done} {c} {cs} g ok) t h d e =
      sums_kept ok (summed p k s x y c t) (summed_stripe c g.number_below g.held t h) d (known_lost p x y d (c.cell ∷ done) (λ l. in_tail d c.cell done (lost_in_lem l)))
      ∙ summed_other c g.number_below g.held t h d (λ q. clash (is_known p x y done d) e (ap (is_known p x y done) q ∙ g.fresh))
    where
      lost_in_lem : is_lost p x y d ≡ true → is_in d done ≡ true
      lost_in_lem l = sym (ap (λ (b : Bool). not b || is_in d done) l) ∙ e

  pub sums_prepared : {done : List ℕ} {cs : List CellStep} → Standing p k (is_lost p x y) done cs → (t : List ℕ) → is_stripe p k s t ≡ true → Prepared (summed_all p k s x y cs t) cs
  unfolding summed_all
  sums_prepared none t h = bare
  sums_prepared (next {done} {c} {cs} g ok) t h =
      let u = summed p k s x y c t in
      let hu : is_stripe p k s u ≡ true = summed_stripe c g.number_below g.held t h in
      more
      (sums_kept ok u hu c.cell (known_lost p x y c.cell (c.cell ∷ done) (λ l. in_head c.cell done))
      ∙ summed_cell c g.number_below g.held t h
      ∙ sum_same c t (summed_all p k s x y cs u) (λ d n. sums_kept (next g ok) t h d (off_known (is_lost p x y) d done n)))
      (sums_prepared ok u hu)
