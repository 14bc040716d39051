-- "Any contents of the other p disks belong to exactly one clean stripe. The two columns of the
-- lent stripe become that stripe's; the rest is untouched." For every width p, every number k ≤ p
-- of data disks and any two different disks.
-- Also: at each step after the first cell every lost cell of its set but the one written stands.
use mathlib.Core.Path.{◌≡◌, refl, sym, ap, subst, ◌∙◌}
use mathlib.Core.Bool.{Bool, true, false, ◌||◌, not, or_comm}
use mathlib.Core.List.{List, ◌∷◌, ◌++◌}
use Prim.Native.Nat.{ℕ, suc, ◌+◌, ◌%◌, ◌≤◌, ◌<◌}
use native.Mathlib.Omega.{arith}
use lib.Dec.{eqb, ltb}
use borrow.Author.Tests.{ltb-true, ltb-false, eqb-true, eqb-false}
use Rattle.mathematics.specs.Choice.{pick}
use Rattle.mathematics.specs.Lists.{is_in}
use Rattle.mathematics.proofs.Primes.{Prime}
use Rattle.liberation.specs.Sets.{is_width, disk_at}
use Rattle.liberation.specs.Plans.{Step, all_of}
use Rattle.liberation.proofs.Widths.{width_prime, width_odd}
use Rattle.liberation.specs.Stripes.Stripes.{cell_at, is_stripe, clean, followed}
use Rattle.liberation.specs.TwoDisks.Pairs.{walked, forward, up_diagonals, with_row_parity, with_diagonal_parity, ordered_solved, pair_solved}
use Rattle.liberation.specs.Stripes.Steps.{CellStep, steps_done, on_disk}
use Rattle.liberation.specs.TwoDisks.PairSteps.{row_parity_steps, diagonal_parity_steps, PairPlan, walk_plan, steps_alone, ordered_plan, pair_plan, is_lost, is_known, steps_stand}
use Rattle.liberation.proofs.Stripes.Following.{followed_steps}
use Rattle.liberation.proofs.Stripes.Standing.{Standing, none, next}
use Rattle.liberation.proofs.TwoDisks.StandTests.{standing_true}
use Rattle.liberation.proofs.TwoDisks.ParityPairs.{Complete, steps_append, row_parity_complete, diagonal_parity_complete}
use Rattle.liberation.proofs.TwoDisks.Roles.{Roles, roles_forward, roles_backward}
use Rattle.liberation.proofs.TwoDisks.WalkLaws.{data_standing}
use Rattle.liberation.proofs.TwoDisks.Restoring.{Alike, Restores, restores_swap, complete_restores, walked_steps, walked_restores}

-- steps that stand for a and b stand for b and a
known_swap : (p a b y : ℕ) (done : List ℕ) → is_known p a b done y ≡ is_known p b a done y
known_swap p a b y done = ap (λ (t : Bool). not t || is_in y done) (or_comm (eqb (disk_at p y) a) (eqb (disk_at p y) b))

standing_swap : (p k a b : ℕ) {done : List ℕ} {cs : List CellStep} → Standing p k (is_lost p a b) done cs → Standing p k (is_lost p b a) done cs
standing_swap p k a b none = none
standing_swap p k a b (next {done} {c} {cs} g ok) =
    next
    (record {
      kind_below = g.kind_below;
      number_below = g.number_below;
      held = g.held;
      fresh = known_swap p b a c.cell done ∙ g.fresh;
      others = λ y h. known_swap p b a y (c.cell ∷ done) ∙ g.others y h;
    })
    (standing_swap p k a b ok)

-- a rebuild by a plan: its steps stand, and done on the stripe with the first cell they are the
-- rebuild, which restores
record Rebuild (p k s a b : ℕ) (f : List ℕ → List ℕ) (d : PairPlan) : Type 0 where
  restores : Restores p k s a b f
  standing : Standing p k (is_lost p a b) d.first d.steps
  steps : (t : List ℕ) → f t ≡ steps_done p k s d.steps (d.start t)

swapped : (p k s a b : ℕ) (f : List ℕ → List ℕ) (d : PairPlan) → Rebuild p k s a b f d → Rebuild p k s b a f d
swapped p k s a b f d r = record { restores = restores_swap p k s a b f r.restores; standing = standing_swap p k a b r.standing; steps = r.steps }

-- by steps alone, one plan's after another's
plain :
    (p k s a b c d : ℕ) (ss us : List Step) → Complete p k a b (on_disk p c ss ++ on_disk p d us)
    → Rebuild p k s a b (λ t. followed p k s d us (followed p k s c ss t)) (steps_alone (on_disk p c ss ++ on_disk p d us))
plain p k s a b c d ss us g =
    record {
      restores = record {
        stripe = λ t h. ap (is_stripe p k s) (e t) ∙ r.stripe t h;
        off = λ t h x m n. ap (λ (v : List ℕ). cell_at s v x) (e t) ∙ r.off t h x m n;
        cleans = λ t h. ap (clean p k s) (e t) ∙ r.cleans t h;
        back = λ t u ht hu cu same. e t ∙ r.back t u ht hu cu same;
      };
      standing = g.standing;
      steps = e;
    }
  where
    r : Restores p k s a b (steps_done p k s (on_disk p c ss ++ on_disk p d us))
    r = complete_restores p k s a b (on_disk p c ss ++ on_disk p d us) g

    e : (t : List ℕ) → followed p k s d us (followed p k s c ss t) ≡ steps_done p k s (on_disk p c ss ++ on_disk p d us) t
    e t = ap (followed p k s d us) (followed_steps p k s c ss t) ∙ followed_steps p k s d us (steps_done p k s (on_disk p c ss) t) ∙ steps_append p k s (on_disk p c ss) (on_disk p d us) t

module _ (p k s : ℕ) (ok : Prime p) (odd : p % 2 ≡ 1) (most : k ≤ p) where
  row_parity : (f : ℕ) → f < k → Rebuild p k s f k (with_row_parity p k s f) (steps_alone (row_parity_steps p k f))
  row_parity f h = plain p k s f k f k (up_diagonals p p f 0) (all_of p 0 0) (row_parity_complete p k f odd most h)

  diagonal_parity : (f : ℕ) → f ≤ k → Rebuild p k s f (suc k) (with_diagonal_parity p k s f) (steps_alone (diagonal_parity_steps p k f))
  diagonal_parity f h = plain p k s f (suc k) f (suc k) (all_of p 0 0) (all_of p 1 0) (diagonal_parity_complete p k f h)

  -- two data disks, from a to b or from b to a
  walk : (x y : ℕ) → Roles p x y → x < k → y < k → Rebuild p k s x y (walked p k s x y) (walk_plan p k s x y)
  walk x y g hx hy = record { restores = walked_restores p k s x y ok odd most g hx hy; standing = data_standing p k x y ok odd most g hx hy; steps = walked_steps p k s x y }

  two_data : (a b : ℕ) → a < b → b < k → (t : Bool) → forward p a b ≡ t → Rebuild p k s a b (λ u. pick t (walked p k s a b u) (walked p k s b a u)) (pick t (walk_plan p k s a b) (walk_plan p k s b a))
  two_data a b h l true e = walk a b (roles_forward p a b ok odd h (omega arith) e) (omega arith) l
  two_data a b h l false e = swapped p k s b a (walked p k s b a) (walk_plan p k s b a) (walk b a (roles_backward p a b ok odd h (omega arith) e) l (omega arith))

  ordered : (a b : ℕ) → a < b → b < k + 2 → Rebuild p k s a b (ordered_solved p k s a b) (ordered_plan p k s a b)
  unfolding ordered_solved ordered_plan
  ordered a b h l = go (ltb b k) refl
    where
      parity : k ≤ b → (t : Bool) → eqb b k ≡ t → Rebuild p k s a b (λ u. pick t (with_row_parity p k s a u) (with_diagonal_parity p k s a u)) (pick t (steps_alone (row_parity_steps p k a)) (steps_alone (diagonal_parity_steps p k a)))
      parity m true e = let q : b ≡ k = eqb-true b k e in subst (λ (c : ℕ). Rebuild p k s a c (with_row_parity p k s a) (steps_alone (row_parity_steps p k a))) (sym q) (row_parity a (omega arith))
      parity m false e =
          let n = eqb-false b k e in
          let q : b ≡ suc k = omega arith in
          subst (λ (c : ℕ). Rebuild p k s a c (with_diagonal_parity p k s a) (steps_alone (diagonal_parity_steps p k a))) (sym q) (diagonal_parity a (omega arith))

      go :
          (t : Bool) → ltb b k ≡ t
          → Rebuild p k s a b (λ u. pick t (pick (forward p a b) (walked p k s a b u) (walked p k s b a u)) (pick (eqb b k) (with_row_parity p k s a u) (with_diagonal_parity p k s a u)))
          (pick t (pick (forward p a b) (walk_plan p k s a b) (walk_plan p k s b a)) (pick (eqb b k) (steps_alone (row_parity_steps p k a)) (steps_alone (diagonal_parity_steps p k a))))
      go true e = two_data a b h (ltb-true b k e) (forward p a b) refl
      go false e = parity (ltb-false b k e) (eqb b k) refl

  either : (a b : ℕ) → a < k + 2 → b < k + 2 → (a ≡ b → ⊥) → Rebuild p k s a b (pair_solved p k s a b) (pair_plan p k s a b)
  unfolding pair_solved
  either a b ha hb apart = go (ltb a b) refl
    where
      go : (t : Bool) → ltb a b ≡ t → Rebuild p k s a b (λ u. pick t (ordered_solved p k s a b u) (ordered_solved p k s b a u)) (pick t (ordered_plan p k s a b) (ordered_plan p k s b a))
      go true e = ordered a b (ltb-true a b e) hb
      go false e = let l = ltb-false a b e in swapped p k s b a (ordered_solved p k s b a) (ordered_plan p k s b a) (ordered b a (less l apart) ha)
        where
          less : b ≤ a → (a ≡ b → ⊥) → b < a
          less l n = omega arith

-- two different disks of a width
module _ (p k s a b : ℕ) (width : is_width p ≡ true) (most : k ≤ p) (ha : a < k + 2) (hb : b < k + 2) (apart : a ≡ b → ⊥) where
  whole : Rebuild p k s a b (pair_solved p k s a b) (pair_plan p k s a b)
  whole = either p k s (width_prime p width) (width_odd p width) most a b ha hb apart

  -- a stripe stays a stripe
  pub pair_stripe : (t : List ℕ) → is_stripe p k s t ≡ true → is_stripe p k s (pair_solved p k s a b t) ≡ true
  pair_stripe = whole.restores.stripe

  -- "the rest is untouched"
  pub pair_off : (t : List ℕ) → is_stripe p k s t ≡ true → (c : ℕ) → (disk_at p c ≡ a → ⊥) → (disk_at p c ≡ b → ⊥) → cell_at s (pair_solved p k s a b t) c ≡ cell_at s t c
  pair_off = whole.restores.off

  -- whatever the lost columns held, the stripe becomes clean
  pub pair_clean : (t : List ℕ) → is_stripe p k s t ≡ true → clean p k s (pair_solved p k s a b t) ≡ true
  pair_clean = whole.restores.cleans

  -- survivors of a clean stripe bring it back
  pub pair_back : (t u : List ℕ) → is_stripe p k s t ≡ true → is_stripe p k s u ≡ true → clean p k s u ≡ true → Alike p k s a b t u → pair_solved p k s a b t ≡ u
  pair_back = whole.restores.back

  -- "Any contents of the other p disks belong to exactly one clean stripe": two clean stripes alike
  -- off two disks are the same
  pub pair_only : (t u : List ℕ) → is_stripe p k s t ≡ true → is_stripe p k s u ≡ true → clean p k s t ≡ true → clean p k s u ≡ true → Alike p k s a b t u → t ≡ u
  pair_only t u ht hu ct cu same = sym (pair_back t t ht ht ct (λ c l m n. refl)) ∙ pair_back t u ht hu cu same

  -- what the lost columns held does not matter
  pub pair_alike : (t u : List ℕ) → is_stripe p k s t ≡ true → is_stripe p k s u ≡ true → Alike p k s a b t u → pair_solved p k s a b t ≡ pair_solved p k s a b u
  pair_alike t u ht hu same =
      pair_back t (pair_solved p k s a b u) ht (pair_stripe u hu) (pair_clean u hu) (λ c l m n. same c l m n ∙ sym (pair_off u hu c m n))

  -- "After the first cell, a diagonal with three lost cells is used only once two of them stand":
  -- so for every set of every step
  pub pair_stands : steps_stand p k a b (pair_plan p k s a b).first (pair_plan p k s a b).steps ≡ true
  pair_stands = standing_true p k a b whole.standing

  -- and these are the steps that rebuild the pair, once the first cell is written
  pub pair_steps : (t : List ℕ) → pair_solved p k s a b t ≡ steps_done p k s (pair_plan p k s a b).steps ((pair_plan p k s a b).start t)
  pair_steps = whole.steps
