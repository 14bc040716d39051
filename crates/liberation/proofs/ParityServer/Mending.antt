-- Mending one stripe of up to two losses: it stays a stripe, cells off the losses stand, what the
-- lost disks held does not matter, and a clean stripe comes back whole.
-- A byte of 255 is no disk's, so it names no loss.
use mathlib.Core.Path.{◌≡◌, refl, sym, ◌∙◌}
use mathlib.Core.Bool.{Bool, true, false}
use mathlib.Core.List.{List, []}
use Prim.Native.Nat.{ℕ, ◌+◌, ◌*◌, ◌≤◌, ◌<◌}
use native.Mathlib.Omega.{arith}
use lib.Dec.{eqb}
use borrow.Author.Tests.{eqb-true, not-false}
use Rattle.mathematics.specs.Choice.{pick}
use Rattle.liberation.specs.Sets.{is_width, disk_at}
use Rattle.liberation.specs.Plans.{plan_of}
use Rattle.liberation.specs.Judging.{accepted}
use Rattle.liberation.proofs.Widths.{width_most}
use Rattle.liberation.proofs.PlaceLaws.{disk_below}
use Rattle.liberation.proofs.AcceptedLaws.{Passes, accepted_passes}
use Rattle.liberation.specs.Stripes.Stripes.{cell_at, is_stripe, clean, followed}
use Rattle.liberation.proofs.Stripes.Solving.{stripes_equal, stripes_alike}
use Rattle.liberation.proofs.Stripes.Following.{followed_stripe, followed_off, followed_clean}
use Rattle.liberation.proofs.Stripes.Rebuilding.{steps_agree}
use Rattle.liberation.specs.TwoDisks.Pairs.{pair_solved}
use Rattle.liberation.proofs.TwoDisks.Restoring.{Alike}
use Rattle.liberation.proofs.TwoDisks.PairLaws.{pair_stripe, pair_off, pair_back, pair_alike}
use Rattle.liberation.specs.ParityServer.Servers.{lost, mended}
use Rattle.liberation.proofs.PartPlans.{plan_accepted}
use Rattle.liberation.proofs.ParityServer.ServerRefusalLaws.{Losses}

-- what mending the losses a and b does
pub record Mends (p k s a b : ℕ) (f : List ℕ → List ℕ) : Type 0 where
  pub stripe : (t : List ℕ) → is_stripe p k s t ≡ true → is_stripe p k s (f t) ≡ true
  pub off : (t : List ℕ) → is_stripe p k s t ≡ true → (x : ℕ) → (disk_at p x ≡ a → ⊥) → (disk_at p x ≡ b → ⊥) → cell_at s (f t) x ≡ cell_at s t x
  pub alike : (t u : List ℕ) → is_stripe p k s t ≡ true → is_stripe p k s u ≡ true → Alike p k s a b t u → f t ≡ f u
  pub back : (t u : List ℕ) → is_stripe p k s t ≡ true → is_stripe p k s u ≡ true → clean p k s u ≡ true → Alike p k s a b t u → f t ≡ u

mends_swap : (p k s a b : ℕ) (f : List ℕ → List ℕ) → Mends p k s a b f → Mends p k s b a f
mends_swap p k s a b f r =
    record {
      stripe = r.stripe;
      off = λ t h x m n. r.off t h x n m;
      alike = λ t u ht hu same. r.alike t u ht hu (λ x l m n. same x l n m);
      back = λ t u ht hu cu same. r.back t u ht hu cu (λ x l m n. same x l n m);
    }

-- our plan for a lost disk d, on two stripes alike off d
module _ (p k s d : ℕ) (ok : accepted p k d (plan_of p k d) ≡ true) where
  passes : Passes p k d [] (plan_of p k d)
  passes = accepted_passes p k d (plan_of p k d) ok

  after : List ℕ → List ℕ
  after t = followed p k s d (plan_of p k d) t

  module _ (t u : List ℕ) (ht : is_stripe p k s t ≡ true) (hu : is_stripe p k s u ≡ true) (same : (x : ℕ) → x < p * (k + 2) → (disk_at p x ≡ d → ⊥) → cell_at s t x ≡ cell_at s u x) where
    pub one_alike : followed p k s d (plan_of p k d) t ≡ followed p k s d (plan_of p k d) u
    unfolding after
    one_alike =
        stripes_alike p k s d (after t) (after u) (followed_stripe p k s d passes t ht) (followed_stripe p k s d passes u hu)
        (λ x l n. followed_off p k s d passes t ht x n ∙ same x l n ∙ sym (followed_off p k s d passes u hu x n))
        (steps_agree p k s d (plan_of p k d) ok t u ht hu (λ y m n h. same y m n))

    -- the one that is clean comes back
    pub one_whole : clean p k s u ≡ true → followed p k s d (plan_of p k d) t ≡ u
    one_whole cu = one_alike ∙ followed_clean p k s d passes u hu cu

module _ (p k s : ℕ) (width : is_width p ≡ true) (most : k ≤ p) where
  -- no cell is on a disk 255
  no_disk : (d : ℕ) → lost d ≡ false → (x : ℕ) → x < p * (k + 2) → disk_at p x ≡ d → ⊥
  no_disk d h x l e = omega (arith, disk_below p (k + 2) x l, width_most p width, eqb-true d 255 (not-false (eqb d 255) h))

  mends_none : (a b : ℕ) → lost a ≡ false → lost b ≡ false → Mends p k s a b (λ t. t)
  mends_none a b na nb =
      record { stripe = λ t h. h; off = λ t h x m n. refl; alike = equal; back = λ t u ht hu cu same. equal t u ht hu same }
    where
      equal : (t u : List ℕ) → is_stripe p k s t ≡ true → is_stripe p k s u ≡ true → Alike p k s a b t u → t ≡ u
      equal t u ht hu same = stripes_equal p k s t u ht hu (λ x l. same x l (no_disk a na x l) (no_disk b nb x l))

  mends_one : (d b : ℕ) → d ≤ k + 1 → lost b ≡ false → Mends p k s d b (followed p k s d (plan_of p k d))
  mends_one d b disk nb =
      let ok = plan_accepted p k d width most disk in
      record {
        stripe = λ t h. followed_stripe p k s d (passes p k s d ok) t h;
        off = λ t h x m n. followed_off p k s d (passes p k s d ok) t h x m;
        alike = λ t u ht hu same. one_alike p k s d ok t u ht hu (λ x l m. same x l m (no_disk b nb x l));
        back = λ t u ht hu cu same. one_whole p k s d ok t u ht hu (λ x l m. same x l m (no_disk b nb x l)) cu;
      }

  mends_two : (a b : ℕ) → a ≤ k + 1 → b ≤ k + 1 → (a ≡ b → ⊥) → Mends p k s a b (pair_solved p k s a b)
  mends_two a b fa fb apart =
      let ha : a < k + 2 = omega arith in
      let hb : b < k + 2 = omega arith in
      record {
        stripe = pair_stripe p k s a b width most ha hb apart;
        off = pair_off p k s a b width most ha hb apart;
        alike = pair_alike p k s a b width most ha hb apart;
        back = pair_back p k s a b width most ha hb apart;
      }

  pub mends : (a b : ℕ) → Losses k a b → Mends p k s a b (mended p k s a b)
  unfolding mended
  mends a b ok = go (lost a) (lost b) refl refl
    where
      go : (c d : Bool) → lost a ≡ c → lost b ≡ d → Mends p k s a b (λ t. pick c (pick d (pair_solved p k s a b t) (followed p k s a (plan_of p k a) t)) (pick d (followed p k s b (plan_of p k b) t) t))
      go true true e q = mends_two a b (ok.first e) (ok.second q) (ok.apart e)
      go true false e q = mends_one a b (ok.first e) q
      go false true e q = mends_swap p k s b a (followed p k s b (plan_of p k b)) (mends_one b a (ok.second q) e)
      go false false e q = mends_none a b e q
