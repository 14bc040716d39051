-- A part-filled array (k data disks, k ≤ p) beside the full one: the rule for plans does not look
-- at k, and a set has the same rows on disk f of the one as on disk full_disk p k f of the other.
-- So the judge says the same of any steps, and the sets of steps hold the same cells on the disks
-- present.
use mathlib.Core.Path.{◌≡◌, refl, sym, ap, ap₂, ◌∙◌}
use mathlib.Core.Bool.{Bool, true, false, ◌&&◌, ◌||◌, not, false≢true}
use mathlib.Core.Logic.{◌⊎◌, inl, inr, ⊎_elim}
use mathlib.Core.List.{List, [], ◌∷◌}
use Prim.Native.Nat.{ℕ, suc, ◌+◌, ◌-◌, ◌≤◌, ◌<◌}
use native.Mathlib.Omega.{arith}
use lib.Dec.{eqb, ltb, leb}
use lib.ListN.{length}
use borrow.Author.Tests.{le-leb, lt-ltb, le-ltb, ltb-true}
use Rattle.mathematics.specs.Choice.{pick, when, first_of}
use Rattle.mathematics.specs.Lists.{is_in}
use Rattle.mathematics.proofs.Flags.{and_l, and_r, or_l, or_r}
use Rattle.mathematics.proofs.OrderLaws.{lt_or_le}
use Rattle.mathematics.proofs.TestLaws.{eqb_same}
use Rattle.liberation.specs.Sets.{place, row_set, diagonal_set, set_of, lost_in}
use Rattle.liberation.specs.Plans.{Step, all_of, plan_of}
use Rattle.liberation.specs.Judging.{others_there, step_refusal, Judged, judged, judge_from, accepted}
use Rattle.liberation.specs.Claims.{full_disk}
use Rattle.liberation.proofs.SetLaws.{in_lost}
use Rattle.liberation.proofs.LostLaws.{lost_row, lost_row_Q, lost_diagonal, lost_diagonal_P, lost_diagonal_Q}
use Rattle.liberation.proofs.ReadLaws.{holds, numbers_below}
use Rattle.liberation.proofs.ParityPlans.{plan_parity}
use Rattle.liberation.proofs.OurPlan.{plan_data}

pub full_data : (p k f : ℕ) → f < k → full_disk p k f ≡ f
full_data p k f h = ap (λ (b : Bool). pick b f (f - k + p)) (lt-ltb f k h)

pub full_parity : (p k f : ℕ) → k ≤ f → full_disk p k f ≡ f - k + p
full_parity p k f h = ap (λ (b : Bool). pick b f (f - k + p)) (le-ltb f k h)

-- a data disk, P or Q
pub disk_cases : (k f : ℕ) → f ≤ k + 1 → (f < k) ⊎ ((f ≡ k) ⊎ (f ≡ suc k))
disk_cases k f h = ⊎_elim (λ l. inl l) (λ l. ⊎_elim (λ m. inr (inr (omega arith))) (λ m. inr (inl (omega arith))) (lt_or_le k f)) (lt_or_le f k)

-- refusal 6 goes before all others
six_first : (c : Bool) (x y : ℕ) → c ≡ true → first_of (when c 6) x ≡ first_of (when c 6) y
six_first true x y e = refl
six_first false x y e = absurd (false≢true e)

module _ (p k : ℕ) (most : k ≤ p) where
  pub full_range : (f : ℕ) → f ≤ k + 1 → full_disk p k f ≤ p + 1
  full_range f h = ⊎_elim (λ l. omega (arith, full_data p k f l)) (λ l. omega (arith, full_parity p k f l)) (lt_or_le f k)

  -- no two disks become one
  pub full_same : (c f : ℕ) → eqb (full_disk p k c) (full_disk p k f) ≡ eqb c f
  full_same c f = eqb_same (full_disk p k c) (full_disk p k f) c f (λ e. only e) (λ e. ap (full_disk p k) e)
    where
      only : full_disk p k c ≡ full_disk p k f → c ≡ f
      only e =
          ⊎_elim
          (λ l. ⊎_elim (λ m. omega (arith, full_data p k c l, full_data p k f m)) (λ m. omega (arith, full_data p k c l, full_parity p k f m)) (lt_or_le f k))
          (λ l. ⊎_elim (λ m. omega (arith, full_parity p k c l, full_data p k f m)) (λ m. omega (arith, full_parity p k c l, full_parity p k f m)) (lt_or_le f k))
          (lt_or_le c k)

  -- the rows that a set has on a disk
  pub lost_part : (f kind i : ℕ) → f ≤ k + 1 → i < p → lost_in p f (set_of p k kind i) ≡ lost_in p (full_disk p k f) (set_of p p kind i)
  lost_part f kind i h l = go (eqb kind 0) (disk_cases k f h)
    where
      full : (f g : ℕ) → full_disk p k f ≡ g → (b : Bool) → lost_in p g (pick b (row_set p p i) (diagonal_set p p i)) ≡ lost_in p (full_disk p k f) (pick b (row_set p p i) (diagonal_set p p i))
      full f g e b = ap (λ (d : ℕ). lost_in p d (pick b (row_set p p i) (diagonal_set p p i))) (sym e)

      parity : (f : ℕ) (b : Bool) → (f ≡ k) ⊎ (f ≡ suc k) → lost_in p f (pick b (row_set p k i) (diagonal_set p k i)) ≡ lost_in p (full_disk p k f) (pick b (row_set p p i) (diagonal_set p p i))
      parity f true (inl e) = ap (λ (d : ℕ). lost_in p d (row_set p k i)) e ∙ lost_row p k i k l (omega arith) ∙ sym (lost_row p p i p l (omega arith)) ∙ full f p (full_parity p k f (omega arith) ∙ omega arith) true
      parity f true (inr e) = ap (λ (d : ℕ). lost_in p d (row_set p k i)) e ∙ lost_row_Q p k i l ∙ sym (lost_row_Q p p i l) ∙ full f (suc p) (full_parity p k f (omega arith) ∙ omega arith) true
      parity f false (inl e) = ap (λ (d : ℕ). lost_in p d (diagonal_set p k i)) e ∙ lost_diagonal_P p k i l ∙ sym (lost_diagonal_P p p i l) ∙ full f p (full_parity p k f (omega arith) ∙ omega arith) false
      parity f false (inr e) = ap (λ (d : ℕ). lost_in p d (diagonal_set p k i)) e ∙ lost_diagonal_Q p k i l ∙ sym (lost_diagonal_Q p p i l) ∙ full f (suc p) (full_parity p k f (omega arith) ∙ omega arith) false

      go : (b : Bool) → (f < k) ⊎ ((f ≡ k) ⊎ (f ≡ suc k)) → lost_in p f (pick b (row_set p k i) (diagonal_set p k i)) ≡ lost_in p (full_disk p k f) (pick b (row_set p p i) (diagonal_set p p i))
      go true (inl m) = lost_row p k i f l (omega arith) ∙ sym (lost_row p p i f l (omega arith)) ∙ full f f (full_data p k f m) true
      go false (inl m) = lost_diagonal p k i f l m ∙ sym (lost_diagonal p p i f l (omega arith)) ∙ full f f (full_data p k f m) false
      go b (inr m) = parity f b m

  -- so the cells that it has there
  pub in_part : (r c kind i : ℕ) → r < p → c ≤ k + 1 → i < p → is_in (place p r c) (set_of p k kind i) ≡ is_in (place p r (full_disk p k c)) (set_of p p kind i)
  in_part r c kind i h m l = sym (in_lost p c r (set_of p k kind i) h) ∙ ap (is_in r) (lost_part c kind i m l) ∙ in_lost p (full_disk p k c) r (set_of p p kind i) h

  pub holds_part : (r c : ℕ) (ss : List Step) → r < p → c ≤ k + 1 → numbers_below p ss ≡ true → holds p k (place p r c) ss ≡ holds p p (place p r (full_disk p k c)) ss
  unfolding holds numbers_below
  holds_part r c [] h m e = refl
  holds_part r c (s ∷ ss) h m e =
      ap₂ ◌||◌ (in_part r c s.kind s.number h m (ltb-true s.number p (and_l (ltb s.number p) (numbers_below p ss) e))) (holds_part r c ss h m (and_r (ltb s.number p) (numbers_below p ss) e))

  module _ (f : ℕ) (h : f ≤ k + 1) where
    -- the judge says the same
    pub refusal_part : (done : List ℕ) (s : Step) → step_refusal p k f done s ≡ step_refusal p p (full_disk p k f) done s
    unfolding step_refusal
    refusal_part done s =
        ⊎_elim
        (λ l. ap (λ (xs : List ℕ). first_of (when outside 6) (first_of (when (not (is_in s.row xs)) 7) (first_of (when (is_in s.row done) 8) (when (not (others_there s.row xs done)) 9)))) (lost_part f s.kind s.number h l))
        (λ l. six_first outside _ _ (or_r (leb p s.row) (leb p s.number || ltb 1 s.kind) (or_l (leb p s.number) (ltb 1 s.kind) (le-leb p s.number l))))
        (lt_or_le s.number p)
      where
        outside : Bool
        outside = leb p s.row || (leb p s.number || ltb 1 s.kind)

    pub judge_part : (i : ℕ) (done : List ℕ) (ss : List Step) → judge_from i p k f done ss ≡ judge_from i p p (full_disk p k f) done ss
    unfolding judge_from
    judge_part i done [] = refl
    judge_part i done (s ∷ ss) = ap₂ (λ (n : ℕ) (j : Judged). elim (eqb n 0) [ true ↦ j | false ↦ judged n i ]) (refusal_part done s) (judge_part (suc i) (s.row ∷ done) ss)

    pub accepted_part : (ss : List Step) → accepted p k f ss ≡ accepted p p (full_disk p k f) ss
    unfolding accepted
    accepted_part ss = ap (λ (j : Judged). eqb (length ss) p && eqb j.number 0) (judge_part 0 [] ss)

    -- our plan is the same
    pub plan_part : plan_of p k f ≡ plan_of p p (full_disk p k f)
    plan_part =
        ⊎_elim
        (λ l. plan_data p k f l ∙ sym (plan_data p p f (omega arith)) ∙ ap (plan_of p p) (sym (full_data p k f l)))
        (λ l.
        let e : f - k ≡ full_disk p k f - p = omega (arith, full_parity p k f l) in
        plan_parity p k f l ∙ ap (λ (t : ℕ). all_of p t 0) e ∙ sym (plan_parity p p (full_disk p k f) (omega (arith, full_parity p k f l))))
        (lt_or_le f k)
