-- Steps in a record of 31 places and in the judge's form: where a record that holds ss has step i,
-- and that the form gives the recorded steps back.
use mathlib.Core.Path.{◌≡◌, refl, sym, ap, ap₂, subst, ◌∙◌}
use mathlib.Core.Bool.{true}
use mathlib.Core.List.{List, [], ◌∷◌, ◌++◌}
use Prim.Native.Nat.{ℕ, zero, suc, ◌+◌, ◌-◌, ◌*◌, ◌≤◌, ◌<◌}
use native.Mathlib.Omega.{arith}
use lib.ListN.{length, get_or, drop, replicate, get_or-append, drop_of_length-le}
use Rattle.liberation.specs.Sets.{is_width}
use Rattle.liberation.specs.Plans.{Step, step, plan_of, read_count}
use Rattle.liberation.specs.Records.{listed, padded, recorded, judge_form}
use Rattle.liberation.specs.Judging.{accepted, steps_in}
use Rattle.liberation.proofs.ReadLaws.{reads_most}
use Rattle.liberation.proofs.UsedLaws.{named_numbers}
use Rattle.liberation.proofs.AcceptedLaws.{Passed, Passes, none, next, accepted_length, accepted_named, accepted_passes}
use Rattle.liberation.proofs.PartPlans.{plan_accepted}

pub listed_append : (g : Step → ℕ) (ss ts : List Step) → listed g (ss ++ ts) ≡ listed g ss ++ listed g ts
listed_append g [] ts = refl
listed_append g (s ∷ ss) ts = ap (λ (l : List ℕ). g s ∷ l) (listed_append g ss ts)

pub length_listed : (g : Step → ℕ) (ss : List Step) → length (listed g ss) ≡ length ss
length_listed g [] = refl
length_listed g (s ∷ ss) = ap suc (length_listed g ss)

-- Step i of ss, and where a record that holds ss has its numbers.
pub record StepAt (ss : List Step) (i : ℕ) : Type 0 where
  pub this : Step
  pub split : drop i ss ≡ this ∷ drop (suc i) ss
  pub held : (g : Step → ℕ) → get_or (padded (listed g ss)) i 0 ≡ g this

listed_at : (ss : List Step) (i : ℕ) → i < length ss → (s : Step) × (drop i ss ≡ s ∷ drop (suc i) ss) × ((g : Step → ℕ) → get_or (listed g ss) i 0 ≡ g s)
listed_at [] i h = absurd (omega arith)
listed_at (s ∷ ss) zero h = (s, refl, λ g. refl)
listed_at (s ∷ ss) (suc i) h = listed_at ss i (omega arith)

pub step_at_lem : (ss : List Step) (i : ℕ) → i < length ss → StepAt ss i
step_at_lem ss i h =
    let w = listed_at ss i h in
    record {
      this = w.0;
      split = w.1;
      held = λ g. get_or-append (listed g ss) (replicate (31 - length (listed g ss)) 0) 0 i (omega (arith, length_listed g ss)) ∙ w.2 g;
    }

-- step i of steps that pass does, some rows having been rebuilt before it
passed_at : (p k f : ℕ) {done : List ℕ} {ss : List Step} (i : ℕ) (st : Step) → Passes p k f done ss → i < length ss → drop i ss ≡ st ∷ drop (suc i) ss → (ds : List ℕ) × Passed p k f ds st
passed_at p k f i st none h e = absurd (omega arith)
passed_at p k f {done} zero st (next g rest) h e = (done, subst (λ (y : Step). Passed p k f done y) (ap first e) g)
  where
    first : List Step → Step
    first [] = st
    first (y ∷ ys) = y
passed_at p k f (suc i) st (next g rest) h e = passed_at p k f i st rest (omega arith) e

-- each step of an accepted plan passes
pub accepted_passed : (p k f i : ℕ) (ss : List Step) (st : Step) → accepted p k f ss ≡ true → drop i ss ≡ st ∷ drop (suc i) ss → i < p → (ds : List ℕ) × Passed p k f ds st
accepted_passed p k f i ss st ok e l = passed_at p k f i st (accepted_passes p k f ss ok) (omega (arith, accepted_length p k f ss ok)) e

-- our plan has p steps, and each passes
pub plan_length : (p k f : ℕ) → is_width p ≡ true → k ≤ p → f ≤ k + 1 → length (plan_of p k f) ≡ p
plan_length p k f w most h = accepted_length p k f (plan_of p k f) (plan_accepted p k f w most h)

pub plan_passed : (p k f i : ℕ) → is_width p ≡ true → k ≤ p → f ≤ k + 1 → (a : StepAt (plan_of p k f) i) → i < p → (ds : List ℕ) × Passed p k f ds a.this
plan_passed p k f i w most h a l = accepted_passed p k f i (plan_of p k f) a.this (plan_accepted p k f w most h) a.split l

pub plan_number : (p k f i : ℕ) → is_width p ≡ true → k ≤ p → f ≤ k + 1 → (a : StepAt (plan_of p k f) i) → i < p → a.this.number < p
plan_number p k f i w most h a l = (plan_passed p k f i w most h a l).1.number_below

-- it reads no more cells than there are
pub plan_reads_most : (p k f : ℕ) → is_width p ≡ true → k ≤ p → f ≤ k + 1 → read_count p k f (plan_of p k f) ≤ p * (k + 2)
plan_reads_most p k f w most h = reads_most p k f (plan_of p k f) (named_numbers p (plan_of p k f) (accepted_named p k f (plan_of p k f) (plan_accepted p k f w most h)))

-- three bytes a step
pub length_form : (n i : ℕ) (rows kinds numbers : List ℕ) → length (judge_form n i rows kinds numbers) ≡ 3 * n
unfolding judge_form
length_form zero i rows kinds numbers = refl
length_form (suc n) i rows kinds numbers = omega (arith, length_form n (suc i) rows kinds numbers)

pub form_steps : (n i : ℕ) (rows kinds numbers : List ℕ) → steps_in n (judge_form n i rows kinds numbers) ≡ recorded n i rows kinds numbers
unfolding steps_in judge_form recorded
form_steps zero i rows kinds numbers = refl
form_steps (suc n) i rows kinds numbers = ap (λ (l : List Step). step (get_or rows i 0) (get_or kinds i 0) (get_or numbers i 0) ∷ l) (form_steps n (suc i) rows kinds numbers)

-- the record's places from i on hold the steps from i on
pub recorded_from : (n i : ℕ) (ss : List Step) → i + n ≡ length ss → recorded n i (padded (listed (λ s. s.row) ss)) (padded (listed (λ s. s.kind) ss)) (padded (listed (λ s. s.number) ss)) ≡ drop i ss
unfolding recorded
recorded_from zero i ss e = sym (drop_of_length-le ss {i = i} (omega arith))
recorded_from (suc n) i ss e =
    let a = step_at_lem ss i (omega arith) in
    ap₂ (λ (s : Step) (l : List Step). s ∷ l) (held a) (recorded_from n (suc i) ss (omega arith)) ∙ sym a.split
  where
    held : (a : StepAt ss i) → step (get_or (padded (listed (λ s. s.row) ss)) i 0) (get_or (padded (listed (λ s. s.kind) ss)) i 0) (get_or (padded (listed (λ s. s.number) ss)) i 0) ≡ a.this
    held a = λ j. record { row = a.held (λ s. s.row) j; kind = a.held (λ s. s.kind) j; number = a.held (λ s. s.number) j }

-- a record's steps are as many as are asked for, and its step at a place
pub length_recorded : (n i : ℕ) (rows kinds numbers : List ℕ) → length (recorded n i rows kinds numbers) ≡ n
unfolding recorded
length_recorded zero i rows kinds numbers = refl
length_recorded (suc n) i rows kinds numbers = ap suc (length_recorded n (suc i) rows kinds numbers)

pub recorded_at : (n i j m : ℕ) (rows kinds numbers : List ℕ) → i + j ≡ m → j < n → drop j (recorded n i rows kinds numbers) ≡ step (get_or rows m 0) (get_or kinds m 0) (get_or numbers m 0) ∷ drop (suc j) (recorded n i rows kinds numbers)
unfolding recorded
recorded_at zero i j m rows kinds numbers e h = absurd (omega arith)
recorded_at (suc n) i zero m rows kinds numbers e h = let q : i ≡ m = omega arith in ap (λ (x : ℕ). step (get_or rows x 0) (get_or kinds x 0) (get_or numbers x 0) ∷ recorded n (suc i) rows kinds numbers) q
recorded_at (suc n) i (suc j) m rows kinds numbers e h = recorded_at n (suc i) j m rows kinds numbers (omega arith) (omega arith)
