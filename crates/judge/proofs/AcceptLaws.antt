-- The judge's answer and acceptance: its number is 0 exactly for the bytes of an accepted plan, and
-- its reads are then that plan's read count.
use mathlib.Core.Path.{◌≡◌, refl, sym, ap, ap₂, ◌∙◌}
use mathlib.Core.Bool.{true}
use mathlib.Core.List.{List}
use Prim.Native.Nat.{ℕ, zero, suc, ◌+◌, ◌*◌, ◌≤◌}
use lib.Dec.{eqb}
use lib.ListN.{length, drop}
use borrow.Author.Tests.{eqb-true, eq-eqb}
use Rattle.mathematics.specs.Choice.{pick, first_of}
use Rattle.mathematics.proofs.ChoiceLaws.{first_none}
use Rattle.mathematics.proofs.Flags.{and_i, and_r}
use Rattle.liberation.specs.Limits.{InArray}
use Rattle.liberation.specs.Sets.{plan_refusal, long_refusal}
use Rattle.liberation.specs.Plans.{read_count}
use Rattle.liberation.specs.Judging.{judge, steps_in, accepted}
use Rattle.liberation.proofs.RefusalLaws.{plan_of_lem, plan_none, long_accepted, long_of}
use Rattle.refusals.specs.declared.answer.Answer.{Answer}
use Rattle.judge.specs.declared.all_steps.Judged.{Judged}
use Rattle.judge.specs.JudgeSays.{form_refusal, DecidesOn, JudgeSays}

-- the bytes bs are an accepted plan for lost disk f
pub record Acceptable (p k f : ℕ) (bs : List ℕ) : Type 0 where
  pub array : InArray p k
  pub disk : f ≤ k + 1
  pub long : length bs ≡ 3 * p
  pub accepts : accepted p k f (steps_in p bs) ≡ true

-- the bytes name n steps
pub steps_long : (n : ℕ) (bs : List ℕ) → length (steps_in n bs) ≡ n
unfolding steps_in
steps_long zero bs = refl
steps_long (suc n) bs = ap suc (steps_long n (drop 3 bs))

-- and the judge refuses none of them
pub judged_accepts : (p k f : ℕ) (bs : List ℕ) → (judge p k f (steps_in p bs)).number ≡ 0 → accepted p k f (steps_in p bs) ≡ true
unfolding accepted
judged_accepts p k f bs e = and_i (eqb (length (steps_in p bs)) p) (eqb (judge p k f (steps_in p bs)).number 0) (eq-eqb (length (steps_in p bs)) p (steps_long p bs)) (eq-eqb (judge p k f (steps_in p bs)).number 0 e)

pub accepts_judged : (p k f : ℕ) (bs : List ℕ) → accepted p k f (steps_in p bs) ≡ true → (judge p k f (steps_in p bs)).number ≡ 0
unfolding accepted
accepts_judged p k f bs e = eqb-true (judge p k f (steps_in p bs)).number 0 (and_r (eqb (length (steps_in p bs)) p) (eqb (judge p k f (steps_in p bs)).number 0) e)

-- a call after other tests that refuses nothing: neither do those, the plan is accepted, and the
-- lent memory is the new one
pub decided : (p k f n : ℕ) (bs new o o' : List ℕ) (r : Answer) → DecidesOn n (judge p k f (steps_in p bs)) new o o' r → r.refusal ≡ 0 → (n ≡ 0) × (accepted p k f (steps_in p bs) ≡ true) × (o' ≡ new)
decided p k f n bs new o o' r d z =
    let none : first_of n (judge p k f (steps_in p bs)).number ≡ 0 = sym d.refusal ∙ z in
    let w = first_none n (judge p k f (steps_in p bs)).number none in
    (w.0, judged_accepts p k f bs w.1, d.lent ∙ ap (λ (m : ℕ). pick (eqb m 0) new o) none)

pub zero_accepts : (p k f : ℕ) (bs : List ℕ) (r : Judged) → JudgeSays p k f bs r → r.answer.refusal ≡ 0 → Acceptable p k f bs
zero_accepts p k f bs r s e =
    record {
      array = numbers.0;
      disk = numbers.1;
      long = long_of (3 * p) bs form.1;
      accepts = judged_accepts p k f bs all.1;
    }
  where
    all : (form_refusal p k f bs ≡ 0) × ((judge p k f (steps_in p bs)).number ≡ 0)
    all = first_none (form_refusal p k f bs) (judge p k f (steps_in p bs)).number (sym s.refusal ∙ e)

    form : (plan_refusal p k f ≡ 0) × (long_refusal (3 * p) bs ≡ 0)
    form = first_none (plan_refusal p k f) (long_refusal (3 * p) bs) all.0

    numbers : InArray p k × (f ≤ k + 1)
    numbers = plan_of_lem p k f form.0

pub accepts_zero : (p k f : ℕ) (bs : List ℕ) (r : Judged) → JudgeSays p k f bs r → Acceptable p k f bs → r.answer.refusal ≡ 0
accepts_zero p k f bs r s a = s.refusal ∙ ap₂ first_of form steps
  where
    form : form_refusal p k f bs ≡ 0
    form = ap₂ first_of (plan_none p k f a.array a.disk) (long_accepted (3 * p) bs a.long)

    steps : (judge p k f (steps_in p bs)).number ≡ 0
    steps = accepts_judged p k f bs a.accepts

-- the count is that of the definition
pub zero_counts : (p k f : ℕ) (bs : List ℕ) (r : Judged) → JudgeSays p k f bs r → r.answer.refusal ≡ 0 → r.reads ≡ read_count p k f (steps_in p bs)
zero_counts p k f bs r s e = s.reads ∙ ap (λ (n : ℕ). pick (eqb n 0) (read_count p k f (steps_in p bs)) 0) (sym s.refusal ∙ e)
